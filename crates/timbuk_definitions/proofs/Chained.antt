-- The text of an automaton as one chain, each piece before what comes after it.
use Rattle.std.proofs.Common.{◌≡◌, ℕ, List, [], ◌∷◌, ◌++◌, map, refl, ap, ◌∙◌, append_assoc}
use Rattle.std.specs.Prelude.{codes, decimal, flat_map, unwrap_or, slice_get}
use Rattle.std.specs.Option.{option_map_or}
use Rattle.tree_definitions.specs.Tree.{Symbol}
use Rattle.tree_definitions.specs.Automaton.{Automaton, Rule}
use Rattle.timbuk_definitions.specs.Printed.{plain_text, name_at, kids_text as listed_kids, rule_text as listed_rule}

-- a space, and then the word
abbrev pub spaced : List ℕ → List ℕ
spaced w = 32 ∷ w

abbrev pub state_name : Automaton → ℕ → List ℕ
state_name A q = unwrap_or (slice_get A.states q) []

abbrev pub symbol_name : Automaton → ℕ → List ℕ
symbol_name A k = option_map_or (λ a. a.name) (slice_get A.symbols k) []

abbrev pub op_text : Symbol → List ℕ
op_text a = spaced (a.name ++ 58 ∷ decimal a.rank)

abbrev pub later_kids_text : List (List ℕ) → List ℕ
later_kids_text [] = 41 ∷ []
later_kids_text (w ∷ ws) = 44 ∷ (w ++ later_kids_text ws)

-- (q1,q2), or nothing for no children
abbrev pub kids_text : List (List ℕ) → List ℕ
kids_text [] = []
kids_text (w ∷ ws) = 40 ∷ (w ++ later_kids_text ws)

-- the line of a rule, as f(q1,q2) -> q
abbrev pub rule_text : Automaton → Rule → List ℕ
rule_text A r = symbol_name A r.symbol ++ (kids_text (map (state_name A) r.kids) ++ (codes " -> " ++ (state_name A r.parent ++ 10 ∷ [])))

abbrev pub transitions_text : Automaton → List ℕ
transitions_text A = codes "\nTransitions\n" ++ flat_map (rule_text A) A.rules

abbrev pub finals_text : Automaton → List ℕ
finals_text A = codes "\nFinal States" ++ (flat_map spaced (map (state_name A) A.finals) ++ transitions_text A)

abbrev pub states_text : Automaton → List ℕ
states_text A = codes "\nStates" ++ (flat_map spaced A.states ++ finals_text A)

-- the whole text
abbrev pub chained : Automaton → List ℕ
chained A = codes "Ops" ++ (flat_map op_text A.symbols ++ (codes "\nAutomaton " ++ (A.name ++ states_text A)))

later_kids : (names : List (List ℕ)) (qs : List ℕ) → flat_map (λ p. 44 ∷ name_at names p) qs ++ 41 ∷ [] ≡ later_kids_text (map (name_at names) qs)
later_kids names [] = refl
later_kids names (q ∷ qs) =
    ap (λ x. 44 ∷ x) (append_assoc (name_at names q) (flat_map (λ p. 44 ∷ name_at names p) qs) (41 ∷ []) ∙ ap (λ x. name_at names q ++ x) (later_kids names qs))

same_kids : (names : List (List ℕ)) (qs : List ℕ) → listed_kids names qs ≡ kids_text (map (name_at names) qs)
same_kids names [] = refl
same_kids names (q ∷ qs) =
    ap (λ x. 40 ∷ x) (append_assoc (name_at names q) (flat_map (λ p. 44 ∷ name_at names p) qs) (41 ∷ []) ∙ ap (λ x. name_at names q ++ x) (later_kids names qs))

same_rule : (A : Automaton) (r : Rule) → listed_rule A.symbols A.states r ≡ rule_text A r
same_rule A r = ap (λ k. symbol_name A r.symbol ++ k ++ codes " -> " ++ state_name A r.parent ++ 10 ∷ []) (same_kids A.states r.kids) ∙ simp append_assoc

same_rules : (A : Automaton) (rs : List Rule) → flat_map (listed_rule A.symbols A.states) rs ≡ flat_map (rule_text A) rs
same_rules A [] = refl
same_rules A (r ∷ rs) = λ i. same_rule A r i ++ same_rules A rs i

same_finals : (A : Automaton) (qs : List ℕ) → flat_map (λ q. spaced (name_at A.states q)) qs ≡ flat_map spaced (map (state_name A) qs)
same_finals A [] = refl
same_finals A (q ∷ qs) = ap (λ x. spaced (state_name A q) ++ x) (same_finals A qs)

glued : (n a b c d e ops name states finals rules : List ℕ)
    → (a ++ ops ++ n) ++ (b ++ name ++ n) ++ (c ++ states ++ n) ++ (d ++ finals ++ n) ++ (e ++ rules)
    ≡ a ++ (ops ++ ((n ++ b) ++ (name ++ ((n ++ c) ++ (states ++ ((n ++ d) ++ (finals ++ ((n ++ e) ++ rules))))))))
glued n a b c d e ops name states finals rules = simp append_assoc

-- it is the text
pub plain_chained : (A : Automaton) → plain_text A ≡ chained A
unfolding plain_text
plain_chained A =
    glued (10 ∷ []) (codes "Ops") (codes "Automaton ") (codes "States") (codes "Final States") (codes "Transitions\n") (flat_map op_text A.symbols) A.name (flat_map spaced A.states) (flat_map (λ q. spaced (name_at A.states q)) A.finals) (flat_map (listed_rule A.symbols A.states) A.rules)
    ∙ (λ i. codes "Ops" ++ (flat_map op_text A.symbols ++ (codes "\nAutomaton " ++ (A.name ++ (codes "\nStates" ++ (flat_map spaced A.states ++ (codes "\nFinal States" ++ (same_finals A A.finals i ++ (codes "\nTransitions\n" ++ same_rules A A.rules i)))))))))
