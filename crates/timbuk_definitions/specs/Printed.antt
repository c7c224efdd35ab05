-- The text of an automaton, and the names that it can be made of.
use Rattle.std.specs.Prelude.{ℕ, ◌<◌, ◌^◌, List, [], ◌∷◌, ◌++◌, codes, unwrap_or, slice_get}
use Rattle.std.specs.Option.{option_map_or}
use Rattle.std.specs.List.{AllByRecursion, flat_map}
use Rattle.std.specs.Fmt.{decimal}
use Rattle.tree_definitions.specs.Tree.{Symbol}
use Rattle.tree_definitions.specs.Automaton.{Automaton, Rule}
use Rattle.tree_definitions.specs.Canonical.{canon}
use Rattle.tree_definitions.specs.Name.{IsName}

-- a blank, and then the word
abbrev pub blank : List ℕ → List ℕ
blank word = 32 ∷ word

-- a word of the first line, as ` f:2`
abbrev pub op_text : Symbol → List ℕ
op_text s = s.name ++ 58 ∷ decimal s.rank

abbrev pub name_at : List (List ℕ) → ℕ → List ℕ
name_at names q = unwrap_or (slice_get names q) []

abbrev pub symbol_at : List Symbol → ℕ → List ℕ
symbol_at symbols i = option_map_or (λ s. s.name) (slice_get symbols i) []

-- the children, as `(p,q)`, and nothing where there is none
abbrev pub kids_text : List (List ℕ) → List ℕ → List ℕ
kids_text names [] = []
kids_text names (q ∷ qs) = 40 ∷ name_at names q ++ flat_map (λ p. 44 ∷ name_at names p) qs ++ 41 ∷ []

-- the line of a rule, as `f(p,q) -> r`
abbrev pub rule_text : List Symbol → List (List ℕ) → Rule → List ℕ
rule_text symbols names r = symbol_at symbols r.symbol ++ kids_text names r.kids ++ codes " -> " ++ name_at names r.parent ++ 10 ∷ []

abbrev pub ops_text : List Symbol → List ℕ
ops_text symbols = codes "Ops" ++ flat_map (λ s. blank (op_text s)) symbols ++ 10 ∷ []

abbrev pub title_text : List ℕ → List ℕ
title_text name = codes "Automaton " ++ name ++ 10 ∷ []

abbrev pub states_text : List (List ℕ) → List ℕ
states_text names = codes "States" ++ flat_map blank names ++ 10 ∷ []

abbrev pub finals_text : List (List ℕ) → List ℕ → List ℕ
finals_text names finals = codes "Final States" ++ flat_map (λ q. blank (name_at names q)) finals ++ 10 ∷ []

abbrev pub rules_text : List Symbol → List (List ℕ) → List Rule → List ℕ
rules_text symbols names rules = codes "Transitions\n" ++ flat_map (rule_text symbols names) rules

-- the text of an automaton, with its finals and rules in their own order
unfoldable pub plain_text : Automaton → List ℕ
plain_text a = ops_text a.symbols ++ title_text a.name ++ states_text a.states ++ finals_text a.states a.finals ++ rules_text a.symbols a.states a.rules

-- the text that is printed: that of the canonical form
abbrev pub print : Automaton → List ℕ
print A = plain_text (canon A)

-- the names of A can be written
pub record HasNames (A : Automaton) : Type 0 where
  pub name : IsName A.name
  pub symbols : AllByRecursion (λ a. IsName a.name × (a.rank < 2 ^ 64)) A.symbols
  pub states : AllByRecursion IsName A.states
