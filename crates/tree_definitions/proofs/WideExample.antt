-- A wide automaton that accepts something: its one line lets two of the four codes of two digits through.
use Rattle.std.proofs.Common.{◌≡◌, inl, inr, ◌↔◌, ℕ, zero, suc, ◌<◌, List, [], ◌∷◌, length, refl, sym, ap, subst, arith}
use Rattle.std.specs.Prelude.{Contains}
use Rattle.std.specs.List.Sorted.{IsStrictlySortedBy}
use Rattle.std.proofs.lemmas.List.Elements.{All-nil, All-cons}
use Rattle.tree_definitions.specs.Tree.{Symbol, Node, NoTrees, Tree}
use Rattle.tree_definitions.specs.Code.{LetsThrough, cubes}
use Rattle.tree_definitions.specs.Automaton.{Automaton, Rule, StandsFor, IsLabel, IsRule, HasRule, HasLine, over, IsNarrow, IsWide, IsState, FitsRule, IsAutomaton}
use Rattle.tree_definitions.specs.Language.{Accepts}
use Rattle.tree_definitions.specs.Relation.{IsAt}
use Rattle.tree_definitions.proofs.Members.{contains_none, contains_head, contains_tail, contains_cases, place_of}
use Rattle.tree_definitions.proofs.Cubes.{lets_itself}
use Rattle.tree_definitions.proofs.Example.{one_apart}

-- the pattern 0X
abbrev half : List ℕ
half = 48 ∷ 88 ∷ []

abbrev label : Symbol
label = record { name = half; rank = 0 }

abbrev line : Rule
line = record { symbol = 0; kids = []; parent = 0 }

abbrev pub wide : Automaton
wide = record {
  bits = 2;
  name = [];
  symbols = label ∷ [];
  states = (113 ∷ []) ∷ [];
  finals = 0 ∷ [];
  rules = line ∷ [];
}

-- 00 and 01
abbrev two : List (List ℕ)
two = (48 ∷ 48 ∷ []) ∷ (48 ∷ 49 ∷ []) ∷ []

line_only : (r : ℕ) (l : Rule) → IsAt wide.rules r l → l ≡ line
line_only zero l at = let e : line ≡ l = cc in sym e
line_only (suc r) l at = absurd cc

label_only : (k : ℕ) (b : Symbol) → IsAt wide.symbols k b → b ≡ label
label_only zero b at = let e : label ≡ b = cc in sym e
label_only (suc k) b at = absurd cc

rule_only : (a : Symbol) (kids : List ℕ) (p : ℕ) → HasRule wide a kids p → (kids ≡ []) × (p ≡ 0) × LetsThrough half a.name
unfolding IsRule IsLabel
rule_only a kids p h =
    let e = line_only h.0 (record { symbol = h.1.0; kids = kids; parent = p }) h.1.2 in
    let l = h.1.1 in
    let s : StandsFor 2 label a = subst (λ b. StandsFor 2 b a) (label_only h.1.0 l.0 l.1) l.2 in
    (ap (λ (x : Rule). x.kids) e, ap (λ (x : Rule). x.parent) e, s.1)

rule_there : (code : List ℕ) → LetsThrough half code → HasRule wide (over code []) [] 0
unfolding IsRule IsLabel
rule_there code h = (0, (0, (label, refl, (refl, h)), refl))

line_is : (pattern kids : List ℕ) (p : ℕ) → HasLine wide pattern kids p → (kids ≡ []) × (p ≡ 0) × (pattern ≡ half)
line_is pattern kids p h =
    let place = place_of wide.rules (record { symbol = h.0; kids = kids; parent = p }) h.2 in
    let e = line_only place.0 (record { symbol = h.0; kids = kids; parent = p }) place.1 in
    (ap (λ (x : Rule). x.kids) e, ap (λ (x : Rule). x.parent) e, ap (λ (b : Symbol). b.name) (label_only h.0 (over pattern kids) h.1))

in_two : (code : List ℕ) → LetsThrough half code → Contains two code
in_two [] h = absurd h
in_two (d ∷ []) h = absurd h.1
in_two (d ∷ e ∷ []) h =
    let first : 48 ≡ d = lets_itself 48 d (λ x. omega (arith, x)) h.0 in
    elim h.1.0.0 [
      | inl s ↦ subst (Contains two) (λ i. first i ∷ sym s i ∷ []) (contains_head (48 ∷ 48 ∷ []) ((48 ∷ 49 ∷ []) ∷ []))
      | inr s ↦ subst (Contains two) (λ i. first i ∷ sym s i ∷ []) (contains_tail (48 ∷ 48 ∷ []) ((48 ∷ 49 ∷ []) ∷ []) (48 ∷ 49 ∷ []) (contains_head (48 ∷ 49 ∷ []) []))
    ]
in_two (d ∷ e ∷ f ∷ fs) h = absurd h.1.1

of_two : (code : List ℕ) → Contains two code → LetsThrough half code
of_two code m = elim (contains_cases (48 ∷ 48 ∷ []) ((48 ∷ 49 ∷ []) ∷ []) code m) [
  | inl e ↦ subst (LetsThrough half) e ((inl refl, inr refl), ((inl refl, inl refl), tt))
  | inr k ↦ elim (contains_cases (48 ∷ 49 ∷ []) [] code k) [
    | inl e ↦ subst (LetsThrough half) e ((inl refl, inr refl), ((inr refl, inl refl), tt))
    | inr n ↦ absurd (contains_none code n)
  ]
]

abbrev Patterned : List ℕ → ℕ → Type 0
Patterned kids p =
    (codes : List (List ℕ))
    × ((code : List ℕ) → Contains codes code ↔ HasRule wide (over code kids) kids p)
    × ((pattern : List ℕ) → Contains (cubes wide.bits codes) pattern ↔ HasLine wide pattern kids p)

nothing : (kids : List ℕ) (p : ℕ) → ((kids ≡ []) × (p ≡ 0) → ⊥) → Patterned kids p
nothing kids p n = (
  [],
  λ code. (λ m. absurd (contains_none code m), λ h. let r = rule_only (over code kids) kids p h in absurd (n (r.0, r.1))),
  λ pattern. (λ m. absurd (contains_none pattern m), λ l. let r = line_is pattern kids p l in absurd (n (r.0, r.1))),
)

line_there : (pattern : List ℕ) → half ≡ pattern → HasLine wide pattern [] 0
line_there pattern e = subst (λ x. HasLine wide x [] 0) e (0, refl, contains_head line [])

patterned : (kids : List ℕ) (p : ℕ) → Patterned kids p
patterned [] zero = (
  two,
  λ code. (λ m. rule_there code (of_two code m), λ h. in_two code (rule_only (over code []) [] 0 h).2),
  λ pattern. (
    λ m. elim (contains_cases half [] pattern m) [ inl e ↦ line_there pattern e | inr n ↦ absurd (contains_none pattern n) ],
    λ l. subst (Contains (half ∷ [])) (sym (line_is pattern [] 0 l).2) (contains_head half []),
  ),
)
patterned [] (suc p) = nothing [] (suc p) (λ h. let e = h.1 in omega (arith, e))
patterned (k ∷ ks) p = nothing (k ∷ ks) p (λ h. let e = h.0 in cc)

pub is_wide : IsWide wide
unfolding IsStrictlySortedBy
is_wide = record {
  rising = (tt, tt);
  used = used;
  patterns = patterned;
}
  where
    used : (k : ℕ) → k < length wide.symbols → (r : Rule) × Contains wide.rules r × (r.symbol ≡ k)
    used zero l = (line, contains_head line [], refl)
    used (suc k) l = absurd (omega arith)

pub is_automaton : IsAutomaton wide
is_automaton = record {
  symbols = one_apart label;
  states = one_apart (113 ∷ []);
  finals = one_apart 0;
  rules = one_apart line;
  final_states = All-cons (IsState wide) 0 [] first (All-nil (IsState wide));
  fitting = All-cons (FitsRule wide) line [] (record { symbol = (label, refl, refl); kids = All-nil (IsState wide); parent = first }) (All-nil (FitsRule wide));
  form = inr is_wide;
}
  where
    first : IsState wide 0
    first = omega arith

-- the code 01
abbrev pub code : Tree
code = Node (record { name = 48 ∷ 49 ∷ []; rank = 0 }) NoTrees

pub accepts_code : Accepts wide code
accepts_code = (0, contains_head 0 [], ([], rule_there (48 ∷ 49 ∷ []) ((inl refl, inr refl), ((inr refl, inl refl), tt)), tt))

pub not_narrow : IsNarrow wide → ⊥
not_narrow e = omega (arith, e)
