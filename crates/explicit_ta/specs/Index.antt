-- The rules of an automaton by parent, and what is answered from them.
use Rattle.std.specs.Prelude.{◌≡◌, ◌≢◌, ◌↔◌, ◌⊎◌, ℕ, List, Bool, length, AllPairs, Contains}
use Rattle.std.specs.Ordering.{nat_cmp, ordering_then}
use Rattle.std.specs.Cmp.Lexicographic.{slice_cmp}
use Rattle.std.specs.declared.cmp.Ordering.{Ordering}
use Rattle.tree_definitions.specs.Automaton.{Automaton, Rule, IsFinal}
use Rattle.tree_definitions.specs.Relation.{Has}
use Rattle.ta_model.specs.declared.table.Class.{Class}
use Rattle.ta_model.specs.declared.table.UpClass.{UpClass}
use Rattle.shared_clusters.specs.Clusters.{Group, HasRule as Keeps, AreTuplesOf}

-- the table has these rules and no others, over so many parents
pub record AreRulesOf (clusters : List (List Group)) (parents : ℕ) (rules : List Rule) : Type 0 where
  pub parents_of : length clusters ≡ parents
  pub same : (rule : Rule) → Keeps clusters rule ↔ Contains rules rule

-- the list has each rule of this kind that the table has, once, and no others
pub record ListsThese (clusters : List (List Group)) (kind : Rule → Type 0) (rules : List Rule) : Type 0 where
  pub distinct : AllPairs ◌≢◌ rules
  pub members : (rule : Rule) → Contains rules rule ↔ (Keeps clusters rule × kind rule)

-- the class has all child tuples of q and of r under a symbol of q
pub record IsClassAt (clusters : List (List Group)) (q r : ℕ) (class : Class) : Type 0 where
  pub some : (kids : List ℕ) × Keeps clusters (record { symbol = class.symbol; kids = kids; parent = q })
  pub first_tuples : AreTuplesOf clusters q class.symbol class.first
  pub second_tuples : AreTuplesOf clusters r class.symbol class.second

-- each is a class of q and r, and each of these symbols has one
pub record AreClassesAt (clusters : List (List Group)) (q r : ℕ) (symbols : List ℕ) (classes : List Class) : Type 0 where
  pub each : (class : Class) → Contains classes class → IsClassAt clusters q r class
  pub all_symbols : (a : ℕ) → Contains symbols a → (class : Class) × Contains classes class × (class.symbol ≡ a)

-- these are the children of a rule of the list, and q is one of them
abbrev pub From : List Rule → ℕ → List ℕ → Type 0
From rules q kids = (r : Rule) × Contains rules r × (r.kids ≡ kids) × Contains kids q

-- for each state, under the symbol 0, the child tuples of the rules in which it stands
pub record AreUses (clusters : List (List Group)) (states : ℕ) (rules : List Rule) : Type 0 where
  pub parents_of : length clusters ≡ states
  pub same : (line : Rule) → Keeps clusters line ↔ ((line.symbol ≡ 0) × From rules line.parent line.kids)

-- the list has a use, under the symbol 0, for each child of each of these rules
abbrev pub ListsUses : List Rule → List Rule → Type 0
ListsUses lines rules = (line : Rule) → Contains lines line ↔ ((line.symbol ≡ 0) × From rules line.parent line.kids)

-- the list gains a use of the children for each of these states
abbrev pub GainsUses : List Rule → List Rule → List ℕ → List ℕ → Type 0
GainsUses old new kids states =
    (line : Rule) → Contains new line ↔ (Contains old line ⊎ ((line.symbol ≡ 0) × (line.kids ≡ kids) × Contains states line.parent))

-- rules by their children, then by their symbols
abbrev pub children_cmp : Rule → Rule → Ordering
children_cmp r s = ordering_then (slice_cmp nat_cmp r.kids s.kids) (nat_cmp r.symbol s.symbol)

-- the lists have the same rules
abbrev pub HaveSameRules : List Rule → List Rule → Type 0
HaveSameRules xs ys = (rule : Rule) → Contains xs rule ↔ Contains ys rule

-- the symbols and parents of the rules with these children
abbrev pub AreLeads : List Rule → List ℕ → List (ℕ × ℕ) → Type 0
AreLeads rules kids pairs = (a p : ℕ) → Contains pairs (a, p) ↔ Contains rules (record { symbol = a; kids = kids; parent = p })

-- the row has n places, and its set places are the parents paired with the symbol
pub record AreParentsUnder (n : ℕ) (pairs : List (ℕ × ℕ)) (a : ℕ) (row : List Bool) : Type 0 where
  pub width : length row ≡ n
  pub members : (p : ℕ) → Has row p ↔ Contains pairs (a, p)

-- the class has all parents under a symbol of the first pairs, from both lists of pairs
pub record IsUpClassAt (n : ℕ) (first second : List (ℕ × ℕ)) (class : UpClass) : Type 0 where
  pub some : (p : ℕ) × Contains first (class.symbol, p)
  pub first_parents : AreParentsUnder n first class.symbol class.first
  pub second_parents : AreParentsUnder n second class.symbol class.second

-- each is a class of the two lists of pairs, and the symbol of each of these pairs has one
pub record AreUpClassesAt (n : ℕ) (first second done : List (ℕ × ℕ)) (classes : List UpClass) : Type 0 where
  pub each : (class : UpClass) → Contains classes class → IsUpClassAt n first second class
  pub all_symbols : (a p : ℕ) → Contains done (a, p) → (class : UpClass) × Contains classes class × (class.symbol ≡ a)

-- the new list has a class of the symbol, all classes of the old one, and other right classes alone
pub record AddsClass (n : ℕ) (first second : List (ℕ × ℕ)) (symbol : ℕ) (old new : List UpClass) : Type 0 where
  pub from_old : (class : UpClass) → Contains new class → Contains old class ⊎ IsUpClassAt n first second class
  pub kept : (class : UpClass) → Contains old class → Contains new class
  pub class : UpClass
  pub stands : Contains new class
  pub symbol_is : class.symbol ≡ symbol

-- how an automaton is kept: its rules by parent, by child and by children, and a row of its final states
pub record IsEncoding (A : Automaton) (clusters uses : List (List Group)) (by_kids : List Rule) (finals : List Bool) : Type 0 where
  pub rules_of : AreRulesOf clusters (length A.states) A.rules
  pub uses_of : AreUses uses (length A.states) A.rules
  pub by_kids_of : HaveSameRules by_kids A.rules
  pub width : length finals ≡ length A.states
  pub finals_of : (q : ℕ) → Has finals q ↔ IsFinal A q
