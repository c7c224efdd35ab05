-- Steps of B from the sets of listed pairs.
use Rattle.std.specs.Prelude.{◌≡◌, ◌+◌, ◌<◌, ◌≤◌, ◌↔◌, ℕ, List, Contains, length, slice_index_or}
use Rattle.std.specs.List.{AllZip}
use Rattle.tree_definitions.specs.Tree.{Symbol}
use Rattle.tree_definitions.specs.Automaton.{Automaton, Rule}
use Rattle.tree_definitions.specs.Cover.{Pair}
use Rattle.tree_definitions.specs.Relation.{Row, Has, IsAt}
use Rattle.up_conditions.specs.Listed.{AreBySymbol, AreFiled}

-- P is the set of the pair at place k
abbrev pub IsSetAt : List Pair → ℕ → Row → Type 0
IsSetAt pairs k P = (x : Pair) × IsAt pairs k x × (x.set ≡ P)

-- these are the sets of the pairs at the chosen places
abbrev pub AreSets : List Pair → List ℕ → List Row → Type 0
AreSets pairs chosen sets = AllZip (IsSetAt pairs) chosen sets

-- q is in the set of the pair at place k
abbrev pub IsInSetAt : List Pair → ℕ → ℕ → Type 0
IsInSetAt pairs k q = (x : Pair) × IsAt pairs k x × Has x.set q

-- each child is in the set of the pair at the chosen place
abbrev pub AreInSets : List Pair → List ℕ → List ℕ → Type 0
AreInSets pairs chosen kids = AllZip (IsInSetAt pairs) chosen kids

-- s is the parent of the rule at place k of the list, and its children are in the sets
abbrev pub IsParentAt : List Rule → List ℕ → List Pair → List ℕ → ℕ → ℕ → Type 0
IsParentAt rules list pairs chosen k s = (r : ℕ) × (rule : Rule) × IsAt list k r × IsAt rules r rule × (rule.parent ≡ s) × AreInSets pairs chosen rule.kids

-- the first child, or n where there is none
abbrev pub first_kid : ℕ → Rule → ℕ
first_kid n rule = slice_index_or rule.kids 0 n

-- symbols, and places of rules by symbol and by first child
pub record StepLists : Type 0 where
  pub symbols : List Symbol
  pub by_symbol : List (List ℕ)
  pub by_first : List (List ℕ)

-- the lists are those of B. Each has a further one, of the rules under no symbol and of those without children
pub record AreListsOf (B : Automaton) (lists : StepLists) : Type 0 where
  pub symbols : lists.symbols ≡ B.symbols
  pub by_symbol : AreBySymbol B.rules lists.by_symbol
  pub symbol_count : length lists.by_symbol ≡ length B.symbols + 1
  pub by_first : AreFiled (first_kid (length B.states)) B.rules lists.by_first
  pub first_count : length lists.by_first ≡ length B.states + 1

-- k is the place of the symbol, or the number of symbols where it is none of them
pub record IsPlaceOf (symbols : List Symbol) (a : Symbol) (k : ℕ) : Type 0 where
  pub within : k ≤ length symbols
  pub here : k < length symbols → IsAt symbols k a
  pub only : (j : ℕ) → IsAt symbols j a → j ≡ k

-- the rule at place r is under the symbol at place k
abbrev pub IsUnder : List Rule → ℕ → ℕ → Type 0
IsUnder rules k r = (rule : Rule) × IsAt rules r rule × (rule.symbol ≡ k)

-- these are the places of the rules under the symbol at place k
abbrev pub AreUnder : List Rule → ℕ → List ℕ → Type 0
AreUnder rules k list = (r : ℕ) → Contains list r ↔ IsUnder rules k r

-- so is the rule at place r, and its first child is q
abbrev pub IsUnderFrom : List Rule → ℕ → ℕ → ℕ → Type 0
IsUnderFrom rules k q r = (rule : Rule) × IsAt rules r rule × (rule.symbol ≡ k) × IsAt rule.kids 0 q
