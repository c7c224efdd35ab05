-- How the states of one node follow from those of its children.
use Rattle.std.specs.Prelude.{◌≡◌, ◌⊎◌, ℕ, ◌+◌, ◌*◌, ◌<◌, List, [], ◌∷◌, length, All, Contains, Option, Some, None, MatchOption}
use Rattle.std.specs.List.{AllZip}
use Rattle.tree_definitions.specs.Tree.{Symbol}
use Rattle.tree_definitions.specs.Automaton.{Rule}
use Rattle.tree_definitions.specs.Relation.{Row, Matrix, Has, Holds, IsAt}
use Rattle.witness_trees.specs.declared.states.Entry.{Entry}

-- the place of the symbol in the list, or none where it isn't there
abbrev pub IsPlaceOf : List Symbol → Symbol → Option ℕ → Type 0
IsPlaceOf symbols a place = MatchOption place ((i : ℕ) → ¬ IsAt symbols i a) (λ i. IsAt symbols i a)

-- each child state is among the states that the child at its place reaches
abbrev pub AreAmong : Matrix → List ℕ → List ℕ → Type 0
AreAmong reached states kids = AllZip (λ s k. Holds reached k s) states kids

-- a rule with this symbol, whose child states the children reach
abbrev pub Joins : Matrix → ℕ → List ℕ → Rule → Type 0
Joins reached label kids rule = (rule.symbol ≡ label) × AreAmong reached rule.kids kids

-- some rule with the symbol leads to q from states that the children reach
abbrev pub Steps : List Rule → Matrix → Option ℕ → List ℕ → ℕ → Type 0
Steps rules reached None kids q = ⊥
Steps rules reached (Some label) kids q =
    (r : ℕ) × (rule : Rule) × IsAt rules r rule × Joins reached label kids rule × (rule.parent ≡ q)

-- the first child state of a rule, and 0 for a rule without children
abbrev pub first_of : List ℕ → ℕ
first_of [] = 0
first_of (q ∷ qs) = q

-- the number of the group of rules with this symbol and this first child state
abbrev pub group_number : ℕ → ℕ → ℕ
group_number symbol first = symbol * 4294967296 + first

abbrev pub group_of : Rule → ℕ
group_of rule = group_number rule.symbol (first_of rule.kids)

-- each of the first n rules has an entry with its group, and each entry names a rule
pub record IsIndexed (rules : List Rule) (n : ℕ) (entries : List Entry) : Type 0 where
  pub named : All (λ e. e.rule < length rules) entries
  pub each : (r : ℕ) (rule : Rule) → r < n → IsAt rules r rule
      → Contains entries (record { group = group_of rule; rule = r })

-- the new row keeps the places of the old one, gains only parents of rules that join, and has the parents of those asked for
pub record Gains (rules : List Rule) (reached : Matrix) (label : ℕ) (kids : List ℕ) (asked : ℕ → Rule → Type 0) (old new : Row) : Type 0 where
  pub same_length : length new ≡ length old
  pub keeps : (q : ℕ) → Has old q → Has new q
  pub only : (q : ℕ) → Has new q → Has old q ⊎ Steps rules reached (Some label) kids q
  pub all : (r : ℕ) (rule : Rule) → IsAt rules r rule → asked r rule → Joins reached label kids rule → Has new rule.parent

-- the new row keeps the places of the old one, and gains exactly the parent of this rule where the rule joins
pub record GainsOne (reached : Matrix) (label : ℕ) (kids : List ℕ) (one : Rule) (old new : Row) : Type 0 where
  pub same_length : length new ≡ length old
  pub keeps : (q : ℕ) → Has old q → Has new q
  pub only : (q : ℕ) → Has new q → Has old q ⊎ (Joins reached label kids one × (one.parent ≡ q))
  pub all : Joins reached label kids one → Has new one.parent
