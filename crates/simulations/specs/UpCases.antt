-- Upward simulations of a list of rules, case by case: a rule with another state at one place of its children.
use Rattle.std.specs.Prelude.{◌≡◌, ◌≢◌, ◌⊎◌, ℕ, ◌<◌, List, Contains, length, slice_set}
use Rattle.tree_definitions.specs.Automaton.{Rule}
use Rattle.tree_definitions.specs.Relation.{Relation, Row, Has, Matrix, Holds, IsAt, IsSquare}
use Rattle.child_exchange.specs.Exchanging.{IsExchanged, IsUpBy}
use Rattle.simulations.specs.Clearing.{IsPartOf}

abbrev pub IsUpMatrix : List Rule → Matrix → Type 0
IsUpMatrix rules m = IsUpBy rules (Holds m)

-- what is above a final state is final
abbrev pub KeepsFinals : List ℕ → Matrix → Type 0
KeepsFinals finals m = (q r : ℕ) → Holds m q r → Contains finals q → Contains finals r

-- pairs of q with states outside the row are cleared from one matrix to the other, and with states before r each
pub record ClearsOutside (q r : ℕ) (is_final : Row) (sim sim2 : Matrix) : Type 0 where
  pub square : IsSquare (length is_final) sim2
  pub fewer : IsPartOf sim2 sim
  pub only : (x y : ℕ) → Holds sim x y → Holds sim2 x y ⊎ ((x ≡ q) × (Has is_final y → ⊥))
  pub judged : (y : ℕ) → y < r → Holds sim2 q y → Has is_final y

-- the greatest upward simulation between n states
abbrev pub GreatestUpBy : ℕ → List ℕ → List Rule → Relation
GreatestUpBy n finals rules q r = (m : Matrix) × IsSquare n m × KeepsFinals finals m × IsUpMatrix rules m × Holds m q r

-- a rule, a place of its children and a state there
abbrev pub UpCases : Type 1
UpCases = Rule → ℕ → ℕ → Type 0

-- of these cases, each with another state whose pair the second matrix has leads above its parent by the first
abbrev pub AreExchanged : List Rule → UpCases → Matrix → Matrix → Type 0
AreExchanged rules Done sim sim2 =
    (rule : Rule) (p q r : ℕ) → Done rule p r → IsAt rule.kids p q → q ≢ r → Holds sim2 q r → IsExchanged rules (Holds sim) rule p r

-- this rule, this place and this state
abbrev pub IsUpCase : Rule → ℕ → ℕ → UpCases
IsUpCase rule p r x y z = (x ≡ rule) × (y ≡ p) × (z ≡ r)

-- this rule and this place at states below k
abbrev pub IsUpCaseBelow : Rule → ℕ → ℕ → UpCases
IsUpCaseBelow rule p k x y z = (x ≡ rule) × (y ≡ p) × (z < k)

-- this rule at places below k
abbrev pub IsUpCaseAt : Rule → ℕ → UpCases
IsUpCaseAt rule k x y z = (x ≡ rule) × (y < k)

-- the rules before place j
abbrev pub IsUpCaseOf : List Rule → ℕ → UpCases
IsUpCaseOf rules j x y z = (i : ℕ) × (i < j) × IsAt rules i x

-- the second rule is the first with this state at this place, and leads elsewhere
abbrev pub IsExchangeOf : Rule → Rule → UpCases
IsExchangeOf rule over x y z = (x ≡ rule) × (over.symbol ≡ rule.symbol) × (over.kids ≡ slice_set rule.kids y z)

-- one of the first k rules of the list is such a second rule
abbrev pub IsUpUnder : List Rule → Rule → List ℕ → ℕ → UpCases
IsUpUnder rules rule list k x y z = (at s : ℕ) × (over : Rule) × (at < k) × IsAt list at s × IsAt rules s over × IsExchangeOf rule over x y z

-- for one of the first j rules of the list `below`, one of the list `above` is
abbrev pub AreUpUnder : List Rule → List ℕ → ℕ → List ℕ → UpCases
AreUpUnder rules below j above x y z =
    (at i : ℕ) × (rule : Rule) × (at < j) × IsAt below at i × IsAt rules i rule × (k : ℕ) × IsUpUnder rules rule above k x y z

-- the rules of the list, in which a rule to a state that `lost` has below k stands with one child exchanged
abbrev pub RestsOnParents : List Rule → List (List ℕ) → List ℕ → Row → ℕ → UpCases
RestsOnParents rules by_parent below lost k x y z =
    (s : ℕ) × (s < k) × Has lost s × (above : List ℕ) × IsAt by_parent s above × (j : ℕ) × AreUpUnder rules below j above x y z

-- each case with another state whose pair `sim` has leads above its parent by `seen`
abbrev pub IsUpSettled : List Rule → Matrix → Matrix → Type 0
IsUpSettled rules seen sim =
    (i : ℕ) (rule : Rule) (p q r : ℕ) → IsAt rules i rule → IsAt rule.kids p q → q ≢ r → Holds sim q r → IsExchanged rules (Holds seen) rule p r
