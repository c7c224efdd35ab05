-- Downward simulations of a list of rules, case by case: a rule at a state that its parent is below.
use Rattle.std.specs.Prelude.{◌≡◌, ℕ, ◌<◌, List}
use Rattle.std.specs.List.{AllZip}
use Rattle.tree_definitions.specs.Automaton.{Rule}
use Rattle.tree_definitions.specs.Relation.{Relation, Row, Has, Matrix, Holds, IsAt, IsSquare}

-- some rule to r under the same symbol has children above those of the rule
abbrev pub IsAnswered : List Rule → Relation → Rule → ℕ → Type 0
IsAnswered rules R rule r =
    (j : ℕ) × (over : Rule) × IsAt rules j over × (over.symbol ≡ rule.symbol) × (over.parent ≡ r) × AllZip R rule.kids over.kids

-- a downward simulation
abbrev pub IsDownBy : List Rule → Relation → Type 0
IsDownBy rules R = (i : ℕ) (rule : Rule) (r : ℕ) → IsAt rules i rule → R rule.parent r → IsAnswered rules R rule r

abbrev pub IsDownMatrix : List Rule → Matrix → Type 0
IsDownMatrix rules m = IsDownBy rules (Holds m)

-- the greatest one between n states
abbrev pub GreatestBy : ℕ → List Rule → Relation
GreatestBy n rules q r = (m : Matrix) × IsSquare n m × IsDownBy rules (Holds m) × Holds m q r

-- rules at states
abbrev pub Cases : Type 1
Cases = Rule → ℕ → Type 0

-- of these cases, each that the second matrix has is answered over the first
abbrev pub AreAnswered : List Rule → Cases → Matrix → Matrix → Type 0
AreAnswered rules Done sim sim2 = (rule : Rule) (r : ℕ) → Done rule r → Holds sim2 rule.parent r → IsAnswered rules (Holds sim) rule r

-- the rule at place i at the state r
abbrev pub IsCase : List Rule → ℕ → ℕ → Cases
IsCase rules i r rule x = IsAt rules i rule × (x ≡ r)

-- the rule at place i at states below k
abbrev pub IsCaseBelow : List Rule → ℕ → ℕ → Cases
IsCaseBelow rules i k rule x = IsAt rules i rule × (x < k)

-- the rules before place j at all states
abbrev pub IsCaseOf : List Rule → ℕ → Cases
IsCaseOf rules j rule x = (i : ℕ) × (i < j) × IsAt rules i rule

-- one of the first k rules of the list has the symbol, and leads to r
abbrev pub LeadsTo : List Rule → List ℕ → ℕ → ℕ → ℕ → Type 0
LeadsTo rules list k symbol r =
    (at s : ℕ) × (over : Rule) × (at < k) × IsAt list at s × IsAt rules s over × (over.symbol ≡ symbol) × (over.parent ≡ r)

-- the rule at place i at the parents of the first k rules of the list with its symbol
abbrev pub IsUnder : List Rule → ℕ → List ℕ → ℕ → Cases
IsUnder rules i list k rule r = IsAt rules i rule × LeadsTo rules list k rule.symbol r

-- one of the first j rules of the list `below` at such a parent, by the list `above`
abbrev pub AreUnder : List Rule → List ℕ → ℕ → List ℕ → Cases
AreUnder rules below j above rule r = (at i : ℕ) × (at < j) × IsAt below at i × (k : ℕ) × IsUnder rules i above k rule r

-- the rules with the child q, at the parents of rules with the child that `lost` has below k
abbrev pub RestsOn : List Rule → List (List ℕ) → List ℕ → Row → ℕ → Cases
RestsOn rules by_child below lost k rule r =
    (y : ℕ) × (y < k) × Has lost y × (above : List ℕ) × IsAt by_child y above × (j : ℕ) × AreUnder rules below j above rule r

-- each case that `sim` has is answered over `seen`
abbrev pub IsSettled : List Rule → Matrix → Matrix → Type 0
IsSettled rules seen sim = (i : ℕ) (rule : Rule) (r : ℕ) → IsAt rules i rule → Holds sim rule.parent r → IsAnswered rules (Holds seen) rule r

-- the row has the parents of all rules with the symbol of the one at place i
abbrev pub HasParents : List Rule → ℕ → Row → Type 0
HasParents rules i has = (rule over : Rule) (j : ℕ) → IsAt rules i rule → IsAt rules j over → over.symbol ≡ rule.symbol → Has has over.parent
