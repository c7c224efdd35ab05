-- Rules over the symbols of both automata.
use Rattle.std.specs.Prelude.{◌≡◌, ◌≢◌, ◌↔◌, ℕ, ◌<◌, List, [], ◌∷◌, slice_index_or, All, AllPairs, Contains, length}
use Rattle.std.specs.List.{AllZip}
use Rattle.tree_definitions.specs.Tree.{Symbol}
use Rattle.tree_definitions.specs.Automaton.{Rule, Rules}
use Rattle.tree_definitions.specs.Product.{Both}
use Rattle.tree_definitions.specs.Relation.{Row, Has, IsAt}
use Rattle.bool_ops.specs.Closing.{both, AreHeld}

-- the rule with the number of its symbol
abbrev pub renumbered : List ℕ → Rule → Rule
renumbered numbers rule = record { symbol = slice_index_or numbers rule.symbol 0; kids = rule.kids; parent = rule.parent }

-- the list has the rule a(kids) -> parent, over these symbols
abbrev pub HasLine : List Symbol → List Rule → Symbol → List ℕ → ℕ → Type 0
HasLine symbols rules a kids parent =
    (r : ℕ) × (k : ℕ) × IsAt symbols k a × IsAt rules r (record { symbol = k; kids = kids; parent = parent })

-- pairs of the places of two lists
abbrev pub pairs_of : List ℕ → List ℕ → List Both
pairs_of [] qs = []
pairs_of (p ∷ ps) [] = []
pairs_of (p ∷ ps) (q ∷ qs) = record { left = p; right = q } ∷ pairs_of ps qs

-- the rule is that of two rules, with the places of their pairs of states
pub record IsPairOf (ours theirs : List Rule) (states : List Both) (y : Both) (rule : Rule) : Type 0 where
  pub left : Rule
  pub right : Rule
  pub left_at : IsAt ours y.left left
  pub right_at : IsAt theirs y.right right
  pub symbol : rule.symbol ≡ left.symbol
  pub kids : AllZip (IsAt states) rule.kids (pairs_of left.kids right.kids)
  pub parent : IsAt states rule.parent (record { left = left.parent; right = right.parent })

-- the places below n of the pairs whose parts are in the rows
pub record AreFinals (states : List Both) (left right : Row) (n : ℕ) (finals : List ℕ) : Type 0 where
  pub below : All (λ k. k < n) finals
  pub distinct : AllPairs ◌≢◌ finals
  pub members : (k : ℕ) → Contains finals k ↔ ((k < n) × ((x : Both) × IsAt states k x × Has left x.left × Has right x.right))

-- the places of two rules with as many children, whose pairs of states are among these
pub record FitTogether (ours theirs : List Rule) (states : List Both) (y : Both) : Type 0 where
  pub left : y.left < length ours
  pub right : y.right < length theirs
  pub kids : (p q : Rule) → IsAt ours y.left p → IsAt theirs y.right q → length p.kids ≡ length q.kids
  pub held : (p q : Rule) → IsAt ours y.left p → IsAt theirs y.right q → AreHeld states p.kids q.kids
  pub parent : (p q : Rule) → IsAt ours y.left p → IsAt theirs y.right q → Contains states (both p.parent q.parent)

-- two lists of rules over one list of distinct symbols, with as many children as ranks, and the rules that they stand for
pub record StandFor (symbols : List Symbol) (H G : Rules) (ours theirs : List Rule) : Type 0 where
  pub distinct : AllPairs ◌≢◌ symbols
  pub left : (a : Symbol) (kids : List ℕ) (q : ℕ) → H a kids q ↔ HasLine symbols ours a kids q
  pub right : (a : Symbol) (kids : List ℕ) (q : ℕ) → G a kids q ↔ HasLine symbols theirs a kids q
  pub left_fits : (r : ℕ) (rule : Rule) → IsAt ours r rule → (a : Symbol) × IsAt symbols rule.symbol a × (length rule.kids ≡ a.rank)
  pub right_fits : (s : ℕ) (rule : Rule) → IsAt theirs s rule → (a : Symbol) × IsAt symbols rule.symbol a × (length rule.kids ≡ a.rank)
