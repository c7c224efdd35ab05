use Rattle.std.proofs.Common.{◌≡◌, ◌<◌, ℕ, List, [], ◌∷◌, ◌++◌, length}
use Rattle.tree_definitions.specs.Tree.{Symbol}
use Rattle.tree_definitions.specs.Cover.{Pair}
use Rattle.tree_definitions.specs.Relation.{Holds, IsAt, Row}
use Rattle.up_conditions.specs.Choosing.{AreOpen, IsChoiceCovered}
use Rattle.up_conditions.proofs.choices.+choices_are_covered.Given as goal

abbrev pub decreases-choices_are_covered : goal.decreases-choices_are_covered
decreases-choices_are_covered l = length l.kids.now

-- with each pair before this place the longer choice is covered
abbrev pub invariant-loop-k : goal.invariant-loop-k
invariant-loop-k l = (i k : ℕ) (pair : Pair) → i < l.k-index → IsAt l.list i k → IsAt l.pairs k pair → (a : Symbol) (sets : List Row) → length sets ≡ l.count → AreOpen l.b a sets l.places
    → IsChoiceCovered l.b (Holds l.left) (Holds l.right) l.pairs a l.parent (sets ++ pair.set ∷ []) l.others
