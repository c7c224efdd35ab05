use Rattle.std.proofs.Common.{◌≡◌, ◌++◌, ℕ, List, length}
use Rattle.tree_definitions.specs.DownTrail.{SentBy}
use Rattle.tree_definitions.specs.Relation.{IsAt}
use Rattle.ta_model.specs.Tuples.{kids_of}
use Rattle.down_trails.specs.Keys.{AreMembers, parts_of}
use Rattle.down_trails.proofs.repeats.split_key.Given as goal

-- the members of the sets before this place stand behind the other parts
abbrev pub invariant-loop-i : goal.invariant-loop-i
invariant-loop-i l =
    (sets : List (List ℕ)) × (parts_of l.key ≡ parts_of l.initial.key ++ sets) × (length sets ≡ l.i)
    × ((place : ℕ) (ms : List ℕ) → IsAt sets place ms → AreMembers (SentBy (kids_of l.tuples.items) l.choice place) ms)
