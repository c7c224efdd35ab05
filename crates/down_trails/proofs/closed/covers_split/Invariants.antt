use Rattle.std.proofs.Common.{◌<◌, ℕ}
use Rattle.tree_definitions.specs.DownCert.{CoversAlone}
use Rattle.tree_definitions.specs.DownTrail.{SentBy}
use Rattle.tree_definitions.specs.Relation.{Holds, IsAt}
use Rattle.ta_model.specs.Tuples.{kids_of}
use Rattle.down_trails.proofs.closed.covers_split.Given as goal

-- the children before this one are not covered
abbrev pub invariant-loop-i : goal.invariant-loop-i
invariant-loop-i l = (place q : ℕ) → place < l.i → IsAt l.kids place q → CoversAlone l.a (Holds l.both) q (SentBy (kids_of l.tuples.items) l.choice place) → ⊥
