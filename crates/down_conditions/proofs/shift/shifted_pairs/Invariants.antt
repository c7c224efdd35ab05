use Rattle.std.proofs.Common.{◌≡◌, ℕ, length}
use Rattle.tree_definitions.specs.Cover.{Pair}
use Rattle.tree_definitions.specs.Relation.{IsAt}
use Rattle.down_conditions.specs.Covering.{IsShifted}
use Rattle.listed_pairs.specs.Within.{AreWithin}
use Rattle.down_conditions.proofs.shift.shifted_pairs.Given as goal

-- the pairs before this one stand there with their sets further on
abbrev pub invariant-loop-at : goal.invariant-loop-at
invariant-loop-at l = record {
  long : length l.wides.items ≡ l.at;
  within : AreWithin l.n l.n l.wides.items;
  each : (k : ℕ) (pair wide : Pair) → IsAt l.pairs k pair → IsAt l.wides.items k wide → IsShifted l.m pair wide;
}
