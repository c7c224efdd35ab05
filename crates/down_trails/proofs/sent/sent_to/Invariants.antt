use Rattle.std.proofs.Common.{◌≡◌, ◌↔◌, ◌<◌, ℕ, List, length}
use Rattle.tree_definitions.specs.Relation.{Has, IsAt}
use Rattle.ta_model.specs.Tuples.{kids_of}
use Rattle.down_trails.proofs.sent.sent_to.Given as goal

-- what the tuples before this one send is set
abbrev pub invariant-loop-k : goal.invariant-loop-k
invariant-loop-k l = record {
  long : length l.row ≡ l.n;
  members : (s : ℕ) → Has l.row s ↔ ((k : ℕ) × (tuple : List ℕ) × (k < l.k) × IsAt l.choice k l.place × IsAt (kids_of l.tuples) k tuple × IsAt tuple l.place s);
}
