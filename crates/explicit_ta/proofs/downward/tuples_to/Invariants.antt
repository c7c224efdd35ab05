use Rattle.std.proofs.Common.{◌↔◌, List, ℕ, take}
use Rattle.std.specs.Prelude.{Contains}
use Rattle.ta_model.specs.Tuples.{kids_of}
use Rattle.explicit_ta.proofs.Indexing.{Under}
use Rattle.explicit_ta.proofs.downward.tuples_to.Given as goal

-- the tuples under the symbols so far
abbrev pub invariant-loop-a : goal.invariant-loop-a
invariant-loop-a l = (kids : List ℕ) → Contains (kids_of l.all.items) kids ↔ Under l.clusters l.q (take l.a-index l.a-items) kids
