use Rattle.std.proofs.Common.{ℕ, ◌<◌}
use Rattle.tree_definitions.specs.Canonical.{canon}
use Rattle.tree_definitions.specs.DownTrail.{DownEntry as Entry}
use Rattle.tree_definitions.specs.Relation.{IsAt}
use Rattle.listed_pairs.specs.DownEntries.{FitsDownEntry, entries_of}
use Rattle.incl_certificate.proofs.down_fitting.each_fits.Given as goal

-- each earlier entry fits
abbrev pub invariant-loop-at : goal.invariant-loop-at
invariant-loop-at l =
    (k : ℕ) (entry : Entry) → k < l.at → IsAt (entries_of l.entries) k entry → FitsDownEntry (canon l.fn.a) l.fn.b (entries_of l.entries) k entry
