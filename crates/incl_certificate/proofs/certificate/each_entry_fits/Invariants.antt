use Rattle.std.proofs.Common.{ℕ, ◌<◌}
use Rattle.tree_definitions.specs.Relation.{IsAt}
use Rattle.tree_definitions.specs.UpTrail.{UpEntry}
use Rattle.certificate_kinds.specs.Fitting.{FitsUpEntry}
use Rattle.incl_certificate.proofs.certificate.each_entry_fits.Given as goal

-- each of the entries so far fits
abbrev pub invariant-loop-place : goal.invariant-loop-place
invariant-loop-place l = (k : ℕ) (entry : UpEntry) → k < l.place → IsAt l.entries k entry → FitsUpEntry l.a l.b k entry
