use Rattle.std.proofs.Common.{take}
use Rattle.std.specs.Prelude.{All}
use Rattle.tree_definitions.specs.Cover.{FitsPair}
use Rattle.incl_certificate.proofs.certificate.each_fits.Given as goal

-- each of the pairs so far fits
abbrev pub invariant-loop-pair : goal.invariant-loop-pair
invariant-loop-pair l = All (FitsPair l.a l.b) (take l.pair-index l.pairs)
