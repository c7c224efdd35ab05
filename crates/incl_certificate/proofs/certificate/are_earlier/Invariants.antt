use Rattle.std.proofs.Common.{◌<◌, take}
use Rattle.std.specs.Prelude.{All}
use Rattle.incl_certificate.proofs.certificate.are_earlier.Given as goal

-- each of the places so far is earlier
abbrev pub invariant-loop-kid : goal.invariant-loop-kid
invariant-loop-kid l = All (λ k. k < l.place) (take l.kid-index l.kids)
