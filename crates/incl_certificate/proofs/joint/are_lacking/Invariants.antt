use Rattle.std.proofs.Common.{◌≡◌, ◌++◌, take}
use Rattle.incl_certificate.specs.Joint.{lacking}
use Rattle.incl_certificate.proofs.joint.are_lacking.Given as goal

-- what the first list lacks of the second so far, and the rest
abbrev pub invariant-loop-symbol : goal.invariant-loop-symbol
invariant-loop-symbol l = l.symbols ≡ lacking (take l.count l.nodes.symbols) (take l.symbol-index l.second) ++ l.rest
