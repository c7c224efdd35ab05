use Rattle.std.proofs.Common.{◌≡◌, take}
use Rattle.certificate_lines.proofs.names.StatePlaces.of.Given as goal

-- the names so far, in their order
abbrev pub invariant-loop-name : goal.invariant-loop-name
invariant-loop-name l = l.places ≡ take l.name-index l.names
