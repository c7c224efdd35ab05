use Rattle.std.proofs.Common.{◌≡◌, take}
use Rattle.tree_definitions.specs.Joint.{joint_symbols}
use Rattle.incl_certificate.proofs.joint.add_each.Given as goal

-- the symbols so far are added
abbrev pub invariant-loop-symbol : goal.invariant-loop-symbol
invariant-loop-symbol l = l.set.keys ≡ joint_symbols l.fn.set.keys (take l.symbol-index l.symbols)
