use Rattle.std.proofs.Common.{Contains, ap, subst, length, arith, length-take}
use Rattle.certificate_lines.proofs.Named.{not_before}
use Rattle.certificate_lines.proofs.names.StatePlaces.of.Goals as goal

pub append-requires-clause-lacks : goal.append-requires-clause-lacks
append-requires-clause-lacks c h =
    not_before c.args.names.now c.loop-name.name-index c.name-item.result c.requires.distinct c.loop-name-test.true c.name-item.is
    (subst (λ xs. Contains xs c.name-item.result) c.loop-name.invariant h)

pub append-requires-clause-room : goal.append-requires-clause-room
append-requires-clause-room c = omega (arith, ap length c.loop-name.invariant, length-take c.loop-name.name-index c.args.names.now, c.loop-name-test.true, c.requires.few)
