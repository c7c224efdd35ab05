use Rattle.std.proofs.Common.{refl, arith}
use Rattle.quotient.proofs.ClassSteps.{class_has_it, leader_is}
use Rattle.quotient.proofs.classes.leader.Goals as goal

pub returns : goal.returns
returns c =
    leader_is c.args.matrix.now c.args.turned.now c.args.q c.in-Some.first c.in_ok-class.class c.and_into.new.target c.row.result.now c.row-2.result.now
    c.in_ok-class.ensures c.row.ensures.members c.row-2.ensures.members c.requires.turned c.and_into.ensures.members c.in-Some.ensures.least

pub unreachable-requires : goal.unreachable-requires
unreachable-requires c =
    let here = class_has_it c.args.matrix.now c.args.turned.now c.args.q c.in_ok-class.class c.and_into.new.target c.row.result.now c.row-2.result.now
    c.in_ok-class.ensures c.row.ensures.members c.row-2.ensures.members c.requires.turned c.and_into.ensures.members c.requires.itself in
    c.in-None.ensures.none.0 refl c.args.q (omega arith) here
