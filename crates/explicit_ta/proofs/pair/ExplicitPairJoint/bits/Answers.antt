use Rattle.std.proofs.Common.{sym}
use Rattle.explicit_ta.proofs.pair.ExplicitPairJoint.bits.Goals as goal

pub returns-clause-left : goal.returns-clause-left
returns-clause-left c = rw (← c.self.view_is) (sym c.rules-left.ensures.listed.narrow)

pub returns-clause-right : goal.returns-clause-right
returns-clause-right c = rw (← c.self.view_is) (sym c.rules-right.ensures.listed.narrow)
