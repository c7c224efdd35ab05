use Rattle.std.proofs.Common.{sym}
use Rattle.explicit_ta.proofs.explicit.ExplicitTable.bits.Goals as goal

pub returns : goal.returns
returns c = rw (← c.self.view_is) (sym c.rules-listed.ensures.listed.narrow)
