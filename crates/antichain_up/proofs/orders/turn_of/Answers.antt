use Rattle.antichain_up.proofs.orders.turn_of.Goals as goal

pub returns-then-is_identity : goal.returns-then-is_identity
returns-then-is_identity c = c.is_identity.ensures.0 c.if-is_identity.true
