use Rattle.std.proofs.Common.{Contains, subst, sym}
use Rattle.tree_definitions.specs.Product.{Both}
use Rattle.tree_definitions.specs.Relation.{IsAt}
use Rattle.tree_definitions.proofs.Members.{contains_at}
use Rattle.bool_ops.specs.Filing.{slot_of}
use Rattle.bool_ops.proofs.Filed.{at_distinct}
use Rattle.bool_ops.proofs.by_place.ByPlace.at.Goals as goal

pub returns-in-Some-clause-found : goal.returns-in-Some-clause-found
returns-in-Some-clause-found c n at =
    let x : Both = slot_of c.args.symbol c.args.place c.args.state in
    let there : IsAt c.args.self.now.slots c.in-Some.n x = subst (IsAt c.args.self.now.slots c.in-Some.n) c.slot.ensures c.in-Some.ensures.found in
    subst (λ k. IsAt c.args.self.now.lists k c.at.result.now) (at_distinct c.args.self.now.slots c.in-Some.n n x c.requires.distinct there at) c.at.ensures

pub returns-in-None-clause-found : goal.returns-in-None-clause-found
returns-in-None-clause-found c n at =
    let x : Both = slot_of c.args.symbol c.args.place c.args.state in
    absurd (c.in-None.ensures.none (subst (Contains c.args.self.now.slots) (sym c.slot.ensures) (contains_at c.args.self.now.slots n x at)))
