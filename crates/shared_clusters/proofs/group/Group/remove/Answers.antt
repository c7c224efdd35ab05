use Rattle.std.proofs.Common.{ap, refl}
use Rattle.tree_definitions.proofs.Members.{contains_at}
use Rattle.shared_clusters.proofs.Groups.{gap_absent, loses_none, tuples_remove}
use Rattle.shared_clusters.proofs.group.Group.remove.Goals as goal

pub invariant_of-self : goal.invariant_of-self
invariant_of-self c =
    (tuples_remove c.self.inside.tuples.items c.remove.new.self.items c.args.self.now.tuples c.in-Ok.i c.args.kids.now.items
    (ap (λ g. g.tuples) c.self.view_is) c.in-Ok.ensures.rising c.in-Ok.ensures.found c.remove.ensures.items).0

pub returns-in-Ok-clause-was : goal.returns-in-Ok-clause-was
returns-in-Ok-clause-was c = (λ t. contains_at c.args.self.now.tuples c.in-Ok.i c.args.kids.now.items c.in-Ok.ensures.found, λ h. refl)

pub returns-in-Ok-clause-loses : goal.returns-in-Ok-clause-loses
returns-in-Ok-clause-loses c =
    (tuples_remove c.self.inside.tuples.items c.remove.new.self.items c.args.self.now.tuples c.in-Ok.i c.args.kids.now.items
    (ap (λ g. g.tuples) c.self.view_is) c.in-Ok.ensures.rising c.in-Ok.ensures.found c.remove.ensures.items).1

pub returns-in-Ok-clause-filled : goal.returns-in-Ok-clause-filled
returns-in-Ok-clause-filled c = λ some others.
    (tuples_remove c.self.inside.tuples.items c.remove.new.self.items c.args.self.now.tuples c.in-Ok.i c.args.kids.now.items
    (ap (λ g. g.tuples) c.self.view_is) c.in-Ok.ensures.rising c.in-Ok.ensures.found c.remove.ensures.items).2 others

pub returns-in-Err-clause-was : goal.returns-in-Err-clause-was
returns-in-Err-clause-was c = (λ t. absurd (cc t), λ h. absurd (gap_absent c.args.self.now.tuples c.args.kids.now.items c.in-Err.field-0 c.in-Err.ensures.absent h))

pub returns-in-Err-clause-loses : goal.returns-in-Err-clause-loses
returns-in-Err-clause-loses c = loses_none c.args.self.now.tuples c.args.kids.now.items (gap_absent c.args.self.now.tuples c.args.kids.now.items c.in-Err.field-0 c.in-Err.ensures.absent)
