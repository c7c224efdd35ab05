use Rattle.std.proofs.Common.{ap, ◌∙◌, refl}
use Rattle.tree_definitions.proofs.Members.{contains_at}
use Rattle.shared_clusters.proofs.Groups.{gap_absent, gains_none, tuples_insert}
use Rattle.shared_clusters.proofs.group.Group.insert.Goals as goal

pub invariant_of-self-in-Err : goal.invariant_of-self-in-Err
invariant_of-self-in-Err c =
    (tuples_insert c.self.inside.tuples.items c.insert.new.self.items c.args.self.now.tuples c.in-Err.i c.in_ok-copy-in-Err.copy c.args.kids.now.items
    (ap (λ g. g.tuples) c.self.view_is) c.in-Err.ensures.rising c.in-Err.ensures.absent (c.in_ok-copy-in-Err.ensures.ok ∙ c.as_slice.ensures) c.in_ok-insert-in-Err.ensures.items).0

pub returns-in-Ok-clause-fresh : goal.returns-in-Ok-clause-fresh
returns-in-Ok-clause-fresh c = (λ t. absurd (cc t), λ h. absurd (h (contains_at c.args.self.now.tuples c.in-Ok.field-0 c.args.kids.now.items c.in-Ok.ensures.found)))

pub returns-in-Ok-clause-ok : goal.returns-in-Ok-clause-ok
returns-in-Ok-clause-ok c = gains_none c.args.self.now.tuples c.args.kids.now.items (contains_at c.args.self.now.tuples c.in-Ok.field-0 c.args.kids.now.items c.in-Ok.ensures.found)

pub returns-in_ok-insert-in-Err-clause-fresh : goal.returns-in_ok-insert-in-Err-clause-fresh
returns-in_ok-insert-in-Err-clause-fresh c = (λ t. gap_absent c.args.self.now.tuples c.args.kids.now.items c.in-Err.i c.in-Err.ensures.absent, λ h. refl)

pub returns-in_ok-insert-in-Err-clause-ok : goal.returns-in_ok-insert-in-Err-clause-ok
returns-in_ok-insert-in-Err-clause-ok c =
    (tuples_insert c.self.inside.tuples.items c.insert.new.self.items c.args.self.now.tuples c.in-Err.i c.in_ok-copy-in-Err.copy c.args.kids.now.items
    (ap (λ g. g.tuples) c.self.view_is) c.in-Err.ensures.rising c.in-Err.ensures.absent (c.in_ok-copy-in-Err.ensures.ok ∙ c.as_slice.ensures) c.in_ok-insert-in-Err.ensures.items).1
