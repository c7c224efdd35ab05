use Rattle.tree_definitions.specs.Relation.{Holds}
use Rattle.quotient.proofs.ClassSteps.{leaders_more}
use Rattle.quotient.proofs.classes.leaders.Goals as goal

pub loop-q-preserved : goal.loop-q-preserved
loop-q-preserved c =
    rw c.in_ok-push.ensures.items (leaders_more (Holds c.args.matrix.now) c.loop-q.q c.loop-q.leaders.items c.in_ok-leader.field-0 c.loop-q.invariant c.in_ok-leader.ensures)
