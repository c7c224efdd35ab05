use Rattle.std.proofs.Common.{length}
use Rattle.witness_trees.proofs.Marks.{row_states}
use Rattle.witness_trees.proofs.states.row_of.Goals as goal

pub returns-clause-states : goal.returns-clause-states
returns-clause-states c =
    row_states c.args.a.now.rules c.rules.result.now c.args.reached.now c.args.label c.in-Some.label c.args.kids.now (length c.states.result.now) c.in_ok-row.row c.mark.new.row c.rules.ensures.value c.in-Some.is c.in_ok-row.ensures.value c.mark.ensures
