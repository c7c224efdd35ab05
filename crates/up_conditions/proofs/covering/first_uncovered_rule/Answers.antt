use Rattle.std.proofs.lemmas.Result.{IfOk-weaker}
use Rattle.tree_definitions.specs.Relation.{Holds}
use Rattle.up_conditions.proofs.Covered.{steps_covered}
use Rattle.listed_pairs.proofs.Firsts.{IfNone_then}
use Rattle.up_conditions.proofs.covering.first_uncovered_rule.Goals as goal

pub returns-clause-none : goal.returns-clause-none
returns-clause-none c =
    IfOk-weaker c.first_uncovered.result _ _ (λ first n. IfNone_then first (steps_covered c.args.a.now c.args.b.now (Holds c.args.left.now) (Holds c.args.right.now) c.args.pairs.now) n) c.first_uncovered.ensures.none
