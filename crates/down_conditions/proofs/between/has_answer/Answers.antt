use Rattle.std.proofs.Common.{subst}
use Rattle.tree_definitions.specs.Relation.{Holds}
use Rattle.down_conditions.specs.Between.{IsSought}
use Rattle.down_conditions.proofs.Blocks.{none_answers}
use Rattle.down_conditions.proofs.between.has_answer.Goals as goal

pub returns-in-None : goal.returns-in-None
returns-in-None c a sought = (
  λ t. absurd cc,
  λ h. absurd (none_answers c.args.high.now (Holds c.args.both.now) c.args.l c.args.h a c.args.rule.now.kids c.args.r (subst (IsSought c.args.high.now a) c.in-None.is sought) h),
)
