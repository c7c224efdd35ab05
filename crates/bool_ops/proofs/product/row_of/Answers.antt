use Rattle.std.proofs.Common.{◌∙◌, ◌↔◌, Contains, subst}
use Rattle.std.proofs.lemmas.List.{take_all}
use Rattle.tree_definitions.specs.Relation.{Has}
use Rattle.bool_ops.proofs.Parts.{row_more}
use Rattle.bool_ops.proofs.product.row_of.Goals as goal

pub loop-q-preserved : goal.loop-q-preserved
loop-q-preserved c = record {
  size = c.set.ensures.long ∙ c.loop-q.invariant.size;
  members = row_more c.args.list.now c.loop-q.q-index c.loop-q.row c.set.new.self c.loop-q-test.true c.loop-q.invariant.members c.set.ensures.members;
}

pub returns-clause-members : goal.returns-clause-members
returns-clause-members c q =
    subst (λ xs. Has c.loop-q.row q ↔ Contains xs q) (take_all c.loop-q.q-index c.args.list.now c.loop-q-test.false) (c.loop-q.invariant.members q)
