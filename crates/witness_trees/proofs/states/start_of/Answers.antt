use Rattle.std.proofs.Common.{ltb, rules, arith}
use Rattle.std.proofs.lemmas.Bool.{ltb-true, ltb-false}
use Rattle.std.proofs.lemmas.List.Sorted.{IsPartitionPoint-from_clause, IsPartitionedBy-ltb}
use Rattle.witness_trees.specs.declared.states.Entry.{Entry}
use Rattle.witness_trees.proofs.states.start_of.Goals as goal

pub returns-clause-before : goal.returns-clause-before
returns-clause-before c =
    let point = IsPartitionPoint-from_clause (λ (e : Entry). ltb e.group c.args.group) c.args.index.now c.partition_point.result c.partition_point.ensures.partitioned (IsPartitionedBy-ltb (λ (e : Entry). e.group) c.args.index.now c.args.group c.requires) (λ a r q k. search rules) in
    λ j d lt. ltb-true _ _ (point.0 j d (omega arith) lt)

pub returns-clause-after : goal.returns-clause-after
returns-clause-after c =
    let point = IsPartitionPoint-from_clause (λ (e : Entry). ltb e.group c.args.group) c.args.index.now c.partition_point.result c.partition_point.ensures.partitioned (IsPartitionedBy-ltb (λ (e : Entry). e.group) c.args.index.now c.args.group c.requires) (λ a r q k. search rules) in
    λ j d le lt. ltb-false _ _ (point.1 j d le lt)
