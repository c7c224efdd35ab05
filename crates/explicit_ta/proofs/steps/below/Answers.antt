use Rattle.std.proofs.Common.{ltb, ltb-true, ltb-false, rules, get_or, arith}
use Rattle.std.proofs.lemmas.List.Sorted.{IsPartitionPoint-from_clause, IsPartitionedBy-ltb}
use Rattle.tree_definitions.specs.Automaton.{Rule}
use Rattle.explicit_ta.specs.Steps.{first_kid}
use Rattle.explicit_ta.proofs.steps.below.Goals as goal

pub returns-clause-front : goal.returns-clause-front
returns-clause-front c k d lt =
    let cut = IsPartitionPoint-from_clause (λ (r : Rule). ltb (first_kid r) c.args.q) c.args.rules.now c.partition_point.result c.partition_point.ensures.partitioned
    (IsPartitionedBy-ltb first_kid c.args.rules.now c.args.q c.requires) (λ a r q k. search rules) in
    ltb-true (first_kid (get_or c.args.rules.now k d)) c.args.q (cut.0 k d (omega arith) lt)

pub returns-clause-next : goal.returns-clause-next
returns-clause-next c d lt =
    let cut = IsPartitionPoint-from_clause (λ (r : Rule). ltb (first_kid r) c.args.q) c.args.rules.now c.partition_point.result c.partition_point.ensures.partitioned
    (IsPartitionedBy-ltb first_kid c.args.rules.now c.args.q c.requires) (λ a r q k. search rules) in
    ltb-false (first_kid (get_or c.args.rules.now c.partition_point.result d)) c.args.q (cut.1 c.partition_point.result d (omega arith) lt)
