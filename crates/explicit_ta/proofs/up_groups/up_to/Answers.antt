use Rattle.std.proofs.Common.{leb, leb-true, leb-false, rules, get_or, arith, ℕ}
use Rattle.std.proofs.lemmas.List.Sorted.{IsPartitionPoint-from_clause, IsPartitionedBy-leb}
use Rattle.explicit_ta.proofs.Lists.{key_of}
use Rattle.explicit_ta.proofs.up_groups.up_to.Goals as goal

pub returns-clause-front : goal.returns-clause-front
returns-clause-front c k d lt =
    let cut = IsPartitionPoint-from_clause (λ (x : ℕ × ℕ). leb x.0 c.args.symbol) c.args.pairs.now c.partition_point.result c.partition_point.ensures.partitioned
    (IsPartitionedBy-leb key_of c.args.pairs.now c.args.symbol c.requires) (λ a r q k. search rules) in
    leb-true (get_or c.args.pairs.now k d).0 c.args.symbol (cut.0 k d (omega arith) lt)

pub returns-clause-back : goal.returns-clause-back
returns-clause-back c k d from lt =
    let cut = IsPartitionPoint-from_clause (λ (x : ℕ × ℕ). leb x.0 c.args.symbol) c.args.pairs.now c.partition_point.result c.partition_point.ensures.partitioned
    (IsPartitionedBy-leb key_of c.args.pairs.now c.args.symbol c.requires) (λ a r q k. search rules) in
    leb-false (get_or c.args.pairs.now k d).0 c.args.symbol (cut.1 k d from lt)
