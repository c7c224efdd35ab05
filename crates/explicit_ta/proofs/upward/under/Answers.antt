use Rattle.std.proofs.Common.{◌≡◌, ltb, leb, rules, length, drop, take, subst, sym, ◌-◌, arith, ℕ}
use Rattle.std.proofs.lemmas.List.{take_all, length-drop}
use Rattle.std.specs.List.Sorted.{IsNonDecreasingBy}
use Rattle.std.proofs.lemmas.List.Sorted.{IsPartitionPoint-from_clause, IsPartitionedBy-ltb, IsPartitionedBy-leb, IsNonDecreasingBy-drop}
use Rattle.explicit_ta.proofs.Lists.{under_key, key_of}
use Rattle.explicit_ta.proofs.upward.under.Goals as goal

pub returns : goal.returns
returns c =
    let pairs = c.args.pairs.now in
    let s = c.args.symbol in
    let from = c.partition_point-from.result in
    let to = c.partition_point-to.result in
    let long = length-drop from pairs in
    let rest : take (length pairs - from) (drop from pairs) ≡ drop from pairs = take_all (length pairs - from) (drop from pairs) (omega arith) in
    let cut = IsPartitionPoint-from_clause (λ (x : ℕ × ℕ). ltb x.0 s) pairs from c.partition_point-from.ensures.partitioned (IsPartitionedBy-ltb key_of pairs s c.requires) (λ a r q k. search rules) in
    let rising : IsNonDecreasingBy key_of (drop from pairs) = IsNonDecreasingBy-drop key_of from pairs c.requires in
    let end = IsPartitionPoint-from_clause (λ (x : ℕ × ℕ). leb x.0 s) (take (length pairs - from) (drop from pairs)) to c.partition_point-to.ensures.partitioned
    (IsPartitionedBy-leb key_of (take (length pairs - from) (drop from pairs)) s (subst (IsNonDecreasingBy key_of) (sym rest) rising)) (λ a r q k. search rules) in
    rw rest (λ a p. under_key key_of pairs s from to c.partition_point-from.ensures.bound cut (rw rest at c.partition_point-to.ensures.bound) (rw rest at end) (a, p))
