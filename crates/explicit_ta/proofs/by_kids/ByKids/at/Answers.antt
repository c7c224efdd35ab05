use Rattle.std.proofs.Common.{◌≡◌, ◌-◌, ◌≤◌, ◌∙◌, ap, arith, drop, false, length, rules, subst, sym, take, true}
use Rattle.std.specs.List.Sorted.{IsNonDecreasingBy, IsPartitionedBy, IsPartitionPoint, IsSorted}
use Rattle.std.proofs.lemmas.List.{length-drop, take_all}
use Rattle.std.proofs.lemmas.List.Sorted.{IsNonDecreasingBy-drop, IsPartitionPoint-from_clause}
use Rattle.tree_definitions.specs.Automaton.{Rule}
use Rattle.explicit_ta.specs.Index.{children_cmp}
use Rattle.explicit_ta.proofs.Children.{is_before, is_up_to, parted_before, parted_up_to, rank_at, ranks_rise, symbols_rise, with_children}
use Rattle.explicit_ta.proofs.Stepping.{apart_part}
use Rattle.explicit_ta.proofs.by_kids.ByKids.at.Goals as goal

pub returns : goal.returns
returns c =
    let items = c.self.inside.rules.items in
    let seen = c.deref-2.result.now in
    let kids = c.args.kids.now in
    let from = c.partition_point-from.result in
    let to = c.partition_point-to.result in
    let sorted : IsSorted children_cmp items = c.self.invariant in
    let ranks : IsNonDecreasingBy (rank_at kids) items = ranks_rise items kids sorted in
    let low : from ≤ length items = subst (λ l. from ≤ length l) c.deref.ensures.value c.partition_point-from.ensures.bound in
    let cut = IsPartitionPoint-from_clause (is_before kids) c.deref.result.now from c.partition_point-from.ensures.partitioned
    (rw c.deref.ensures.value (parted_before items kids ranks)) (λ a r q k. search rules) in
    let long = length-drop from items in
    let rest : take (length items - from) (drop from items) ≡ drop from items = take_all (length items - from) (drop from items) (omega arith) in
    let part : take (length seen - from) (drop from seen) ≡ drop from items = ap (λ l. take (length l - from) (drop from l)) c.deref-2.ensures.value ∙ rest in
    let parted : IsPartitionedBy (is_up_to kids) (drop from items) = parted_up_to (drop from items) kids (IsNonDecreasingBy-drop (rank_at kids) from items ranks) in
    let end = IsPartitionPoint-from_clause (is_up_to kids) (take (length seen - from) (drop from seen)) to c.partition_point-to.ensures.partitioned
    (subst (IsPartitionedBy (is_up_to kids)) (sym part) parted) (λ a r q k. search rules) in
    let within : to ≤ length (drop from items) = subst (λ l. to ≤ length l) part c.partition_point-to.ensures.bound in
    let members = with_children items kids from to low
    (subst (λ l. IsPartitionPoint (λ (r : Rule). is_before kids r ≡ true) (λ (r : Rule). is_before kids r ≡ false) l from) c.deref.ensures.value cut) within
    (subst (λ l. IsPartitionPoint (λ (r : Rule). is_up_to kids r ≡ true) (λ (r : Rule). is_up_to kids r ≡ false) l to) part end) in
    rw (part, ← c.self.view_is) (record {
      members = members;
      rising = symbols_rise items kids from to sorted (λ r m. ((members r).0 m).1);
      distinct = λ apart. apart_part items from to apart;
    })
