use Rattle.std.proofs.Common.{◌≡◌, ◌↔◌, ◌≤◌, ltb, leb, rules, length, drop, take, ap, subst, sym, ◌∙◌, ◌-◌, arith, ℕ, List}
use Rattle.std.specs.Prelude.{Contains}
use Rattle.std.proofs.lemmas.List.{take_all, length-drop}
use Rattle.std.specs.List.Sorted.{IsNonDecreasingBy, IsSorted}
use Rattle.std.proofs.lemmas.List.Sorted.{IsPartitionPoint-from_clause, IsPartitionedBy-ltb, IsPartitionedBy-leb, IsNonDecreasingBy-drop}
use Rattle.tree_definitions.specs.Automaton.{Rule}
use Rattle.explicit_ta.specs.Steps.{step_cmp}
use Rattle.explicit_ta.proofs.Lists.{under_key}
use Rattle.explicit_ta.proofs.Stepping.{firsts_rise, steps_by_symbol}
use Rattle.explicit_ta.proofs.steps.Steps.under.Goals as goal

abbrev symbol_of : Rule → ℕ
symbol_of r = r.symbol

pub returns : goal.returns
returns c =
    let items = c.self.inside.rules.items in
    let seen = c.deref-2.result.now in
    let s = c.args.symbol in
    let from = c.partition_point-from.result in
    let to = c.partition_point-to.result in
    let sorted : IsSorted step_cmp items = c.self.invariant in
    let rising : IsNonDecreasingBy symbol_of items = steps_by_symbol items sorted in
    let low : from ≤ length items = subst (λ (l : List Rule). from ≤ length l) c.deref.ensures.value c.partition_point-from.ensures.bound in
    let long = length-drop from items in
    let rest : take (length items - from) (drop from items) ≡ drop from items = take_all (length items - from) (drop from items) (omega arith) in
    let part : take (length seen - from) (drop from seen) ≡ drop from items = ap (λ (l : List Rule). take (length l - from) (drop from l)) c.deref-2.ensures.value ∙ rest in
    let cut = IsPartitionPoint-from_clause (λ (r : Rule). ltb r.symbol s) c.deref.result.now from c.partition_point-from.ensures.partitioned
    (IsPartitionedBy-ltb symbol_of c.deref.result.now s (subst (IsNonDecreasingBy symbol_of) (sym c.deref.ensures.value) rising)) (λ a r q k. search rules) in
    let end = IsPartitionPoint-from_clause (λ (r : Rule). leb r.symbol s) (take (length seen - from) (drop from seen)) to c.partition_point-to.ensures.partitioned
    (IsPartitionedBy-leb symbol_of (take (length seen - from) (drop from seen)) s (subst (IsNonDecreasingBy symbol_of) (sym part) (IsNonDecreasingBy-drop symbol_of from items rising))) (λ a r q k. search rules) in
    let within : to ≤ length (drop from items) = subst (λ (l : List Rule). to ≤ length l) part c.partition_point-to.ensures.bound in
    let members : (r : Rule) → Contains (take to (drop from items)) r ↔ (Contains items r × (r.symbol ≡ s)) =
    under_key symbol_of items s from to low (rw c.deref.ensures.value at cut) within (rw part at end) in
    rw (part, ← c.self.view_is) (record {
      members = members;
      rising = firsts_rise items s from to sorted (λ r m. ((members r).0 m).1);
    })
