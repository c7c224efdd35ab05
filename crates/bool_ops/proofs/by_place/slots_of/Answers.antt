use Rattle.std.proofs.Common.{◌≡◌, ◌≢◌, ◌⊎◌, inl, inr, ◌<◌, ◌≤◌, ◌+◌, ◌∙◌, length, get_or, refl, ap, subst, arith, ⊎_elim}
use Rattle.std.proofs.lemmas.Bool.{cases_eq}
use Rattle.std.proofs.lemmas.Option.{slice_get_read, slice_get_within, slice_get-get_or}
use Rattle.tree_definitions.specs.Automaton.{Rule}
use Rattle.tree_definitions.specs.Product.{Both}
use Rattle.tree_definitions.specs.Relation.{IsAt}
use Rattle.bool_ops.specs.Closing.{Adds}
use Rattle.bool_ops.specs.Filing.{entries_of, slot_of}
use Rattle.bool_ops.proofs.Filed.{slots_add, rule_done}
use Rattle.bool_ops.proofs.by_place.slots_of.Goals as goal

pub loop-i-preserved : goal.loop-i-preserved
loop-i-preserved c =
    let rules = c.args.rules.now in
    let r = c.loop-rule.rule-index in
    let i = c.loop-i.i in
    let rule = c.rule-item.result in
    let list = c.entries-state-items.result.now in
    let q = get_or list i 0 in
    let entries : list ≡ entries_of rule.kids = c.entries-state-items.ensures ∙ ap entries_of (c.as_slice.ensures ∙ ap (λ (o : Rule). o.kids) c.rule.view_is) in
    let at : IsAt rules r rule = slice_get_read rules (length rules) r rule refl c.loop-rule-test.true c.rule-item.is in
    let there : IsAt (entries_of rule.kids) i q = subst (λ xs. IsAt xs i q) entries (slice_get-get_or list i 0 c.loop-i-test.true) in
    let slot : c.slot.result ≡ slot_of rule.symbol i q = c.slot.ensures ∙ ap (λ (o : Rule). slot_of o.symbol i q) c.rule.view_is in
    slots_add rules (λ s j. (s < r) ⊎ ((s ≡ r) × (j < i))) (λ s j. (s < r) ⊎ ((s ≡ r) × (j < i + 1))) c.loop-i.slots c.add.new.self r rule i q at there c.loop-i.invariant
    (subst (λ (x : Both). Adds c.loop-i.slots x c.add.new.self) slot c.in_ok-add.ensures.ok)
    (λ s j d. elim d [
      | inl l ↦ inl (inl l)
      | inr (e, l) ↦ ⊎_elim (λ (f : j ≡ i). inr (e, f)) (λ (g : j ≢ i). inl (inr (e, omega arith))) (cases_eq j i)
    ])

pub loop-rule-preserved : goal.loop-rule-preserved
loop-rule-preserved c =
    let rules = c.args.rules.now in
    let r = c.loop-rule.rule-index in
    let rule = c.rule-item.result in
    let list = c.entries-state-items.result.now in
    let entries : list ≡ entries_of rule.kids = c.entries-state-items.ensures ∙ ap entries_of (c.as_slice.ensures ∙ ap (λ (o : Rule). o.kids) c.rule.view_is) in
    let at : IsAt rules r rule = slice_get_read rules (length rules) r rule refl c.loop-rule-test.true c.rule-item.is in
    let l : length (entries_of rule.kids) ≤ c.loop-i.i = subst (λ xs. length xs ≤ c.loop-i.i) entries c.loop-i-test.false in
    record {
      distinct = c.loop-i.invariant.distinct;
      whole = λ s other i q sat iat d. c.loop-i.invariant.whole s other i q sat iat (rule_done rules r rule c.loop-i.i at l s other i q sat iat d);
    }

pub returns : goal.returns
returns c = record {
  distinct = c.loop-rule.invariant.distinct;
  whole = λ s rule i q sat iat d. c.loop-rule.invariant.whole s rule i q sat iat (let w = slice_get_within c.args.rules.now s rule sat in omega (arith, w, c.loop-rule-test.false));
}
