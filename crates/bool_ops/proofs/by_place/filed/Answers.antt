use Rattle.std.proofs.Common.{◌≡◌, ◌≢◌, ◌⊎◌, inl, inr, ◌<◌, ◌≤◌, ◌+◌, ◌∙◌, ℕ, List, length, get_or, Contains, refl, sym, ap, subst, arith, ⊎_elim}
use Rattle.std.proofs.lemmas.Bool.{cases_eq}
use Rattle.std.proofs.lemmas.Option.{slice_get_read, slice_get_within, slice_get-get_or}
use Rattle.tree_definitions.specs.Automaton.{Rule}
use Rattle.tree_definitions.specs.Relation.{IsAt}
use Rattle.bool_ops.specs.Filing.{entries_of, slot_of, IsFiledTo}
use Rattle.bool_ops.proofs.Filed.{filed_add, rule_done}
use Rattle.bool_ops.proofs.by_place.filed.Goals as goal

pub add-requires : goal.add-requires
add-requires c =
    let w = slice_get_within c.args.slots.now c.in-Some.n c.slot.result c.in-Some.ensures.found in
    let e = c.loop-i.invariant.size in
    omega (arith, w, e)

pub loop-i-preserved : goal.loop-i-preserved
loop-i-preserved c =
    let rules = c.args.rules.now in
    let r = c.loop-s.s in
    let i = c.loop-i.i in
    let n = c.in-Some.n in
    let lists = c.loop-i.lists in
    let rule = c.index-rules-s.result in
    let list = c.entries-state-items.result.now in
    let q = get_or list i 0 in
    let entries : list ≡ entries_of rule.kids = c.entries-state-items.ensures ∙ ap entries_of (c.as_slice.ensures ∙ ap (λ (o : Rule). o.kids) c.rule.view_is) in
    let at : IsAt rules r rule = slice_get_read rules (length rules) r rule refl c.loop-s-test.true c.index-rules-s.is in
    let there : IsAt (entries_of rule.kids) i q = subst (λ xs. IsAt xs i q) entries (slice_get-get_or list i 0 c.loop-i-test.true) in
    let slot : c.slot.result ≡ slot_of rule.symbol i q = c.slot.ensures ∙ ap (λ (o : Rule). slot_of o.symbol i q) c.rule.view_is in
    let nat : IsAt c.args.slots.now n (slot_of rule.symbol i q) = subst (IsAt c.args.slots.now n) slot c.in-Some.ensures.found in
    let m = filed_add rules (λ s j. (s < r) ⊎ ((s ≡ r) × (j < i))) (λ s j. (s < r) ⊎ ((s ≡ r) × (j < i + 1))) c.args.slots.now lists r rule i q n at there c.requires.slots.distinct nat c.loop-i.invariant
    (λ s j d. elim d [
      | inl l ↦ inl (inl l)
      | inr (e, l) ↦ ⊎_elim (λ (f : j ≡ i). inr (e, f)) (λ (g : j ≢ i). inl (inr (e, omega arith))) (cases_eq j i)
    ]) in
    let P : List (List ℕ) → Type 0 = λ u. IsFiledTo rules (λ s j. (s < r) ⊎ ((s ≡ r) × (j < i + 1))) c.args.slots.now u in
    subst P (sym c.in_ok-add.ensures) m

pub loop-i-preserved-in_default : goal.loop-i-preserved-in_default
loop-i-preserved-in_default c =
    let rules = c.args.rules.now in
    let r = c.loop-s.s in
    let i = c.loop-i.i in
    let rule = c.index-rules-s.result in
    let list = c.entries-state-items.result.now in
    let q = get_or list i 0 in
    let entries : list ≡ entries_of rule.kids = c.entries-state-items.ensures ∙ ap entries_of (c.as_slice.ensures ∙ ap (λ (o : Rule). o.kids) c.rule.view_is) in
    let at : IsAt rules r rule = slice_get_read rules (length rules) r rule refl c.loop-s-test.true c.index-rules-s.is in
    let there : IsAt (entries_of rule.kids) i q = subst (λ xs. IsAt xs i q) entries (slice_get-get_or list i 0 c.loop-i-test.true) in
    let slot : c.slot.result ≡ slot_of rule.symbol i q = c.slot.ensures ∙ ap (λ (o : Rule). slot_of o.symbol i q) c.rule.view_is in
    absurd (c.in_default.ensures.none (subst (Contains c.args.slots.now) (sym slot) (c.requires.slots.whole r rule i q at there tt)))

pub loop-s-preserved : goal.loop-s-preserved
loop-s-preserved c =
    let rules = c.args.rules.now in
    let r = c.loop-s.s in
    let rule = c.index-rules-s.result in
    let list = c.entries-state-items.result.now in
    let entries : list ≡ entries_of rule.kids = c.entries-state-items.ensures ∙ ap entries_of (c.as_slice.ensures ∙ ap (λ (o : Rule). o.kids) c.rule.view_is) in
    let at : IsAt rules r rule = slice_get_read rules (length rules) r rule refl c.loop-s-test.true c.index-rules-s.is in
    let l : length (entries_of rule.kids) ≤ c.loop-i.i = subst (λ xs. length xs ≤ c.loop-i.i) entries c.loop-i-test.false in
    record {
      size = c.loop-i.invariant.size;
      within = c.loop-i.invariant.within;
      whole = λ s other i q sat iat d. c.loop-i.invariant.whole s other i q sat iat (rule_done rules r rule c.loop-i.i at l s other i q sat iat d);
    }

pub returns : goal.returns
returns c = record {
  size = c.loop-s.invariant.size;
  within = c.loop-s.invariant.within;
  whole = λ s rule i q sat iat d. c.loop-s.invariant.whole s rule i q sat iat (let w = slice_get_within c.args.rules.now s rule sat in omega (arith, w, c.loop-s-test.false));
}
