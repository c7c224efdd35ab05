use Rattle.std.proofs.Common.{◌≡◌, ◌≢◌, inl, inr, List, length, get_or, refl, sym, ap, subst, arith, ⊎_elim}
use Rattle.std.proofs.lemmas.Bool.{cases_eq}
use Rattle.std.proofs.lemmas.Option.{slice_get-get_or, slice_get_read, slice_get_within}
use Rattle.tree_definitions.specs.Automaton.{Rule}
use Rattle.tree_definitions.specs.Relation.{Has, IsAt}
use Rattle.tree_definitions.proofs.Members.{at_unique}
use Rattle.down_conditions.proofs.downs.rules_to.Goals as goal

pub loop-r-preserved : goal.loop-r-preserved
loop-r-preserved c x =
    let rules = c.args.b.now.rules in
    let list = c.args.list.now in
    let set = c.args.set.now in
    let i = c.loop-r.r-index in
    let r = get_or list i 0 in
    let lat : IsAt list i r = slice_get-get_or list i 0 c.loop-r-test.true in
    let rule = c.index-rules-r.result in
    let all = c.rules.result.now in
    let long = ap (λ (xs : List Rule). length xs) c.rules.ensures.value in
    let l = c.requires.list i 0 c.loop-r-test.true in
    let read : IsAt all r rule = slice_get_read all (length all) r rule refl (omega (arith, l, long)) c.index-rules-r.is in
    let at : IsAt rules r rule = subst (λ (xs : List Rule). IsAt xs r rule) c.rules.ensures.value read in (
      λ h. elim ((c.in_ok-keep.ensures x).0 h) [
        | inl old ↦ (let k = (c.loop-r.invariant x).0 old in (k.0, k.1, (let w = k.2 in omega (arith, w)), k.3, k.4, k.5))
        | inr new ↦ (i, rule, omega arith, subst (IsAt list i) (sym new.0) lat, subst (λ z. IsAt rules z rule) (sym new.0) at, new.1)
      ],
      λ k. ⊎_elim
          (λ (e : k.0 ≡ i).
          let same : x ≡ r = at_unique list i x r (subst (λ z. IsAt list z x) e k.3) lat in
          let which : k.1 ≡ rule = at_unique rules r k.1 rule (subst (λ z. IsAt rules z k.1) same k.4) at in
          (c.in_ok-keep.ensures x).1 (inr (same, subst (λ (o : Rule). Has set o.parent) which k.5)))
          (λ (d : k.0 ≢ i). (c.in_ok-keep.ensures x).1 (inl ((c.loop-r.invariant x).1 (k.0, k.1, (let w = k.2 in omega (arith, w, d)), k.3, k.4, k.5))))
          (cases_eq k.0 i),
    )

pub returns : goal.returns
returns c r = (
  λ h. let k = (c.loop-r.invariant r).0 h in (k.0, k.1, slice_get_within c.args.list.now k.0 r k.3, k.3, k.4, k.5),
  λ k. (c.loop-r.invariant r).1 (k.0, k.1, (let w = k.2 in omega (arith, w, c.loop-r-test.false)), k.3, k.4, k.5),
)
