use Rattle.std.proofs.Common.{◌≡◌, ◌≢◌, inl, inr, ℕ, [], ◌∷◌, ◌++◌, length, get_or, refl, sym, ap, ◌∙◌, subst, arith, ⊎_elim}
use Rattle.std.specs.Prelude.{Contains}
use Rattle.std.proofs.lemmas.Bool.{cases_eq}
use Rattle.std.proofs.lemmas.List.{map-append}
use Rattle.std.proofs.lemmas.List.Elements.{Contains-push, Contains-push_cases, Contains-append_left}
use Rattle.std.proofs.lemmas.Option.{slice_get-get_or, slice_get_read, slice_get_within}
use Rattle.smallvec.specs.SmallVec.{SmallVec}
use Rattle.tree_definitions.specs.Automaton.{Rule}
use Rattle.tree_definitions.specs.Relation.{IsAt}
use Rattle.tree_definitions.proofs.Members.{at_unique, contains_at, place_of}
use Rattle.ta_model.specs.Tuples.{kids_of}
use Rattle.down_trails.proofs.tuples.kids_at.Goals as goal

pub loop-r-preserved : goal.loop-r-preserved
loop-r-preserved c tuple =
    let rules = c.args.rules.now in
    let list = c.args.list.now in
    let i = c.loop-r.r-index in
    let r = get_or list i 0 in
    let lat : IsAt list i r = slice_get-get_or list i 0 c.loop-r-test.true in
    let rule = c.index-rules-r.result in
    let at : IsAt rules r rule = slice_get_read rules (length rules) r rule refl (c.requires i 0 c.loop-r-test.true) c.index-rules-r.is in
    let new = c.in_ok-kids.kids in
    let old = c.loop-r.tuples.items in
    let its : new.items ≡ rule.kids = c.in_ok-kids.ensures.ok ∙ c.as_slice.ensures ∙ ap (λ (o : Rule). o.kids) c.rule.view_is in
    let all : kids_of c.push.new.self.items ≡ kids_of old ++ new.items ∷ [] = ap kids_of c.in_ok-push.ensures.items ∙ map-append (λ (v : SmallVec ℕ). v.items) old (new ∷ []) in (
      λ h. elim (Contains-push_cases (kids_of old) new.items tuple (subst (λ xs. Contains xs tuple) all h)) [
        | inl m ↦ let k = (c.loop-r.invariant tuple).0 m in (k.0, k.1, k.2, (let l = k.3 in omega (arith, l)), k.4, k.5, k.6)
        | inr e ↦ (i, r, rule, omega arith, lat, at, sym its ∙ e)
      ],
      λ k. subst (λ xs. Contains xs tuple) (sym all)
          (⊎_elim
          (λ (e : k.0 ≡ i).
          let same : k.1 ≡ r = at_unique list i k.1 r (subst (λ z. IsAt list z k.1) e k.4) lat in
          let which : k.2 ≡ rule = at_unique rules r k.2 rule (subst (λ z. IsAt rules z k.2) same k.5) at in
          subst (Contains (kids_of old ++ new.items ∷ [])) (its ∙ sym (ap (λ (o : Rule). o.kids) which) ∙ k.6) (Contains-push (kids_of old) new.items))
          (λ (d : k.0 ≢ i). Contains-append_left (kids_of old) (new.items ∷ []) tuple ((c.loop-r.invariant tuple).1 (k.0, k.1, k.2, (let l = k.3 in omega (arith, l, d)), k.4, k.5, k.6)))
          (cases_eq k.0 i)),
    )

pub returns : goal.returns
returns c tuple = (
  λ h. let k = (c.loop-r.invariant tuple).0 h in (k.1, k.2, contains_at c.args.list.now k.0 k.1 k.4, k.5, k.6),
  λ k.
      let p = place_of c.args.list.now k.0 k.2 in
      let w = slice_get_within c.args.list.now p.0 k.0 p.1 in
      (c.loop-r.invariant tuple).1 (p.0, k.0, k.1, omega (arith, w, c.loop-r-test.false), p.1, k.3, k.4),
)
