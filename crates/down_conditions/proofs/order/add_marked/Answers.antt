use Rattle.std.proofs.Common.{◌≡◌, ◌≢◌, inl, inr, get_or, sym, subst, arith, ⊎_elim}
use Rattle.std.proofs.lemmas.Bool.{cases_eq}
use Rattle.std.proofs.lemmas.Option.{slice_get-get_or, slice_get_within}
use Rattle.tree_definitions.specs.Relation.{IsAt}
use Rattle.tree_definitions.proofs.Members.{at_unique}
use Rattle.down_conditions.proofs.order.add_marked.Goals as goal

pub loop-k-preserved : goal.loop-k-preserved
loop-k-preserved c x =
    let list = c.args.list.now in
    let marks = c.args.marks.now in
    let mark = c.args.mark in
    let i = c.loop-k.k in
    let r = get_or list i 0 in
    let lat : IsAt list i r = slice_get-get_or list i 0 c.loop-k-test.true in
    let got = c.get.ensures.value in (
      λ h. elim ((c.in_ok-add_wanted.ensures x).0 h) [
        | inl before ↦ elim ((c.loop-k.invariant x).0 before) [
          | inl old ↦ inl old
          | inr k ↦ inr (k.0, (let l = k.1 in omega (arith, l)), k.2, k.3)
        ]
        | inr new ↦ inr (i, omega arith, subst (IsAt list i) (sym new.0) lat, subst (IsAt marks i) new.1 got)
      ],
      λ h. elim h [
        | inl old ↦ (c.in_ok-add_wanted.ensures x).1 (inl ((c.loop-k.invariant x).1 (inl old)))
        | inr k ↦ ⊎_elim
            (λ (e : k.0 ≡ i). (c.in_ok-add_wanted.ensures x).1 (inr (
              at_unique list i x r (subst (λ z. IsAt list z x) e k.2) lat,
              at_unique marks i c.get.result mark got (subst (λ z. IsAt marks z mark) e k.3),
            )))
            (λ (d : k.0 ≢ i). (c.in_ok-add_wanted.ensures x).1 (inl ((c.loop-k.invariant x).1 (inr (k.0, (let l = k.1 in omega (arith, l, d)), k.2, k.3)))))
            (cases_eq k.0 i)
      ],
    )

pub returns : goal.returns
returns c x = (
  λ h. elim ((c.loop-k.invariant x).0 h) [ inl old ↦ inl old | inr k ↦ inr (k.0, k.2, k.3) ],
  λ h. elim h [
    | inl old ↦ (c.loop-k.invariant x).1 (inl old)
    | inr k ↦
        let w = slice_get_within c.args.list.now k.0 x k.1 in
        (c.loop-k.invariant x).1 (inr (k.0, omega (arith, w, c.loop-k-test.false), k.1, k.2))
  ],
)
