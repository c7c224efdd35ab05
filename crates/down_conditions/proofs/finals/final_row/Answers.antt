use Rattle.std.proofs.Common.{◌≡◌, ◌≢◌, ◌+◌, inl, inr, get_or, ap, ◌∙◌, subst, arith, ⊎_elim}
use Rattle.std.proofs.lemmas.Bool.{cases_eq}
use Rattle.std.proofs.lemmas.Option.{slice_get-get_or, slice_get_within}
use Rattle.tree_definitions.specs.Relation.{IsAt}
use Rattle.tree_definitions.proofs.Members.{at_unique, contains_at, place_of}
use Rattle.down_conditions.proofs.finals.final_row.Goals as goal

pub loop-q-preserved : goal.loop-q-preserved
loop-q-preserved c =
    let places = c.args.places.now in
    let m = c.args.m in
    let i = c.loop-q.q-index in
    let q = get_or places i 0 in
    let at : IsAt places i q = slice_get-get_or places i 0 c.loop-q-test.true in
    let inv = c.loop-q.invariant in
    record {
      long = c.set.ensures.long ∙ inv.long;
      members = λ s. (
        λ h. elim ((c.set.ensures.members s).0 h) [
          | inl e ↦ (q, e, (i, omega arith, at))
          | inr old ↦ let k = (inv.members s).0 old in (k.0, k.1, (k.2.0, (let l = k.2.1 in omega (arith, l)), k.2.2))
        ],
        λ k. ⊎_elim
            (λ (e : k.2.0 ≡ i). (c.set.ensures.members s).1 (inl (k.1 ∙ ap (λ z. m + z) (at_unique places i k.0 q (subst (λ z. IsAt places z k.0) e k.2.2) at))))
            (λ (d : k.2.0 ≢ i). (c.set.ensures.members s).1 (inr ((inv.members s).1 (k.0, k.1, (k.2.0, (let l = k.2.1 in omega (arith, l, d)), k.2.2)))))
            (cases_eq k.2.0 i),
      );
    }

pub returns-clause-members : goal.returns-clause-members
returns-clause-members c s =
    let places = c.args.places.now in
    let inv = c.loop-q.invariant in (
      λ h. let k = (inv.members s).0 h in (k.0, k.1, contains_at places k.2.0 k.0 k.2.2),
      λ h.
          let k = place_of places h.0 h.2 in
          let w = slice_get_within places k.0 h.0 k.1 in
          (inv.members s).1 (h.0, h.1, (k.0, omega (arith, w, c.loop-q-test.false), k.1)),
    )
