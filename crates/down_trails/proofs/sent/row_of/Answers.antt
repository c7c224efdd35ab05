use Rattle.std.proofs.Common.{◌≡◌, ◌≢◌, inl, inr, get_or, ◌∙◌, subst, arith, ⊎_elim}
use Rattle.std.proofs.lemmas.Bool.{cases_eq}
use Rattle.std.proofs.lemmas.Option.{slice_get-get_or, slice_get_within}
use Rattle.tree_definitions.specs.Relation.{IsAt}
use Rattle.tree_definitions.proofs.Members.{at_unique, contains_at, place_of}
use Rattle.down_trails.proofs.sent.row_of.Goals as goal

pub loop-q-preserved : goal.loop-q-preserved
loop-q-preserved c =
    let finals = c.args.places.now in
    let i = c.loop-q.q-index in
    let q = get_or finals i 0 in
    let at : IsAt finals i q = slice_get-get_or finals i 0 c.loop-q-test.true in
    let inv = c.loop-q.invariant in
    record {
      long = c.set.ensures.long ∙ inv.long;
      members = λ s. (
        λ h. elim ((c.set.ensures.members s).0 h) [
          | inl e ↦ (i, omega arith, subst (λ z. IsAt finals i z) (let f : q ≡ s = cc in f) at)
          | inr old ↦ let k = (inv.members s).0 old in (k.0, (let l = k.1 in omega (arith, l)), k.2)
        ],
        λ k. ⊎_elim
            (λ (e : k.0 ≡ i). (c.set.ensures.members s).1 (inl (at_unique finals i s q (subst (λ z. IsAt finals z s) e k.2) at)))
            (λ (d : k.0 ≢ i). (c.set.ensures.members s).1 (inr ((inv.members s).1 (k.0, (let l = k.1 in omega (arith, l, d)), k.2))))
            (cases_eq k.0 i),
      );
    }

pub returns-clause-members : goal.returns-clause-members
returns-clause-members c q =
    let finals = c.args.places.now in
    let inv = c.loop-q.invariant in (
      λ h. let k = (inv.members q).0 h in contains_at finals k.0 q k.2,
      λ h.
          let k = place_of finals q h in
          let w = slice_get_within finals k.0 q k.1 in
          (inv.members q).1 (k.0, omega (arith, w, c.loop-q-test.false), k.1),
    )
