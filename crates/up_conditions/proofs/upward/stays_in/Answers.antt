use Rattle.std.proofs.Common.{◌≡◌, ◌≢◌, get_or, refl, sym, ◌∙◌, subst, arith, ⊎_elim}
use Rattle.std.proofs.lemmas.Bool.{cases_eq}
use Rattle.std.proofs.lemmas.Option.{slice_get-get_or, slice_get_within}
use Rattle.tree_definitions.specs.Relation.{Holds, IsAt}
use Rattle.tree_definitions.proofs.Members.{at_unique, contains_at, place_of}
use Rattle.up_conditions.proofs.upward.stays_in.Goals as goal

pub returns-then-not-subset_of : goal.returns-then-not-subset_of
returns-then-not-subset_of c = (
  λ t. absurd cc,
  λ h.
      let finals = c.args.finals.now in
      let i = c.loop-q.q-index in
      let q = get_or finals i 0 in
      let at : IsAt finals i q = slice_get-get_or finals i 0 c.loop-q-test.true in
      sym c.if-not-subset_of.true ∙ c.subset_of.ensures.1 (λ s m. h q s ((c.row.ensures.members s).0 m) (contains_at finals i q at)),
)

pub loop-q-preserved : goal.loop-q-preserved
loop-q-preserved c k x r l kat h =
    let finals = c.args.finals.now in
    let i = c.loop-q.q-index in
    let q = get_or finals i 0 in
    let at : IsAt finals i q = slice_get-get_or finals i 0 c.loop-q-test.true in
    ⊎_elim
    (λ (e : k ≡ i).
    let same : x ≡ q = at_unique finals i x q (subst (λ j. IsAt finals j x) e kat) at in
    c.subset_of.ensures.0 c.if-not-subset_of.false r ((c.row.ensures.members r).1 (subst (λ z. Holds c.args.sim.now z r) same h)))
    (λ (d : k ≢ i). c.loop-q.invariant k x r (omega arith) kat h)
    (cases_eq k i)

pub returns : goal.returns
returns c = (
  λ t q r h m.
      let finals = c.args.finals.now in
      let k = place_of finals q m in
      let w = slice_get_within finals k.0 q k.1 in
      c.loop-q.invariant k.0 q r (omega (arith, w, c.loop-q-test.false)) k.1 h,
  λ h. refl,
)
