use Rattle.std.proofs.Common.{◌≡◌, true, get_or, refl, sym, subst, arith, below_more}
use Rattle.std.proofs.lemmas.Bool.{false≢true}
use Rattle.tree_definitions.specs.Relation.{Row, Has}
use Rattle.ta_model.specs.Macrostates.{row_at}
use Rattle.ta_model.proofs.Interning.{row_read}
use Rattle.explicit_ta.proofs.Stepping.{not_as_long, zip_from_places, zip_place}
use Rattle.explicit_ta.proofs.steps.are_in_sets.Goals as goal

pub returns-then-sets-kids : goal.returns-then-sets-kids
returns-then-sets-kids c = (
  λ t. absurd (false≢true t),
  λ z. absurd (not_as_long c.args.store.now c.args.sets.now c.args.kids.now c.if-sets-kids.true z),
)

pub returns-then-not-get : goal.returns-then-not-get
returns-then-not-get c = (
  λ t. absurd (false≢true t),
  λ z.
      let i = c.loop-i.i in
      let sets = c.args.sets.now in
      let kids = c.args.kids.now in
      let here : Has (row_at c.args.store.now (get_or sets i 0)) (get_or kids i 0) = zip_place c.args.store.now sets kids z i c.loop-i-test.true in
      let is = row_read c.args.store.now (get_or sets i 0) c.row.result.now c.row.ensures.value in
      let got : c.get.result ≡ true = c.get.ensures.set.1 (subst (λ (row : Row). Has row (get_or kids i 0)) is here) in
      cc,
)

pub loop-i-preserved : goal.loop-i-preserved
loop-i-preserved c =
    let i = c.loop-i.i in
    let sets = c.args.sets.now in
    let kids = c.args.kids.now in
    let is = row_read c.args.store.now (get_or sets i 0) c.row.result.now c.row.ensures.value in
    below_more _ _ c.loop-i.invariant (subst (λ (row : Row). Has row (get_or kids i 0)) (sym is) (c.get.ensures.set.0 c.if-not-get.false))

pub returns : goal.returns
returns c = (
  λ t. zip_from_places c.args.store.now c.args.sets.now c.args.kids.now c.if-sets-kids.false (λ k lt. c.loop-i.invariant k (omega (arith, lt, c.loop-i-test.false))),
  λ z. refl,
)
