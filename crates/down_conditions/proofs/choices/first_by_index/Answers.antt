use Rattle.std.proofs.Common.{◌≡◌, ◌≢◌, length, refl, sym, ap, subst, arith, ⊎_elim}
use Rattle.std.specs.Prelude.{not}
use Rattle.std.proofs.lemmas.Bool.{cases_eq}
use Rattle.std.proofs.lemmas.Option.{slice_get_read, slice_get_within}
use Rattle.tree_definitions.specs.Cover.{Pair}
use Rattle.tree_definitions.specs.Relation.{Holds, IsAt}
use Rattle.tree_definitions.proofs.Members.{at_unique, place_of}
use Rattle.down_conditions.specs.Refuting.{IsSplitCovered}
use Rattle.down_conditions.proofs.choices.first_by_index.Goals as goal

pub returns-in-Ok-true-clause-some : goal.returns-in-Ok-true-clause-some
returns-in-Ok-true-clause-some c =
    let pairs = c.args.pairs.now in
    let i = c.loop-at.at in
    let pair = c.index-pairs-at.result in
    let at : IsAt pairs i pair = slice_get_read pairs (length pairs) i pair refl c.loop-at-test.true c.index-pairs-at.is in
    let lat = subst (λ z. IsAt c.args.by_parent.now z c.at-list.result.now) (ap (λ (o : Pair). o.state) c.pair.view_is) c.at-list.ensures in
    record {
      here = (i, pair, omega arith, at, c.in-Ok-true.ensures.refuted c.in-Ok-true.field-0-test c.args.by_parent.now pairs c.requires.by_parent lat c.requires.shifted);
      none_before = λ k l h.
          let e = h.2 in
          let covered = c.loop-at.invariant h.0 h.1 (omega (arith, l, e)) h.3 in
          let r = h.4 in
          let hit = covered r.0 r.1 r.2 r.3 r.4.within in
          r.4.uncovered hit.0 hit.1 hit.2 hit.3;
    }

pub loop-at-preserved : goal.loop-at-preserved
loop-at-preserved c k other l kat =
    let pairs = c.args.pairs.now in
    let i = c.loop-at.at in
    let pair = c.index-pairs-at.result in
    let at : IsAt pairs i pair = slice_get_read pairs (length pairs) i pair refl c.loop-at-test.true c.index-pairs-at.is in
    let lat = subst (λ z. IsAt c.args.by_parent.now z c.at-list.result.now) (ap (λ (o : Pair). o.state) c.pair.view_is) c.at-list.ensures in
    ⊎_elim
    (λ (e : k ≡ i).
    let which : other ≡ pair = at_unique pairs i other pair (subst (λ j. IsAt pairs j other) e kat) at in
    subst (IsSplitCovered c.args.a.now c.args.b.now (Holds c.args.both.now) pairs) (sym which)
    (c.in-Ok-false.ensures.covered (ap not c.in-Ok-false.field-0-test) c.args.by_parent.now pairs c.requires.by_parent lat c.requires.shifted))
    (λ (d : k ≢ i). c.loop-at.invariant k other (omega arith) kat)
    (cases_eq k i)

pub returns-clause-none : goal.returns-clause-none
returns-clause-none c pair m =
    let k = place_of c.args.pairs.now pair m in
    let w = slice_get_within c.args.pairs.now k.0 pair k.1 in
    c.loop-at.invariant k.0 pair (omega (arith, w, c.loop-at-test.false)) k.1
