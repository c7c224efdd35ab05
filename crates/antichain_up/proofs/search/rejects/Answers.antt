use Rattle.std.proofs.Common.{◌≡◌, ◌≢◌, ◌<◌, ◌≤◌, false, true, refl, sym, subst, arith, ⊎_elim}
use Rattle.std.proofs.lemmas.Bool.{cases_eq, cases_lt}
use Rattle.std.proofs.lemmas.Option.{slice_get_within}
use Rattle.tree_definitions.specs.Automaton.{IsFinal}
use Rattle.tree_definitions.specs.Relation.{Has, Row}
use Rattle.antichain_up.proofs.Stepping.{at_row}
use Rattle.antichain_up.proofs.search.rejects.Goals as goal

pub loop-s-preserved : goal.loop-s-preserved
loop-s-preserved g c =
    let s = c.in-Some.s in
    let w = slice_get_within c.row-row.result.now s true c.in-Some.ensures.least.set in
    let B = g.J.Joint.right c.args.j.now in
    let here : ¬ IsFinal B s = λ f. let e : false ≡ true = c.if-right_final.ensures.1 f in absurd cc in
    record {
      up = omega (arith, w);
      none = λ k l h. ⊎_elim
          (λ (e : k ≡ s). subst (λ x. ¬ IsFinal B x) (sym e) here)
          (λ (d : k ≢ s). ⊎_elim
          (λ (early : k < c.loop-s.from). c.loop-s.invariant.none k early h)
          (λ (late : c.loop-s.from ≤ k). let least = c.in-Some.ensures.least.least k late h in absurd (omega (arith, least, l, d)))
          (cases_lt k c.loop-s.from))
          (cases_eq k s);
    }

pub returns : goal.returns
returns g c = (
  λ t. record {
    final = c.if-not-left_final.ensures.0 refl;
    none = λ s h.
        let same = at_row c.args.store.now c.args.set c.row-row.result.now c.row-row.ensures.value in
        let m : Has c.row-row.result.now s = subst (λ (row : Row). Has row s) same h in
        ⊎_elim
        (λ (early : s < c.loop-s.from). c.loop-s.invariant.none s early m)
        (λ (late : c.loop-s.from ≤ s). absurd (c.in_default.ensures.none.0 refl s late m))
        (cases_lt s c.loop-s.from);
  },
  λ h. refl,
)
