use Rattle.std.proofs.Common.{◌≡◌, ◌≢◌, ◌+◌, ◌-◌, ◌<◌, ◌≤◌, ℕ, List, true, length, sym, ap, ◌∙◌, subst, arith, ⊎_elim}
use Rattle.std.proofs.lemmas.Bool.{cases_eq, cases_lt}
use Rattle.std.proofs.lemmas.Option.{slice_get_within}
use Rattle.tree_definitions.specs.Automaton.{Rule}
use Rattle.tree_definitions.specs.Relation.{Has, Holds}
use Rattle.down_conditions.specs.Between.{IsAnswered}
use Rattle.down_conditions.proofs.between.answered_all.Goals as goal

pub returns-then-not-has_answer : goal.returns-then-not-has_answer
returns-then-not-has_answer c a sought = (
  λ t. absurd cc,
  λ down.
      let R = Holds c.args.both.now in
      let l = c.args.l in
      let h = c.args.h in
      let r = c.in-Some.r in
      let parent : c.rule.inside.parent ≡ c.args.rule.now.parent = ap (λ (o : Rule). o.parent) c.rule.view_is in
      let states = ap (λ (xs : List (List ℕ)). length xs) c.states.ensures.value in
      let up : R (l + c.rule.inside.parent) r = (c.row.ensures.members r).0 c.in-Some.ensures.least.set in
      let from = c.in-Some.ensures.least.from_on in
      let past = c.loop-r.invariant.down in
      let same : h + (r - h) ≡ r = omega (arith, from, past) in
      let low : r - h < length c.args.high.now.states = omega (arith, from, past, states, c.if-r-end.false) in
      let here : R (l + c.args.rule.now.parent) (h + (r - h)) = subst (R (l + c.args.rule.now.parent)) (sym same) (subst (λ p. R (l + p) r) parent up) in
      sym c.if-not-has_answer.true ∙ (c.has_answer.ensures a sought).1 (down (r - h) low here),
)

pub loop-r-preserved : goal.loop-r-preserved
loop-r-preserved c =
    let H = c.args.high.now in
    let R = Holds c.args.both.now in
    let l = c.args.l in
    let h = c.args.h in
    let r = c.in-Some.r in
    let parent : c.rule.inside.parent ≡ c.args.rule.now.parent = ap (λ (o : Rule). o.parent) c.rule.view_is in
    let from = c.in-Some.ensures.least.from_on in
    let past = c.loop-r.invariant.down in
    let w = slice_get_within c.row.result.now r true c.in-Some.ensures.least.set in
    let long = c.row.ensures.long in
    record {
      up = omega (arith, w, long);
      down = omega (arith, from, past);
      done = λ a sought s small above. ⊎_elim
          (λ (e : h + s ≡ r).
          let place : r - h ≡ s = omega (arith, e) in
          subst (IsAnswered H R l h a c.args.rule.now.kids) place ((c.has_answer.ensures a sought).0 c.if-not-has_answer.false))
          (λ (d : h + s ≢ r). ⊎_elim
          (λ (early : h + s < c.loop-r.from). c.loop-r.invariant.done a sought s early above)
          (λ (late : c.loop-r.from ≤ h + s).
          let on : Has c.row.result.now (h + s) = (c.row.ensures.members (h + s)).1 (subst (λ p. R (l + p) (h + s)) (sym parent) above) in
          let least = c.in-Some.ensures.least.least (h + s) late on in
          absurd (omega (arith, least, small, d)))
          (cases_lt (h + s) c.loop-r.from))
          (cases_eq (h + s) r);
    }
