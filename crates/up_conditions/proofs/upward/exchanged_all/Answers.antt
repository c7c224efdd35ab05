use Rattle.std.proofs.Common.{◌≡◌, ◌≢◌, length, refl, sym, ap, ◌∙◌, subst, arith, ⊎_elim}
use Rattle.std.proofs.lemmas.Bool.{cases_eq}
use Rattle.std.proofs.lemmas.Option.{slice_get_within}
use Rattle.tree_definitions.specs.Automaton.{Rule}
use Rattle.tree_definitions.specs.Relation.{Holds}
use Rattle.up_conditions.specs.Exchanging.{IsExchangedAt}
use Rattle.up_conditions.proofs.upward.exchanged_all.Goals as goal

pub returns-then-not-exchanged_at : goal.returns-then-not-exchanged_at
returns-then-not-exchanged_at c = (λ t. absurd cc, λ h. sym c.if-not-exchanged_at.true ∙ c.exchanged_at.ensures.1 (h c.loop-p.p))

pub loop-p-preserved : goal.loop-p-preserved
loop-p-preserved c k l = ⊎_elim
    (λ (e : k ≡ c.loop-p.p). subst (IsExchangedAt c.args.rules.now (Holds c.args.sim.now) c.args.rule.now) (sym e) (c.exchanged_at.ensures.0 c.if-not-exchanged_at.false))
    (λ (d : k ≢ c.loop-p.p). c.loop-p.invariant k (omega arith))
    (cases_eq k c.loop-p.p)

pub returns : goal.returns
returns c = (
  λ t p q r at h.
      let w = slice_get_within c.args.rule.now.kids p q at in
      let e = ap (λ (o : Rule). length o.kids) c.rule.view_is in
      let value = c.len-p-end.ensures.value in
      c.loop-p.invariant p (omega (arith, w, e, value, c.loop-p-test.false)) q r at h,
  λ h. refl,
)
