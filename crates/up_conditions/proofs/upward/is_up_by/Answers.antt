use Rattle.std.proofs.Common.{◌≡◌, ◌≢◌, length, refl, sym, ◌∙◌, subst, arith, ⊎_elim}
use Rattle.std.proofs.lemmas.Bool.{cases_eq}
use Rattle.std.proofs.lemmas.Option.{slice_get_read, slice_get_within}
use Rattle.tree_definitions.specs.Automaton.{Rule}
use Rattle.tree_definitions.specs.Relation.{Holds, IsAt}
use Rattle.tree_definitions.proofs.Members.{at_unique}
use Rattle.up_conditions.specs.Exchanging.{IsExchangedAll}
use Rattle.up_conditions.proofs.upward.is_up_by.Goals as goal

pub returns-then-not-exchanged_all : goal.returns-then-not-exchanged_all
returns-then-not-exchanged_all c = (
  λ t. absurd cc,
  λ h.
      let rules = c.args.rules.now in
      let rule = c.index-rules-i.result in
      let at : IsAt rules c.loop-i.i rule = slice_get_read rules (length rules) c.loop-i.i rule refl c.loop-i-test.true c.index-rules-i.is in
      sym c.if-not-exchanged_all.true ∙ c.exchanged_all.ensures.1 (λ p q r kat on. h c.loop-i.i rule p q r at kat on),
)

pub loop-i-preserved : goal.loop-i-preserved
loop-i-preserved c k other l kat =
    let rules = c.args.rules.now in
    let i = c.loop-i.i in
    let rule = c.index-rules-i.result in
    let at : IsAt rules i rule = slice_get_read rules (length rules) i rule refl c.loop-i-test.true c.index-rules-i.is in
    ⊎_elim
    (λ (e : k ≡ i).
    let which : other ≡ rule = at_unique rules i other rule (subst (λ j. IsAt rules j other) e kat) at in
    subst (λ (x : Rule). IsExchangedAll rules (Holds c.args.sim.now) x) (sym which) (c.exchanged_all.ensures.0 c.if-not-exchanged_all.false))
    (λ (d : k ≢ i). c.loop-i.invariant k other (omega arith) kat)
    (cases_eq k i)

pub returns : goal.returns
returns c = (
  λ t i rule p q r at kat h.
      let w = slice_get_within c.args.rules.now i rule at in
      c.loop-i.invariant i rule (omega (arith, w, c.loop-i-test.false)) at p q r kat h,
  λ h. refl,
)
