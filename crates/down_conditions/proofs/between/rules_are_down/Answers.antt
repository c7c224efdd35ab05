use Rattle.std.proofs.Common.{◌≡◌, ◌≢◌, List, length, refl, sym, ◌∙◌, subst, arith, ⊎_elim}
use Rattle.std.proofs.lemmas.Bool.{cases_eq}
use Rattle.std.proofs.lemmas.Option.{slice_get_read, slice_get_within}
use Rattle.tree_definitions.specs.Automaton.{Rule}
use Rattle.tree_definitions.specs.Relation.{Holds, IsAt}
use Rattle.tree_definitions.proofs.Members.{at_unique}
use Rattle.down_conditions.specs.Between.{IsRuleDown}
use Rattle.down_conditions.proofs.Blocks.{between_from_lines, line_from_between}
use Rattle.down_conditions.proofs.between.rules_are_down.Goals as goal

pub returns-then-not-rule_is_down : goal.returns-then-not-rule_is_down
returns-then-not-rule_is_down c = (
  λ t. absurd cc,
  λ h.
      let list = c.rules-rules.result.now in
      let rule = c.index-rules-i.result in
      let at : IsAt list c.loop-i.i rule = slice_get_read list (length list) c.loop-i.i rule refl c.loop-i-test.true c.index-rules-i.is in
      sym c.if-not-rule_is_down.true ∙ c.rule_is_down.ensures.1
      (line_from_between c.args.low.now c.args.high.now (Holds c.args.both.now) c.args.l c.args.h h c.loop-i.i rule (subst (λ (xs : List Rule). IsAt xs c.loop-i.i rule) c.rules-rules.ensures.value at)),
)

pub loop-i-preserved : goal.loop-i-preserved
loop-i-preserved c k other l kat =
    let list = c.rules-rules.result.now in
    let rules = c.args.low.now.rules in
    let i = c.loop-i.i in
    let rule = c.index-rules-i.result in
    let read : IsAt list i rule = slice_get_read list (length list) i rule refl c.loop-i-test.true c.index-rules-i.is in
    let at : IsAt rules i rule = subst (λ (xs : List Rule). IsAt xs i rule) c.rules-rules.ensures.value read in
    ⊎_elim
    (λ (e : k ≡ i).
    let which : other ≡ rule = at_unique rules i other rule (subst (λ j. IsAt rules j other) e kat) at in
    subst (λ (x : Rule). IsRuleDown c.args.low.now c.args.high.now (Holds c.args.both.now) c.args.l c.args.h x) (sym which) (c.rule_is_down.ensures.0 c.if-not-rule_is_down.false))
    (λ (d : k ≢ i). c.loop-i.invariant k other (omega arith) kat)
    (cases_eq k i)

pub returns : goal.returns
returns c = (
  λ t. between_from_lines c.args.low.now c.args.high.now (Holds c.args.both.now) c.args.l c.args.h
      (λ i rule at.
      let w = slice_get_within c.rules-rules.result.now i rule (subst (λ (xs : List Rule). IsAt xs i rule) (sym c.rules-rules.ensures.value) at) in
      c.loop-i.invariant i rule (omega (arith, w, c.loop-i-test.false)) at),
  λ h. refl,
)
