use Rattle.std.proofs.Common.{◌≡◌, ◌≢◌, true, false, get_or, sym, ◌∙◌, subst, arith, ⊎_elim}
use Rattle.std.proofs.lemmas.Bool.{cases_eq}
use Rattle.std.proofs.lemmas.Option.{slice_get-get_or, slice_get_within}
use Rattle.tree_definitions.specs.Relation.{Has, Holds, IsAt}
use Rattle.tree_definitions.proofs.Members.{at_unique}
use Rattle.down_conditions.specs.Covering.{IsHeld}
use Rattle.down_conditions.proofs.choices.some_held.Goals as goal

pub loop-i-preserved : goal.loop-i-preserved
loop-i-preserved c k q l kat held =
    let kids = c.args.kids.now in
    let i = c.loop-i.i in
    let x = get_or kids i 0 in
    let at : IsAt kids i x = slice_get-get_or kids i 0 c.loop-i-test.true in
    ⊎_elim
    (λ (e : k ≡ i).
    let same : q ≡ x = at_unique kids i q x (subst (λ j. IsAt kids j q) e kat) at in
    let b : true ≡ false = sym (c.is_held.ensures.1 (subst (λ z. IsHeld (Holds c.args.both.now) c.args.wides.now z (Has c.args.set.now)) same held)) ∙ c.if-is_held.false in
    cc)
    (λ (d : k ≢ i). c.loop-i.invariant k q (omega arith) kat held)
    (cases_eq k i)

pub returns : goal.returns
returns c = (
  λ t. absurd cc,
  λ h.
      let w = slice_get_within c.args.kids.now h.0 h.1 h.2 in
      absurd (c.loop-i.invariant h.0 h.1 (omega (arith, w, c.loop-i-test.false)) h.2 h.3),
)
