use Rattle.std.proofs.Common.{◌≡◌, ◌≢◌, get_or, sym, subst, arith, ⊎_elim}
use Rattle.std.proofs.lemmas.Bool.{cases_eq}
use Rattle.std.proofs.lemmas.Option.{slice_get-get_or, slice_get_within}
use Rattle.tree_definitions.specs.Relation.{Has, Holds, IsAt}
use Rattle.tree_definitions.proofs.Members.{at_unique, place_of}
use Rattle.down_conditions.specs.Covering.{IsHeld}
use Rattle.down_conditions.proofs.finals.first_by_row.Goals as goal

pub loop-at-preserved : goal.loop-at-preserved
loop-at-preserved c k f l kat =
    let finals = c.args.finals.now in
    let i = c.loop-at.at in
    let x = get_or finals i 0 in
    let at : IsAt finals i x = slice_get-get_or finals i 0 c.loop-at-test.true in
    ⊎_elim
    (λ (e : k ≡ i). subst (λ z. IsHeld (Holds c.args.both.now) c.args.pairs.now z (Has c.args.row.now)) (sym (at_unique finals i f x (subst (λ j. IsAt finals j f) e kat) at))
    (c.is_held.ensures.0 c.if-not-is_held.false))
    (λ (d : k ≢ i). c.loop-at.invariant k f (omega arith) kat)
    (cases_eq k i)

pub returns-clause-none : goal.returns-clause-none
returns-clause-none c f m =
    let finals = c.args.finals.now in
    let k = place_of finals f m in
    let w = slice_get_within finals k.0 f k.1 in
    c.loop-at.invariant k.0 f (omega (arith, w, c.loop-at-test.false)) k.1
