use Rattle.std.proofs.Common.{◌≡◌, ◌≢◌, true, false, length, get_or, refl, sym, ap, ◌∙◌, subst, arith, ⊎_elim}
use Rattle.std.proofs.lemmas.Bool.{cases_eq}
use Rattle.std.proofs.lemmas.Option.{slice_get-get_or, slice_get_read, slice_get_within}
use Rattle.tree_definitions.specs.Cover.{Pair}
use Rattle.tree_definitions.specs.Relation.{Below, Has, Holds, IsAt, Row}
use Rattle.tree_definitions.proofs.Members.{at_unique, place_of}
use Rattle.down_conditions.proofs.by_state.covers_in.Goals as goal
use Rattle.down_conditions.proofs.by_state.covers_in.Goals.{else-place-skip-via-then-place-skip+else-lifted_below, else-place-skip-via-else-place-skip}

pub loop-k-preserved : goal.loop-k-preserved
loop-k-preserved c i k pair l kat other at below =
    let pairs = c.args.pairs.now in
    let list = c.args.list.now in
    let here = c.loop-k.k-index in
    let x = get_or list here 0 in
    let xat : IsAt list here x = slice_get-get_or list here 0 c.loop-k-test.true in
    let this = c.index-pairs-place.result in
    let that : IsAt pairs x this = slice_get_read pairs (length pairs) x this refl (c.requires.list here 0 c.loop-k-test.true) c.index-pairs-place.is in
    let its_set : c.pair.inside.set ≡ this.set = ap (λ (o : Pair). o.set) c.pair.view_is in
    let IsBelow : Row → Type 0 = λ s. Below (Holds c.args.both.now) (Has s) (Has c.args.set.now) in
    ⊎_elim
    (λ (e : i ≡ here).
    let same : k ≡ x = at_unique list i k x kat (subst (λ j. IsAt list j x) (sym e) xat) in
    let which : pair ≡ this = at_unique pairs k pair this at (subst (λ j. IsAt pairs j this) (sym same) that) in
    let so : IsBelow c.pair.inside.set = subst IsBelow (sym its_set) (subst (λ (p : Pair). IsBelow p.set) which below) in
    elim c.else-place-skip.branch [
      | else-place-skip-via-then-place-skip+else-lifted_below w ↦ (let b : true ≡ false = sym (w.lifted_below.ensures.1 so) ∙ w.if-lifted_below.false in cc)
      | else-place-skip-via-else-place-skip w ↦ (let f : x ≡ c.args.skip = w.if-place-skip.false in other (same ∙ f))
    ])
    (λ (d : i ≢ here). c.loop-k.invariant i k pair (omega arith) kat other at below)
    (cases_eq i here)

pub returns : goal.returns
returns c = (
  λ t. absurd cc,
  λ h.
      let list = c.args.list.now in
      let k = place_of list h.0 h.2 in
      let w = slice_get_within list k.0 h.0 k.1 in
      absurd (c.loop-k.invariant k.0 h.0 h.1 (omega (arith, w, c.loop-k-test.false)) k.1 h.3 h.4 h.5),
)
