use Rattle.std.proofs.Common.{◌≡◌, ◌≢◌, true, false, length, get_or, refl, sym, ap, ◌∙◌, subst, arith, ⊎_elim}
use Rattle.std.proofs.lemmas.Bool.{cases_eq}
use Rattle.std.proofs.lemmas.Option.{slice_get-get_or, slice_get_read, slice_get_within}
use Rattle.tree_definitions.specs.Cover.{Pair}
use Rattle.tree_definitions.specs.UpTrail.{UpEntry}
use Rattle.tree_definitions.specs.Relation.{Below, Has, Holds, IsAt, Row}
use Rattle.tree_definitions.proofs.Members.{at_unique, place_of}
use Rattle.up_conditions.proofs.entry_covers.covers_from.Goals as goal

pub loop-k-preserved : goal.loop-k-preserved
loop-k-preserved c i k e l kat eat below =
    let entries = c.args.entries.now in
    let list = c.args.list.now in
    let here = c.loop-k.k-index in
    let x = get_or list here 0 in
    let xat : IsAt list here x = slice_get-get_or list here 0 c.loop-k-test.true in
    let this = c.index-entries-k.result in
    let that : IsAt entries x this = slice_get_read entries (length entries) x this refl (c.requires.list here 0 c.loop-k-test.true) c.index-entries-k.is in
    let its_set : c.pair.inside.set ≡ this.pair.set = ap (λ (o : Pair). o.set) (c.pair.view_is ∙ c.pair_of-pair.ensures) in
    let IsBelow : Row → Type 0 = λ s. Below (Holds c.args.right.now) (Has s) (Has c.args.set.now) in
    ⊎_elim
    (λ (same_place : i ≡ here).
    let same : k ≡ x = at_unique list i k x kat (subst (λ j. IsAt list j x) (sym same_place) xat) in
    let which : e ≡ this = at_unique entries k e this eat (subst (λ j. IsAt entries j this) (sym same) that) in
    let so : IsBelow c.pair.inside.set = subst IsBelow (sym its_set) (subst (λ (o : UpEntry). IsBelow o.pair.set) which below) in
    let b : true ≡ false = sym (c.lifted_below.ensures.1 so) ∙ c.if-lifted_below.false in
    cc)
    (λ (d : i ≢ here). c.loop-k.invariant i k e (omega (arith, l, d)) kat eat below)
    (cases_eq i here)

pub returns : goal.returns
returns c = (
  λ t. absurd cc,
  λ h.
      let list = c.args.list.now in
      let k = place_of list h.0 h.2 in
      let w = slice_get_within list k.0 h.0 k.1 in
      absurd (c.loop-k.invariant k.0 h.0 h.1 (omega (arith, w, c.loop-k-test.false)) k.1 h.3 h.4),
)
