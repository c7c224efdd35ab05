use Rattle.std.proofs.Common.{◌≡◌, ◌<◌, ◌+◌, ℕ, List, [], ◌∷◌, ◌++◌, length, get_or, set, sym, ap, ◌∙◌, subst, refl, arith}
use Rattle.std.proofs.lemmas.List.Elements.{All-contains}
use Rattle.std.proofs.lemmas.Option.{slice_get_read, slice_get_within}
use Rattle.tree_definitions.specs.Cover.{Pair}
use Rattle.tree_definitions.specs.Relation.{IsAt}
use Rattle.tree_definitions.proofs.Members.{contains_at}
use Rattle.down_conditions.specs.Filing.{Filing}
use Rattle.down_conditions.proofs.Filed.{filing_add}
use Rattle.down_conditions.proofs.by_state.pairs_by_state.Goals as goal

pub loop-at-preserved : goal.loop-at-preserved
loop-at-preserved c =
    let pairs = c.args.pairs.now in
    let i = c.loop-at.at in
    let lists = c.loop-at.index in
    let pair = c.index-pairs-at.result in
    let at : IsAt pairs i pair = slice_get_read pairs (length pairs) i pair refl c.loop-at-test.true c.index-pairs-at.is in
    let e : c.pair.inside.state ≡ pair.state = ap (λ (o : Pair). o.state) c.pair.view_is in
    let l : pair.state < c.args.states = All-contains (λ (p : Pair). p.state < c.args.states) pairs pair c.requires.within (contains_at pairs i pair at) in
    let m = filing_add (λ (o : Pair). o.state) pairs c.args.states i lists pair at l c.loop-at.invariant in
    let P : List (List ℕ) → Type 0 = λ u. Filing (λ (o : Pair). o.state) pairs c.args.states (i + 1) u in
    subst P (ap (λ q. set lists q (get_or lists q [] ++ i ∷ [])) (sym e) ∙ sym c.in_ok-add.ensures) m

pub returns-clause-index : goal.returns-clause-index
returns-clause-index c = record {
  within = c.loop-at.invariant.within;
  whole = λ k pair list at lat. c.loop-at.invariant.whole k pair list at lat (let w = slice_get_within c.args.pairs.now k pair at in omega (arith, w, c.loop-at-test.false));
}
