use Rattle.std.proofs.Common.{◌≡◌, ◌<◌, ◌+◌, [], ◌∷◌, ◌++◌, true, false, length, get_or, set, refl, sym, ap, ◌∙◌, subst, arith}
use Rattle.std.proofs.lemmas.Option.{slice_get_read, slice_get_within}
use Rattle.tree_definitions.specs.Cover.{Pair}
use Rattle.tree_definitions.specs.UpTrail.{UpEntry}
use Rattle.tree_definitions.specs.Relation.{Has, Holds, IsAt}
use Rattle.up_conditions.specs.Trailing.{AreFiledBefore, IsCoveredBefore, IsCoveredEntry}
use Rattle.up_conditions.proofs.Named.{all_at_next, filed_next}
use Rattle.up_conditions.proofs.entry_covers.first_covered_entry.Goals as goal

pub loop-at-preserved : goal.loop-at-preserved
loop-at-preserved c =
    let entries = c.args.entries.now in
    let RA = Holds c.args.left.now in
    let RB = Holds c.args.right.now in
    let n = length c.args.left.now in
    let i = c.loop-at.at in
    let lists = c.loop-at.by_state in
    let e = c.index-entries-at.result in
    let at : IsAt entries i e = slice_get_read entries (length entries) i e refl c.loop-at-test.true c.index-entries-at.is in
    let same : record { state = c.pair.inside.state; set = c.pair.inside.set } ≡ e.pair = c.pair.view_is ∙ c.pair_of-pair.ensures in
    let q : c.pair.inside.state ≡ e.pair.state = ap (λ (o : Pair). o.state) same in
    let within = (c.requires.within i e c.loop-at-test.true).state in
    let read : get_or entries i e ≡ e = sym c.index-entries-at.is in
    let l : e.pair.state < n = subst (λ (o : UpEntry). o.pair.state < n) read within in
    record {
      filed = subst (AreFiledBefore entries n (i + 1)) (ap (λ k. set lists k (get_or lists k [] ++ i ∷ [])) (sym q) ∙ sym c.in_ok-add.ensures) (filed_next entries n i lists e at l c.loop-at.invariant.filed);
      none = all_at_next entries (λ k (o : UpEntry). ¬ IsCoveredEntry RA RB entries k o) i e c.loop-at.invariant.none at
          (λ h.
          let so : IsCoveredBefore RA RB entries i c.pair.inside.state (Has c.pair.inside.set) = subst (λ (o : Pair). IsCoveredBefore RA RB entries i o.state (Has o.set)) (sym same) h in
          let b : true ≡ false = sym (c.is_covered_before.ensures.1 so) ∙ c.if-is_covered_before.false in
          cc);
    }

pub returns-clause-none : goal.returns-clause-none
returns-clause-none c i j later earlier l lat eat h =
    let w = slice_get_within c.args.entries.now i later lat in
    c.loop-at.invariant.none i later (omega (arith, w, c.loop-at-test.false)) lat (j, earlier, l, eat, h)
