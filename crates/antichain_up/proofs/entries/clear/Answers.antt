use Rattle.std.proofs.Common.{◌<◌, ◌∙◌, get_or, length, refl, sym, subst}
use Rattle.std.proofs.lemmas.Bool.{false≢true}
use Rattle.std.proofs.lemmas.List.{get_or_default}
use Rattle.std.proofs.lemmas.Option.{slice_get_read}
use Rattle.tree_definitions.specs.Relation.{IsAt}
use Rattle.antichain_up.proofs.Grouped.{cleared_one, spared_one}
use Rattle.antichain_up.proofs.Covered.{IsOver}
use Rattle.antichain_up.proofs.entries.clear.Goals as goal

pub loop-k-preserved-then-not-is_set_below : goal.loop-k-preserved-then-not-is_set_below
loop-k-preserved-then-not-is_set_below c =
    let numbers = c.args.numbers.now in
    let i = c.loop-k.k-index in
    let entries = c.args.entries.now in
    let k = get_or numbers i 0 in
    let e = c.index-entries-k.result in
    let Kind = IsOver c.args.store.now c.args.orders.now 0 c.args.set in
    let at : IsAt entries k e = slice_get_read entries (length entries) k e refl (c.requires.numbers i 0 c.loop-k-test.true) c.index-entries-k.is in
    spared_one entries numbers Kind c.args.kept.now c.loop-k.kept i k e c.loop-k-test.true (get_or_default numbers i 0 k c.loop-k-test.true) at c.loop-k.invariant
    (λ over. false≢true (sym c.if-not-is_set_below.true ∙ c.is_set_below.ensures.1 (subst Kind (sym c.entry.view_is) over)))

pub loop-k-preserved : goal.loop-k-preserved
loop-k-preserved c =
    let numbers = c.args.numbers.now in
    let i = c.loop-k.k-index in
    let entries = c.args.entries.now in
    let k = get_or numbers i 0 in
    let e = c.index-entries-k.result in
    let Kind = IsOver c.args.store.now c.args.orders.now 0 c.args.set in
    let within = c.requires.numbers i 0 c.loop-k-test.true in
    let at : IsAt entries k e = slice_get_read entries (length entries) k e refl within c.index-entries-k.is in
    cleared_one entries numbers Kind c.args.kept.now c.loop-k.kept i k e c.loop-k-test.true (get_or_default numbers i 0 k c.loop-k-test.true) at c.loop-k.invariant
    (subst (λ n. k < n) (sym (c.loop-k.invariant.many ∙ c.requires.flags)) within) (subst Kind c.entry.view_is (c.is_set_below.ensures.0 c.if-not-is_set_below.false))
