use Rattle.std.proofs.Common.{◌∙◌, ◌+◌, ◌∷◌, ◌++◌, [], true, false, length, refl, sym, ap, subst}
use Rattle.std.proofs.lemmas.Bool.{false≢true}
use Rattle.std.proofs.lemmas.Option.{get_or_from_slice_get, slice_get_read}
use Rattle.tree_definitions.specs.Relation.{IsAt}
use Rattle.antichain_up.specs.Answers.{IsListing}
use Rattle.antichain_up.proofs.Marks.{flag_has}
use Rattle.antichain_up.proofs.Listed.{list_more, list_past}
use Rattle.antichain_up.proofs.answers.listed_pairs_of.Goals as goal

pub loop-k-preserved-then-not-kept-k : goal.loop-k-preserved-then-not-kept-k
loop-k-preserved-then-not-kept-k c = list_past c.args.store.now c.args.entries.now c.args.kept.now c.loop-k.k c.loop-k.pairs.items c.loop-k.invariant
    (λ h. false≢true (sym c.if-not-kept-k.true ∙ get_or_from_slice_get c.args.kept.now c.loop-k.k true false h))

pub loop-k-preserved : goal.loop-k-preserved
loop-k-preserved c =
    let entries = c.args.entries.now in
    let k = c.loop-k.k in
    let e = c.index-entries-k.result in
    let at : IsAt entries k e = slice_get_read entries (length entries) k e refl c.loop-k-test.true c.index-entries-k.is in
    let more = list_more c.args.store.now entries c.args.kept.now k c.loop-k.pairs.items c.loop-k.invariant c.requires.apart e at (flag_has c.args.kept.now k c.if-not-kept-k.false) in
    subst (IsListing c.args.store.now entries c.args.kept.now (k + 1)) (sym (c.in_ok-push.ensures.items ∙ ap (λ pair. c.loop-k.pairs.items ++ pair ∷ []) c.in_ok-pair.ensures)) more
