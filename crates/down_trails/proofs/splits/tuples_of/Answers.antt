use Rattle.std.proofs.Common.{◌≡◌, List, length, refl, ap, ◌∙◌, subst, arith}
use Rattle.std.proofs.lemmas.List.Elements.{All-contains}
use Rattle.std.proofs.lemmas.Option.{slice_get_read, slice_get_within}
use Rattle.std.proofs.lemmas.Result.{IfOk-weaker}
use Rattle.tree_definitions.specs.Tree.{Symbol}
use Rattle.tree_definitions.specs.Automaton.{Rule, FitsRule}
use Rattle.tree_definitions.specs.Cover.{Pair}
use Rattle.tree_definitions.specs.DownTrail.{HasPair, ListsDowns}
use Rattle.tree_definitions.specs.Relation.{IsAt}
use Rattle.tree_definitions.proofs.Listing.{label_at}
use Rattle.tree_definitions.proofs.Members.{contains_at}
use Rattle.ta_model.specs.Tuples.{kids_of}
use Rattle.listed_pairs.specs.DownEntries.{entries_of, entry_of}
use Rattle.down_trails.specs.Entries.{AreOfStates, SplitsInto}
use Rattle.down_trails.proofs.Splitting.{at_map, fits_pair, length_entries, listed_states, split_of}
use Rattle.down_trails.proofs.splits.tuples_of.Goals as goal

pub tuples_to-requires-clause-set : goal.tuples_to-requires-clause-set
tuples_to-requires-clause-set c =
    let entries = c.args.entries.now in
    let d = c.requires.divided.1 in
    let this = c.index-entries-e.result in
    let w = slice_get_within (entries_of entries) c.args.e d.2.0 d.2.1 in
    let same = length_entries entries in
    let at = slice_get_read entries (length entries) c.args.e this refl (omega (arith, w, same)) c.index-entries-e.is in
    let p = c.in-Some.pair.now in
    let fit = fits_pair c.args.a.now c.args.b.now (entries_of entries) c.requires.fits c.args.e (entry_of this) p (at_map entry_of entries c.args.e this at) c.in-Some.ensures.some in
    ap (λ (x : Pair). length x.set) c.pair.view_is ∙ fit.set

pub returns-clause-split : goal.returns-clause-split
returns-clause-split c =
    let A = c.args.a.now in
    let B = c.args.b.now in
    let entries = c.args.entries.now in
    let all = entries_of entries in
    let e = c.args.e in
    let r = c.args.r in
    let d = c.requires.divided.1 in
    let this = c.index-entries-e.result in
    let w = slice_get_within all e d.2.0 d.2.1 in
    let same = length_entries entries in
    let at = slice_get_read entries (length entries) e this refl (omega (arith, w, same)) c.index-entries-e.is in
    let p = c.in-Some.pair.now in
    let named : HasPair all e p = (entry_of this, at_map entry_of entries e this at, c.in-Some.ensures.some) in
    let rule = c.index-rules-r.result in
    let long = ap (λ (xs : List Rule). length xs) c.rules.ensures.value in
    let lr = slice_get_within A.rules r d.1 d.3 in
    let read : IsAt c.rules.result.now r rule = slice_get_read c.rules.result.now (length c.rules.result.now) r rule refl (omega (arith, lr, long)) c.index-rules-r.is in
    let rat : IsAt A.rules r rule = subst (λ (xs : List Rule). IsAt xs r rule) c.rules.ensures.value read in
    let f = (All-contains (FitsRule A) A.rules rule c.rules.ensures.listed.automaton.fitting (contains_at A.rules r rule rat)).symbol in
    let a = c.index-symbols-rule.result in
    let symbols = c.symbols.result.now in
    let its : c.rule.inside.symbol ≡ rule.symbol = ap (λ (x : Rule). x.symbol) c.rule.view_is in
    let ls = slice_get_within A.symbols rule.symbol f.0 f.1 in
    let longer = ap (λ (xs : List Symbol). length xs) c.symbols.ensures.value in
    let sread : IsAt symbols c.rule.inside.symbol a = slice_get_read symbols (length symbols) c.rule.inside.symbol a refl (omega (arith, ls, longer, its)) c.index-symbols-rule.is in
    let label : IsAt A.symbols rule.symbol a = subst (λ (xs : List Symbol). IsAt xs rule.symbol a) c.symbols.ensures.value (subst (λ n. IsAt symbols n a) its sread) in
    IfOk-weaker c.tuples_to.result (λ v. ListsDowns B a c.pair.inside.set (kids_of v.items)) (λ v. SplitsInto A B all e r (kids_of v.items))
    (λ v h. split_of A B all e r c.requires.divided rule rat a (label_at A rule.symbol a c.rules.ensures.listed.narrow label) p named (kids_of v.items) (subst (λ (x : Pair). ListsDowns B a x.set (kids_of v.items)) c.pair.view_is h))
    c.tuples_to.ensures

pub returns-clause-states : goal.returns-clause-states
returns-clause-states c =
    let B = c.args.b.now in
    let a = c.index-symbols-rule.result in
    let set = c.pair.inside.set in
    IfOk-weaker c.tuples_to.result (λ v. ListsDowns B a set (kids_of v.items)) (λ v. AreOfStates B (kids_of v.items))
    (λ v h. listed_states B c.rules-rules.ensures.listed.automaton a set (kids_of v.items) h)
    c.tuples_to.ensures
