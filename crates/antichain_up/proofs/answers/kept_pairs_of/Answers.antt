use Rattle.std.proofs.Common.{◌≡◌, rules}
use Rattle.std.specs.List.Sorted.{IsSorted}
use Rattle.std.specs.Ordering.{is_lt}
use Rattle.std.proofs.lemmas.Fn.{always_returns_same}
use Rattle.std.proofs.lemmas.List.Sorted.{ranks_by}
use Rattle.tree_definitions.specs.Cover.{Pair}
use Rattle.listed_pairs.specs.Order.{pair_cmp}
use Rattle.listed_pairs.proofs.Listing.{pairs_total}
use Rattle.antichain_up.proofs.Listed.{all_wide, listed, sorted_rises}
use Rattle.antichain_up.proofs.answers.kept_pairs_of.Goals as goal

pub returns-clause-kept : goal.returns-clause-kept
returns-clause-kept c =
    listed c.args.store.now c.args.entries.now c.args.kept.now c.in_ok-pairs.pairs.items c.sort_by.new.self.items c.requires.flags c.in_ok-pairs.ensures c.sort_by.ensures.permutation

pub returns-clause-rising : goal.returns-clause-rising
returns-clause-rising c =
    let sorted : IsSorted pair_cmp c.sort_by.new.self.items =
    c.in_ok-sort_by.ensures.sorted (λ (x y : Pair). is_lt (pair_cmp x y)) (ranks_by pairs_total (λ (x : Pair). x))
    (always_returns_same _ (λ a r. is_lt r ≡ is_lt (pair_cmp a.0.now a.1.0.now)) _ (λ a r q k. search rules)) in
    let pairs = c.in_ok-pairs.pairs.items in
    sorted_rises c.args.store.now.states pairs c.sort_by.new.self.items
    (all_wide c.args.store.now c.args.entries.now c.args.kept.now _ pairs c.states-states.ensures.store c.requires.stored c.in_ok-pairs.ensures)
    c.in_ok-pairs.ensures.distinct c.sort_by.ensures.permutation sorted
