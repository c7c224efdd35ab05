use Rattle.std.proofs.Common.{◌≡◌, ◌≢◌, ◌∙◌, sym, subst}
use Rattle.std.specs.Prelude.{AllPairs, Contains}
use Rattle.std.specs.List.Sorted.{IsPermutation, IsSorted}
use Rattle.std.proofs.lemmas.List.{take_all}
use Rattle.std.proofs.lemmas.List.Sorted.{Contains-permutation, IsPermutation-sym}
use Rattle.tree_definitions.specs.Product.{Precedes}
use Rattle.bool_ops.proofs.Ordered.{next_added, sorted_rises, still_apart, pair_cmp}
use Rattle.bool_ops.proofs.product.in_order.Goals as goal

pub loop-x-preserved : goal.loop-x-preserved
loop-x-preserved c =
    let pairs = c.args.pairs.now in
    let items = c.deref-x-items.result.now in
    let permutation : IsPermutation pairs items =
    subst (IsPermutation pairs) (sym c.deref-x-items.ensures.value)
    (subst (λ xs. IsPermutation xs c.sort.new.self.items) (c.in_ok-list.ensures.items ∙ c.list.ensures.value) c.sort.ensures.permutation) in
    let apart : AllPairs ◌≢◌ items = still_apart pairs items c.list.ensures.distinct permutation in
    next_added items c.loop-x.x-index c.x-item.result c.loop-x.sorted c.add.new.self apart c.loop-x-test.true c.x-item.is c.loop-x.invariant c.in_ok-add.ensures.ok

pub returns-clause-rising : goal.returns-clause-rising
returns-clause-rising c =
    let pairs = c.args.pairs.now in
    let items = c.deref-x-items.result.now in
    let permutation : IsPermutation pairs items =
    subst (IsPermutation pairs) (sym c.deref-x-items.ensures.value)
    (subst (λ xs. IsPermutation xs c.sort.new.self.items) (c.in_ok-list.ensures.items ∙ c.list.ensures.value) c.sort.ensures.permutation) in
    let sorted : IsSorted pair_cmp items = subst (IsSorted pair_cmp) (sym c.deref-x-items.ensures.value) c.in_ok-sort.ensures.sorted in
    let all : c.loop-x.sorted ≡ items = c.loop-x.invariant ∙ take_all c.loop-x.x-index items c.loop-x-test.false in
    subst (AllPairs Precedes) (sym all) (sorted_rises pairs items c.list.ensures.distinct permutation sorted)

pub returns-clause-members : goal.returns-clause-members
returns-clause-members c x =
    let pairs = c.args.pairs.now in
    let items = c.deref-x-items.result.now in
    let permutation : IsPermutation pairs items =
    subst (IsPermutation pairs) (sym c.deref-x-items.ensures.value)
    (subst (λ xs. IsPermutation xs c.sort.new.self.items) (c.in_ok-list.ensures.items ∙ c.list.ensures.value) c.sort.ensures.permutation) in
    let all : c.loop-x.sorted ≡ items = c.loop-x.invariant ∙ take_all c.loop-x.x-index items c.loop-x-test.false in (
      λ h. Contains-permutation items pairs x (IsPermutation-sym pairs items permutation) (subst (λ xs. Contains xs x) all h),
      λ h. subst (λ xs. Contains xs x) (sym all) (Contains-permutation pairs items x permutation h),
    )
