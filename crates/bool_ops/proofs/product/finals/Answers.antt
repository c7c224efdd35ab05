use Rattle.std.proofs.Common.{◌+◌, ◌∙◌, ℕ, List, length, refl, sym, subst}
use Rattle.std.proofs.lemmas.Bool.{false≢true}
use Rattle.std.proofs.lemmas.Option.{slice_get_read}
use Rattle.tree_definitions.specs.Product.{Both}
use Rattle.tree_definitions.specs.Relation.{Has, IsAt}
use Rattle.bool_ops.specs.Joined.{AreFinals}
use Rattle.bool_ops.proofs.Parts.{finals_more, finals_past}
use Rattle.bool_ops.proofs.product.finals.Goals as goal

pub loop-k-preserved-then-not-get : goal.loop-k-preserved-then-not-get
loop-k-preserved-then-not-get c =
    let states = c.args.states.now in
    let items = c.list-x-items.result.now in
    let x = c.x-item.result in
    let at : IsAt states c.loop-k.k x = subst (λ xs. IsAt xs c.loop-k.k x) c.list-x-items.ensures.value (slice_get_read items (length items) c.loop-k.k x refl c.loop-k-test.true c.x-item.is) in
    finals_past states c.args.left.now c.args.right.now c.loop-k.k c.loop-k.finals.items x c.loop-k.invariant at
    (λ h _. false≢true (sym c.if-not-get.true ∙ c.get.ensures.set.1 (subst (λ (y : Both). Has c.args.left.now y.left) (sym c.x.view_is) h)))

pub loop-k-preserved-then-not-get-2 : goal.loop-k-preserved-then-not-get-2
loop-k-preserved-then-not-get-2 c =
    let states = c.args.states.now in
    let items = c.list-x-items.result.now in
    let x = c.x-item.result in
    let at : IsAt states c.loop-k.k x = subst (λ xs. IsAt xs c.loop-k.k x) c.list-x-items.ensures.value (slice_get_read items (length items) c.loop-k.k x refl c.loop-k-test.true c.x-item.is) in
    finals_past states c.args.left.now c.args.right.now c.loop-k.k c.loop-k.finals.items x c.loop-k.invariant at
    (λ _ h. false≢true (sym c.if-not-get-2.true ∙ c.get-in-loop-k.ensures.set.1 (subst (λ (y : Both). Has c.args.right.now y.right) (sym c.x.view_is) h)))

pub loop-k-preserved : goal.loop-k-preserved
loop-k-preserved c =
    let states = c.args.states.now in
    let items = c.list-x-items.result.now in
    let x = c.x-item.result in
    let at : IsAt states c.loop-k.k x = subst (λ xs. IsAt xs c.loop-k.k x) c.list-x-items.ensures.value (slice_get_read items (length items) c.loop-k.k x refl c.loop-k-test.true c.x-item.is) in
    let left : Has c.args.left.now x.left = subst (λ (y : Both). Has c.args.left.now y.left) c.x.view_is (c.get.ensures.set.0 c.if-not-get.false) in
    let right : Has c.args.right.now x.right = subst (λ (y : Both). Has c.args.right.now y.right) c.x.view_is (c.get-in-loop-k.ensures.set.0 c.if-not-get-2.false) in
    let P : List ℕ → Type 0 = λ fs. AreFinals states c.args.left.now c.args.right.now (c.loop-k.k + 1) fs in
    subst P (sym c.in_ok-push.ensures.items) (finals_more states c.args.left.now c.args.right.now c.loop-k.k c.loop-k.finals.items x c.loop-k.invariant at left right)
