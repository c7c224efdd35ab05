use Rattle.std.specs.Prelude.{◌↔◌, IsTrue}
use Rattle.std.proofs.Common.{◌≡◌, ◌∙◌, length, refl, sym, ap, subst}
use Rattle.tree_definitions.specs.Relation.{Below, Has, Holds}
use Rattle.ta_model.specs.Macrostates.{row_at}
use Rattle.antichain_up.specs.Orders.{TwoOrders}
use Rattle.antichain_up.proofs.Sets.{row_is, below_itself, below_rows, subset_below}
use Rattle.antichain_up.proofs.orders.Orders.is_set_below.Goals as goal

pub returns-then-set-other_set : goal.returns-then-set-other_set
returns-then-set-other_set c =
    let store = c.args.store.now in
    let R = Holds c.args.self.now.right in
    let wide : length (row_at store c.args.set) ≡ store.states = ap length (row_is store c.args.set c.row-row.result.now c.row-row.ensures.value) ∙ c.row-row.ensures.width in (
      λ _. subst (λ j. Below R (Has (row_at store c.args.set)) (Has (row_at store j))) c.if-set-other_set.true (below_itself store.states R (row_at store c.args.set) c.requires.order wide),
      λ _. refl,
    )

pub returns-then-self : goal.returns-then-self
returns-then-self c =
    let R = c.self.inside.right.now in
    let long : length c.row-row.result.now ≡ length R = c.row-row.ensures.width ∙ c.requires.wide ∙ sym (ap (λ (o : TwoOrders). length o.right) c.self.view_is) in
    let same = subset_below R c.row-row.result.now c.row-other.result.now (c.self.invariant.1 c.if-self.true) long in
    let P : TwoOrders → Type 0 = λ o. IsTrue c.subset_of.result ↔ Below (Holds o.right) (Has c.row-row.result.now) (Has c.row-other.result.now) in
    let below : P c.args.self.now = subst P c.self.view_is (λ h. same.0 (c.subset_of.ensures.0 h), λ h. c.subset_of.ensures.1 (same.1 h)) in
    below_rows c.args.store.now (Holds c.args.self.now.right) c.args.set c.args.other_set c.row-row.result.now c.row-other.result.now (IsTrue c.subset_of.result)
    c.row-row.ensures.value c.row-other.ensures.value below

pub returns : goal.returns
returns c =
    let P : TwoOrders → Type 0 = λ o. IsTrue c.lifted_below.result ↔ Below (Holds o.right) (Has c.row-row.result.now) (Has c.row-other.result.now) in
    below_rows c.args.store.now (Holds c.args.self.now.right) c.args.set c.args.other_set c.row-row.result.now c.row-other.result.now (IsTrue c.lifted_below.result)
    c.row-row.ensures.value c.row-other.ensures.value (subst P c.self.view_is c.lifted_below.ensures)
