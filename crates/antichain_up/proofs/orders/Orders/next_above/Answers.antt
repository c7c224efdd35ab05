use Rattle.std.proofs.Common.{◌≡◌, ◌∙◌, ◌<◌, ℕ, length, ap, subst, arith}
use Rattle.std.specs.Prelude.{◌↔◌, not}
use Rattle.tree_definitions.specs.Relation.{Has, Holds}
use Rattle.antichain_up.specs.Orders.{TwoOrders}
use Rattle.antichain_up.proofs.Next.{none_of, least_of, least_set, set_within, one_above, identity_of}
use Rattle.antichain_up.proofs.orders.Orders.next_above.Goals as goal

-- the row of the state has the states that it is below
above_row : (c : goal.After-first_from) (s : ℕ) → Has c.row.result.now s ↔ Holds c.args.self.now.left c.args.state s
above_row c s = subst (λ (o : TwoOrders). Has c.row.result.now s ↔ Holds o.left c.args.state s) c.self.view_is (c.row.ensures.members s)

long : (c : goal.After-first_from) → length c.row.result.now ≡ length c.args.self.now.left
long c = c.row.ensures.long ∙ ap (λ (o : TwoOrders). length o.left) c.self.view_is

-- under the identity a state is below itself alone
above_one : (c : goal.After-itself_from) (s : ℕ) → (s ≡ c.args.state) ↔ Holds c.args.self.now.left c.args.state s
above_one c s =
    let R = c.self.inside.left.now in
    let P : TwoOrders → Type 0 = λ o. (c.args.state < length o.left) → (s ≡ c.args.state) ↔ Holds o.left c.args.state s in
    subst P c.self.view_is (λ l. one_above R c.args.state (identity_of R c.self.inside.left_turned (c.is_none.ensures ∙ ap not c.if-is_none.true) c.self.invariant.0) l s) c.requires

pub returns-then-is_none-clause-none : goal.returns-then-is_none-clause-none
returns-then-is_none-clause-none c =
    none_of (λ s. s ≡ c.args.state) (λ s. Holds c.args.self.now.left c.args.state s) (above_one c) c.args.from c.itself_from.result c.itself_from.ensures.none

pub returns-then-is_none-clause-least : goal.returns-then-is_none-clause-least
returns-then-is_none-clause-least c =
    least_of (λ s. s ≡ c.args.state) (λ s. Holds c.args.self.now.left c.args.state s) (above_one c) c.args.from c.itself_from.result c.itself_from.ensures.least

pub returns-clause-none : goal.returns-clause-none
returns-clause-none c =
    none_of (Has c.row.result.now) (λ s. Holds c.args.self.now.left c.args.state s) (above_row c) c.args.from c.first_from.result c.first_from.ensures.none

pub returns-clause-least : goal.returns-clause-least
returns-clause-least c =
    least_of (Has c.row.result.now) (λ s. Holds c.args.self.now.left c.args.state s) (above_row c) c.args.from c.first_from.result
    (least_set c.row.result.now c.args.from c.first_from.result c.first_from.ensures.least)

pub returns-clause-within : goal.returns-clause-within
returns-clause-within c =
    set_within c.row.result.now c.args.from (length c.args.self.now.left) (length c.args.self.now.left) c.first_from.result c.first_from.ensures.least (long c) (omega arith)

pub returns-clause-few : goal.returns-clause-few
returns-clause-few c =
    let limit = c.size-states.ensures.limit in
    let value = c.size-states.ensures.value in
    set_within c.row.result.now c.args.from (length c.self.inside.left.now) 20000 c.first_from.result c.first_from.ensures.least c.row.ensures.long (omega (arith, limit, value))
