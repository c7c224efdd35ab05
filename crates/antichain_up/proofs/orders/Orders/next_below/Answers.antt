use Rattle.std.proofs.Common.{◌≡◌, ◌∙◌, ◌<◌, ℕ, length, ap, subst, arith}
use Rattle.std.specs.Prelude.{◌↔◌}
use Rattle.tree_definitions.specs.Relation.{Has, Holds}
use Rattle.antichain_up.specs.Orders.{TwoOrders, AreTurned, IsTurnOf}
use Rattle.antichain_up.proofs.Next.{none_of, least_of, least_set, set_within, one_below}
use Rattle.antichain_up.proofs.orders.Orders.next_below.Goals as goal

turned_is : (c : goal.After-first_from) → AreTurned c.self.inside.left.now c.in-Some.turned
turned_is c = subst (λ t. IsTurnOf c.self.inside.left.now t) c.in-Some.is c.self.invariant.0

-- the turned row of the state has the states below it
below_row : (c : goal.After-first_from) (s : ℕ) → Has c.row.result.now s ↔ Holds c.args.self.now.left s c.args.state
below_row c s =
    let turned = (turned_is c).pairs c.args.state s in
    let row = c.row.ensures.members s in
    subst (λ (o : TwoOrders). Has c.row.result.now s ↔ Holds o.left s c.args.state) c.self.view_is (λ h. turned.0 (row.0 h), λ h. row.1 (turned.1 h))

long : (c : goal.After-first_from) → length c.row.result.now ≡ length c.self.inside.left.now
long c = c.row.ensures.long ∙ (turned_is c).square.rows

-- under the identity only the state is below itself
below_one : (c : goal.After-itself_from) (s : ℕ) → (s ≡ c.args.state) ↔ Holds c.args.self.now.left s c.args.state
below_one c s =
    let R = c.self.inside.left.now in
    let P : TwoOrders → Type 0 = λ o. (c.args.state < length o.left) → (s ≡ c.args.state) ↔ Holds o.left s c.args.state in
    subst P c.self.view_is (λ l. one_below R c.args.state (subst (λ t. IsTurnOf R t) c.in_default.is c.self.invariant.0) l s) c.requires

pub returns-in_default-clause-none : goal.returns-in_default-clause-none
returns-in_default-clause-none c =
    none_of (λ s. s ≡ c.args.state) (λ s. Holds c.args.self.now.left s c.args.state) (below_one c) c.args.from c.itself_from.result c.itself_from.ensures.none

pub returns-in_default-clause-least : goal.returns-in_default-clause-least
returns-in_default-clause-least c =
    least_of (λ s. s ≡ c.args.state) (λ s. Holds c.args.self.now.left s c.args.state) (below_one c) c.args.from c.itself_from.result c.itself_from.ensures.least

pub returns-clause-none : goal.returns-clause-none
returns-clause-none c =
    none_of (Has c.row.result.now) (λ s. Holds c.args.self.now.left s c.args.state) (below_row c) c.args.from c.first_from.result c.first_from.ensures.none

pub returns-clause-least : goal.returns-clause-least
returns-clause-least c =
    least_of (Has c.row.result.now) (λ s. Holds c.args.self.now.left s c.args.state) (below_row c) c.args.from c.first_from.result
    (least_set c.row.result.now c.args.from c.first_from.result c.first_from.ensures.least)

pub returns-clause-within : goal.returns-clause-within
returns-clause-within c =
    set_within c.row.result.now c.args.from (length c.args.self.now.left) (length c.args.self.now.left) c.first_from.result c.first_from.ensures.least
    (long c ∙ ap (λ (o : TwoOrders). length o.left) c.self.view_is) (omega arith)

pub returns-clause-few : goal.returns-clause-few
returns-clause-few c =
    let limit = c.size-states.ensures.limit in
    let value = c.size-states.ensures.value in
    set_within c.row.result.now c.args.from (length c.self.inside.left.now) 20000 c.first_from.result c.first_from.ensures.least (long c) (omega (arith, limit, value))
