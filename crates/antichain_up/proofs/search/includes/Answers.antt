use Rattle.std.proofs.Common.{◌≡◌, sym, subst}
use Rattle.std.specs.Prelude.{IfOk}
use Rattle.tree_definitions.specs.Relation.{Holds, Matrix}
use Rattle.tree_definitions.specs.Automaton.{Automaton}
use Rattle.upward_search.specs.Search.{IsClosed}
use Rattle.certificate_kinds.specs.Answers.{IsUpAnswer}
use Rattle.antichain_up.specs.Entries.{Kept}
use Rattle.antichain_up.specs.Orders.{IsUpOrder}
use Rattle.antichain_up.specs.SearchState.{entries_of}
use Rattle.antichain_up.proofs.Ending.{empty_at, are_orders}
use Rattle.antichain_up.proofs.Stepping.{after_at}
use Rattle.antichain_up.proofs.search.includes.Goals as goal

pub run-requires-clause-given : goal.run-requires-clause-given
run-requires-clause-given g c = record {
  left = c.sizes-lefts.ensures.paired.left.automaton;
  ordered = are_orders (g.J.Joint.left c.args.j.now) (g.J.Joint.right c.args.j.now) c.in_ok-orders.orders c.args.left.now c.args.right.now c.in_ok-orders.ensures.left c.in_ok-orders.ensures.right c.requires.left c.requires.right;
  few = c.requires.few;
}

pub run-requires-clause-going : goal.run-requires-clause-going
run-requires-clause-going g c =
    empty_at (g.J.Joint.left c.args.j.now) (g.J.Joint.right c.args.j.now) c.in_ok-orders.orders c.args.budget c.sizes-lefts.result.0 c.sizes-lefts.result.1 c.new.result c.in_ok-new.field-0
    c.sizes-lefts.ensures.left c.sizes-lefts.ensures.right c.new.ensures c.in_ok-new.ensures

-- the relations and the automata are those that were passed
up_order : (A A' : Automaton) (R R' : Matrix) → A' ≡ A → R' ≡ R → IsUpOrder A R → IsUpOrder A' R'
up_order A A' R R' a r h = subst (λ x. IsUpOrder x R') (sym a) (subst (λ y. IsUpOrder A y) (sym r) h)

pub told-requires-clause-left : goal.told-requires-clause-left
told-requires-clause-left g c = up_order (g.J.Joint.left c.args.j.now) (g.J.Joint.left c.run.new.j) c.args.left.now c.in_ok-orders.orders.left c.in_ok-progress.ensures.left c.in_ok-orders.ensures.left c.requires.left

pub told-requires-clause-right : goal.told-requires-clause-right
told-requires-clause-right g c = up_order (g.J.Joint.right c.args.j.now) (g.J.Joint.right c.run.new.j) c.args.right.now c.in_ok-orders.orders.right c.in_ok-progress.ensures.right c.in_ok-orders.ensures.right c.requires.right

pub told-requires-clause-after : goal.told-requires-clause-after
told-requires-clause-after g c =
    after_at (g.J.Joint.left c.run.new.j) (g.J.Joint.right c.run.new.j) (g.J.Joint.left c.args.j.now) (g.J.Joint.right c.args.j.now) c.in_ok-orders.orders c.args.budget c.in_ok-progress.progress c.run.new.search
    (sym c.in_ok-progress.ensures.left) (sym c.in_ok-progress.ensures.right) c.in_ok-progress.ensures.after

pub told-requires-clause-closed : goal.told-requires-clause-closed
told-requires-clause-closed g c e =
    let o = c.in_ok-orders.orders in
    let s = c.run.new.search in
    subst (λ x. IsClosed x (g.J.Joint.right c.run.new.j) (Holds o.left) (Holds o.right) (entries_of s) (Kept s.entries) (Kept s.entries)) (sym c.in_ok-progress.ensures.left)
    (subst (λ y. IsClosed (g.J.Joint.left c.args.j.now) y (Holds o.left) (Holds o.right) (entries_of s) (Kept s.entries) (Kept s.entries)) (sym c.in_ok-progress.ensures.right) (c.in_ok-progress.ensures.closed e))

pub returns-clause-answer : goal.returns-clause-answer
returns-clause-answer g c =
    let o = c.in_ok-orders.orders in
    subst (λ x. IfOk c.told.result (IsUpAnswer x (g.J.Joint.right c.args.j.now) c.args.left.now c.args.right.now c.args.budget)) c.in_ok-progress.ensures.left
    (subst (λ y. IfOk c.told.result (IsUpAnswer (g.J.Joint.left c.run.new.j) y c.args.left.now c.args.right.now c.args.budget)) c.in_ok-progress.ensures.right
    (subst (λ l. IfOk c.told.result (IsUpAnswer (g.J.Joint.left c.run.new.j) (g.J.Joint.right c.run.new.j) l c.args.right.now c.args.budget)) c.in_ok-orders.ensures.left
    (subst (λ r. IfOk c.told.result (IsUpAnswer (g.J.Joint.left c.run.new.j) (g.J.Joint.right c.run.new.j) o.left r c.args.budget)) c.in_ok-orders.ensures.right c.told.ensures.answer)))
