use Rattle.std.proofs.Common.{◌≡◌, ◌<◌, ◌+◌, false, true, length, ◌∙◌, subst, arith}
use Rattle.antichain_up.specs.Entries.{Kept}
use Rattle.antichain_up.specs.declared.search.Progress.TheVariants.{Going}
use Rattle.antichain_up.specs.SearchState.{IsGoing, IsAfter, HandlesAll}
use Rattle.antichain_up.proofs.Stepping.{going_at, after_at}
use Rattle.antichain_up.proofs.Choosing.{given_at}
use Rattle.antichain_up.proofs.Running.{next_going, closed_skip, closed_step, closed_end, closed_start}
use Rattle.antichain_up.proofs.search.run.Goals as goal

pub returns-in_default : goal.returns-in_default
returns-in_default g c = record { left = c.in_ok-stop.ensures.left; right = c.in_ok-stop.ensures.right; nodes = c.in_ok-stop.ensures.nodes; after = c.in_ok-stop.ensures.after; closed = λ e. absurd (c.in_default.not-Going e) }

pub waiting-init : goal.waiting-init
waiting-init g c = record {
  same_left = c.in_ok-stop.ensures.left;
  same_right = c.in_ok-stop.ensures.right;
  same_nodes = c.in_ok-stop.ensures.nodes;
  going = subst (λ p. IsAfter (g.J.Joint.left c.args.j.now) (g.J.Joint.right c.args.j.now) c.args.orders.now c.args.budget p c.step.new.search) c.in-Going.is c.in_ok-stop.ensures.after;
  closed = closed_start (g.J.Joint.left c.args.j.now) (g.J.Joint.right c.args.j.now) c.args.orders.now c.step.new.search c.requires.given.ordered (c.in_ok-stop.ensures.moves.next ∙ c.requires.none) (c.in_ok-stop.ensures.stepped c.in-Going.is);
}

pub process-requires-clause-given : goal.process-requires-clause-given
process-requires-clause-given g c = given_at (g.J.Joint.left c.args.j.now) (g.J.Joint.right c.args.j.now) (g.J.Joint.left c.waiting.j) (g.J.Joint.right c.waiting.j) c.args.orders.now c.args.budget c.waiting.invariant.same_left c.waiting.invariant.same_right c.requires.given

pub process-requires-clause-going : goal.process-requires-clause-going
process-requires-clause-going g c =
    let l : c.waiting.search.next < length c.waiting.search.entries.rows = (let v = c.len.ensures.value in let t = c.waiting-test.true in omega arith) in
    going_at (g.J.Joint.left c.args.j.now) (g.J.Joint.right c.args.j.now) (g.J.Joint.left c.waiting.j) (g.J.Joint.right c.waiting.j) c.args.orders.now c.args.budget (record c.waiting.search { next = c.waiting.search.next + 1 }) c.waiting.invariant.same_left c.waiting.invariant.same_right (next_going (g.J.Joint.left c.args.j.now) (g.J.Joint.right c.args.j.now) c.args.orders.now c.args.budget c.waiting.search c.waiting.invariant.going l)

pub process-requires-clause-entry : goal.process-requires-clause-entry
process-requires-clause-entry g c = let v = c.len.ensures.value in let t = c.waiting-test.true in omega arith

pub returns-in_default-2 : goal.returns-in_default-2
returns-in_default-2 g c = record {
  left = c.in_ok-stop-2.ensures.left ∙ c.waiting.invariant.same_left;
  right = c.in_ok-stop-2.ensures.right ∙ c.waiting.invariant.same_right;
  nodes = c.in_ok-stop-2.ensures.nodes ∙ c.waiting.invariant.same_nodes;
  after = after_at (g.J.Joint.left c.args.j.now) (g.J.Joint.right c.args.j.now) (g.J.Joint.left c.waiting.j) (g.J.Joint.right c.waiting.j) c.args.orders.now c.args.budget c.in_ok-stop-2.stop c.process.new.search c.waiting.invariant.same_left c.waiting.invariant.same_right c.in_ok-stop-2.ensures.after;
  closed = λ e. absurd (c.in_default-2.not-Going e);
}

pub waiting-preserved-in-Going-2 : goal.waiting-preserved-in-Going-2
waiting-preserved-in-Going-2 g c =
    let l : c.waiting.search.next < length c.waiting.search.entries.rows = (let v = c.len.ensures.value in let t = c.waiting-test.true in omega arith) in
    let going : IsGoing (g.J.Joint.left c.args.j.now) (g.J.Joint.right c.args.j.now) c.args.orders.now c.args.budget c.process.new.search = after_at (g.J.Joint.left c.args.j.now) (g.J.Joint.right c.args.j.now) (g.J.Joint.left c.waiting.j) (g.J.Joint.right c.waiting.j) c.args.orders.now c.args.budget Going c.process.new.search c.waiting.invariant.same_left c.waiting.invariant.same_right
    (subst (λ p. IsAfter (g.J.Joint.left c.waiting.j) (g.J.Joint.right c.waiting.j) c.args.orders.now c.args.budget p c.process.new.search) c.in-Going-2.is c.in_ok-stop-2.ensures.after) in
    let handles : HandlesAll (g.J.Joint.left c.args.j.now) (g.J.Joint.right c.args.j.now) c.args.orders.now c.process.new.search c.waiting.search.next =
    subst (λ x. HandlesAll x (g.J.Joint.right c.args.j.now) c.args.orders.now c.process.new.search c.waiting.search.next) c.waiting.invariant.same_left
    (subst (λ y. HandlesAll (g.J.Joint.left c.waiting.j) y c.args.orders.now c.process.new.search c.waiting.search.next) c.waiting.invariant.same_right (c.in_ok-stop-2.ensures.handled c.in-Going-2.is)) in
    record {
      same_left = c.in_ok-stop-2.ensures.left ∙ c.waiting.invariant.same_left;
      same_right = c.in_ok-stop-2.ensures.right ∙ c.waiting.invariant.same_right;
      same_nodes = c.in_ok-stop-2.ensures.nodes ∙ c.waiting.invariant.same_nodes;
      going = going;
      closed = closed_step (g.J.Joint.left c.args.j.now) (g.J.Joint.right c.args.j.now) c.args.orders.now c.args.budget c.waiting.search c.process.new.search c.requires.given.ordered l c.waiting.invariant.closed c.in_ok-stop-2.ensures.moves going handles;
    }

pub waiting-preserved : goal.waiting-preserved
waiting-preserved g c =
    let l : c.waiting.search.next < length c.waiting.search.entries.rows = (let v = c.len.ensures.value in let t = c.waiting-test.true in omega arith) in
    let out : ¬ Kept c.waiting.search.entries c.waiting.search.next = λ h. let e : false ≡ true = c.if-is_kept.ensures.1 h in absurd cc in
    record {
      same_left = c.waiting.invariant.same_left;
      same_right = c.waiting.invariant.same_right;
      same_nodes = c.waiting.invariant.same_nodes;
      going = next_going (g.J.Joint.left c.args.j.now) (g.J.Joint.right c.args.j.now) c.args.orders.now c.args.budget c.waiting.search c.waiting.invariant.going l;
      closed = closed_skip (g.J.Joint.left c.args.j.now) (g.J.Joint.right c.args.j.now) c.args.orders.now c.waiting.search c.waiting.invariant.closed out;
    }

pub returns-clause-closed : goal.returns-clause-closed
returns-clause-closed g c e =
    closed_end (g.J.Joint.left c.args.j.now) (g.J.Joint.right c.args.j.now) c.args.orders.now c.args.budget c.waiting.search c.waiting.invariant.going (let v = c.len.ensures.value in let t = c.waiting-test.false in omega arith) c.waiting.invariant.closed
