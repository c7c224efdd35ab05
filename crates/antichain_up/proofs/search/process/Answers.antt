use Rattle.std.proofs.Common.{[], refl, sym, ◌∙◌, subst, arith}
use Rattle.std.specs.Prelude.{All}
use Rattle.tree_definitions.specs.Automaton.{IsState}
use Rattle.tree_definitions.specs.Relation.{IsAt}
use Rattle.ta_model.specs.Tuples.{kids_of}
use Rattle.ta_model.specs.UpGroups.{HasKidsWith}
use Rattle.antichain_up.specs.declared.search.Progress.TheVariants.{Going}
use Rattle.antichain_up.specs.SearchState.{IsGoing, IsAfter, Handles}
use Rattle.antichain_up.proofs.Stepping.{going_at, after_at, at_index, moves_on, state_at}
use Rattle.antichain_up.proofs.Choosing.{more_tuples, all_tuples, tuple_states, given_at, moves_self, handles_at}
use Rattle.antichain_up.proofs.search.process.Goals as goal

pub kids_with-requires : goal.kids_with-requires
kids_with-requires g c =
    let e = c.state-state.ensures.state in
    let l = state_at c.args.search.now.entries c.requires.going.sound.list c.args.e e.0 e.1 in
    let same = e.2 in
    let states = c.requires.going.sound.states in
    omega arith

pub tuples-init : goal.tuples-init
tuples-init g c = record { same_left = refl; same_right = refl; same_nodes = refl; going = c.requires.going; moves = moves_self c.args.search.now; handled = λ i v l. absurd (omega arith) }

pub combine-requires-clause-given : goal.combine-requires-clause-given
combine-requires-clause-given g c = given_at (g.J.Joint.left c.args.j.now) (g.J.Joint.right c.args.j.now) (g.J.Joint.left c.tuples.j) (g.J.Joint.right c.tuples.j) c.args.orders.now c.args.budget c.tuples.invariant.same_left c.tuples.invariant.same_right c.requires.given

pub combine-requires-clause-kids : goal.combine-requires-clause-kids
combine-requires-clause-kids g c =
    let A = g.J.Joint.left c.args.j.now in
    let v = c.kids-item.result in
    let at : IsAt c.deref-kids-items.result.now c.tuples.kids-index v = subst (λ w. IsAt c.deref-kids-items.result.now c.tuples.kids-index w) (sym c.kids-item.is) (at_index c.deref-kids-items.result.now c.tuples.kids-index v c.tuples-test.true) in
    let has = subst (λ xs. HasKidsWith A c.state-state.result (kids_of xs)) (sym c.deref-kids-items.ensures.value) c.in_ok-tuples.ensures in
    let states = tuple_states A c.requires.given.left c.state-state.result c.deref-kids-items.result.now has c.tuples.kids-index v at in
    subst (λ B. All (IsState B) c.as_slice.result.now) (sym c.tuples.invariant.same_left) (subst (λ ks. All (IsState A) ks) (sym c.as_slice.ensures) states)

pub combine-requires-clause-going : goal.combine-requires-clause-going
combine-requires-clause-going g c = going_at (g.J.Joint.left c.args.j.now) (g.J.Joint.right c.args.j.now) (g.J.Joint.left c.tuples.j) (g.J.Joint.right c.tuples.j) c.args.orders.now c.args.budget c.tuples.search c.tuples.invariant.same_left c.tuples.invariant.same_right c.tuples.invariant.going

pub combine-requires-clause-entry : goal.combine-requires-clause-entry
combine-requires-clause-entry g c = let a = c.tuples.invariant.moves.longer in let b = c.requires.entry in omega arith

pub returns-in_default : goal.returns-in_default
returns-in_default g c = record {
  left = c.in_ok-stop.ensures.left ∙ c.tuples.invariant.same_left;
  right = c.in_ok-stop.ensures.right ∙ c.tuples.invariant.same_right;
  nodes = c.in_ok-stop.ensures.nodes ∙ c.tuples.invariant.same_nodes;
  after = after_at (g.J.Joint.left c.args.j.now) (g.J.Joint.right c.args.j.now) (g.J.Joint.left c.tuples.j) (g.J.Joint.right c.tuples.j) c.args.orders.now c.args.budget c.in_ok-stop.stop c.combine.new.search c.tuples.invariant.same_left c.tuples.invariant.same_right c.in_ok-stop.ensures.after;
  moves = moves_on c.args.search.now c.tuples.search c.combine.new.search c.tuples.invariant.moves c.in_ok-stop.ensures.moves;
  handled = λ e. absurd (c.in_default.not-Going e);
}

pub tuples-preserved : goal.tuples-preserved
tuples-preserved g c =
    let going : IsGoing (g.J.Joint.left c.args.j.now) (g.J.Joint.right c.args.j.now) c.args.orders.now c.args.budget c.combine.new.search = after_at (g.J.Joint.left c.args.j.now) (g.J.Joint.right c.args.j.now) (g.J.Joint.left c.tuples.j) (g.J.Joint.right c.tuples.j) c.args.orders.now c.args.budget Going c.combine.new.search c.tuples.invariant.same_left c.tuples.invariant.same_right
    (subst (λ p. IsAfter (g.J.Joint.left c.tuples.j) (g.J.Joint.right c.tuples.j) c.args.orders.now c.args.budget p c.combine.new.search) c.in-Going.is c.in_ok-stop.ensures.after) in
    let at : IsAt c.deref-kids-items.result.now c.tuples.kids-index c.kids-item.result =
    subst (λ v. IsAt c.deref-kids-items.result.now c.tuples.kids-index v) (sym c.kids-item.is) (at_index c.deref-kids-items.result.now c.tuples.kids-index c.kids-item.result c.tuples-test.true) in
    let new : Handles (g.J.Joint.left c.args.j.now) (g.J.Joint.right c.args.j.now) c.args.orders.now c.combine.new.search c.kids-item.result.items c.args.e [] =
    subst (λ ks. Handles (g.J.Joint.left c.args.j.now) (g.J.Joint.right c.args.j.now) c.args.orders.now c.combine.new.search ks c.args.e []) c.as_slice.ensures
    (handles_at (g.J.Joint.left c.args.j.now) (g.J.Joint.right c.args.j.now) (g.J.Joint.left c.tuples.j) (g.J.Joint.right c.tuples.j) c.args.orders.now c.combine.new.search c.as_slice.result.now c.args.e [] [] c.tuples.invariant.same_left c.tuples.invariant.same_right refl (c.in_ok-stop.ensures.handled c.in-Going.is)) in
    record {
      same_left = c.in_ok-stop.ensures.left ∙ c.tuples.invariant.same_left;
      same_right = c.in_ok-stop.ensures.right ∙ c.tuples.invariant.same_right;
      same_nodes = c.in_ok-stop.ensures.nodes ∙ c.tuples.invariant.same_nodes;
      going = going;
      moves = moves_on c.args.search.now c.tuples.search c.combine.new.search c.tuples.invariant.moves c.in_ok-stop.ensures.moves;
      handled = more_tuples (g.J.Joint.left c.args.j.now) (g.J.Joint.right c.args.j.now) c.args.orders.now c.args.budget c.tuples.search c.combine.new.search c.requires.given.ordered c.tuples.invariant.going c.in_ok-stop.ensures.moves going.keeps c.args.e c.deref-kids-items.result.now c.tuples.kids-index c.kids-item.result at c.tuples.invariant.handled new;
    }

pub returns-clause-handled : goal.returns-clause-handled
returns-clause-handled g c e =
    let A = g.J.Joint.left c.args.j.now in
    let B = g.J.Joint.right c.args.j.now in
    let x = c.state-state.ensures.state in
    let has : HasKidsWith A x.0.state (kids_of c.deref-kids-items.result.now) =
    subst (λ q. HasKidsWith A q (kids_of c.deref-kids-items.result.now)) (sym x.2)
    (subst (λ xs. HasKidsWith A c.state-state.result (kids_of xs)) (sym c.deref-kids-items.ensures.value) c.in_ok-tuples.ensures) in
    all_tuples A B c.args.orders.now c.args.search.now c.tuples.search c.tuples.invariant.moves c.args.e x.0 x.1 c.deref-kids-items.result.now c.tuples.kids-index (omega arith) has c.tuples.invariant.handled
