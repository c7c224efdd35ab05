use Rattle.std.proofs.Common.{slice_set, [], ◌∷◌, ◌++◌, ◌≡◌, ◌<◌, ◌+◌, length, map, take, refl, sym, ap, ◌∙◌, subst, arith}
use Rattle.std.specs.Prelude.{slice_index_or, Contains}
use Rattle.std.proofs.lemmas.List.{length-take-le, length-set}
use Rattle.std.proofs.Math.Seq.{take-length}
use Rattle.tree_definitions.specs.Relation.{IsAt}
use Rattle.tree_definitions.proofs.Members.{at_unique, at_within, contains_at}
use Rattle.upward_search.proofs.Zips.{at_length}
use Rattle.antichain_up.specs.Entries.{EntryRow}
use Rattle.antichain_up.specs.SearchState.{WhenGoing, StepsFrom, Handles, IsGoing, IsAfter, Moves}
use Rattle.antichain_up.proofs.Stepping.{going_at, at_index, moves_on, after_at}
use Rattle.antichain_up.proofs.Choosing.{has_more, last_later, given_at, lists_later, handles_at, chosen_more, picked_more, prefix_back, more_candidates, unwanted, list_here, ok_more, moves_self, step_handles, all_candidates, candidate}
use Rattle.antichain_up.specs.declared.search.Progress.TheVariants.{Going}
use Rattle.antichain_up.proofs.search.+choose.Goals as goal
use Rattle.antichain_up.proofs.search.+choose.Goals.{then-is_wanted+in_ok-stop+in-Going, else-is_wanted}

pub step-requires-clause-picked : goal.step-requires-clause-picked
step-requires-clause-picked g t c i k q m l = c.requires.picked i k q m (omega arith)

pub returns-then-place-kids-clause-handled : goal.returns-then-place-kids-clause-handled
returns-then-place-kids-clause-handled g t c =
    let size : c.args.place ≡ length c.args.chosen.now = omega arith in
    let whole : take c.args.place c.args.chosen.now ≡ c.args.chosen.now = ap (λ n. take n c.args.chosen.now) size ∙ take-length c.args.chosen.now in
    ok_more c.step.result (λ p. WhenGoing p (StepsFrom (g.J.Joint.left c.args.j.now) (g.J.Joint.right c.args.j.now) c.args.orders.now c.step.new.search c.args.kids.now c.args.chosen.now))
    (λ p. WhenGoing p (Handles (g.J.Joint.left c.args.j.now) (g.J.Joint.right c.args.j.now) c.args.orders.now c.step.new.search c.args.kids.now c.args.e (take c.args.place c.args.chosen.now)))
    c.step.ensures.stepped
    (λ p h e. subst (λ xs. Handles (g.J.Joint.left c.args.j.now) (g.J.Joint.right c.args.j.now) c.args.orders.now c.step.new.search c.args.kids.now c.args.e xs) (sym whole) (step_handles (g.J.Joint.left c.args.j.now) (g.J.Joint.right c.args.j.now) c.args.orders.now c.step.new.search c.args.kids.now c.args.chosen.now c.args.e c.requires.given.ordered (h e)))

pub candidates-init : goal.candidates-init
candidates-init g t c = record {
  same_left = refl;
  same_right = refl;
  same_nodes = refl;
  going = c.requires.going;
  moves = moves_self c.args.search.now;
  chosen = refl;
  sets = refl;
  handled = λ i k l. absurd (omega arith);
}

pub set-requires : goal.set-requires
set-requires g t c =
    let l : c.args.place < length c.args.kids.now = grind arith in
    let q = at_within c.args.kids.now c.args.place l in
    let at = at_index c.args.lists.now c.args.place c.index-lists-place.result (omega arith) in
    let at_l : IsAt (map (λ l. l.items) c.args.lists.now) c.args.place c.deref-k-items.result.now = list_here c.args.lists.now c.args.place c.index-lists-place.result c.deref-k-items.result.now (omega arith) c.index-lists-place.is c.deref-k-items.ensures.value in
    let k = slice_index_or c.deref-k-items.result.now c.candidates.k-index 0 in
    let m : Contains c.deref-k-items.result.now k = contains_at c.deref-k-items.result.now c.candidates.k-index k (at_index c.deref-k-items.result.now c.candidates.k-index 0 c.candidates-test.true) in
    let x = candidate (g.J.Joint.left c.args.j.now) (g.J.Joint.right c.args.j.now) c.args.orders.now c.args.budget c.args.search.now c.candidates.search c.requires.given.ordered c.requires.going c.candidates.invariant.moves c.args.kids.now (map (λ l. l.items) c.args.lists.now) c.requires.lists c.args.place q.0 c.deref-k-items.result.now q.1 at_l k m in
    at_length c.candidates.search.entries.rows k x.0 x.1

pub choose-requires : goal.choose-requires
choose-requires g t c κs within =
    let l : c.args.place < length c.args.kids.now = grind arith in
    let lc : c.args.place < length c.candidates.chosen = (let a = c.candidates.auto.chosen in let m = c.requires.many_chosen in omega arith) in
    let ls : c.args.place < length c.candidates.sets = (let a = c.candidates.auto.sets in let m = c.requires.many_sets in omega arith) in
    let q = at_within c.args.kids.now c.args.place l in
    let at_l : IsAt (map (λ l. l.items) c.args.lists.now) c.args.place c.deref-k-items.result.now = list_here c.args.lists.now c.args.place c.index-lists-place.result c.deref-k-items.result.now (omega arith) c.index-lists-place.is c.deref-k-items.ensures.value in
    let m : Contains c.deref-k-items.result.now (slice_index_or c.deref-k-items.result.now c.candidates.k-index 0) = contains_at c.deref-k-items.result.now c.candidates.k-index (slice_index_or c.deref-k-items.result.now c.candidates.k-index 0) (at_index c.deref-k-items.result.now c.candidates.k-index 0 c.candidates-test.true) in
    let x = candidate (g.J.Joint.left c.args.j.now) (g.J.Joint.right c.args.j.now) c.args.orders.now c.args.budget c.args.search.now c.candidates.search c.requires.given.ordered c.requires.going c.candidates.invariant.moves c.args.kids.now (map (λ l. l.items) c.args.lists.now) c.requires.lists c.args.place q.0 c.deref-k-items.result.now q.1 at_l (slice_index_or c.deref-k-items.result.now c.candidates.k-index 0) m in (
      let d = c.decreases in omega arith,
      (
        within.0,
        (
          within.1,
          (
            given_at (g.J.Joint.left c.args.j.now) (g.J.Joint.right c.args.j.now) (g.J.Joint.left c.candidates.j) (g.J.Joint.right c.candidates.j) c.args.orders.now c.args.budget c.candidates.invariant.same_left c.candidates.invariant.same_right c.requires.given,
            (
              going_at (g.J.Joint.left c.args.j.now) (g.J.Joint.right c.args.j.now) (g.J.Joint.left c.candidates.j) (g.J.Joint.right c.candidates.j) c.args.orders.now c.args.budget c.candidates.search c.candidates.invariant.same_left c.candidates.invariant.same_right c.candidates.invariant.going,
              (
                lists_later (g.J.Joint.left c.args.j.now) (g.J.Joint.right c.args.j.now) c.args.orders.now c.args.budget c.args.search.now c.candidates.search c.requires.given.ordered c.requires.going c.candidates.invariant.moves c.args.kids.now (map (λ l. l.items) c.args.lists.now) c.requires.lists,
                (
                  c.requires.many,
                  (
                    length-set c.candidates.chosen c.args.place (slice_index_or c.deref-k-items.result.now c.candidates.k-index 0) ∙ c.candidates.auto.chosen ∙ c.requires.many_chosen,
                    (
                      length-set c.candidates.sets c.args.place c.set.result ∙ c.candidates.auto.sets ∙ c.requires.many_sets,
                      (
                        omega arith,
                        (
                          picked_more c.args.search.now c.candidates.search c.args.kids.now c.args.chosen.now c.candidates.chosen c.args.sets.now c.candidates.sets c.args.place (slice_index_or c.deref-k-items.result.now c.candidates.k-index 0) c.set.result q.0 x.0 c.requires.picked c.candidates.invariant.moves
                              c.candidates.invariant.chosen c.candidates.invariant.sets lc ls x.1 q.1 x.2
                              (ap (λ (y : EntryRow). y.set) (at_unique c.candidates.search.entries.rows (slice_index_or c.deref-k-items.result.now c.candidates.k-index 0) x.0 c.set.ensures.0 x.1 c.set.ensures.1) ∙ sym c.set.ensures.2),
                          (
                            has_more c.args.has c.is_there-has_now.result (take c.args.place c.args.chosen.now) (take (c.args.place + 1) (slice_set c.candidates.chosen c.args.place (slice_index_or c.deref-k-items.result.now c.candidates.k-index 0))) (slice_index_or c.deref-k-items.result.now c.candidates.k-index 0) c.args.e c.is_there-has_now.ensures c.requires.has
                                (chosen_more c.candidates.chosen c.args.chosen.now c.args.place (slice_index_or c.deref-k-items.result.now c.candidates.k-index 0) lc c.candidates.invariant.chosen),
                            (
                              last_later c.args.search.now c.candidates.search c.args.kids.now c.args.e c.args.last c.candidates.invariant.moves (at_within c.args.search.now.entries.rows c.args.e c.requires.entry) c.requires.last,
                              (let longer = c.candidates.invariant.moves.longer in let before = c.requires.entry in omega arith),
                            ),
                          ),
                        ),
                      ),
                    ),
                  ),
                ),
              ),
            ),
          ),
        ),
      ),
    )

pub returns-in_err-stop-clause-left : goal.returns-in_err-stop-clause-left
returns-in_err-stop-clause-left g t c = c.choose.ensures.left ∙ c.candidates.invariant.same_left

pub returns-in_err-stop-clause-nodes : goal.returns-in_err-stop-clause-nodes
returns-in_err-stop-clause-nodes g t c = c.choose.ensures.nodes ∙ c.candidates.invariant.same_nodes

pub returns-in_err-stop-clause-right : goal.returns-in_err-stop-clause-right
returns-in_err-stop-clause-right g t c = c.choose.ensures.right ∙ c.candidates.invariant.same_right

pub returns-in_default : goal.returns-in_default
returns-in_default g t c = record {
  left = c.in_ok-stop.ensures.left ∙ c.candidates.invariant.same_left;
  right = c.in_ok-stop.ensures.right ∙ c.candidates.invariant.same_right;
  nodes = c.in_ok-stop.ensures.nodes ∙ c.candidates.invariant.same_nodes;
  after = after_at (g.J.Joint.left c.args.j.now) (g.J.Joint.right c.args.j.now) (g.J.Joint.left c.candidates.j) (g.J.Joint.right c.candidates.j) c.args.orders.now c.args.budget c.in_ok-stop.stop c.choose.new.search c.candidates.invariant.same_left c.candidates.invariant.same_right c.in_ok-stop.ensures.after;
  moves = moves_on c.args.search.now c.candidates.search c.choose.new.search c.candidates.invariant.moves c.in_ok-stop.ensures.moves;
  chosen = prefix_back c.args.place (slice_index_or c.deref-k-items.result.now c.candidates.k-index 0) c.choose.new.chosen c.candidates.chosen (take c.args.place c.args.chosen.now) c.in_ok-stop.ensures.chosen c.candidates.invariant.chosen;
  sets = prefix_back c.args.place c.set.result c.choose.new.sets c.candidates.sets (take c.args.place c.args.sets.now) c.in_ok-stop.ensures.sets c.candidates.invariant.sets;
  handled = λ e. absurd (c.in_default.not-Going e);
}

pub candidates-preserved : goal.candidates-preserved
candidates-preserved g t c = elim c.if-is_wanted.branch [
  | then-is_wanted+in_ok-stop+in-Going w ↦
      let going : IsGoing (g.J.Joint.left c.args.j.now) (g.J.Joint.right c.args.j.now) c.args.orders.now c.args.budget w.choose.new.search = after_at (g.J.Joint.left c.args.j.now) (g.J.Joint.right c.args.j.now) (g.J.Joint.left c.candidates.j) (g.J.Joint.right c.candidates.j) c.args.orders.now c.args.budget Going w.choose.new.search c.candidates.invariant.same_left c.candidates.invariant.same_right
      (subst (λ p. IsAfter (g.J.Joint.left c.candidates.j) (g.J.Joint.right c.candidates.j) c.args.orders.now c.args.budget p w.choose.new.search) w.in-Going.is w.in_ok-stop.ensures.after) in
      let lc : c.args.place < length c.candidates.chosen = (let l : c.args.place < length c.args.kids.now = grind arith in let a = c.candidates.auto.chosen in let m = c.requires.many_chosen in omega arith) in
      let new = handles_at (g.J.Joint.left c.args.j.now) (g.J.Joint.right c.args.j.now) (g.J.Joint.left c.candidates.j) (g.J.Joint.right c.candidates.j) c.args.orders.now w.choose.new.search c.args.kids.now c.args.e (take (c.args.place + 1) (slice_set c.candidates.chosen c.args.place (slice_index_or c.deref-k-items.result.now c.candidates.k-index 0))) (take c.args.place c.args.chosen.now ++ (slice_index_or c.deref-k-items.result.now c.candidates.k-index 0) ∷ []) c.candidates.invariant.same_left c.candidates.invariant.same_right
      (chosen_more c.candidates.chosen c.args.chosen.now c.args.place (slice_index_or c.deref-k-items.result.now c.candidates.k-index 0) lc c.candidates.invariant.chosen) (w.in_ok-stop.ensures.handled w.in-Going.is) in
      record {
        same_left = ap g.J.Joint.left w.j-is ∙ w.in_ok-stop.ensures.left ∙ c.candidates.invariant.same_left;
        same_right = ap g.J.Joint.right w.j-is ∙ w.in_ok-stop.ensures.right ∙ c.candidates.invariant.same_right;
        same_nodes = ap g.J.Joint.nodes w.j-is ∙ w.in_ok-stop.ensures.nodes ∙ c.candidates.invariant.same_nodes;
        going = subst (λ s. IsGoing (g.J.Joint.left c.args.j.now) (g.J.Joint.right c.args.j.now) c.args.orders.now c.args.budget s) (sym w.search-is) going;
        moves = subst (λ s. Moves c.args.search.now s) (sym w.search-is) (moves_on c.args.search.now c.candidates.search w.choose.new.search c.candidates.invariant.moves w.in_ok-stop.ensures.moves);
        chosen = ap (λ xs. take c.args.place xs) w.chosen-is ∙ prefix_back c.args.place (slice_index_or c.deref-k-items.result.now c.candidates.k-index 0) w.choose.new.chosen c.candidates.chosen (take c.args.place c.args.chosen.now) w.in_ok-stop.ensures.chosen c.candidates.invariant.chosen;
        sets = ap (λ xs. take c.args.place xs) w.sets-is ∙ prefix_back c.args.place w.set.result w.choose.new.sets c.candidates.sets (take c.args.place c.args.sets.now) w.in_ok-stop.ensures.sets c.candidates.invariant.sets;
        handled = λ i k l at. subst (λ s. Handles (g.J.Joint.left c.args.j.now) (g.J.Joint.right c.args.j.now) c.args.orders.now s c.args.kids.now c.args.e (take c.args.place c.args.chosen.now ++ k ∷ [])) (sym w.search-is)
            (more_candidates (g.J.Joint.left c.args.j.now) (g.J.Joint.right c.args.j.now) c.args.orders.now c.args.budget c.candidates.search w.choose.new.search c.requires.given.ordered c.candidates.invariant.going w.in_ok-stop.ensures.moves going.keeps c.args.kids.now c.args.e
            (take c.args.place c.args.chosen.now) c.deref-k-items.result.now c.candidates.k-index c.candidates-test.true c.candidates.invariant.handled new i k l at);
      }
  | else-is_wanted w ↦
      let only = c.is_wanted.ensures.only w.if-is_wanted.false in
      let none : ¬ Contains (take c.args.place c.args.chosen.now) c.args.e = λ m. let h = c.requires.has.1 m in let f = only.0 in absurd cc in
      let size : length (take c.args.place c.args.chosen.now) ≡ c.args.last = length-take-le c.args.place c.args.chosen.now (omega arith) ∙ only.1 in
      let new = unwanted (g.J.Joint.left c.args.j.now) (g.J.Joint.right c.args.j.now) c.args.orders.now c.args.search.now c.candidates.search c.requires.given.ordered c.candidates.invariant.moves c.args.kids.now c.args.e c.args.last (take c.args.place c.args.chosen.now) (slice_index_or c.deref-k-items.result.now c.candidates.k-index 0) size (at_within c.args.search.now.entries.rows c.args.e c.requires.entry) c.requires.last none only.2 in
      record {
        same_left = ap g.J.Joint.left w.j-is ∙ c.candidates.invariant.same_left;
        same_right = ap g.J.Joint.right w.j-is ∙ c.candidates.invariant.same_right;
        same_nodes = ap g.J.Joint.nodes w.j-is ∙ c.candidates.invariant.same_nodes;
        going = subst (λ s. IsGoing (g.J.Joint.left c.args.j.now) (g.J.Joint.right c.args.j.now) c.args.orders.now c.args.budget s) (sym w.search-is) c.candidates.invariant.going;
        moves = subst (λ s. Moves c.args.search.now s) (sym w.search-is) c.candidates.invariant.moves;
        chosen = ap (λ xs. take c.args.place xs) w.chosen-is ∙ c.candidates.invariant.chosen;
        sets = ap (λ xs. take c.args.place xs) w.sets-is ∙ c.candidates.invariant.sets;
        handled = λ i k l at. subst (λ s. Handles (g.J.Joint.left c.args.j.now) (g.J.Joint.right c.args.j.now) c.args.orders.now s c.args.kids.now c.args.e (take c.args.place c.args.chosen.now ++ k ∷ [])) (sym w.search-is)
            (more_candidates (g.J.Joint.left c.args.j.now) (g.J.Joint.right c.args.j.now) c.args.orders.now c.args.budget c.candidates.search c.candidates.search c.requires.given.ordered c.candidates.invariant.going (moves_self c.candidates.search) c.candidates.invariant.going.keeps c.args.kids.now c.args.e
            (take c.args.place c.args.chosen.now) c.deref-k-items.result.now c.candidates.k-index c.candidates-test.true c.candidates.invariant.handled new i k l at);
      }
]

pub returns-clause-left : goal.returns-clause-left
returns-clause-left g t c = c.candidates.invariant.same_left

pub returns-clause-nodes : goal.returns-clause-nodes
returns-clause-nodes g t c = c.candidates.invariant.same_nodes

pub returns-clause-right : goal.returns-clause-right
returns-clause-right g t c = c.candidates.invariant.same_right

pub returns-clause-after : goal.returns-clause-after
returns-clause-after g t c = c.candidates.invariant.going

pub returns-clause-moves : goal.returns-clause-moves
returns-clause-moves g t c = c.candidates.invariant.moves

pub returns-clause-chosen : goal.returns-clause-chosen
returns-clause-chosen g t c = c.candidates.invariant.chosen

pub returns-clause-sets : goal.returns-clause-sets
returns-clause-sets g t c = c.candidates.invariant.sets

pub returns-clause-handled : goal.returns-clause-handled
returns-clause-handled g t c e =
    let l : c.args.place < length c.args.kids.now = grind arith in
    let q = at_within c.args.kids.now c.args.place l in
    let at_l : IsAt (map (λ l. l.items) c.args.lists.now) c.args.place c.deref-k-items.result.now = list_here c.args.lists.now c.args.place c.index-lists-place.result c.deref-k-items.result.now (omega arith) c.index-lists-place.is c.deref-k-items.ensures.value in
    all_candidates (g.J.Joint.left c.args.j.now) (g.J.Joint.right c.args.j.now) c.args.orders.now c.args.budget c.args.search.now c.candidates.search c.requires.given.ordered c.requires.going c.candidates.invariant.moves c.args.kids.now (map (λ l. l.items) c.args.lists.now) c.requires.lists c.args.place q.0 c.deref-k-items.result.now q.1 at_l
    c.args.e c.candidates.k-index (take c.args.place c.args.chosen.now) (length-take-le c.args.place c.args.chosen.now (omega arith)) (omega arith) c.candidates.invariant.handled
