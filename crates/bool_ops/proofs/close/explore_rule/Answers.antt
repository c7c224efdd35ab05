use Rattle.std.proofs.Common.{◌≡◌, ◌≢◌, ◌<◌, ◌≤◌, ◌∙◌, ℕ, length, get_or, refl, sym, ap, subst, arith, Contains}
use Rattle.std.specs.Prelude.{All}
use Rattle.std.proofs.lemmas.Option.{slice_get_read, slice_get_within, slice_get-get_or}
use Rattle.tree_definitions.specs.Automaton.{Rule}
use Rattle.tree_definitions.specs.Product.{Both}
use Rattle.tree_definitions.specs.Relation.{IsAt}
use Rattle.tree_definitions.proofs.Members.{at_unique}
use Rattle.bool_ops.specs.Closing.{Grows}
use Rattle.bool_ops.specs.Filing.{slot_of}
use Rattle.bool_ops.proofs.Closed.{grows_on}
use Rattle.bool_ops.proofs.Explored.{entries_at, rules_within, rules_at, place_step, place_past}
use Rattle.bool_ops.proofs.close.explore_rule.Goals as goal

pub loop-i-preserved-then-k-x : goal.loop-i-preserved-then-k-x
loop-i-preserved-then-k-x c =
    let ours = c.args.ours.now in
    let mine = c.index-ours-r.result in
    let i = c.loop-i.i in
    let list = c.as_slice-k-items.result.now in
    let rat : IsAt ours c.args.r mine = slice_get_read ours (length ours) c.args.r mine refl c.requires.left c.index-ours-r.is in
    let kids : list ≡ mine.kids = c.as_slice-k-items.ensures ∙ ap (λ (o : Rule). o.kids) c.left.view_is in
    let kat : IsAt mine.kids i (get_or list i 0) = subst (λ xs. IsAt xs i (get_or list i 0)) kids (slice_get-get_or list i 0 c.loop-i-test.true) in
    let other : get_or list i 0 ≢ c.args.x.left = subst (λ (y : Both). get_or list i 0 ≢ y.left) c.x.view_is c.if-k-x.true in
    record {
      grows = c.loop-i.invariant.grows;
      settled = place_past ours c.args.theirs.now c.args.pairs.now c.loop-i.pairs c.loop-i.found c.args.r c.args.x i (get_or list i 0) mine rat kat other c.loop-i.invariant.settled;
    }

pub examine_each-requires-clause-list : goal.examine_each-requires-clause-list
examine_each-requires-clause-list c =
    subst (All (λ s. s < length c.args.theirs.now)) (sym c.deref.ensures.value) (c.in_ok-matching.ensures.within c.args.theirs.now c.requires.by_kids)

pub examine_each-requires-in-loop-i-clause-list : goal.examine_each-requires-in-loop-i-clause-list
examine_each-requires-in-loop-i-clause-list c =
    rules_within c.args.theirs.now c.args.by_place.now.slots c.args.by_place.now.lists c.at-list.result.now c.requires.filed c.at-list.ensures.within

pub loop-i-preserved-then-are_fewer_tuples : goal.loop-i-preserved-then-are_fewer_tuples
loop-i-preserved-then-are_fewer_tuples c =
    let ours = c.args.ours.now in
    let theirs = c.args.theirs.now in
    let base = c.args.pairs.now in
    let f0 = c.args.found.now in
    let p = c.loop-i.pairs in
    let f = c.loop-i.found in
    let p2 = c.examine_each.new.pairs in
    let f2 = c.examine_each.new.found in
    let inv = c.loop-i.invariant in
    let mine = c.index-ours-r.result in
    let i = c.loop-i.i in
    let x = c.args.x in
    let list = c.deref.result.now in
    let now : Grows ours theirs p f p2 f2 = c.in_ok-examine_each.ensures.grows in
    let rat : IsAt ours c.args.r mine = slice_get_read ours (length ours) c.args.r mine refl c.requires.left c.index-ours-r.is in
    let kids : c.as_slice.result.now ≡ mine.kids = c.as_slice.ensures ∙ ap (λ (o : Rule). o.kids) c.left.view_is in
    let two : 2 ≤ length mine.kids = subst (λ ks. 2 ≤ length ks) kids (c.are_fewer_tuples.ensures c.if-are_fewer_tuples.true) in
    record {
      grows = grows_on ours theirs base f0 p f p2 f2 inv.grows now;
      settled = place_step ours theirs base f0 p f p2 f2 inv.grows now c.args.r x i mine rat inv.settled list
          (λ s right sat alike kat held.
          let same = alike.kids in
          let many : 2 ≤ length right.kids = omega (arith, two, same) in
          let here : IsAt right.kids i c.x.inside.right = subst (λ (y : Both). IsAt right.kids i y.right) (sym c.x.view_is) kat in
          subst (λ xs. Contains xs s) (sym c.deref.ensures.value)
          (c.in_ok-matching.ensures.whole theirs c.requires.by_kids s right sat many alike.symbol (record { lengths = alike.kids; held = held; here = here })))
          c.in_ok-examine_each.ensures.settled;
    }

pub loop-i-preserved : goal.loop-i-preserved
loop-i-preserved c =
    let ours = c.args.ours.now in
    let theirs = c.args.theirs.now in
    let slots = c.args.by_place.now.slots in
    let lists = c.args.by_place.now.lists in
    let base = c.args.pairs.now in
    let f0 = c.args.found.now in
    let p = c.loop-i.pairs in
    let f = c.loop-i.found in
    let p2 = c.examine_each-in-loop-i.new.pairs in
    let f2 = c.examine_each-in-loop-i.new.found in
    let inv = c.loop-i.invariant in
    let mine = c.index-ours-r.result in
    let i = c.loop-i.i in
    let x = c.args.x in
    let list = c.at-list.result.now in
    let now : Grows ours theirs p f p2 f2 = c.in_ok-examine_each-2.ensures.grows in
    let rat : IsAt ours c.args.r mine = slice_get_read ours (length ours) c.args.r mine refl c.requires.left c.index-ours-r.is in
    let found : (n : ℕ) → IsAt slots n (slot_of mine.symbol i x.right) → IsAt lists n list =
    subst (λ (y : Both). (n : ℕ) → IsAt slots n (slot_of mine.symbol i y.right) → IsAt lists n list) c.x.view_is
    (subst (λ (o : Rule). (n : ℕ) → IsAt slots n (slot_of o.symbol i c.x.inside.right) → IsAt lists n list) c.left.view_is c.at-list.ensures.found) in
    record {
      grows = grows_on ours theirs base f0 p f p2 f2 inv.grows now;
      settled = place_step ours theirs base f0 p f p2 f2 inv.grows now c.args.r x i mine rat inv.settled list
          (λ s right sat alike kat held. rules_at theirs slots lists mine.symbol i x.right list c.requires.slots c.requires.filed found s right sat (sym alike.symbol) (entries_at right.kids i x.right kat))
          c.in_ok-examine_each-2.ensures.settled;
    }

pub returns-clause-settled : goal.returns-clause-settled
returns-clause-settled c s i left right lat sat alike pat qat =
    let ours = c.args.ours.now in
    let mine = c.index-ours-r.result in
    let list = c.as_slice-k-items.result.now in
    let rat : IsAt ours c.args.r mine = slice_get_read ours (length ours) c.args.r mine refl c.requires.left c.index-ours-r.is in
    let which : left ≡ mine = at_unique ours c.args.r left mine lat rat in
    let kids : list ≡ mine.kids = c.as_slice-k-items.ensures ∙ ap (λ (o : Rule). o.kids) c.left.view_is in
    let w = slice_get_within list i c.args.x.left (subst (λ xs. IsAt xs i c.args.x.left) (ap (λ (o : Rule). o.kids) which ∙ sym kids) pat) in
    c.loop-i.invariant.settled s i left right (omega (arith, w, c.loop-i-test.false)) lat sat alike pat qat
