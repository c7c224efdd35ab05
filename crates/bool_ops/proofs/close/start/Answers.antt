use Rattle.std.proofs.Common.{◌≡◌, ◌≢◌, ◌∙◌, ◌==◌, ℕ, false, [], length, refl, sym, ap, subst, arith}
use Rattle.std.proofs.lemmas.Bool.{false≢true}
use Rattle.std.proofs.lemmas.Option.{slice_get_read, slice_get_within}
use Rattle.tree_definitions.specs.Automaton.{Rule}
use Rattle.tree_definitions.specs.Relation.{IsAt}
use Rattle.bool_ops.specs.Closing.{Grows}
use Rattle.bool_ops.specs.Filing.{slot_of}
use Rattle.bool_ops.proofs.Closed.{grows_on}
use Rattle.bool_ops.proofs.Explored.{rules_within, rules_at, leaf_step, leaf_past}
use Rattle.bool_ops.proofs.close.start.Goals as goal

pub loop-r-preserved-then-not-is_empty : goal.loop-r-preserved-then-not-is_empty
loop-r-preserved-then-not-is_empty c =
    let ours = c.args.ours.now in
    let mine = c.index-ours-r.result in
    let r = c.loop-r.r in
    let rat : IsAt ours r mine = slice_get_read ours (length ours) r mine refl c.loop-r-test.true c.index-ours-r.is in
    let test : (length mine.kids == 0) ≡ false = ap (λ (o : Rule). length o.kids == 0) (sym c.left.view_is) ∙ sym c.is_empty.ensures ∙ c.if-not-is_empty.true in
    let some : mine.kids ≢ [] = λ e. false≢true (sym test ∙ ap (λ ks. length ks == 0) e) in
    record {
      grows = c.loop-r.invariant.grows;
      settled = leaf_past ours c.args.theirs.now c.args.pairs.now c.loop-r.pairs c.loop-r.found r mine rat some c.loop-r.invariant.settled;
    }

pub examine_each-requires-clause-list : goal.examine_each-requires-clause-list
examine_each-requires-clause-list c =
    rules_within c.args.theirs.now c.args.by_place.now.slots c.args.by_place.now.lists c.at-list.result.now c.requires.filed c.at-list.ensures.within

pub loop-r-preserved : goal.loop-r-preserved
loop-r-preserved c =
    let ours = c.args.ours.now in
    let theirs = c.args.theirs.now in
    let slots = c.args.by_place.now.slots in
    let lists = c.args.by_place.now.lists in
    let base = c.args.pairs.now in
    let f0 = c.args.found.now in
    let p = c.loop-r.pairs in
    let f = c.loop-r.found in
    let p2 = c.examine_each.new.pairs in
    let f2 = c.examine_each.new.found in
    let inv = c.loop-r.invariant in
    let mine = c.index-ours-r.result in
    let r = c.loop-r.r in
    let list = c.at-list.result.now in
    let now : Grows ours theirs p f p2 f2 = c.in_ok-examine_each.ensures.grows in
    let rat : IsAt ours r mine = slice_get_read ours (length ours) r mine refl c.loop-r-test.true c.index-ours-r.is in
    let found : (n : ℕ) → IsAt slots n (slot_of mine.symbol 0 0) → IsAt lists n list =
    subst (λ (o : Rule). (n : ℕ) → IsAt slots n (slot_of o.symbol 0 0) → IsAt lists n list) c.left.view_is c.at-list.ensures.found in
    record {
      grows = grows_on ours theirs base f0 p f p2 f2 inv.grows now;
      settled = leaf_step ours theirs base f0 p f p2 f2 inv.grows now r mine rat inv.settled list
          (rules_at theirs slots lists mine.symbol 0 0 list c.requires.slots c.requires.filed found) c.in_ok-examine_each.ensures.settled;
    }

pub returns-clause-settled : goal.returns-clause-settled
returns-clause-settled c r s left right lat sat alike none =
    let w = slice_get_within c.args.ours.now r left lat in
    c.loop-r.invariant.settled r s left right (omega (arith, w, c.loop-r-test.false)) lat sat alike none
