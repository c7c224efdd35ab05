use Rattle.std.proofs.Common.{◌≡◌, ℕ, [], length, subst, arith}
use Rattle.tree_definitions.specs.Automaton.{Rule}
use Rattle.tree_definitions.specs.Relation.{IsAt}
use Rattle.tree_definitions.proofs.Members.{contains_at}
use Rattle.bool_ops.specs.Closing.{AreAlike, Grows, Settled}
use Rattle.bool_ops.proofs.Ended.{together_left, closing_start, closing_step, closing_end}
use Rattle.bool_ops.proofs.close.close.Goals as goal

pub loop-done-init : goal.loop-done-init
loop-done-init c =
    let ours = c.args.ours.now in
    let theirs = c.args.theirs.now in
    let p2 = c.start.new.pairs in
    let f2 = c.start.new.found in
    let grows : Grows ours theirs [] [] p2 f2 =
    subst (λ f. Grows ours theirs [] f p2 f2) c.requires.none_found (subst (λ p. Grows ours theirs p c.args.found.now p2 f2) c.requires.no_pairs c.in_ok-start.ensures.grows) in
    let leaves : (r s : ℕ) (left right : Rule) → IsAt ours r left → IsAt theirs s right → AreAlike left right → left.kids ≡ [] → Settled ours theirs [] p2 f2 r s =
    subst (λ p. (r s : ℕ) (left right : Rule) → IsAt ours r left → IsAt theirs s right → AreAlike left right → left.kids ≡ [] → Settled ours theirs p p2 f2 r s)
    c.requires.no_pairs c.in_ok-start.ensures.settled in
    closing_start ours theirs p2 f2 grows leaves

pub explore-requires-clause-state : goal.explore-requires-clause-state
explore-requires-clause-state c =
    together_left c.args.ours.now c.args.theirs.now (length c.args.by_child.now) c.requires.within c.at-x.result
    (c.loop-done.invariant.sound c.at-x.result (contains_at c.loop-done.pairs c.loop-done.done c.at-x.result c.at-x.ensures))

pub loop-done-preserved : goal.loop-done-preserved
loop-done-preserved c =
    closing_step c.args.ours.now c.args.theirs.now c.loop-done.done c.loop-done.pairs c.loop-done.found c.explore.new.pairs c.explore.new.found c.at-x.result
    c.loop-done.invariant (omega (arith, c.len.ensures.value, c.loop-done-test.true)) (omega (arith, c.len-in-loop-done.ensures.value, c.if-len-gt-MOST_STATES.false))
    c.at-x.ensures c.in_ok-explore.ensures.grows c.in_ok-explore.ensures.settled

pub returns-clause-closed : goal.returns-clause-closed
returns-clause-closed c =
    closing_end c.args.ours.now c.args.theirs.now c.loop-done.done c.loop-done.pairs c.loop-done.found c.loop-done.invariant (omega (arith, c.len.ensures.value, c.loop-done-test.false))
