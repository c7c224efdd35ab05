use Rattle.std.proofs.Common.{arith}
use Rattle.std.proofs.lemmas.Option.{slice_get_within}
use Rattle.tree_definitions.proofs.Members.{place_of}
use Rattle.bool_ops.specs.Closing.{Grows}
use Rattle.bool_ops.proofs.Closed.{grows_on}
use Rattle.bool_ops.proofs.Explored.{list_step}
use Rattle.bool_ops.proofs.close.examine_each.Goals as goal

pub loop-s-preserved : goal.loop-s-preserved
loop-s-preserved c =
    let ours = c.args.ours.now in
    let theirs = c.args.theirs.now in
    let base = c.args.pairs.now in
    let f0 = c.args.found.now in
    let p = c.loop-s.pairs in
    let f = c.loop-s.found in
    let p2 = c.examine.new.pairs in
    let f2 = c.examine.new.found in
    let inv = c.loop-s.invariant in
    let now : Grows ours theirs p f p2 f2 = c.in_ok-examine.ensures.grows in
    record {
      grows = grows_on ours theirs base f0 p f p2 f2 inv.grows now;
      settled = list_step ours theirs base f0 p f p2 f2 inv.grows now c.args.r c.args.list.now c.loop-s.s-index c.loop-s-test.true inv.settled c.in_ok-examine.ensures.settled;
    }

pub returns-clause-settled : goal.returns-clause-settled
returns-clause-settled c s h =
    let at = place_of c.args.list.now s h in
    let w = slice_get_within c.args.list.now at.0 s at.1 in
    c.loop-s.invariant.settled at.0 s (omega (arith, w, c.loop-s-test.false)) at.1
