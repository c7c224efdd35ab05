use Rattle.std.proofs.Common.{length, ap, arith}
use Rattle.tree_definitions.specs.Automaton.{Rule}
use Rattle.simulations.specs.UpCases.{IsUpMatrix, IsUpCaseAt}
use Rattle.simulations.proofs.ClearingSteps.{clearing_then}
use Rattle.simulations.proofs.UpSteps.{place_next, exchanged_past}
use Rattle.simulations.proofs.upward.examine_rule.Goals as goal

pub loop-p-preserved : goal.loop-p-preserved
loop-p-preserved c =
    let rules = c.args.rules.now in
    let n = length c.args.by_child.now in
    let inv = c.loop-p.invariant in
    let e = c.examine_place.ensures in
    record {
      clearing = clearing_then n (IsUpMatrix rules) c.args.sim.now c.args.marks.now c.loop-p.sim c.loop-p.marks c.examine_place.new.sim c.examine_place.new.marks inv.clearing e.clearing;
      exchanged = place_next n rules c.args.rule.now c.loop-p.p c.args.sim.now c.loop-p.sim c.examine_place.new.sim e.clearing.now.square inv.exchanged e.exchanged inv.clearing.fewer e.clearing.fewer;
    }

pub returns-clause-exchanged : goal.returns-clause-exchanged
returns-clause-exchanged c =
    let rules = c.args.rules.now in
    let rule = c.args.rule.now in
    let a = c.len-p-end.ensures in
    let b = ap (λ (o : Rule). length o.kids) c.rule.view_is in
    let t = c.loop-p-test.false in
    exchanged_past rules (IsUpCaseAt rule c.loop-p.p) (IsUpCaseAt rule (length rule.kids)) c.args.sim.now c.loop-p.sim c.loop-p.invariant.exchanged
    (λ x y z d. (d.0, let l = d.1 in omega (arith, l, a, b, t)))
