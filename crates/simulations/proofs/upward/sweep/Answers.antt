use Rattle.std.proofs.Common.{length, refl}
use Rattle.std.proofs.lemmas.Option.{slice_get_read}
use Rattle.tree_definitions.specs.Relation.{IsAt}
use Rattle.simulations.specs.UpCases.{IsUpMatrix}
use Rattle.simulations.proofs.ClearingSteps.{clearing_then}
use Rattle.simulations.proofs.UpSteps.{rule_next, rule_ends}
use Rattle.simulations.proofs.upward.sweep.Goals as goal

pub loop-i-preserved : goal.loop-i-preserved
loop-i-preserved c =
    let rules = c.args.rules.now in
    let n = length c.args.by_child.now in
    let i = c.loop-i.i in
    let here = c.index-rules-i.result in
    let at : IsAt rules i here = slice_get_read rules (length rules) i here refl c.loop-i-test.true c.index-rules-i.is in
    let inv = c.loop-i.invariant in
    let e = c.examine_rule.ensures in
    record {
      clearing = clearing_then n (IsUpMatrix rules) c.args.sim.now c.args.marks.now c.loop-i.sim c.loop-i.marks c.examine_rule.new.sim c.examine_rule.new.marks inv.clearing e.clearing;
      exchanged = rule_next rules i here c.args.sim.now c.loop-i.sim c.examine_rule.new.sim at inv.exchanged e.exchanged inv.clearing.fewer e.clearing.fewer;
    }

pub returns-clause-settled : goal.returns-clause-settled
returns-clause-settled c = rule_ends c.args.rules.now c.loop-i.i c.args.sim.now c.loop-i.sim c.loop-i-test.false c.loop-i.invariant.exchanged
