use Rattle.std.proofs.Common.{◌≡◌, ◌<◌, length, sym, ap, ◌∙◌, subst, arith}
use Rattle.tree_definitions.specs.Automaton.{Rule}
use Rattle.simulations.specs.Clearing.{Clearing}
use Rattle.simulations.specs.DownCases.{IsDownMatrix}
use Rattle.simulations.proofs.ClearingSteps.{clearing_then}
use Rattle.simulations.proofs.symbols.clear_by_symbols.Goals as goal

pub loop-i-preserved : goal.loop-i-preserved
loop-i-preserved c =
    let rules = c.args.rules.now in
    let n = length c.args.sim.now in
    let item = c.index-rules-i.result in
    let has = c.index.result.now in
    let s = c.rule.inside.symbol in
    let below : item.symbol < c.args.symbols = subst (λ (o : Rule). o.symbol < c.args.symbols) (sym c.index-rules-i.is) (c.requires.symbols c.loop-i.i item c.loop-i-test.true) in
    let se : s ≡ item.symbol = ap (λ (o : Rule). o.symbol) c.rule.view_is in
    let count = c.in_ok-rows.ensures.count in
    let l : s < length c.in_ok-rows.rows.items = omega (arith, below, count, se) in
    let long : length has ≡ n = ap length c.index.ensures ∙ c.in_ok-rows.ensures.long s has l ∙ c.size-states.ensures.value in
    clearing_then n (IsDownMatrix rules) c.args.sim.now c.args.marks.now c.loop-i.sim c.loop-i.marks c.judge_row.new.sim c.judge_row.new.marks c.loop-i.invariant
    (subst (λ k. Clearing k (IsDownMatrix rules) c.loop-i.sim c.loop-i.marks c.judge_row.new.sim c.judge_row.new.marks) long c.judge_row.ensures)
