use Rattle.std.proofs.Common.{true, length, arith}
use Rattle.std.proofs.lemmas.Option.{slice_get_within}
use Rattle.simulations.specs.DownCases.{IsDownMatrix}
use Rattle.simulations.proofs.ClearingSteps.{clearing_none, clearing_then}
use Rattle.simulations.proofs.symbols.judge_row.Goals as goal

pub loop-r-init : goal.loop-r-init
loop-r-init c = record {
  up = omega arith;
  clearing = clearing_none (length c.args.has.now) (IsDownMatrix c.args.rules.now) c.args.sim.now c.args.marks.now c.requires.state;
}

pub overflow_add-from : goal.overflow_add-from
overflow_add-from c =
    let w = slice_get_within c.row.result.now c.in-Some.r true c.in-Some.ensures.least.set in
    let e = c.row.ensures.long in
    let f = c.loop-r.invariant.clearing.now.square.rows in
    omega (arith, w, e, f)

pub loop-r-smaller : goal.loop-r-smaller
loop-r-smaller c =
    let w = slice_get_within c.row.result.now c.in-Some.r true c.in-Some.ensures.least.set in
    let l = c.in-Some.ensures.least.from_on in
    let e = c.row.ensures.long in
    let f = c.loop-r.invariant.clearing.now.square.rows in
    omega (arith, w, l, e, f)

pub loop-r-preserved : goal.loop-r-preserved
loop-r-preserved c =
    let rules = c.args.rules.now in
    let n = length c.args.has.now in
    let inv = c.loop-r.invariant in
    let w = slice_get_within c.row.result.now c.in-Some.r true c.in-Some.ensures.least.set in
    let long = c.row.ensures.long in
    let rows = inv.clearing.now.square.rows in
    record {
      up = omega (arith, w, long, rows);
      clearing = clearing_then n (IsDownMatrix rules) c.args.sim.now c.args.marks.now c.loop-r.sim c.loop-r.marks c.judge.new.sim c.judge.new.marks inv.clearing c.judge.ensures;
    }
