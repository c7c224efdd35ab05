use Rattle.std.proofs.Common.{◌≡◌, true, length, refl, ap, arith}
use Rattle.std.proofs.lemmas.Option.{slice_get_read, slice_get_within}
use Rattle.tree_definitions.specs.Automaton.{Rule}
use Rattle.tree_definitions.specs.Relation.{IsAt}
use Rattle.simulations.specs.DownCases.{IsDownMatrix}
use Rattle.simulations.proofs.ClearingSteps.{clearing_then}
use Rattle.simulations.proofs.DownSteps.{row_next, row_ends}
use Rattle.simulations.proofs.downward.examine_row.Goals as goal

pub overflow_add-from : goal.overflow_add-from
overflow_add-from c =
    let w = slice_get_within c.row.result.now c.in-Some.r true c.in-Some.ensures.least.set in
    let e = c.row.ensures.long in
    let f = c.loop-r.invariant.clearing.now.square.rows in
    omega (arith, w, e, f)

pub loop-r-smaller : goal.loop-r-smaller
loop-r-smaller c =
    let w = slice_get_within c.row.result.now c.in-Some.r true c.in-Some.ensures.least.set in
    let l = c.in-Some.ensures.least.from_on in
    let e = c.row.ensures.long in
    let f = c.loop-r.invariant.clearing.now.square.rows in
    omega (arith, w, l, e, f)

pub loop-r-preserved : goal.loop-r-preserved
loop-r-preserved c =
    let rules = c.args.rules.now in
    let n = length c.args.to.now in
    let here = c.index-rules-i.result in
    let at : IsAt rules c.args.i here = slice_get_read rules (length rules) c.args.i here refl c.requires.rule c.index-rules-i.is in
    let e : c.rule.inside.parent ≡ here.parent = ap (λ (o : Rule). o.parent) c.rule.view_is in
    let inv = c.loop-r.invariant in
    let w = slice_get_within c.row.result.now c.in-Some.r true c.in-Some.ensures.least.set in
    let long = c.row.ensures.long in
    let rows = inv.clearing.now.square.rows in
    record {
      up = omega (arith, w, long, rows);
      clearing = clearing_then n (IsDownMatrix rules) c.args.sim.now c.args.marks.now c.loop-r.sim c.loop-r.marks c.examine.new.sim c.examine.new.marks inv.clearing c.examine.ensures.clearing;
      answered = row_next rules c.args.i here at c.rule.inside.parent e c.row.result.now c.args.sim.now c.loop-r.sim c.row.ensures.members c.loop-r.from inv.answered
          c.in-Some.r c.examine.new.sim c.in-Some.ensures.least inv.clearing.fewer c.examine.ensures.clearing.fewer c.examine.ensures.answered;
    }

pub returns-clause-answered : goal.returns-clause-answered
returns-clause-answered c =
    let rules = c.args.rules.now in
    let n = length c.args.to.now in
    let here = c.index-rules-i.result in
    let at : IsAt rules c.args.i here = slice_get_read rules (length rules) c.args.i here refl c.requires.rule c.index-rules-i.is in
    let e : c.rule.inside.parent ≡ here.parent = ap (λ (o : Rule). o.parent) c.rule.view_is in
    row_ends rules c.args.i here at c.rule.inside.parent e c.row.result.now c.args.sim.now c.loop-r.sim c.row.ensures.members c.loop-r.from c.loop-r.invariant.answered n (c.in_default.ensures.none.0 refl)
