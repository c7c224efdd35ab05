use Rattle.std.proofs.Common.{length, sym, ◌∙◌, subst, arith}
use Rattle.tree_definitions.specs.Relation.{Matrix}
use Rattle.simulations.specs.Clearing.{Seen}
use Rattle.simulations.specs.DownCases.{IsDownMatrix, IsSettled}
use Rattle.simulations.proofs.ClearingSteps.{seen_first}
use Rattle.simulations.proofs.DownSteps.{greatest_by_parts}
use Rattle.simulations.proofs.downward.greatest_down.Goals as goal

pub refine-requires-clause-seen : goal.refine-requires-clause-seen
refine-requires-clause-seen c =
    let n = length c.args.to.now in
    let s = seen_first n (IsDownMatrix c.args.rules.now) c.sweep_early.new.sim c.in_ok-marks.marks c.sweep.new.sim c.sweep.new.marks c.sweep_early.ensures.now.square
    (λ x m. c.in_ok-marks.ensures.members x (omega arith) m) c.sweep.ensures.clearing in
    let P : Matrix → Type 0 = λ x. Seen n x c.sweep.new.sim c.sweep.new.marks in
    subst P (sym (c.as_mut_slice-rows.ensures.value ∙ c.in_ok-seen.ensures)) s

pub refine-requires-clause-settled : goal.refine-requires-clause-settled
refine-requires-clause-settled c =
    let P : Matrix → Type 0 = λ x. IsSettled c.args.rules.now x c.sweep.new.sim in
    subst P (sym (c.as_mut_slice-rows.ensures.value ∙ c.in_ok-seen.ensures)) c.sweep.ensures.settled

pub returns-clause-pairs : goal.returns-clause-pairs
returns-clause-pairs c =
    let v = c.in_ok-refine.ensures in
    greatest_by_parts (length c.args.to.now) c.args.rules.now c.in_ok-sim.sim c.refine.new.sim
    (λ q r l k. let e = c.len.ensures in c.in_ok-sim.ensures.pairs q r (omega (arith, l, e)) (omega (arith, k, e))) v.square v.simulation
    (λ m k w. v.each m k (c.sweep.ensures.clearing.each m k (c.sweep_early.ensures.each m k (c.in_ok-clear_by_symbols.ensures.each m k w))))
