use Rattle.std.proofs.Common.{length, sym, ◌∙◌, subst, arith}
use Rattle.tree_definitions.specs.Relation.{Matrix, IsSquare}
use Rattle.simulations.specs.Clearing.{Seen}
use Rattle.simulations.specs.UpCases.{IsUpMatrix, IsUpSettled}
use Rattle.simulations.proofs.ClearingSteps.{seen_first}
use Rattle.simulations.proofs.UpSteps.{greatest_up_by_parts}
use Rattle.simulations.proofs.upward.greatest_up.Goals as goal

pub refine-requires-clause-seen : goal.refine-requires-clause-seen
refine-requires-clause-seen c =
    let n = length c.args.by_child.now in
    let s = seen_first n (IsUpMatrix c.args.rules.now) c.sweep.new.sim c.in_ok-marks.marks c.sweep-2.new.sim c.sweep-2.new.marks c.sweep.ensures.clearing.now.square
    (λ x m. c.in_ok-marks.ensures.members x (omega arith) m) c.sweep-2.ensures.clearing in
    let P : Matrix → Type 0 = λ x. Seen n x c.sweep-2.new.sim c.sweep-2.new.marks in
    subst P (sym (c.as_mut_slice-rows.ensures.value ∙ c.in_ok-seen.ensures)) s

pub refine-requires-clause-settled : goal.refine-requires-clause-settled
refine-requires-clause-settled c =
    let P : Matrix → Type 0 = λ x. IsUpSettled c.args.rules.now x c.sweep-2.new.sim in
    subst P (sym (c.as_mut_slice-rows.ensures.value ∙ c.in_ok-seen.ensures)) c.sweep-2.ensures.settled

pub returns-clause-pairs : goal.returns-clause-pairs
returns-clause-pairs c =
    let v = c.in_ok-refine.ensures in
    let start = c.in_ok-sim.ensures in
    greatest_up_by_parts (length c.args.by_child.now) c.args.rules.now c.requires.within c.args.finals.now c.in_ok-sim.sim c.refine.new.sim start.finals
    (λ m square keeps. start.each m (subst (λ k. IsSquare k m) (sym c.len.ensures) square) keeps)
    v.square
    (λ x y h. c.sweep.ensures.clearing.fewer x y (c.sweep-2.ensures.clearing.fewer x y (v.fewer x y h)))
    v.settled
    (λ m k w. v.each m k (c.sweep-2.ensures.clearing.each m k (c.sweep.ensures.clearing.each m k w)))
