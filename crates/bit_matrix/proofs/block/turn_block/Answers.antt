use Rattle.bit_matrix.proofs.BlockLemmas.{step_32, step_16, step_8, step_4, step_2, step_1, turned_in_six}
use Rattle.bit_matrix.proofs.block.turn_block.Goals as goal

pub step-requires : goal.step-requires
step-requires c = step_32

pub step-requires-2 : goal.step-requires-2
step-requires-2 c = step_16

pub step-requires-3 : goal.step-requires-3
step-requires-3 c = step_8

pub step-requires-4 : goal.step-requires-4
step-requires-4 c = step_4

pub step-requires-5 : goal.step-requires-5
step-requires-5 c = step_2

pub step-requires-6 : goal.step-requires-6
step-requires-6 c = step_1

pub returns : goal.returns
returns c =
    turned_in_six c.args.block.now c.step.new.to c.step-2.new.to c.step-3.new.to c.step-4.new.to c.step-5.new.to c.step-6.new.to
    c.step.ensures c.step-2.ensures c.step-3.ensures c.step-4.ensures c.step-5.ensures c.step-6.ensures
