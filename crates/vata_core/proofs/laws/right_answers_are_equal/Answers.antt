use Rattle.vata_core.proofs.OneAnswer.{one_answer}
use Rattle.vata_core.proofs.laws.right_answers_are_equal.Goals as goal

pub returns : goal.returns
returns c = one_answer
