use Rattle.std.proofs.Common.{Err, ap}
use Rattle.vata_core.proofs.Measures.{past_useful, quotient_within}
use Rattle.vata_core.proofs.answering.quotient_of.Goals as goal

pub returns-in-Ok-reduce-clause-within : goal.returns-in-Ok-reduce-clause-within
returns-in-Ok-reduce-clause-within c = quotient_within c.args.a c.in-Ok.table c.in-Ok.ensures c.in-Ok-reduce.ensures.few

pub returns-in-Err-TooLarge-clause-err : goal.returns-in-Err-TooLarge-clause-err
returns-in-Err-TooLarge-clause-err c = past_useful c.args.a c.in-Ok.table c.in-Ok.ensures (c.in-Err-TooLarge.ensures.large (ap Err c.in-Err-TooLarge.field-0-is))
