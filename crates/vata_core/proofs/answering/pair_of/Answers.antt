use Rattle.std.proofs.Common.{Err, ap}
use Rattle.vata_core.proofs.Measures.{past_symbols}
use Rattle.vata_core.proofs.answering.pair_of.Goals as goal

pub returns-in-Err-Symbols-clause-err : goal.returns-in-Err-Symbols-clause-err
returns-in-Err-Symbols-clause-err c = past_symbols c.args.a.now c.args.b.now (c.in-Err-Symbols.ensures.symbols (ap Err c.in-Err-Symbols.field-0-is))
