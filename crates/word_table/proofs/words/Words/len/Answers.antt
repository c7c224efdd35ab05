use Rattle.std.proofs.Common.{arith}
use Rattle.word_table.proofs.Ends.{ends_as_words}
use Rattle.word_table.proofs.words.Words.len.Goals as goal

pub returns-clause-value : goal.returns-clause-value
returns-clause-value c =
    omega (arith, c.len.ensures, c.self.inside.ends.ok.0, ends_as_words c.self.inside.bytes.items c.self.inside.ends.items c.args.self.now c.self.view_is)

pub returns-clause-few : goal.returns-clause-few
returns-clause-few c = omega (arith, c.self.invariant.few, ends_as_words c.self.inside.bytes.items c.self.inside.ends.items c.args.self.now c.self.view_is)
