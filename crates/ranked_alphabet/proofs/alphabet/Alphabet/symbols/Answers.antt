use Rattle.std.proofs.Common.{◌∙◌, subst}
use Rattle.ranked_alphabet.specs.Alphabets.{IsAlphabet}
use Rattle.ranked_alphabet.proofs.alphabet.Alphabet.symbols.Goals as goal

pub returns-clause-value : goal.returns-clause-value
returns-clause-value c = c.as_slice.ensures.keys ∙ c.self.view_is

pub returns-clause-alphabet : goal.returns-clause-alphabet
returns-clause-alphabet c = subst IsAlphabet c.self.view_is c.self.invariant
