use Rattle.ranked_alphabet.specs.Alphabets.{Merging, IsAlphabet}
use Rattle.ranked_alphabet.proofs.alphabet.Alphabet.intern_each.Given as goal

-- the symbols before this one are merged
abbrev pub invariant-loop-symbol : goal.invariant-loop-symbol
invariant-loop-symbol l = Merging l.fn.self l.symbols l.symbol-index l.self l.places.items × IsAlphabet l.self
