use Rattle.std.proofs.Common.{sym, subst, Contains, arith}
use Rattle.ranked_alphabet.specs.Alphabets.{IsAlphabet, Interned}
use Rattle.ranked_alphabet.proofs.Places.{interned, still_alphabet}
use Rattle.ranked_alphabet.proofs.alphabet.Alphabet.intern.Goals as goal

kept : goal.invariant_of-self-2
kept c =
    let stored = c.in-Ok-insert_full.ensures.stored in
    let lacks : Contains c.self.inside.symbols.keys c.args.symbol.now → ⊥ =
    subst (λ xs. Contains xs c.args.symbol.now → ⊥) (sym c.self.view_is) c.in_default.ensures.none in
    let is = interned c.self.inside.symbols.keys c.insert_full.new.self.keys c.args.symbol.now c.in-Ok.copy stored.0 c.in-Ok-insert_full.i c.in-Ok.ensures.cases lacks c.in-Ok-insert_full.ensures.keys stored.1 stored.2 in
    subst IsAlphabet (sym (is.fresh lacks)) (still_alphabet c.self.inside.symbols.keys c.args.symbol.now c.self.invariant lacks (omega (arith, c.if-len-eq-MOST_SYMBOLS.false, c.self.invariant.few, c.len.ensures.len)))

pub returns-clause-ok : goal.returns-clause-ok
returns-clause-ok c =
    let stored = c.in-Ok-insert_full.ensures.stored in
    subst (λ xs. Interned xs c.args.symbol.now c.insert_full.new.self.keys c.in-Ok-insert_full.i) c.self.view_is
    (interned c.self.inside.symbols.keys c.insert_full.new.self.keys c.args.symbol.now c.in-Ok.copy stored.0 c.in-Ok-insert_full.i c.in-Ok.ensures.cases
    (subst (λ xs. Contains xs c.args.symbol.now → ⊥) (sym c.self.view_is) c.in_default.ensures.none) c.in-Ok-insert_full.ensures.keys stored.1 stored.2)

pub invariant_of-self-2 : goal.invariant_of-self-2
invariant_of-self-2 c = kept c

pub returns-clause-alphabet : goal.returns-clause-alphabet
returns-clause-alphabet c = kept c
