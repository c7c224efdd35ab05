use Rattle.std.proofs.Common.{◌≡◌, ◌+◌, ◌∙◌, Err, subst, sym, ap}
use Rattle.std.proofs.lemmas.Result.{err_from_is_err_and}
use Rattle.ranked_alphabet.specs.Alphabets.{Merging}
use Rattle.ranked_alphabet.specs.declared.alphabet.AlphabetError.TheVariants.{Full}
use Rattle.ranked_alphabet.proofs.Merged.{merging_step, merging_full}
use Rattle.ranked_alphabet.proofs.alphabet.Alphabet.intern_each.Goals as goal

pub returns-in_err-intern-clause-full : goal.returns-in_err-intern-clause-full
returns-in_err-intern-clause-full c e =
    let passed = err_from_is_err_and c.from_residual-in_err-intern.result c.from_residual-in_err-intern.ensures.1 in
    let same : passed.0 ≡ Full = (cc (passed.1, e)) in
    merging_full c.args.self.now c.args.symbols.now c.loop-symbol.symbol-index c.loop-symbol.self c.loop-symbol.places.items c.symbol-item.result c.requires.symbols.distinct c.loop-symbol-test.true c.symbol-item.is c.loop-symbol.invariant.0 (c.in_err-intern.ensures.full.0 (ap Err (sym passed.2 ∙ same)))

pub loop-symbol-preserved : goal.loop-symbol-preserved
loop-symbol-preserved c = (
  subst (Merging c.args.self.now c.args.symbols.now (c.loop-symbol.symbol-index + 1) c.intern.new.self) (sym c.in_ok-push.ensures.items)
      (merging_step c.args.self.now c.args.symbols.now c.loop-symbol.symbol-index c.loop-symbol.self c.intern.new.self c.loop-symbol.places.items c.symbol-item.result c.in_ok-intern.field-0 c.requires.symbols.distinct c.loop-symbol-test.true c.symbol-item.is c.loop-symbol.invariant.0 c.in_ok-intern.ensures.ok),
  c.intern.ensures.alphabet,
)
