use Rattle.std.proofs.Common.{slice_get, ◌∙◌, sym, ap, subst, Contains}
use Rattle.std.proofs.lemmas.Bool.{false≢true}
use Rattle.ranked_alphabet.proofs.Places.{position_finds, any_member}
use Rattle.ranked_alphabet.proofs.alphabet.Alphabet.find.Goals as goal

pub returns-in-Some-clause-found : goal.returns-in-Some-clause-found
returns-in-Some-clause-found c =
    ap (λ xs. slice_get xs c.in-Some.i) (sym c.self.view_is) ∙ position_finds c.self.inside.symbols.keys c.args.symbol.now c.in-Some.i (sym c.in-Some.ensures.index)

pub returns-in-None-clause-none : goal.returns-in-None-clause-none
returns-in-None-clause-none c h =
    false≢true (c.in-None.ensures.found ∙ any_member c.self.inside.symbols.keys c.args.symbol.now (subst (λ xs. Contains xs c.args.symbol.now) (sym c.self.view_is) h))
