use Rattle.std.proofs.Common.{Contains, sym, ap, subst, ◌∙◌, slice_get}
use Rattle.std.proofs.lemmas.Bool.{false≢true}
use Rattle.witness_trees.proofs.Looked.{position_finds, any_member}
use Rattle.witness_trees.proofs.symbol_places.SymbolPlaces.find.Goals as goal

pub returns-in-Some-clause-found : goal.returns-in-Some-clause-found
returns-in-Some-clause-found c =
    ap (λ xs. slice_get xs c.in-Some.i) (sym c.self.view_is) ∙ position_finds c.self.inside.symbols.keys c.args.symbol.now c.in-Some.i (sym c.in-Some.ensures.index)

pub returns-in-None-clause-none : goal.returns-in-None-clause-none
returns-in-None-clause-none c h =
    false≢true (c.in-None.ensures.found ∙ any_member c.self.inside.symbols.keys c.args.symbol.now (subst (λ xs. Contains xs c.args.symbol.now) (sym c.self.view_is) h))
