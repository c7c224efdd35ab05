use Rattle.std.proofs.Common.{◌++◌, ◌∷◌, [], Contains, sym, ap, subst, ◌∙◌}
use Rattle.witness_trees.proofs.Looked.{appended}
use Rattle.witness_trees.proofs.symbol_places.SymbolPlaces.append.Goals as goal

pub returns : goal.returns
returns c =
    appended c.self.inside.symbols.keys c.insert.new.self.keys c.in_ok-copy.copy c.args.symbol.now c.in_ok-copy.ensures.cases
    (subst (λ xs. Contains xs c.args.symbol.now → ⊥) (sym c.self.view_is) c.requires.lacks) c.in_ok-insert.ensures.keys
    ∙ ap (λ xs. xs ++ c.args.symbol.now ∷ []) c.self.view_is
