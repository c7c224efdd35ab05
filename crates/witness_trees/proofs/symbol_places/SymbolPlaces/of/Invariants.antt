use Rattle.std.proofs.Common.{◌≡◌, take}
use Rattle.witness_trees.proofs.symbol_places.SymbolPlaces.of.Given as goal

-- the symbols so far, in their order
abbrev pub invariant-loop-symbol : goal.invariant-loop-symbol
invariant-loop-symbol l = l.places ≡ take l.symbol-index l.symbols
