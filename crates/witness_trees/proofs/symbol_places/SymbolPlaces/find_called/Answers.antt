use Rattle.witness_trees.proofs.Looked.{none_so_wide, found_called}
use Rattle.witness_trees.proofs.symbol_places.SymbolPlaces.find_called.Goals as goal

pub returns : goal.returns
returns c = found_called c.args.self.now (record { name = c.args.name; rank = c.args.rank }) c.find.result c.find.ensures.symbols c.find.ensures.found c.find.ensures.none

pub returns-then-rank-gt255 : goal.returns-then-rank-gt255
returns-then-rank-gt255 c = none_so_wide c.args.self.now c.args.name c.args.rank c.list-symbols.ensures.symbols c.if-rank-gt255.true
