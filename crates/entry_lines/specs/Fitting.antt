-- Which entries can be printed.
use Rattle.std.specs.Prelude.{◌<◌, length}
use Rattle.tree_definitions.specs.Automaton.{Automaton}
use Rattle.tree_definitions.specs.Cover.{FitsPair}
use Rattle.tree_definitions.specs.UpTrail.{UpEntry}

-- the pair fits, and the symbol is one of A
pub record IsPrintable (A B : Automaton) (entry : UpEntry) : Type 0 where
  pub pair : FitsPair A B entry.pair
  pub symbol : entry.symbol < length A.symbols
