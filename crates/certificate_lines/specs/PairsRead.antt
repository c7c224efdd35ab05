-- Texts that are the lines of pairs.
use Rattle.std.specs.Prelude.{◌≡◌, ℕ, ◌<◌, List, All, length}
use Rattle.tree_definitions.specs.Automaton.{Automaton}
use Rattle.tree_definitions.specs.Cover.{Pair, FitsPair}
use Rattle.listed_pairs.specs.Order.{AreRising}
use Rattle.certificate_lines.specs.Pairs.{pairs_text}

-- the text is the lines of these pairs, which are pairs of A and B in rising order, and not too many for a number of 32 bits
pub record ArePairsOf (A B : Automaton) (text : List ℕ) (pairs : List Pair) : Type 0 where
  pub printed : text ≡ pairs_text A B pairs
  pub fitting : All (FitsPair A B) pairs
  pub rising : AreRising pairs
  pub few : length pairs < 4294967295
