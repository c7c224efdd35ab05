-- Which entries can be printed, and which automata have their rules read.
use Rattle.std.specs.Prelude.{◌<◌, ◌≤◌, ◌^◌, All, length}
use Rattle.tree_definitions.specs.Tree.{Symbol}
use Rattle.tree_definitions.specs.Automaton.{Automaton}
use Rattle.tree_definitions.specs.Cover.{FitsPair}
use Rattle.tree_definitions.specs.DownTrail.{DownEntry, Root, Child, Split}

-- a pair of A and B, or a split by a rule of A
abbrev pub IsPrintable : Automaton → Automaton → DownEntry → Type 0
IsPrintable A B (Root pair) = FitsPair A B pair
IsPrintable A B (Child pair split place) = FitsPair A B pair
IsPrintable A B (Split e r choice) = r < length A.rules

-- the symbol's rank is one of a byte
abbrev pub IsRankSmall : Symbol → Type 0
IsRankSmall a = a.rank ≤ 255

-- each symbol's rank is one of a byte
abbrev pub AreRanksSmall : Automaton → Type 0
AreRanksSmall A = All IsRankSmall A.symbols

-- each symbol's rank is a number of 64 bits
abbrev pub AreRanksNumbers : Automaton → Type 0
AreRanksNumbers A = All (λ a. a.rank < 2 ^ 64) A.symbols
