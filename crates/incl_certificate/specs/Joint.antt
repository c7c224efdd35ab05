-- The symbols of a second list that a first one lacks.
use Rattle.std.specs.Prelude.{List, filter, not}
use Rattle.std.specs.List.{list_any}
use Rattle.tree_definitions.specs.Tree.{Symbol}
use Rattle.tree_definitions.specs.Joint.{same_symbol}

abbrev pub lacking : List Symbol → List Symbol → List Symbol
lacking first second = filter (λ a. not (list_any (same_symbol a) first)) second
