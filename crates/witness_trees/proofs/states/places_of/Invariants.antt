use Rattle.std.proofs.Common.{take}
use Rattle.std.specs.List.{AllZip}
use Rattle.witness_trees.specs.Marking.{IsPlaceOf}
use Rattle.witness_trees.proofs.states.places_of.Given as goal

-- the places among the symbols before i
abbrev pub invariant-loop-i : goal.invariant-loop-i
invariant-loop-i l = AllZip (IsPlaceOf (take l.i l.symbols)) l.nodes.symbols l.places.items
