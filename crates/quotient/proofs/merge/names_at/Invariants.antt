use Rattle.std.proofs.Common.{take}
use Rattle.std.specs.List.{AllZip}
use Rattle.tree_definitions.specs.Relation.{IsAt}
use Rattle.quotient.proofs.merge.names_at.Given as goal

-- the names of the places so far
abbrev pub invariant-loop-q : goal.invariant-loop-q
invariant-loop-q l = AllZip (IsAt l.names) (take l.q-index l.places) l.found.items
