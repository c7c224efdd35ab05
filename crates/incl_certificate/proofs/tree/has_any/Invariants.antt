use Rattle.std.proofs.Common.{take}
use Rattle.std.specs.Prelude.{All}
use Rattle.tree_definitions.specs.Relation.{Has}
use Rattle.incl_certificate.proofs.tree.has_any.Given as goal

-- none of the places so far is set
abbrev pub invariant-loop-q : goal.invariant-loop-q
invariant-loop-q l = All (λ q. ¬ Has l.row q) (take l.q-index l.places)
