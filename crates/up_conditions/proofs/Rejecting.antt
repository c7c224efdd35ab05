-- Rejecting by rows of final states.
use Rattle.std.proofs.Common.{◌↔◌, ℕ}
use Rattle.tree_definitions.specs.Automaton.{Automaton, IsFinal}
use Rattle.tree_definitions.specs.Cover.{Pair, Rejects}
use Rattle.tree_definitions.specs.Relation.{Row, Has}
use Rattle.up_conditions.specs.Listed.{RejectsBy}

module _ (A B : Automaton) (left right : Row) (ours : (q : ℕ) → Has left q ↔ IsFinal A q) (theirs : (q : ℕ) → Has right q ↔ IsFinal B q) where
  pub rejects_by_rows : (pair : Pair) → RejectsBy left right pair → Rejects A B pair
  rejects_by_rows pair h = record { final = (ours pair.state).0 h.final; none = λ s m f. h.none s m ((theirs s).1 f) }

  pub rows_reject : (pair : Pair) → Rejects A B pair → RejectsBy left right pair
  rows_reject pair h = record { final = (ours pair.state).1 h.final; none = λ s m f. h.none s m ((theirs s).0 f) }
