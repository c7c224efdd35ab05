-- The last node's tree is accepted where a final state is among those that it reaches.
use Rattle.std.proofs.Common.{◌≡◌, ◌+◌, ℕ, List, length, subst, arith}
use Rattle.std.specs.Prelude.{◌↔◌}
use Rattle.tree_definitions.specs.Automaton.{Automaton}
use Rattle.tree_definitions.specs.Relation.{Row, IsAt}
use Rattle.tree_definitions.specs.Witness.{IsTreeOf}
use Rattle.witness_trees.specs.Nodes.{NodeList}
use Rattle.witness_trees.specs.Reached.{AreReached}
use Rattle.incl_certificate.specs.Trees.{HasSome, IsAccepted}

pub accepted : (A : Automaton) (nodes : NodeList) (reached : List Row) (row : Row) (last : ℕ) → AreReached A nodes reached → length nodes.rows ≡ last + 1
    → IsAt reached last row → HasSome row A.finals ↔ IsAccepted A nodes
accepted A nodes reached row last r count at = (
  λ h. let reaches = (r.states last row at h.0).0 h.2 in (reaches.0, (last, count, reaches.1), (h.0, h.1, reaches.2)),
  λ h.
      let same : h.1.0 ≡ last = omega (arith, h.1.1) in
      (h.2.0, h.2.1, (r.states last row at h.2.0).1 (h.0, subst (λ k. IsTreeOf nodes.symbols nodes.rows k h.0) same h.1.2, h.2.2)),
)
