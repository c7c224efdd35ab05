use Rattle.std.proofs.Common.{◌≡◌, ◌↔◌, ◌<◌, ℕ, List}
use Rattle.std.specs.Prelude.{Contains}
use Rattle.tree_definitions.specs.Automaton.{Rule}
use Rattle.tree_definitions.specs.Relation.{IsAt}
use Rattle.ta_model.specs.Tuples.{kids_of}
use Rattle.down_trails.proofs.tuples.kids_at.Given as goal

-- the children of the rules before this one stand in the list
abbrev pub invariant-loop-r : goal.invariant-loop-r
invariant-loop-r l = (tuple : List ℕ) → Contains (kids_of l.tuples.items) tuple
    ↔ ((k : ℕ) × (r : ℕ) × (rule : Rule) × (k < l.r-index) × IsAt l.list k r × IsAt l.rules r rule × (rule.kids ≡ tuple))
