use Rattle.std.proofs.Common.{◌≡◌, ◌<◌, ℕ, length}
use Rattle.std.specs.Prelude.{All}
use Rattle.tree_definitions.specs.Automaton.{Rule}
use Rattle.tree_definitions.specs.Relation.{IsAt, Holds}
use Rattle.simulations.proofs.symbols.parents_by_symbol.Given as goal

-- the parents of the rules before this one are set
abbrev pub invariant-loop-rule : goal.invariant-loop-rule
invariant-loop-rule l = record {
  count : length l.rows.items ≡ l.symbols;
  long : All (λ row. length row ≡ l.states) l.rows.items;
  whole : (i : ℕ) (rule : Rule) → i < l.rule-index → IsAt l.rules i rule → Holds l.rows.items rule.symbol rule.parent;
}
