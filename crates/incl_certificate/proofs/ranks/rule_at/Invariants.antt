use Rattle.std.proofs.Common.{◌≡◌, ℕ, ◌<◌}
use Rattle.tree_definitions.specs.Automaton.{Rule as RuleSpec}
use Rattle.tree_definitions.specs.Canonical.{canon}
use Rattle.tree_definitions.specs.Relation.{IsAt}
use Rattle.incl_certificate.proofs.ranks.rule_at.Given as goal

-- no rule before this one with the parent stands at the place of the canonical form
abbrev pub invariant-loop-rule : goal.invariant-loop-rule
invariant-loop-rule l =
    (i : ℕ) (rule : RuleSpec) → i < l.rule-index → IsAt l.rules i rule → IsAt (canon l.fn.a).rules l.fn.place rule → rule.parent ≡ l.fn.parent → ⊥
