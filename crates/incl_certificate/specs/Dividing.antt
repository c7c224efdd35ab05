-- Splits of the pair of an entry.
use Rattle.std.specs.Prelude.{◌≡◌, ◌<◌, ℕ, List, All, length}
use Rattle.tree_definitions.specs.Automaton.{Automaton, Rule}
use Rattle.tree_definitions.specs.Cover.{Pair}
use Rattle.tree_definitions.specs.DownTrail.{DownEntry, IsPairOf}
use Rattle.tree_definitions.specs.Relation.{IsAt}

-- the rule at place r of A leads to the state of the entry's pair, and the choice has places of its children
abbrev pub DividesPair : Automaton → DownEntry → ℕ → List ℕ → Type 0
DividesPair A entry r choice =
    (pair : Pair) × (rule : Rule) × IsPairOf entry pair × IsAt A.rules r rule × (rule.parent ≡ pair.state) × All (λ place. place < length rule.kids) choice
