-- The canonical form of an automaton without its useless states.
use Rattle.std.specs.Prelude.{◌≡◌}
use Rattle.tree_definitions.specs.Automaton.{Automaton}
use Rattle.tree_definitions.specs.Canonical.{canon}
use Rattle.tree_definitions.specs.Trim.{IsTrim}

-- C is the canonical form of A without its useless states
abbrev pub IsCanonicalTrim : Automaton → Automaton → Type 0
IsCanonicalTrim A C = (T : Automaton) × IsTrim A T × (C ≡ canon T)
