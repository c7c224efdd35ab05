-- The canonical form of a quotient, and how many states it is made of.
use Rattle.std.specs.Prelude.{◌≡◌, ◌≢◌, ◌<◌, ℕ, List, AllPairs, Contains, length}
use Rattle.tree_definitions.specs.Automaton.{Automaton}
use Rattle.tree_definitions.specs.Canonical.{canon}
use Rattle.tree_definitions.specs.Quotient.{IsQuotient}
use Rattle.tree_definitions.specs.Trim.{IsUseful}

-- C is the canonical form of the quotient of A
abbrev pub IsCanonicalQuotient : Automaton → Automaton → Type 0
IsCanonicalQuotient A C = (Q : Automaton) × IsQuotient A Q × (C ≡ canon Q)

-- more than n states of A are useful
abbrev pub HasMoreUseful : Automaton → ℕ → Type 0
HasMoreUseful A n = (states : List ℕ) × AllPairs ◌≢◌ states × ((q : ℕ) → Contains states q → IsUseful A q) × (n < length states)
