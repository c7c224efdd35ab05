-- The canonical form of an automaton: its finals and its rules in rising order.
use Rattle.std.specs.Prelude.{List, map}
use Rattle.std.specs.Ordering.{nat_cmp, ordering_then}
use Rattle.std.specs.Cmp.Lexicographic.{slice_cmp}
use Rattle.std.specs.declared.cmp.Ordering.{Ordering}
use Rattle.std.specs.FinMap as fin
use Rattle.tree_definitions.specs.Automaton.{Automaton, Rule}

-- rules by parent, then by symbol, then by children from the left
abbrev pub rule_cmp : Rule → Rule → Ordering
rule_cmp r s = ordering_then (nat_cmp r.parent s.parent) (ordering_then (nat_cmp r.symbol s.symbol) (slice_cmp nat_cmp r.kids s.kids))

-- the items of a list, each once, in rising order
abbrev pub in_order : {K : Type 0} → (K → K → Ordering) → List K → List K
in_order cmp xs = fin.keys (fin.from_entries {R = cmp} (map (λ k. (k, tt {0})) xs))

-- the same automaton, with its finals and its rules in rising order
abbrev pub canon : Automaton → Automaton
canon A = record A { finals = in_order nat_cmp A.finals; rules = in_order rule_cmp A.rules }
