-- The canonical form of a listed automaton is one.
use Rattle.std.proofs.Common.{ℕ, List}
use Rattle.std.specs.List.Sorted.{IsPermutation}
use Rattle.std.proofs.lemmas.List.Sorted.{length_permutation}
use Rattle.tree_definitions.specs.Automaton.{Automaton, Rule}
use Rattle.tree_definitions.proofs.CanonicalForms.{still_automaton}
use Rattle.ta_model.specs.Listing.{IsListed}

pub still_listed : (A : Automaton) (fs : List ℕ) (rs : List Rule) → IsListed A → IsPermutation A.finals fs → IsPermutation A.rules rs → IsListed (record A { finals = fs; rules = rs })
still_listed A fs rs h p q = record {
  automaton = still_automaton A fs rs h.automaton p q;
  narrow = h.narrow;
  name = h.name;
  symbol_names = h.symbol_names;
  state_names = h.state_names;
  few_symbols = h.few_symbols;
  few_states = h.few_states;
  few_rules = rw (length_permutation A.rules rs q) h.few_rules;
}
