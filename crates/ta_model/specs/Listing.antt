-- What a listed automaton keeps.
use Rattle.std.specs.Prelude.{◌<◌, ◌≤◌, length, All}
use Rattle.tree_definitions.specs.Automaton.{Automaton, IsAutomaton, IsNarrow}
use Rattle.tree_definitions.specs.Name.{IsName}

-- a narrow automaton whose names are names, and whose lists are not too long for numbers of 32 bits
pub record IsListed (A : Automaton) : Type 0 where
  pub automaton : IsAutomaton A
  pub narrow : IsNarrow A
  pub name : IsName A.name
  pub symbol_names : All (λ a. IsName a.name) A.symbols
  pub state_names : All IsName A.states
  pub few_symbols : length A.symbols ≤ 65535
  pub few_states : length A.states < 4294967295
  pub few_rules : length A.rules < 4294967295
