-- Two automata over one list of symbols.
use Rattle.std.specs.Prelude.{ℕ, ◌+◌, ◌<◌, ◌≤◌, length}
use Rattle.tree_definitions.specs.Automaton.{Automaton}
use Rattle.tree_definitions.specs.Joint.{joint_symbols}
use Rattle.ta_model.specs.Listing.{IsListed}

-- the states of both together have joint places of 32 bits, and the rules of both numbers of 32 bits
pub record FitTogether (A B : Automaton) : Type 0 where
  pub few_states : length A.states + length B.states < 4294967295
  pub few_rules : length A.rules + length B.rules < 4294967295

-- two listed automata that fit together, and whose symbols fit in one list
pub record ArePaired (A B : Automaton) : Type 0 where
  pub left : IsListed A
  pub right : IsListed B
  pub together : FitTogether A B
  pub few_symbols : length (joint_symbols A.symbols B.symbols) ≤ 65535

-- a joint place: that of a state of A, or of one of B behind the states of A
abbrev pub IsJointState : Automaton → Automaton → ℕ → Type 0
IsJointState A B x = x < length A.states + length B.states
