-- Two automata over joint places.
use Rattle.std.specs.Prelude.{◌≡◌, ◌≢◌, ◌↔◌, ℕ, ◌+◌, List, Bool, ◌++◌, AllPairs, length, map, slice_index}
use Rattle.std.specs.List.{AllZip}
use Rattle.tree_definitions.specs.Automaton.{Automaton, Rule, IsFinal}
use Rattle.tree_definitions.specs.Joint.{right, joint_symbols}
use Rattle.tree_definitions.specs.Relation.{Has, IsAt}
use Rattle.tree_definitions.specs.Tree.{Symbol}
use Rattle.shared_clusters.specs.Clusters.{Group}
use Rattle.ta_model.specs.Pairing.{ArePaired}
use Rattle.explicit_ta.specs.Index.{AreRulesOf, AreUses, HaveSameRules}
use Rattle.explicit_ta.specs.Steps.{relabelled}

-- the left automaton and the right one
pub record Two : Type 0 where
  pub left : Automaton
  pub right : Automaton

-- a rule of B over joint places: its symbol by these places, and its states behind those of A
abbrev pub moved : Automaton → List ℕ → Rule → Rule
moved A places r = record { symbol = slice_index places r.symbol; kids = map (right A) r.kids; parent = right A r.parent }

-- the rules of both over joint places
abbrev pub joint_rules : Automaton → Automaton → List ℕ → List Rule
joint_rules A B places = A.rules ++ map (moved A places) B.rules

-- how the steps of both are kept: the left rules by child and by children, and the right rules under joint symbols
pub record IsUpEncoding (A B : Automaton) (places : List ℕ) (uses : List (List Group)) (by_kids steps : List Rule) : Type 0 where
  pub uses_of : AreUses uses (length A.states) A.rules
  pub by_kids_of : HaveSameRules by_kids A.rules
  pub by_kids_distinct : AllPairs ◌≢◌ by_kids
  pub steps_of : HaveSameRules steps (map (relabelled places) B.rules)

-- what is kept beside the lists of two automata
pub record AreParts (A B : Automaton) (places : List ℕ) (clusters : List (List Group)) (left_finals right_finals : List Bool) (uses : List (List Group)) (by_kids steps : List Rule) : Type 0 where
  pub rules_of : AreRulesOf clusters (length A.states + length B.states) (joint_rules A B places)
  pub left_width : length left_finals ≡ length A.states
  pub left_are : (q : ℕ) → Has left_finals q ↔ IsFinal A q
  pub right_width : length right_finals ≡ length B.states
  pub right_are : (q : ℕ) → Has right_finals q ↔ IsFinal B q
  pub up : IsUpEncoding A B places uses by_kids steps

-- how two automata are kept together
pub record IsPairEncoding (A B : Automaton) (symbols : List Symbol) (places : List ℕ) (clusters : List (List Group)) (left_finals right_finals : List Bool) (uses : List (List Group)) (by_kids steps : List Rule) : Type 0 where
  pub paired : ArePaired A B
  pub symbols_are : symbols ≡ joint_symbols A.symbols B.symbols
  -- the joint place of each symbol of B
  pub placed : AllZip (IsAt symbols) places B.symbols
  pub rules_of : AreRulesOf clusters (length A.states + length B.states) (joint_rules A B places)
  pub left_width : length left_finals ≡ length A.states
  pub left_are : (q : ℕ) → Has left_finals q ↔ IsFinal A q
  pub right_width : length right_finals ≡ length B.states
  pub right_are : (q : ℕ) → Has right_finals q ↔ IsFinal B q
  pub up : IsUpEncoding A B places uses by_kids steps

-- the names with a mark behind each
abbrev pub marked : List ℕ → List (List ℕ) → List (List ℕ)
marked mark names = map (λ n. n ++ mark) names
