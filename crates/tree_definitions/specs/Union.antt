-- The union of two automata.
use Rattle.std.specs.Prelude.{◌≡◌, ◌↔◌, ◌⊎◌, ℕ, List, ◌++◌, map, codes}
use Rattle.tree_definitions.specs.Tree.{Symbol}
use Rattle.tree_definitions.specs.Automaton.{Automaton, HasSymbols, HasRule, IsAutomaton, IsFinal}
use Rattle.tree_definitions.specs.Joint.{JointRule, right, joint_symbols}

-- the union: the states of A with _1 at their names, then those of B with _2, with the final states and the rules of both
pub record IsUnion (A B U : Automaton) : Type 0 where
  pub bits : U.bits ≡ A.bits
  pub name : U.name ≡ codes "union"
  pub symbols : HasSymbols U (joint_symbols A.symbols B.symbols)
  pub states : U.states ≡ map (λ n. n ++ codes "_1") A.states ++ map (λ n. n ++ codes "_2") B.states
  pub finals : (q : ℕ) → IsFinal U q ↔ (IsFinal A q ⊎ ((s : ℕ) × (q ≡ right A s) × IsFinal B s))
  pub rules : (a : Symbol) (kids : List ℕ) (q : ℕ) → HasRule U a kids q ↔ JointRule A B a kids q
  -- and no line beside them
  pub fitting : IsAutomaton U
