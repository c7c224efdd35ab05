-- Which states a tree reaches, and which trees an automaton accepts.
use Rattle.std.specs.Prelude.{ℕ, List, [], ◌∷◌, ◌↔◌}
use Rattle.tree_definitions.specs.Tree.{Tree, Node, Trees, NoTrees, More}
use Rattle.tree_definitions.specs.Automaton.{Rules, Automaton, HasRule, IsFinal}

abbrev mutual
  -- the tree reaches q by these rules: a rule with its symbol leads to q from states that its subtrees reach
  pub ReachesBy : Rules → Tree → ℕ → Type 0
  ReachesBy H (Node a ts) q = (kids : List ℕ) × H a kids q × ReachEachBy H ts kids

  -- as many trees as states, and each tree reaches the state at its place
  pub ReachEachBy : Rules → Trees → List ℕ → Type 0
  ReachEachBy H NoTrees [] = Unit {0}
  ReachEachBy H NoTrees (q ∷ qs) = ⊥
  ReachEachBy H (More t ts) [] = ⊥
  ReachEachBy H (More t ts) (q ∷ qs) = ReachesBy H t q × ReachEachBy H ts qs

-- the tree reaches the state by the rules of A
abbrev pub Reaches : Automaton → Tree → ℕ → Type 0
Reaches A t q = ReachesBy (HasRule A) t q

-- the tree reaches some final state
abbrev pub Accepts : Automaton → Tree → Type 0
Accepts A t = (q : ℕ) × IsFinal A q × Reaches A t q

-- every tree accepted by A is accepted by B
abbrev pub Included : Automaton → Automaton → Type 0
Included A B = (t : Tree) → Accepts A t → Accepts B t

-- A and B accept the same trees
abbrev pub SameLanguage : Automaton → Automaton → Type 0
SameLanguage A B = (t : Tree) → Accepts A t ↔ Accepts B t
