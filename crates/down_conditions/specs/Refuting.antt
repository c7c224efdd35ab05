-- Choices of a place for each tuple that leave all children uncovered.
use Rattle.std.specs.Prelude.{◌≡◌, ◌↔◌, ℕ, ◌<◌, List, Contains, length}
use Rattle.tree_definitions.specs.Tree.{Symbol}
use Rattle.tree_definitions.specs.Automaton.{Automaton, Rule, HasRule}
use Rattle.tree_definitions.specs.Relation.{Relation, Row, Has, IsAt}
use Rattle.tree_definitions.specs.Cover.{Pair}
use Rattle.tree_definitions.specs.DownCert.{Downs, SentTo, IsCoveredDown}

-- the choice sends each tuple to a place of a child
abbrev pub IsChoice : Automaton → Symbol → Row → List ℕ → (List ℕ → ℕ) → Type 0
IsChoice B a set kids choice = (tuple : List ℕ) → Downs B a set tuple → choice tuple < length kids

-- the choice leaves each child uncovered with what is sent to its place
pub record Refutes (A B : Automaton) (R : Relation) (X : List Pair) (set : Row) (a : Symbol) (kids : List ℕ) (choice : List ℕ → ℕ) : Type 0 where
  pub within : IsChoice B a set kids choice
  pub uncovered : (i q : ℕ) → IsAt kids i q → IsCoveredDown A R X q (SentTo B a set choice i) → ⊥

-- each choice covers some child with what is sent to its place
abbrev pub IsRuleCovered : Automaton → Automaton → Relation → List Pair → Row → Symbol → List ℕ → Type 0
IsRuleCovered A B R X set a kids =
    (choice : List ℕ → ℕ) → IsChoice B a set kids choice → (i : ℕ) × (q : ℕ) × IsAt kids i q × IsCoveredDown A R X q (SentTo B a set choice i)

-- some choice refutes a rule of A to the pair's state
abbrev pub IsRefuted : Automaton → Automaton → Relation → List Pair → Pair → Type 0
IsRefuted A B R X pair =
    (a : Symbol) × (kids : List ℕ) × HasRule A a kids pair.state × (choice : List ℕ → ℕ) × Refutes A B R X pair.set a kids choice

-- each rule of A to the pair's state is covered, whatever the choice
abbrev pub IsSplitCovered : Automaton → Automaton → Relation → List Pair → Pair → Type 0
IsSplitCovered A B R X pair = (a : Symbol) (kids : List ℕ) → HasRule A a kids pair.state → IsRuleCovered A B R X pair.set a kids

-- the rules that the list names have these child tuples
abbrev pub AreDowns : Automaton → Symbol → Row → List ℕ → Type 0
AreDowns B a set list = (tuple : List ℕ) → ((r : ℕ) × (rule : Rule) × Contains list r × IsAt B.rules r rule × (rule.kids ≡ tuple)) ↔ Downs B a set tuple

-- r is one of the first n rules of the list, and its parent is in the set
abbrev pub IsChosen : List Rule → List ℕ → Row → ℕ → ℕ → Type 0
IsChosen rules list set n r = (k : ℕ) × (rule : Rule) × (k < n) × IsAt list k r × IsAt rules r rule × Has set rule.parent
