-- The child tuples of a state of one automaton, and of a set of states of another.
use Rattle.std.specs.Prelude.{ℕ, List, Contains}
use Rattle.tree_definitions.specs.Tree.{Symbol}
use Rattle.tree_definitions.specs.Automaton.{Automaton, HasRule, IsNumber}
use Rattle.tree_definitions.specs.DownCert.{Downs}
use Rattle.tree_definitions.specs.Relation.{Row}
use Rattle.ta_model.specs.declared.joint.DownGroup.{DownGroup}
use Rattle.ta_model.specs.Classes.{AreAll}

-- the group has all child tuples of q under the symbol in A, and all of the members of the set in B
pub record IsDownGroup (A B : Automaton) (q : ℕ) (set : Row) (a : Symbol) (group : DownGroup) : Type 0 where
  pub rules : AreAll (λ kids. HasRule A a kids q) group.rules
  pub tuples : AreAll (Downs B a set) group.tuples

-- the groups of the state and the set: for each symbol under which q has a rule in A, and for no other
pub record AreDownGroups (A B : Automaton) (q : ℕ) (set : Row) (groups : List DownGroup) : Type 0 where
  -- the number of a group is that of a symbol under which q has a rule
  pub sound : (group : DownGroup) → Contains groups group
      → (a : Symbol) × (kids : List ℕ) × IsNumber A.bits A.symbols group.symbol a × HasRule A a kids q × IsDownGroup A B q set a group
  -- a group may serve several symbols
  pub covering : (a : Symbol) (kids : List ℕ) → HasRule A a kids q
      → (group : DownGroup) × Contains groups group × IsDownGroup A B q set a group
