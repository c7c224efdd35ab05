-- The steps of two automata from children, and from as many sets of states.
use Rattle.std.specs.Prelude.{◌≢◌, ◌↔◌, ◌<◌, ℕ, List, length, AllPairs, Contains}
use Rattle.tree_definitions.specs.Tree.{Symbol}
use Rattle.tree_definitions.specs.Automaton.{Automaton, HasRule, IsNumber}
use Rattle.tree_definitions.specs.Cover.{Post}
use Rattle.tree_definitions.specs.Relation.{Row, Has, AreEqual}
use Rattle.ta_model.specs.declared.joint.UpGroup.{UpGroup}
use Rattle.ta_model.specs.Classes.{AreAll, StandWith}
use Rattle.ta_model.specs.Macrostates.{Macrostates, row_at}

-- these are the child tuples of the rules of A in which q stands as a child, each once
abbrev pub HasKidsWith : Automaton → ℕ → List (List ℕ) → Type 0
HasKidsWith A q tuples = AreAll (StandWith (HasRule A) q) tuples

-- the group has all parents to which these children lead under the symbol in A, each once, and the place of the step of B under it from these sets
pub record IsUpGroup (A B : Automaton) (kids : List ℕ) (sets : List Row) (store : Macrostates) (a : Symbol) (group : UpGroup) : Type 0 where
  pub distinct : AllPairs ◌≢◌ group.parents.items
  pub parents : (p : ℕ) → Contains group.parents.items p ↔ HasRule A a kids p
  pub stored : group.set < length store.rows
  pub set : AreEqual (Has (row_at store group.set)) (Post B a sets)

-- the groups of these children and sets: for each symbol under which some rule of A has the children, and for no other
pub record AreUpGroups (A B : Automaton) (kids : List ℕ) (sets : List Row) (store : Macrostates) (groups : List UpGroup) : Type 0 where
  -- the number of a group is that of a symbol under which some rule has the children
  pub sound : (group : UpGroup) → Contains groups group → (a : Symbol) × (p : ℕ) × IsNumber A.bits A.symbols group.symbol a × HasRule A a kids p × IsUpGroup A B kids sets store a group
  -- a group may serve several symbols
  pub covering : (a : Symbol) (p : ℕ) → HasRule A a kids p → (group : UpGroup) × Contains groups group × IsUpGroup A B kids sets store a group
