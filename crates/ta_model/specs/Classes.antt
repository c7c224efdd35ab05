-- What a table answers of the rules of an automaton.
use Rattle.std.specs.Prelude.{◌≡◌, ◌≢◌, ◌↔◌, ℕ, List, length, AllPairs, Contains}
use Rattle.tree_definitions.specs.Tree.{Symbol}
use Rattle.tree_definitions.specs.Automaton.{Rules, Automaton, HasRule, IsNumber}
use Rattle.tree_definitions.specs.Relation.{Row, Has}
use Rattle.ta_model.specs.declared.table.Class.{Class}
use Rattle.ta_model.specs.declared.table.UpClass.{UpClass}

-- each tuple of this kind stands in the list, once, and no other does
pub record AreAll (kind : List ℕ → Type 0) (tuples : List (List ℕ)) : Type 0 where
  pub distinct : AllPairs ◌≢◌ tuples
  pub members : (tuple : List ℕ) → Contains tuples tuple ↔ kind tuple

-- these are the children of some rule with parent q
abbrev pub LeadTo : Rules → ℕ → List ℕ → Type 0
LeadTo H q kids = (a : Symbol) × H a kids q

-- these are the children of some rule, and q is one of them
abbrev pub StandWith : Rules → ℕ → List ℕ → Type 0
StandWith H q kids = (a : Symbol) × (parent : ℕ) × H a kids parent × Contains kids q

-- the class has all child tuples of q under the symbol, and all of r
pub record IsClassUnder (H : Rules) (q r : ℕ) (a : Symbol) (class : Class) : Type 0 where
  pub first : AreAll (λ kids. H a kids q) class.first
  pub second : AreAll (λ kids. H a kids r) class.second

-- the classes of q and r: for each symbol under which q has a rule, and for no other
pub record AreClasses (bits : ℕ) (symbols : List Symbol) (H : Rules) (q r : ℕ) (classes : List Class) : Type 0 where
  -- the number of a class is that of a symbol under which q has a rule
  pub sound : (class : Class) → Contains classes class
      → (a : Symbol) × (kids : List ℕ) × IsNumber bits symbols class.symbol a × H a kids q × IsClassUnder H q r a class
  -- a class may serve several symbols
  pub covering : (a : Symbol) (kids : List ℕ) → H a kids q → (class : Class) × Contains classes class × IsClassUnder H q r a class

-- the row has a place for each state, and the set places are the parents to which these children lead under the symbol
pub record AreParents (A : Automaton) (a : Symbol) (kids : List ℕ) (parents : Row) : Type 0 where
  pub width : length parents ≡ length A.states
  pub members : (q : ℕ) → Has parents q ↔ HasRule A a kids q

-- the class has all parents of the first children under the symbol, and all of the second
pub record IsUpClassUnder (A : Automaton) (first second : List ℕ) (a : Symbol) (class : UpClass) : Type 0 where
  pub first_parents : AreParents A a first class.first
  pub second_parents : AreParents A a second class.second

-- the classes of two rows of children: for each symbol under which some rule has the first, and for no other
pub record AreUpClasses (A : Automaton) (first second : List ℕ) (classes : List UpClass) : Type 0 where
  -- the number of a class is that of a symbol under which some rule has the first children
  pub sound : (class : UpClass) → Contains classes class
      → (a : Symbol) × (parent : ℕ) × IsNumber A.bits A.symbols class.symbol a × HasRule A a first parent × IsUpClassUnder A first second a class
  -- a class may serve several symbols
  pub covering : (a : Symbol) (parent : ℕ) → HasRule A a first parent
      → (class : UpClass) × Contains classes class × IsUpClassUnder A first second a class
