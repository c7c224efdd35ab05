-- Rules by parent, then by symbol.
use Rattle.std.specs.Prelude.{◌≡◌, ◌≢◌, ◌↔◌, ◌⊎◌, ◌<◌, ℕ, List, [], map, length, slice_index_or, Contains, All, AllPairs}
use Rattle.std.specs.List.Sorted.{IsStrictlyIncreasing}
use Rattle.tree_definitions.specs.Automaton.{Rule}
use Rattle.tree_definitions.specs.Relation.{Row, Has}
use Rattle.ta_model.specs.Tuples.{IsRising}

-- the child tuples of one parent under one symbol
pub record Group : Type 0 where
  pub symbol : ℕ
  pub tuples : List (List ℕ)

-- the group of the symbol has the tuple
abbrev pub HasTuple : List Group → ℕ → List ℕ → Type 0
HasTuple groups a kids = (g : Group) × Contains groups g × (g.symbol ≡ a) × Contains g.tuples kids

-- the list gains this element, and changes by nothing else
abbrev pub Gains : {X : Type 0} → List X → List X → X → Type 0
Gains {X} old new x = (y : X) → Contains new y ↔ ((y ≡ x) ⊎ Contains old y)

-- the list loses this element, and changes by nothing else
abbrev pub Loses : {X : Type 0} → List X → List X → X → Type 0
Loses {X} old new x = (y : X) → Contains new y ↔ (Contains old y × (y ≢ x))

-- the groups gain the tuple under the symbol, and change by nothing else
abbrev pub GainsTuple : List Group → List Group → ℕ → List ℕ → Type 0
GainsTuple old new a kids = (b : ℕ) (t : List ℕ) → HasTuple new b t ↔ (((b ≡ a) × (t ≡ kids)) ⊎ HasTuple old b t)

-- the groups lose the tuple under the symbol, and change by nothing else
abbrev pub LosesTuple : List Group → List Group → ℕ → List ℕ → Type 0
LosesTuple old new a kids = (b : ℕ) (t : List ℕ) → HasTuple new b t ↔ (HasTuple old b t × ((b ≡ a) × (t ≡ kids) → ⊥))

-- the groups of one parent: their symbols rise, and none is empty
pub record IsCluster (groups : List Group) : Type 0 where
  pub symbols : AllPairs (λ g h. g.symbol < h.symbol) groups
  pub filled : All (λ g. g.tuples ≢ []) groups

-- the groups of this parent
abbrev pub cluster_at : List (List Group) → ℕ → List Group
cluster_at clusters parent = slice_index_or clusters parent []

-- the table has the rule
abbrev pub HasRule : List (List Group) → Rule → Type 0
HasRule clusters rule = HasTuple (cluster_at clusters rule.parent) rule.symbol rule.kids

-- the table has no rule
abbrev pub IsEmpty : List (List Group) → Type 0
IsEmpty clusters = (rule : Rule) → HasRule clusters rule → ⊥

-- the symbols under which this parent has rules
abbrev pub symbols_of : List (List Group) → ℕ → List ℕ
symbols_of clusters parent = map (λ g. g.symbol) (cluster_at clusters parent)

-- the list has the symbols under which the parent has rules, and they rise
pub record AreSymbolsOf (clusters : List (List Group)) (parent : ℕ) (symbols : List ℕ) : Type 0 where
  pub rising : IsStrictlyIncreasing symbols
  pub members : (a : ℕ) → Contains symbols a ↔ ((kids : List ℕ) × HasRule clusters (record { symbol = a; kids = kids; parent = parent }))

-- the tuples are those of the parent's rules under the symbol, and they rise
pub record AreTuplesOf (clusters : List (List Group)) (parent a : ℕ) (tuples : List (List ℕ)) : Type 0 where
  pub rising : IsRising tuples
  pub members : (kids : List ℕ) → Contains tuples kids ↔ HasRule clusters (record { symbol = a; kids = kids; parent = parent })

-- the table gains the rule, and changes by nothing else
abbrev pub GainsRule : List (List Group) → List (List Group) → Rule → Type 0
GainsRule old new rule = (r : Rule) → HasRule new r ↔ ((r ≡ rule) ⊎ HasRule old r)

-- the table loses the rule, and changes by nothing else
abbrev pub LosesRule : List (List Group) → List (List Group) → Rule → Type 0
LosesRule old new rule = (r : Rule) → HasRule new r ↔ (HasRule old r × (r ≢ rule))

-- the table keeps exactly the rules whose parents the row has
abbrev pub KeepsParents : List (List Group) → List (List Group) → Row → Type 0
KeepsParents old new keep = (r : Rule) → HasRule new r ↔ (HasRule old r × Has keep r.parent)
