-- Lists of distinct symbols.
use Rattle.std.specs.Prelude.{◌≡◌, ◌≢◌, ◌≤◌, ◌++◌, ℕ, List, [], ◌∷◌, length, Contains, AllPairs, Some, slice_get, take}
use Rattle.std.specs.List.{AllZip}
use Rattle.tree_definitions.specs.Tree.{Symbol}
use Rattle.tree_definitions.specs.Joint.{joint_symbols}
use Rattle.tree_definitions.specs.Relation.{IsAt}

-- no symbol stands at two places, and there are at most 65,535
pub record IsAlphabet (symbols : List Symbol) : Type 0 where
  pub distinct : AllPairs ◌≢◌ symbols
  pub few : length symbols ≤ 65535

-- the place i of a symbol in the new list, to which it was appended if the old one lacked it
pub record Interned (old : List Symbol) (symbol : Symbol) (new : List Symbol) (i : ℕ) : Type 0 where
  pub place : slice_get new i ≡ Some symbol
  pub known : Contains old symbol → new ≡ old
  pub fresh : (Contains old symbol → ⊥) → new ≡ old ++ symbol ∷ []

-- the first i symbols of the second list stand behind those of the first one that they aren't among, and each has its place
pub record Merging (xs ys : List Symbol) (i : ℕ) (joined : List Symbol) (places : List ℕ) : Type 0 where
  pub list : joined ≡ joint_symbols xs (take i ys)
  pub numbers : AllZip (IsAt joined) places (take i ys)
