-- Symbols and trees.
use Rattle.std.specs.Prelude.{◌≡◌, ℕ, suc, List}

-- a name, as bytes, with its rank: the number of subtrees that it takes
pub record Symbol : Type 0 where
  pub name : List ℕ
  pub rank : ℕ

-- a tree is a symbol over a row of subtrees, which may be empty
mutual
  pub data Tree : Type 0 where
    Node : Symbol → Trees → Tree

  pub data Trees : Type 0 where
    NoTrees : Trees
    More : Tree → Trees → Trees

-- how many trees a row has
abbrev pub count_of : Trees → ℕ
count_of NoTrees = 0
count_of (More t ts) = suc (count_of ts)

-- each symbol in the tree has as many subtrees as its rank
abbrev mutual
  pub IsRanked : Tree → Type 0
  IsRanked (Node a ts) = (count_of ts ≡ a.rank) × AreRanked ts

  -- the same in each tree of a row
  pub AreRanked : Trees → Type 0
  AreRanked NoTrees = Unit {0}
  AreRanked (More t ts) = IsRanked t × AreRanked ts
