-- Words, each kept once.
use Rattle.std.specs.Prelude.{◌≡◌, ◌≢◌, ℕ, List, [], ◌∷◌, ◌++◌, Option, AllPairs, Contains}
use Rattle.tree_definitions.specs.Relation.{IsAt}
use Rattle.word_table.specs.Index.{IsIndexOf}
use Rattle.word_table.specs.declared.index.Slot.{Slot}

-- no word stands twice, and the index finds each
pub record IsTable (words : List (List ℕ)) (buckets : ℕ) (slots : List Slot) (listed : List ℕ → Option ℕ) : Type 0 where
  pub distinct : AllPairs ◌≢◌ words
  pub indexed : IsIndexOf words buckets slots listed

-- the word stands at this place of the new table, to which it was appended if the old one lacked it
pub record IsInterned (old : List (List ℕ)) (word : List ℕ) (new : List (List ℕ)) (place : ℕ) : Type 0 where
  pub stands : IsAt new place word
  pub known : Contains old word → new ≡ old
  pub fresh : ¬ Contains old word → new ≡ old ++ word ∷ []
