-- Entries of code, and those of the definitions that they stand for.
use Rattle.std.proofs.Common.{◌≡◌, ℕ, zero, suc, ◌<◌, List, [], ◌∷◌, ◌++◌, length, get_or, map, Err, refl, ap, ◌∙◌}
use Rattle.std.specs.Prelude.{slice_get, option_map}
use Rattle.std.proofs.lemmas.List.{length-map, map-append}
use Rattle.std.proofs.lemmas.Option.{slice_get_read}
use Rattle.tree_definitions.specs.Relation.{IsAt}
use Rattle.listed_pairs.specs.declared.entry.DownEntry.{DownEntry}
use Rattle.listed_pairs.specs.DownEntries.{entries_of, entry_of}
use Rattle.witness_trees.specs.Judged.{Verdict}
use Rattle.witness_trees.specs.Answers.{Answers}
use Rattle.witness_trees.specs.declared.reader.NodesTextError.{NodesTextError}
use Rattle.witness_trees.specs.declared.reader.NodesTextError.TheVariants as errors

pub get_map : {X Y : Type 0} (f : X → Y) (xs : List X) (k : ℕ) → slice_get (map f xs) k ≡ option_map f (slice_get xs k)
get_map f [] k = refl
get_map f (x ∷ xs) zero = refl
get_map f (x ∷ xs) (suc k) = get_map f xs k

-- the entry at a place
pub entry_at : (entries : List DownEntry) (k : ℕ) (x : DownEntry) → k < length entries → x ≡ get_or entries k x → IsAt (entries_of entries) k (entry_of x)
entry_at entries k x l is = get_map entry_of entries k ∙ ap (option_map entry_of) (slice_get_read entries (length entries) k x refl l is)

pub entries_long : (entries : List DownEntry) → length (entries_of entries) ≡ length entries
entries_long entries = length-map entries entry_of

-- one entry more
pub entries_push : (entries : List DownEntry) (x : DownEntry) → entries_of (entries ++ x ∷ []) ≡ entries_of entries ++ entry_of x ∷ []
entries_push entries x = map-append entry_of entries (x ∷ [])

-- a refusal is the same however what is read is seen
pub failed_alike : {X Y Z : Type 0} (view : X → Y) (view' : Z → Y) (error : NodesTextError) (v : Verdict Y) → Answers {X = X} {Y = Y} view (Err error) v → Answers {X = Z} {Y = Y} view' (Err error) v
failed_alike view view' (errors.BadText byte) v h = h
failed_alike view view' (errors.UnknownName byte) v h = h
failed_alike view view' errors.Memory v h = tt
