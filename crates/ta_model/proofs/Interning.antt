-- Places of rows, where the test of equality decides `≡`.
use Rattle.std.proofs.Common.{◌≡◌, ◌≢◌, ℕ, zero, suc, ◌<◌, ◌≤◌, Bool, true, false, cond, List, [], ◌∷◌, ◌++◌, length, get_or, map, Some, slice_get, Contains, sym, ap, ◌∙◌, subst, refl, arith, ⊎_elim}
use Rattle.std.specs.Prelude.{All, AllPairs}
use Rattle.std.specs.Bool.{Decides, beq}
use Rattle.std.specs.Cmp.{booleans_Decides}
use Rattle.std.specs.Cmp.Lexicographic.{pointwise, pointwise_decides}
use Rattle.std.specs.List.{position, list_any}
use Rattle.std.proofs.lemmas.Bool.{cases_Bool, cases_eq, cases_lt}
use Rattle.std.proofs.lemmas.List.Quantifiers.{position-Some, all_pairs_push}
use Rattle.std.proofs.lemmas.List.{get_or_default}
use Rattle.std.proofs.lemmas.Option.{get_or_from_slice_get, slice_get-get_or, slice_get_within}
use Rattle.std.proofs.lemmas.List.Folds.{list_any_at}
use Rattle.std.proofs.lemmas.List.Elements.{All-push}
use Rattle.indexmap.proofs.CallerLemmas.{Contains-list_any}
use Rattle.tree_definitions.specs.Relation.{Row, IsAt}
use Rattle.tree_definitions.proofs.Members.{contains_at}
use Rattle.ta_model.specs.Macrostates.{AreMacrostates, IsInterned, Macrostates, StoreGrows, row_at}

same_row_decides : (a b : Row) → Decides (pointwise beq a b) (a ≡ b)
same_row_decides = pointwise_decides booleans_Decides

pub position_finds : (xs : List Row) (x : Row) (i : ℕ) → position (pointwise beq x) xs ≡ Some i → IsAt xs i x
position_finds xs x i e =
    let at = position-Some (pointwise beq x) xs i x e in
    slice_get-get_or xs i x at.0 ∙ ap Some (sym ((same_row_decides x (get_or xs i x)).0 at.1))

pub any_member : (xs : List Row) (x : Row) → Contains xs x → list_any (pointwise beq x) xs ≡ true
any_member xs x h = list_any_at (pointwise beq x) xs h.0 x h.1 ((same_row_decides x (get_or xs h.0 x)).1 (sym h.2))

member_any : (xs : List Row) (x : Row) → list_any (pointwise beq x) xs ≡ true → Contains xs x
member_any xs x e = Contains-list_any (pointwise beq) (λ a b. (same_row_decides a b).0) xs x e

-- what stands keeps its place when rows are appended
pub at_longer : (xs ys : List Row) (i : ℕ) (x : Row) → IsAt xs i x → IsAt (xs ++ ys) i x
at_longer [] ys i x e = absurd cc
at_longer (z ∷ xs) ys zero x e = e
at_longer (z ∷ xs) ys (suc i) x e = at_longer xs ys i x e

-- a row that stands leaves the store as it is
pub interned_known : (store : Macrostates) (set : Row) (i : ℕ) → IsAt store.rows i set → IsInterned store set store i
interned_known store set i at = record { stands = at; known = λ _. refl; fresh = λ lacks. absurd (lacks (contains_at store.rows i set at)) }

-- what `insert_full` of a copy leaves
pub interned :
    (states : ℕ) (old new : List Row) (s copy k : Row) (i : ℕ) → copy ≡ s → (Contains old s → ⊥)
    → new ≡ cond (list_any (pointwise beq copy) old) old (old ++ copy ∷ []) → slice_get new i ≡ Some k → pointwise beq copy k ≡ true
    → IsInterned (record { states = states; rows = old }) s (record { states = states; rows = new }) i
interned states old new s copy k i is lacks keys at same =
    let found : copy ≡ k = (same_row_decides copy k).0 same in
    record {
      stands = at ∙ ap Some (sym found ∙ is);
      known = λ h. absurd (lacks h);
      fresh = λ _. ap (λ (rows : List Row). record { states = states; rows = rows }) (⊎_elim
          (λ (t : list_any (pointwise beq copy) old ≡ true). absurd (lacks (subst (λ x. Contains old x) is (member_any old copy t))))
          (λ (f : list_any (pointwise beq copy) old ≡ false). keys ∙ ap (λ b. cond b old (old ++ copy ∷ [])) f ∙ ap (λ x. old ++ x ∷ []) is)
          (cases_Bool (list_any (pointwise beq copy) old)));
    }

-- a store with one more row, which it lacked
pub still_macrostates :
    (store : Macrostates) (s : Row) → AreMacrostates store → length s ≡ store.states → (Contains store.rows s → ⊥)
    → AreMacrostates (record { states = store.states; rows = store.rows ++ s ∷ [] })
still_macrostates store s h long lacks = record {
  wide = All-push (λ (row : Row). length row ≡ store.states) store.rows s h.wide long;
  distinct = all_pairs_push ◌≢◌ store.rows s h.distinct (λ k d l e. lacks (k, l, get_or_default store.rows k s d l ∙ e));
}

-- a store with one more row has grown
pub grows_by_one : (store : Macrostates) (s : Row) → StoreGrows store (record { states = store.states; rows = store.rows ++ s ∷ [] })
grows_by_one store s = record { states = refl; kept = λ k row at. at_longer store.rows (s ∷ []) k row at }

-- a set stands at one place alone
pub place_once : (store : Macrostates) → AreMacrostates store → (i j : ℕ) (set : Row) → IsAt store.rows i set → IsAt store.rows j set → i ≡ j
place_once store are i j set at_i at_j =
    let within_i = slice_get_within store.rows i set at_i in
    let within_j = slice_get_within store.rows j set at_j in
    let reads_i : get_or store.rows i set ≡ set = get_or_from_slice_get store.rows i set set at_i in
    let reads_j : get_or store.rows j set ≡ set = get_or_from_slice_get store.rows j set set at_j in
    ⊎_elim
    (λ (e : i ≡ j). e)
    (λ (d : i ≡ j → ⊥). ⊎_elim
    (λ (lt : i < j). absurd (are.distinct i j set lt within_j (reads_i ∙ sym reads_j)))
    (λ (ge : j ≤ i). absurd (are.distinct j i set (omega arith) within_i (reads_j ∙ sym reads_i)))
    (cases_lt i j))
    (cases_eq i j)

-- ---- stores that grow

-- the row that stands at a place is the one that is read there
pub row_read : (store : Macrostates) (k : ℕ) (row : Row) → IsAt store.rows k row → row_at store k ≡ row
row_read store k row at = get_or_from_slice_get store.rows k row [] at

pub grows_itself : (store : Macrostates) → StoreGrows store store
grows_itself store = record { states = refl; kept = λ k row at. at }

pub grows_on : (one two three : Macrostates) → StoreGrows one two → StoreGrows two three → StoreGrows one three
grows_on one two three g h = record { states = h.states ∙ g.states; kept = λ k row at. h.kept k row (g.kept k row at) }

-- a place of the old store is one of the new store
pub grown_within : (old new : Macrostates) → StoreGrows old new → (k : ℕ) → k < length old.rows → k < length new.rows
grown_within old new g k lt = slice_get_within new.rows k (get_or old.rows k []) (g.kept k (get_or old.rows k []) (slice_get-get_or old.rows k [] lt))

-- and it has the same row there
pub grown_row : (old new : Macrostates) → StoreGrows old new → (k : ℕ) → k < length old.rows → row_at new k ≡ row_at old k
grown_row old new g k lt = row_read new k (row_at old k) (g.kept k (row_at old k) (slice_get-get_or old.rows k [] lt))

-- places of the old store have the same rows in the new one
pub grown_rows : (old new : Macrostates) (sets : List ℕ) → StoreGrows old new → All (λ k. k < length old.rows) sets → map (row_at new) sets ≡ map (row_at old) sets
grown_rows old new [] g within = refl
grown_rows old new (k ∷ ks) g within =
    let here : row_at new k ≡ row_at old k = grown_row old new g k (within 0 0 (omega arith)) in
    let rest : map (row_at new) ks ≡ map (row_at old) ks = grown_rows old new ks g (λ i d lt. within (suc i) d (omega arith)) in
    ap (λ (r : Row). r ∷ map (row_at new) ks) here ∙ ap (λ (rs : List Row). row_at old k ∷ rs) rest
