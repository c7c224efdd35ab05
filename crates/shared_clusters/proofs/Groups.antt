-- The tuples of a group, and the groups of a parent.
use Rattle.std.proofs.Common.{◌≡◌, ◌≢◌, ◌↔◌, ◌⊎◌, inl, inr, ℕ, zero, suc, ◌+◌, ◌<◌, ◌≤◌, List, [], ◌∷◌, length, get_or, map, set, Some, Result, Ok, Err, IfOk, IfErr, refl, sym, ap, subst, ◌∙◌, arith, ⊎_elim, Bool, IsTrue}
use Rattle.std.specs.Prelude.{All, AllPairs, Contains, slice_get}
use Rattle.std.specs.Bool.{Decides}
use Rattle.std.specs.List.{AllZip, insert, remove}
use Rattle.std.specs.List.Sorted.{IsSearchInRange, IsBinarySearchResult}
use Rattle.std.specs.Ordering.{nat_cmp, ordering_reverse}
use Rattle.std.specs.Cmp.Lexicographic.{slice_cmp, bytes_decides}
use Rattle.std.specs.Str.{bytes_eq}
use Rattle.std.specs.declared.cmp.Ordering.TheVariants.{Less, Equal, Greater}
use Rattle.std.proofs.lemmas.Bool.{cases_lt}
use Rattle.std.proofs.lemmas.Cmp.{nat_list_cmp_total}
use Rattle.std.proofs.lemmas.Map.Lookups.{exact_bytes}
use Rattle.std.proofs.lemmas.List.{get_or-map, length-map}
use Rattle.std.proofs.lemmas.List.Elements.{same_from_all_zip}
use Rattle.smallvec.specs.SmallVec.{SmallVec}
use Rattle.tree_definitions.specs.Relation.{IsAt}
use Rattle.ta_model.specs.Tuples.{IsRising, Precedes, kids_of}
use Rattle.tree_definitions.proofs.Members.{at_within}
use Rattle.shared_clusters.specs.Gap.{HasGapAt}
use Rattle.shared_clusters.specs.Clusters.{Gains, Loses}
use Rattle.shared_clusters.proofs.Gaps.{searched, pairs_insert, pairs_remove, contains_insert, contains_remove}

-- copies have the same numbers
pub kids_copied : (R : ℕ → ℕ → Type 0) → ((x y : ℕ) → R x y → y ≡ x) → (xs ys : List (SmallVec ℕ)) → AllZip (λ v w. AllZip R v.items w.items) xs ys → kids_of ys ≡ kids_of xs
kids_copied R same [] [] h = refl
kids_copied R same [] (y ∷ ys) h = absurd h
kids_copied R same (x ∷ xs) [] h = absurd h
kids_copied R same (x ∷ xs) (y ∷ ys) h =
    let first : y.items ≡ x.items = same_from_all_zip R x.items y.items h.0 same in
    let rest : kids_of ys ≡ kids_of xs = kids_copied R same xs ys h.1 in
    ap (λ k. k ∷ kids_of ys) first ∙ ap (λ l. x.items ∷ l) rest

pub at_map : {X Y : Type 0} (f : X → Y) (xs : List X) (i : ℕ) (x : X) → IsAt xs i x → IsAt (map f xs) i (f x)
at_map f [] i x e = absurd cc
at_map f (y ∷ ys) zero x e = let same : y ≡ x = cc in ap (λ v. Some (f v)) same
at_map f (y ∷ ys) (suc i) x e = at_map f ys i x e

-- a relation of images, at the elements
pub pairs_unmapped : {X Y : Type 0} (f : X → Y) (R : Y → Y → Type 0) (xs : List X) → AllPairs R (map f xs) → AllPairs (λ a b. R (f a) (f b)) xs
pairs_unmapped f R xs h i j d lt within =
    let long = length-map xs f in
    subst (λ y. R (f (get_or xs i d)) y) (get_or-map f xs j d (f d) within)
    (subst (λ x. R x (get_or (map f xs) j (f d))) (get_or-map f xs i d (f d) (omega arith)) (h i j (f d) lt (omega arith)))

-- what holds of each image of the element at a place
pub mapped : {X Y : Type 0} (f : X → Y) (P : Y → Type 0) (xs : List X) (k : ℕ) (d : Y) → k < length xs → ((e : X) → P (f (get_or xs k e))) → P (get_or (map f xs) k d)
mapped f P xs k d lt h = let here = (at_within xs k lt).0 in subst P (sym (get_or-map f xs k here d lt)) (h here)

-- what a search finds among the tuples of a group
pub tuple_place : (items : List (SmallVec ℕ)) (x : List ℕ) (r : Result ℕ ℕ) → IsRising (kids_of items)
    → IsSearchInRange r (length items) → IsBinarySearchResult (λ y. slice_cmp nat_cmp y.items x) items r
    → IfOk r (λ i. IsAt (kids_of items) i x) × IfErr r (λ i. HasGapAt Precedes Precedes (kids_of items) x i)
tuple_place items x (Ok i) rising within found =
    let p = searched nat_list_cmp_total (λ (v : SmallVec ℕ). v.items) items x (Ok i) (pairs_unmapped (λ (v : SmallVec ℕ). v.items) Precedes items rising) within found in
    (subst (IsAt (kids_of items) i) (exact_bytes p.0.items x p.2) (at_map (λ (v : SmallVec ℕ). v.items) items i p.0 p.1), tt)
tuple_place items x (Err i) rising within found =
    let f = λ (v : SmallVec ℕ). v.items in
    let gap = searched nat_list_cmp_total f items x (Err i) (pairs_unmapped f Precedes items rising) within found in
    let long = length-map items f in (
      tt,
      record {
        within = let room = gap.within in omega arith;
        before = λ k d lt. let room = gap.within in mapped f (λ t. Precedes t x) items k d (omega arith) (λ e. gap.before k e lt);
        after = λ k d le lt. mapped f (λ t. Precedes x t) items k d (omega arith) (λ e. gap.after k e le (omega arith));
      },
    )

module _ {X Y : Type 0} (f : X → Y) where
  pub map_insert : (xs : List X) (i : ℕ) (x : X) → map f (insert xs i x) ≡ insert (map f xs) i (f x)
  map_insert [] zero x = refl
  map_insert [] (suc i) x = refl
  map_insert (y ∷ ys) zero x = refl
  map_insert (y ∷ ys) (suc i) x = ap (λ l. f y ∷ l) (map_insert ys i x)

  pub map_remove : (xs : List X) (i : ℕ) → map f (remove xs i) ≡ remove (map f xs) i
  map_remove [] zero = refl
  map_remove [] (suc i) = refl
  map_remove (y ∷ ys) zero = refl
  map_remove (y ∷ ys) (suc i) = ap (λ l. f y ∷ l) (map_remove ys i)

-- no tuple precedes itself
pub precedes_none : (t : List ℕ) → Precedes t t → ⊥
precedes_none t h = let e : slice_cmp nat_cmp t t ≡ ordering_reverse (slice_cmp nat_cmp t t) = nat_list_cmp_total.antisymm t t in let f : Less ≡ Greater = sym h ∙ e ∙ ap ordering_reverse h in cc

-- what has a gap isn't there
pub gap_absent : (ts : List (List ℕ)) (x : List ℕ) (i : ℕ) → HasGapAt Precedes Precedes ts x i → Contains ts x → ⊥
gap_absent ts x i gap m =
    ⊎_elim
    (λ (lt : m.0 < i). precedes_none x (subst (λ t. Precedes t x) m.2 (gap.before m.0 x lt)))
    (λ (ge : i ≤ m.0). precedes_none x (subst (Precedes x) m.2 (gap.after m.0 x ge m.1)))
    (cases_lt m.0 i)

pub gains_insert : {X : Type 0} (xs : List X) (i : ℕ) (x : X) → i ≤ length xs → Gains xs (insert xs i x) x
gains_insert xs i x le y =
    let both = contains_insert xs i x le y in
    (λ m. ⊎_elim (λ e. inl (sym e)) (λ k. inr k) (both.0 m), λ h. both.1 (⊎_elim (λ e. inl (sym e)) (λ k. inr k) h))

pub gains_none : {X : Type 0} (xs : List X) (x : X) → Contains xs x → Gains xs xs x
gains_none xs x m y = (λ k. inr k, λ h. ⊎_elim (λ e. subst (Contains xs) (sym e) m) (λ k. k) h)

pub loses_none : {X : Type 0} (xs : List X) (x : X) → (Contains xs x → ⊥) → Loses xs xs x
loses_none xs x absent y = (λ k. (k, λ e. absent (subst (Contains xs) e k)), λ h. h.0)

-- a tuple put into its gap
pub tuples_insert : (items new : List (SmallVec ℕ)) (ts : List (List ℕ)) (i : ℕ) (copy : SmallVec ℕ) (x : List ℕ) → kids_of items ≡ ts → IsRising ts
    → HasGapAt Precedes Precedes ts x i → copy.items ≡ x → new ≡ insert items i copy → IsRising (kids_of new) × Gains ts (kids_of new) x
tuples_insert items new ts i copy x shown rising gap same made =
    let is : kids_of new ≡ insert ts i x = ap kids_of made ∙ map_insert (λ (v : SmallVec ℕ). v.items) items i copy ∙ ap (λ l. insert l i copy.items) shown ∙ ap (insert ts i) same in
    (subst IsRising (sym is) (pairs_insert Precedes ts i x rising gap), subst (λ l. Gains ts l x) (sym is) (gains_insert ts i x gap.within))

-- a tuple taken out from its place
pub tuples_remove : (items new : List (SmallVec ℕ)) (ts : List (List ℕ)) (i : ℕ) (x : List ℕ) → kids_of items ≡ ts → IsRising ts
    → IsAt ts i x → new ≡ remove items i → IsRising (kids_of new) × Loses ts (kids_of new) x × (ts ≢ x ∷ [] → kids_of new ≢ [])
tuples_remove items new ts i x shown rising at made =
    let is : kids_of new ≡ remove ts i = ap kids_of made ∙ map_remove (λ (v : SmallVec ℕ). v.items) items i ∙ ap (λ l. remove l i) shown in (
      subst IsRising (sym is) (pairs_remove Precedes ts i rising),
      subst (λ l. Loses ts l x) (sym is) (contains_remove Precedes precedes_none ts i x rising at),
      λ others. subst (λ l. l ≢ []) (sym is) (left ts i at others),
    )
  where
    left : (ts : List (List ℕ)) (i : ℕ) → IsAt ts i x → ts ≢ x ∷ [] → remove ts i ≢ []
    left [] i at others e = absurd cc
    left (t ∷ []) zero at others e = let same : t ≡ x = cc in others (ap (λ v. v ∷ []) same)
    left (t ∷ u ∷ us) zero at others e = absurd cc
    left (t ∷ us) (suc i) at others e = absurd cc

-- one tuple alone
pub only_tuple : (items : List (SmallVec ℕ)) (x : List ℕ) (d : SmallVec ℕ) (b : Bool) → length items ≡ 1 → Decides b ((get_or items 0 d).items ≡ x) → IsTrue b ↔ (kids_of items ≡ x ∷ [])
only_tuple [] x d b long dec = absurd (omega arith)
only_tuple (k ∷ []) x d b long dec = (λ t. ap (λ v. v ∷ []) (dec.0 t), λ (e : k.items ∷ [] ≡ x ∷ []). dec.1 cc)
only_tuple (k ∷ l ∷ ls) x d b long dec = absurd (omega arith)

-- two slices of numbers compared
pub one_tuple : (items : List (SmallVec ℕ)) (first : SmallVec ℕ) (x : List ℕ) (b : Bool) → length items ≡ 1 → first ≡ get_or items 0 first → b ≡ bytes_eq first.items x → IsTrue b ↔ (kids_of items ≡ x ∷ [])
one_tuple items first x b long is answer =
    only_tuple items x first b long (subst (λ r. Decides r ((get_or items 0 first).items ≡ x)) (sym answer) (subst (λ v. Decides (bytes_eq first.items x) (v.items ≡ x)) is (bytes_decides first.items x)))
