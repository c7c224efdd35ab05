-- Lists by places, images, and lists in step.
use Rattle.std.proofs.Common.{◌≡◌, ◌≢◌, ◌⊎◌, inl, inr, ℕ, zero, suc, ◌+◌, ◌<◌, ◌≤◌, List, [], ◌∷◌, ◌++◌, length, get_or, map, take, Some, refl, sym, ap, subst, ◌∙◌, arith, ⊎_elim}
use Rattle.std.specs.Prelude.{All, AllPairs, Contains}
use Rattle.std.specs.List.{AllZip}
use Rattle.std.proofs.lemmas.Bool.{cases_order}
use Rattle.std.proofs.lemmas.List.{take_more}
use Rattle.std.proofs.lemmas.List.Elements.{Contains-get_or}
use Rattle.std.proofs.lemmas.Option.{slice_get_within, slice_get-get_or, get_or_from_slice_get}
use Rattle.tree_definitions.specs.Relation.{IsAt}
use Rattle.tree_definitions.proofs.Members.{contains_none, contains_head, contains_tail, contains_cases, contains_at, at_within}
use Rattle.tree_definitions.proofs.Counting.{count_keys}

-- what stands at a place in range, whatever the default
pub get_or_any : {X : Type 0} (l : List X) (k : ℕ) (a b : X) → k < length l → get_or l k a ≡ get_or l k b
get_or_any [] k a b h = absurd (omega arith)
get_or_any (x ∷ l) zero a b h = refl
get_or_any (x ∷ l) (suc k) a b h = get_or_any l k a b (omega arith)

pub item_is : {X : Type 0} (l : List X) (k : ℕ) (d : X) → k < length l → get_or l k d ≡ get_or l k (get_or l k d)
item_is l k d h = get_or_any l k d (get_or l k d) h

pub at_append : {X : Type 0} (xs ys : List X) (i : ℕ) (x : X) → IsAt xs i x → IsAt (xs ++ ys) i x
at_append [] ys i x e = absurd cc
at_append (z ∷ zs) ys zero x e = e
at_append (z ∷ zs) ys (suc i) x e = at_append zs ys i x e

pub at_last : {X : Type 0} (xs : List X) (x : X) → IsAt (xs ++ x ∷ []) (length xs) x
at_last [] x = refl
at_last (z ∷ zs) x = at_last zs x

pub at_push : {X : Type 0} (xs : List X) (x : X) (i : ℕ) (y : X) → IsAt (xs ++ x ∷ []) i y → IsAt xs i y ⊎ ((i ≡ length xs) × (y ≡ x))
at_push [] x zero y e = let same : x ≡ y = cc in inr (refl, sym same)
at_push [] x (suc i) y e = absurd cc
at_push (z ∷ zs) x zero y e = inl e
at_push (z ∷ zs) x (suc i) y e = elim (at_push zs x i y e) [
  | inl at ↦ inl at
  | inr l ↦ inr (ap suc l.0, l.1)
]

-- in a list without repeats an element has one place
pub one_place_of : {X : Type 0} (xs : List X) (i j : ℕ) (x : X) → AllPairs ◌≢◌ xs → IsAt xs i x → IsAt xs j x → i ≡ j
one_place_of xs i j x apart iat jat = elim (cases_order i j) [
  | inl e ↦ e
  | inr o ↦ elim o [
    | inl l ↦ absurd (apart i j x l (slice_get_within xs j x jat) (get_or_from_slice_get xs i x x iat ∙ sym (get_or_from_slice_get xs j x x jat)))
    | inr l ↦ absurd (apart j i x l (slice_get_within xs i x iat) (get_or_from_slice_get xs j x x jat ∙ sym (get_or_from_slice_get xs i x x iat)))
  ]
]

-- items at two places differ, by places
pub apart_by_places : {X : Type 0} (xs : List X) → ((i j : ℕ) (x : X) → IsAt xs i x → IsAt xs j x → i ≡ j) → AllPairs ◌≢◌ xs
apart_by_places xs once i j d l m e =
    let mi : i < length xs = omega arith in
    let here : IsAt xs i (get_or xs j d) = slice_get-get_or xs i d mi ∙ ap Some e in
    let same = once i j (get_or xs j d) here (slice_get-get_or xs j d m) in
    omega (arith, same)

-- distinct items of a list are no more than its items
pub no_more : {X : Type 0} (xs ys : List X) → AllPairs ◌≢◌ xs → ((x : X) → Contains xs x → Contains ys x) → length xs ≤ length ys
no_more {X} xs ys apart within = count_keys (λ i y. IsAt xs i y) xs ys
    (λ i l. let x = at_within xs i l in (x.0, within x.0 (contains_at xs i x.0 x.1), x.1))
    (λ i j y l m iat jat. let e = one_place_of xs i j y apart iat jat in omega (arith, e))

pub all_from : {X : Type 0} (P : X → Type 0) (xs : List X) → ((x : X) → Contains xs x → P x) → All P xs
all_from P xs h k d lt = h (get_or xs k d) (Contains-get_or xs k d lt)

pub image_in : {X Y : Type 0} (f : X → Y) (xs : List X) (x : X) → Contains xs x → Contains (map f xs) (f x)
image_in f [] x m = absurd (contains_none x m)
image_in f (y ∷ ys) x m =
    ⊎_elim
    (λ (e : y ≡ x). subst (Contains (f y ∷ map f ys)) (ap f e) (contains_head (f y) (map f ys)))
    (λ n. contains_tail (f y) (map f ys) (f x) (image_in f ys x n))
    (contains_cases y ys x m)

pub image_out : {X Y : Type 0} (f : X → Y) (xs : List X) (y : Y) → Contains (map f xs) y → (x : X) × Contains xs x × (f x ≡ y)
image_out f [] y m = absurd (contains_none y m)
image_out f (x ∷ xs) y m =
    ⊎_elim
    (λ (e : f x ≡ y). (x, contains_head x xs, e))
    (λ n. let r = image_out f xs y n in (r.0, contains_tail x xs r.0 r.1, r.2))
    (contains_cases (f x) (map f xs) y m)

pub zip_length : {X Y : Type 0} (R : X → Y → Type 0) (xs : List X) (ys : List Y) → AllZip R xs ys → length xs ≡ length ys
zip_length R [] [] h = refl
zip_length R [] (y ∷ ys) h = absurd h
zip_length R (x ∷ xs) [] h = absurd h
zip_length R (x ∷ xs) (y ∷ ys) h = ap suc (zip_length R xs ys h.1)

pub zip_at : {X Y : Type 0} (R : X → Y → Type 0) (xs : List X) (ys : List Y) (i : ℕ) (y : Y) → AllZip R xs ys → IsAt ys i y → (x : X) × IsAt xs i x × R x y
zip_at R [] [] i y h e = absurd cc
zip_at R [] (z ∷ ys) i y h e = absurd h
zip_at R (x ∷ xs) [] i y h e = absurd h
zip_at R (x ∷ xs) (z ∷ ys) zero y h e = let same : z ≡ y = cc in (x, refl, subst (R x) same h.0)
zip_at R (x ∷ xs) (z ∷ ys) (suc i) y h e = zip_at R xs ys i y h.1 e

-- one more item of two lists in step
pub zip_more : {X Y : Type 0} (R : X → Y → Type 0) (xs : List X) (ys : List Y) (i : ℕ) (x : X) (y : Y) → i < length xs → x ≡ get_or xs i x → R x y
    → AllZip R (take i xs) ys → AllZip R (take (i + 1) xs) (ys ++ y ∷ [])
zip_more {X} {Y} R xs ys i x y lt is here h = subst (λ l. AllZip R l (ys ++ y ∷ [])) (sym (take_more xs i x lt ∙ ap (λ v. take i xs ++ v ∷ []) (sym is))) (push (take i xs) ys h)
  where
    push : (l : List X) (bs : List Y) → AllZip R l bs → AllZip R (l ++ x ∷ []) (bs ++ y ∷ [])
    push [] [] h = (here, tt)
    push [] (b ∷ bs) h = absurd h
    push (a ∷ rest) [] h = absurd h
    push (a ∷ rest) (b ∷ bs) h = (h.0, push rest bs h.1)
