-- Lists: images, distinct tuples, and what stands under a key.
use Rattle.std.proofs.Common.{◌≡◌, ◌≢◌, ◌↔◌, ◌⊎◌, inl, inr, ℕ, zero, suc, ◌+◌, ◌<◌, ◌≤◌, List, [], ◌∷◌, ◌++◌, Bool, true, false, length, get_or, map, take, drop, refl, sym, ap, subst, ◌∙◌, arith, ⊎_elim}
use Rattle.std.specs.Prelude.{AllPairs, Contains}
use Rattle.std.specs.List.{dedup, filter, AllZip, list_all}
use Rattle.std.proofs.Common.{Result, Ok, Err, IfOk, cond, ◌&&◌}
use Rattle.std.specs.List.Retain.{IsFiltered, DiffersFromLast}
use Rattle.std.specs.List.Sorted.{IsPermutation, IsSorted, IsStrictlySortedBy, IsPartitionPoint}
use Rattle.std.specs.Ordering.{nat_cmp, eq_by_cmp}
use Rattle.std.specs.Cmp.{IsTotalOrder, IsEquivalence}
use Rattle.std.specs.Cmp.Lexicographic.{slice_cmp, bytes_decides, texts_ties}
use Rattle.std.specs.Str.{bytes_eq}
use Rattle.std.proofs.lemmas.Cmp.{nat_list_cmp_total, nat_list_eq_equiv, on_total, on_equiv}
use Rattle.std.proofs.lemmas.Bool.{cases_lt, ltb-true, ltb-false, leb-true, leb-false}
use Rattle.std.proofs.Common.{ltb, leb, ◌-◌}
use Rattle.std.proofs.lemmas.List.{length-map, take_more, take_all, map-append, length-drop, length-take-le, get_or-take, get_or-drop}
use Rattle.std.proofs.lemmas.List.Filters.{dedup_is}
use Rattle.std.proofs.lemmas.List.Kept.{Any-dedup, Contains-from_dedup, IsStrictlySortedBy-dedup}
use Rattle.std.proofs.lemmas.List.Sorted.{Contains-permutation, IsPermutation-sym}
use Rattle.std.proofs.lemmas.List.Elements.{Contains-push, Contains-push_cases, Contains-append_left}
use Rattle.std.proofs.lemmas.Map.Keys.{Less-from_sorted}
use Rattle.smallvec.specs.SmallVec.{SmallVec}
use Rattle.tree_definitions.specs.Relation.{Has}
use Rattle.tree_definitions.proofs.Members.{contains_none, contains_head, contains_tail, contains_cases}
use Rattle.ta_model.specs.Tuples.{IsRising, Precedes, kids_of}
use Rattle.ta_model.specs.Classes.{AreAll}
use Rattle.shared_clusters.proofs.Groups.{mapped, precedes_none}

-- what stands at a place in range, whatever the default
pub get_or_any : {X : Type 0} (l : List X) (k : ℕ) (a b : X) → k < length l → get_or l k a ≡ get_or l k b
get_or_any [] k a b h = absurd (omega arith)
get_or_any (x ∷ l) zero a b h = refl
get_or_any (x ∷ l) (suc k) a b h = get_or_any l k a b (omega arith)

pub item_is : {X : Type 0} (l : List X) (k : ℕ) (d : X) → k < length l → get_or l k d ≡ get_or l k (get_or l k d)
item_is l k d h = get_or_any l k d (get_or l k d) h

-- ---- images

pub image_in : {X Y : Type 0} (f : X → Y) (xs : List X) (x : X) → Contains xs x → Contains (map f xs) (f x)
image_in f [] x m = absurd (contains_none x m)
image_in f (y ∷ ys) x m =
    ⊎_elim
    (λ (e : y ≡ x). subst (Contains (f y ∷ map f ys)) (ap f e) (contains_head (f y) (map f ys)))
    (λ n. contains_tail (f y) (map f ys) (f x) (image_in f ys x n))
    (contains_cases y ys x m)

pub image_out : {X Y : Type 0} (f : X → Y) (xs : List X) (y : Y) → Contains (map f xs) y → (x : X) × Contains xs x × (f x ≡ y)
image_out f [] y m = absurd (contains_none y m)
image_out f (x ∷ xs) y m =
    ⊎_elim
    (λ (e : f x ≡ y). (x, contains_head x xs, e))
    (λ n. let r = image_out f xs y n in (r.0, contains_tail x xs r.0 r.1, r.2))
    (contains_cases (f x) (map f xs) y m)

-- one more element
pub more_out : {X : Type 0} (xs : List X) (i : ℕ) (x y : X) → i < length xs → x ≡ get_or xs i x → Contains (take (i + 1) xs) y → Contains (take i xs) y ⊎ (x ≡ y)
more_out xs i x y lt is m = subst (λ v. Contains (take i xs) y ⊎ (v ≡ y)) (sym is) (Contains-push_cases (take i xs) (get_or xs i x) y (subst (λ l. Contains l y) (take_more xs i x lt) m))

pub more_in : {X : Type 0} (xs : List X) (i : ℕ) (x y : X) → i < length xs → x ≡ get_or xs i x → Contains (take i xs) y ⊎ (x ≡ y) → Contains (take (i + 1) xs) y
more_in xs i x y lt is h =
    subst (λ l. Contains l y) (sym (take_more xs i x lt ∙ ap (λ v. take i xs ++ v ∷ []) (sym is)))
    (⊎_elim (λ m. Contains-append_left (take i xs) (x ∷ []) y m) (λ e. subst (Contains (take i xs ++ x ∷ [])) e (Contains-push (take i xs) x)) h)

pub all_of : {X : Type 0} (xs : List X) (i : ℕ) (y : X) → length xs ≤ i → Contains (take i xs) y ↔ Contains xs y
all_of xs i y le = let e = take_all i xs le in (λ m. subst (λ l. Contains l y) e m, λ m. subst (λ l. Contains l y) (sym e) m)

-- a row that is set at one more member
pub row_more : (members : List ℕ) (i q : ℕ) (old new : List Bool) → i < length members → q ≡ get_or members i q
    → ((p : ℕ) → Has old p ↔ Contains (take i members) p) → ((s : ℕ) → Has new s ↔ ((s ≡ q) ⊎ Has old s))
    → (p : ℕ) → Has new p ↔ Contains (take (i + 1) members) p
row_more members i q old new lt is h set p = (
  λ m. more_in members i q p lt is (⊎_elim (λ (e : p ≡ q). inr (sym e)) (λ k. inl ((h p).0 k)) ((set p).0 m)),
  λ m. (set p).1 (⊎_elim (λ k. inr ((h p).1 k)) (λ (e : q ≡ p). inl (sym e)) (more_out members i q p lt is m)),
)

-- ---- distinct tuples

pub areall_same : (P Q : List ℕ → Type 0) (ts : List (List ℕ)) → ((t : List ℕ) → P t ↔ Q t) → AreAll P ts → AreAll Q ts
areall_same P Q ts same h = record { distinct = h.distinct; members = λ t. (λ m. (same t).0 ((h.members t).0 m), λ q. (h.members t).1 ((same t).1 q)) }

abbrev pub kids_cmp : SmallVec ℕ → SmallVec ℕ → Rattle.std.specs.declared.cmp.Ordering.Ordering
kids_cmp v w = slice_cmp nat_cmp v.items w.items

abbrev pub kids_eq : SmallVec ℕ → SmallVec ℕ → Bool
kids_eq v w = bytes_eq v.items w.items

module _ (sorted out : List (SmallVec ℕ)) (rising : IsSorted kids_cmp sorted) (filtered : IsFiltered (DiffersFromLast kids_eq) [] sorted out) where
  is_dedup : out ≡ dedup kids_eq sorted
  is_dedup = dedup_is kids_eq sorted out filtered

  pub rising_kids : IsRising (kids_of out)
  rising_kids i j d lt within =
      let long = length-map out (λ (v : SmallVec ℕ). v.items) in
      mapped (λ (v : SmallVec ℕ). v.items) (λ t. Precedes t (get_or (kids_of out) j d)) out i d (omega arith) (λ e.
      mapped (λ (v : SmallVec ℕ). v.items) (λ t. Precedes (get_or out i e).items t) out j d (omega arith) (λ w.
      let less : Precedes (get_or out i e).items (get_or out j e).items = Less-from_sorted kids_cmp out i j e strictly lt (omega arith) in
      let same_end : get_or out j e ≡ get_or out j w = get_or_any out j e w (omega arith) in
      subst (λ (v : SmallVec ℕ). Precedes (get_or out i e).items v.items) same_end less))
    where
      total : IsTotalOrder kids_cmp
      total = on_total (λ (v : SmallVec ℕ). v.items) nat_list_cmp_total

      strictly : IsStrictlySortedBy kids_cmp out
      strictly = subst (IsStrictlySortedBy kids_cmp) (sym is_dedup) (IsStrictlySortedBy-dedup total (λ x y. texts_ties x.items y.items) sorted rising)

  pub distinct_kids : (xs : List (SmallVec ℕ)) → IsPermutation xs sorted → AreAll (Contains (kids_of xs)) (kids_of out)
  distinct_kids xs moved = record { distinct = apart; members = λ t. (there t, back t) }
    where
      apart : AllPairs ◌≢◌ (kids_of out)
      apart i j d lt within e = precedes_none (get_or (kids_of out) i d) (subst (λ t. Precedes (get_or (kids_of out) i d) t) (sym e) (rising_kids i j d lt within))

      same : IsEquivalence kids_eq
      same = on_equiv (λ (v : SmallVec ℕ). v.items) nat_list_eq_equiv

      there : (t : List ℕ) → Contains (kids_of out) t → Contains (kids_of xs) t
      there t m =
          let v = image_out (λ (v : SmallVec ℕ). v.items) out t m in
          let here : Contains (dedup kids_eq sorted) v.0 = subst (λ l. Contains l v.0) is_dedup v.1 in
          subst (Contains (kids_of xs)) v.2 (image_in (λ (v : SmallVec ℕ). v.items) xs v.0 (Contains-permutation sorted xs v.0 (IsPermutation-sym xs sorted moved) (Contains-from_dedup kids_eq sorted v.0 here)))

      back : (t : List ℕ) → Contains (kids_of xs) t → Contains (kids_of out) t
      back t m =
          let v = image_out (λ (v : SmallVec ℕ). v.items) xs t m in
          let w = Any-dedup same sorted v.0 (Contains-permutation xs sorted v.0 moved v.1) in
          let equal : v.0.items ≡ w.1.items = (bytes_decides v.0.items w.1.items).0 w.4 in
          subst (Contains (kids_of out)) (sym equal ∙ v.2) (image_in (λ (v : SmallVec ℕ). v.items) out w.1 (subst (λ l. Contains l w.1) (sym is_dedup) (w.0, w.2, w.3)))

-- ---- what stands under a key

abbrev pub key_of : ℕ × ℕ → ℕ
key_of x = x.0

-- the part between the elements with lower keys and those with higher ones
pub under_key : {X : Type 0} (key : X → ℕ) (xs : List X) (s from to : ℕ) → from ≤ length xs → IsPartitionPoint (λ y. ltb (key y) s ≡ true) (λ y. ltb (key y) s ≡ false) xs from
    → to ≤ length (drop from xs) → IsPartitionPoint (λ y. leb (key y) s ≡ true) (λ y. leb (key y) s ≡ false) (drop from xs) to
    → (x : X) → Contains (take to (drop from xs)) x ↔ (Contains xs x × (key x ≡ s))
under_key key xs s from to low cut within end x = (there, back)
  where
    long : length (drop from xs) ≡ length xs - from
    long = length-drop from xs

    there : Contains (take to (drop from xs)) x → Contains xs x × (key x ≡ s)
    there m =
        let short : length (take to (drop from xs)) ≡ to = length-take-le to (drop from xs) within in
        let lt : m.0 < to = omega (arith, m.1) in
        let here : get_or (drop from xs) m.0 x ≡ x = sym (get_or-take to (drop from xs) m.0 x lt) ∙ m.2 in
        let place : get_or xs (from + m.0) x ≡ x = sym (get_or-drop from xs m.0 x) ∙ here in
        let most : key x ≤ s = leb-true (key x) s (subst (λ y. leb (key y) s ≡ true) here (end.0 m.0 x (omega arith) lt)) in
        let least : s ≤ key x = ltb-false (key x) s (subst (λ y. ltb (key y) s ≡ false) place (cut.1 (from + m.0) x (omega arith) (omega (arith, long)))) in
        ((from + m.0, omega (arith, long), place), omega arith)

    back : Contains xs x × (key x ≡ s) → Contains (take to (drop from xs)) x
    back h =
        let m = h.0 in
        let e : key x ≡ s = h.1 in
        let late : from ≤ m.0 = ⊎_elim
        (λ (lt : m.0 < from). let below : key x < s = ltb-true (key x) s (subst (λ y. ltb (key y) s ≡ true) m.2 (cut.0 m.0 x (omega arith) lt)) in absurd (omega arith))
        (λ (ge : from ≤ m.0). ge) (cases_lt m.0 from) in
        let k : ℕ = m.0 - from in
        let sum : from + k ≡ m.0 = omega arith in
        let in_range : m.0 < length xs = m.1 in
        let here : get_or (drop from xs) k x ≡ x = get_or-drop from xs k x ∙ ap (λ i. get_or xs i x) sum ∙ m.2 in
        let early : k < to = ⊎_elim
        (λ (lt : k < to). lt)
        (λ (ge : to ≤ k). let above : s < key x = leb-false (key x) s (subst (λ y. leb (key y) s ≡ false) here (end.1 k x ge (omega (arith, long)))) in absurd (omega arith))
        (cases_lt k to) in
        let short : length (take to (drop from xs)) ≡ to = length-take-le to (drop from xs) within in
        (k, omega arith, get_or-take to (drop from xs) k x early ∙ here)

-- two facts of the value of a result
pub if_ok_both : {X E : Type 0} (r : Result X E) (P Q : X → Type 0) → IfOk r P → IfOk r Q → IfOk r (λ x. P x × Q x)
if_ok_both (Ok x) P Q p q = (p, q)
if_ok_both (Err e) P Q p q = tt

-- ---- filtered lists, one element more

filter_here : {X : Type 0} (p : X → Bool) (xs : List X) (x : X) → p x ≡ true → filter p (xs ++ x ∷ []) ≡ filter p xs ++ x ∷ []
filter_here p [] x e = ap (λ b. cond b (x ∷ []) []) e
filter_here p (y ∷ ys) x e = elim (p y) as (λ b. cond b (y ∷ filter p (ys ++ x ∷ [])) (filter p (ys ++ x ∷ [])) ≡ cond b (y ∷ filter p ys) (filter p ys) ++ x ∷ []) [
  | true ↦ ap (λ l. y ∷ l) (filter_here p ys x e)
  | false ↦ filter_here p ys x e
]

filter_away : {X : Type 0} (p : X → Bool) (xs : List X) (x : X) → p x ≡ false → filter p (xs ++ x ∷ []) ≡ filter p xs
filter_away p [] x e = ap (λ b. cond b (x ∷ []) []) e
filter_away p (y ∷ ys) x e = elim (p y) as (λ b. cond b (y ∷ filter p (ys ++ x ∷ [])) (filter p (ys ++ x ∷ [])) ≡ cond b (y ∷ filter p ys) (filter p ys)) [
  | true ↦ ap (λ l. y ∷ l) (filter_away p ys x e)
  | false ↦ filter_away p ys x e
]

pub kept_here : {X Y : Type 0} (f : X → Y) (p : X → Bool) (xs : List X) (i : ℕ) (x : X) → i < length xs → x ≡ get_or xs i x → p x ≡ true
    → map f (filter p (take i xs)) ++ f x ∷ [] ≡ map f (filter p (take (i + 1) xs))
kept_here f p xs i x lt is e =
    sym (ap (λ l. map f (filter p l)) (take_more xs i x lt ∙ ap (λ v. take i xs ++ v ∷ []) (sym is)) ∙ ap (map f) (filter_here p (take i xs) x e) ∙ map-append f (filter p (take i xs)) (x ∷ []))

pub kept_away : {X Y : Type 0} (f : X → Y) (p : X → Bool) (xs : List X) (i : ℕ) (x : X) → i < length xs → x ≡ get_or xs i x → p x ≡ false
    → map f (filter p (take i xs)) ≡ map f (filter p (take (i + 1) xs))
kept_away f p xs i x lt is e =
    sym (ap (λ l. map f (filter p l)) (take_more xs i x lt ∙ ap (λ v. take i xs ++ v ∷ []) (sym is)) ∙ ap (map f) (filter_away p (take i xs) x e))

pub map_more : {X Y : Type 0} (f : X → Y) (xs : List X) (i : ℕ) (x : X) → i < length xs → x ≡ get_or xs i x → map f (take i xs) ++ f x ∷ [] ≡ map f (take (i + 1) xs)
map_more f xs i x lt is = sym (ap (map f) (take_more xs i x lt ∙ ap (λ v. take i xs ++ v ∷ []) (sym is)) ∙ map-append f (take i xs) (x ∷ []))

pub zip_more : {X Y : Type 0} (R : X → Y → Type 0) (xs : List X) (ys : List Y) (i : ℕ) (x : X) (y : Y) → i < length xs → x ≡ get_or xs i x → R x y → AllZip R (take i xs) ys → AllZip R (take (i + 1) xs) (ys ++ y ∷ [])
zip_more {X} {Y} R xs ys i x y lt is here h = subst (λ l. AllZip R l (ys ++ y ∷ [])) (sym (take_more xs i x lt ∙ ap (λ v. take i xs ++ v ∷ []) (sym is))) (push (take i xs) ys h)
  where
    push : (l : List X) (bs : List Y) → AllZip R l bs → AllZip R (l ++ x ∷ []) (bs ++ y ∷ [])
    push [] [] h = (here, tt)
    push [] (b ∷ bs) h = absurd h
    push (a ∷ rest) [] h = absurd h
    push (a ∷ rest) (b ∷ bs) h = (h.0, push rest bs h.1)

-- each element of the first i passes
pub all_pass_more : {X : Type 0} (p : X → Bool) (xs : List X) (i : ℕ) (x : X) → i < length xs → x ≡ get_or xs i x → p x ≡ true → list_all p (take i xs) ≡ true → list_all p (take (i + 1) xs) ≡ true
all_pass_more {X} p xs i x lt is e h = subst (λ l. list_all p l ≡ true) (sym (take_more xs i x lt ∙ ap (λ v. take i xs ++ v ∷ []) (sym is))) (push (take i xs) h)
  where
    push : (ys : List X) → list_all p ys ≡ true → list_all p (ys ++ x ∷ []) ≡ true
    push [] h = ap (λ b. b && true) e
    push (y ∷ ys) h = both (p y) (list_all p ys) (list_all p (ys ++ x ∷ [])) h (push ys)
      where
        both : (a b c : Bool) → (a && b) ≡ true → (b ≡ true → c ≡ true) → (a && c) ≡ true
        both true b c h f = f h
        both false b c h f = h

-- an element that fails
pub some_fails : {X : Type 0} (p : X → Bool) (xs : List X) (i : ℕ) (x : X) → i < length xs → x ≡ get_or xs i x → p x ≡ false → list_all p xs ≡ false
some_fails p [] i x lt is e = absurd (omega arith)
some_fails p (y ∷ ys) zero x lt is e = ap (λ v. p v && list_all p ys) (sym is) ∙ ap (λ b. b && list_all p ys) e
some_fails {X} p (y ∷ ys) (suc i) x lt is e = last (p y) (list_all p ys) (some_fails p ys i x (omega arith) is e)
  where
    last : (a b : Bool) → b ≡ false → (a && b) ≡ false
    last true b h = h
    last false b h = refl
