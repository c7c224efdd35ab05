-- Lists that grow by values that they lack.
use Rattle.std.proofs.Common.{◌≡◌, ℕ, zero, suc, inl, inr, Bool, true, false, ◌||◌, List, [], ◌∷◌, ◌++◌, Option, Some, None, refl, sym, ap, ◌∙◌, subst, arith}
use Rattle.std.specs.Prelude.{Contains, filter_map, slice_get}
use Rattle.std.specs.Bool.{Decides}
use Rattle.std.specs.List.{AllZip, list_any, cons_option}
use Rattle.std.proofs.lemmas.Bool.{or_cases}
use Rattle.std.proofs.lemmas.List.{append-nil}
use Rattle.std.proofs.lemmas.List.Elements.{filter_map-append}
use Rattle.tree_definitions.specs.Relation.{IsAt}
use Rattle.tree_definitions.proofs.Members.{contains_none, contains_head, contains_tail, contains_cases}
use Rattle.timbuk_definitions.specs.Grammar.{Item}
use Rattle.timbuk_definitions.specs.Reading.{with_new, first}
use Rattle.timbuk_definitions.specs.Place.{IsFull}
use Rattle.timbuk_definitions.proofs.Firsts.{with_old, with_fresh, dec_listed, first_push}
use Rattle.timbuk_text.specs.Taking.{Interns, InternsBy, IsFullBy}

abbrev pub with_option : {X : Type 0} → (X → X → Bool) → List X → Option X → List X
with_option same xs None = xs
with_option same xs (Some x) = with_new same xs x

at_front : {X : Type 0} (xs ys : List X) (i : ℕ) (x : X) → IsAt xs i x → IsAt (xs ++ ys) i x
at_front [] ys i x h = absurd cc
at_front (z ∷ xs) ys zero x h = h
at_front (z ∷ xs) ys (suc i) x h = at_front xs ys i x h

pub at_new : {X : Type 0} (same : X → X → Bool) (xs : List X) (y : X) (i : ℕ) (x : X) → IsAt xs i x → IsAt (with_new same xs y) i x
at_new {X} same xs y i x h = go (list_any (same y) xs) refl
  where
    go : (b : Bool) → list_any (same y) xs ≡ b → IsAt (with_new same xs y) i x
    go true e = rw e h
    go false e = rw e (at_front xs (y ∷ []) i x h)

pub at_option : {X : Type 0} (same : X → X → Bool) (xs : List X) (o : Option X) (i : ℕ) (x : X) → IsAt xs i x → IsAt (with_option same xs o) i x
at_option same xs None i x h = h
at_option same xs (Some y) i x h = at_new same xs y i x h

pub zip_push : {X Y : Type 0} (R : X → Y → Type 0) (xs : List X) (ys : List Y) (x : X) (y : Y) → AllZip R xs ys → R x y → AllZip R (xs ++ x ∷ []) (ys ++ y ∷ [])
zip_push R [] [] x y h r = (r, tt)
zip_push R [] (z ∷ ys) x y h r = absurd h
zip_push R (z ∷ xs) [] x y h r = absurd h
zip_push R (z ∷ xs) (v ∷ ys) x y h r = (h.0, zip_push R xs ys x y h.1 r)

pub zip_right : {X Y : Type 0} (R : X → Y → Type 0) (xs : List X) (ys : List Y) (y : Y) → AllZip R xs ys → Contains ys y → (x : X) × Contains xs x × R x y
zip_right R [] [] y h m = absurd (contains_none y m)
zip_right R [] (z ∷ ys) y h m = absurd h
zip_right R (x ∷ xs) [] y h m = absurd h
zip_right R (x ∷ xs) (z ∷ ys) y h m = elim (contains_cases z ys y m) [
  | inl e ↦ (x, contains_head x xs, subst (R x) e h.0)
  | inr k ↦ (let r = zip_right R xs ys y h.1 k in (r.0, contains_tail x xs r.0 r.1, r.2))
]

pub zip_left : {X Y : Type 0} (R : X → Y → Type 0) (xs : List X) (ys : List Y) (x : X) → AllZip R xs ys → Contains xs x → (y : Y) × Contains ys y × R x y
zip_left R [] [] x h m = absurd (contains_none x m)
zip_left R [] (z ∷ ys) x h m = absurd h
zip_left R (z ∷ xs) [] x h m = absurd h
zip_left R (z ∷ xs) (y ∷ ys) x h m = elim (contains_cases z xs x m) [
  | inl e ↦ (y, contains_head y ys, subst (λ v. R v y) e h.0)
  | inr k ↦ (let r = zip_left R xs ys x h.1 k in (r.0, contains_tail y ys r.0 r.1, r.2))
]

-- two lists that go together grow together
pub zip_new : {X Y : Type 0} (R : X → Y → Type 0) (same : X → X → Bool) (like : Y → Y → Bool)
    → ((a b : X) → Decides (same a b) (a ≡ b)) → ((a b : Y) → Decides (like a b) (a ≡ b))
    → ((x : X) (y y' : Y) → R x y → R x y' → y ≡ y') → ((x x' : X) (y : Y) → R x y → R x' y → x ≡ x')
    → (xs : List X) (ys : List Y) (x : X) (y : Y) → AllZip R xs ys → R x y → AllZip R (with_new same xs x) (with_new like ys y)
zip_new {X} {Y} R same like ds dl fun inj xs ys x y h r = go (dec_listed like dl ys y)
  where
    go : Dec (Contains ys y) → AllZip R (with_new same xs x) (with_new like ys y)
    go (yes m) =
        let p = zip_right R xs ys y h m in
        let there : Contains xs x = subst (Contains xs) (inj p.0 x y p.2 r) p.1 in
        subst (λ l. AllZip R l (with_new like ys y)) (sym (with_old same ds xs x there)) (subst (AllZip R xs) (sym (with_old like dl ys y m)) h)
    go (no n) =
        let absent : ¬ Contains xs x = (λ m. let p = zip_left R xs ys x h m in n (subst (Contains ys) (fun x p.0 y p.2 r) p.1)) in
        subst (λ l. AllZip R l (with_new like ys y)) (sym (with_fresh same ds xs x absent)) (subst (AllZip R (xs ++ x ∷ [])) (sym (with_fresh like dl ys y n)) (zip_push R xs ys x y h r))

pub zip_weaker : {X Y : Type 0} (R Q : X → Y → Type 0) → ((x : X) (y : Y) → R x y → Q x y) → (xs : List X) (ys : List Y) → AllZip R xs ys → AllZip Q xs ys
zip_weaker R Q f [] [] h = tt
zip_weaker R Q f [] (y ∷ ys) h = absurd h
zip_weaker R Q f (x ∷ xs) [] h = absurd h
zip_weaker R Q f (x ∷ xs) (y ∷ ys) h = (f x y h.0, zip_weaker R Q f xs ys h.1)

-- what one more item adds to a list of first places
pub firsts_push : {X : Type 0} (same : X → X → Bool) → ((a b : X) → Decides (same a b) (a ≡ b)) → (f : Item → Option X) (items : List Item) (x : Item)
    → first same (filter_map f (items ++ x ∷ [])) ≡ with_option same (first same (filter_map f items)) (f x)
firsts_push {X} same decides f items x = ap (first same) (filter_map-append f items (x ∷ [])) ∙ go (f x)
  where
    go : (o : Option X) → first same (filter_map f items ++ cons_option o []) ≡ with_option same (first same (filter_map f items)) o
    go None = ap (first same) (append-nil (filter_map f items))
    go (Some a) = first_push same decides (filter_map f items) a

abbrev pub title_after : {X : Type 0} → Option X → Option X → Option X
title_after t None = t
title_after t (Some x) = Some x

-- the first value, if one more comes while there is none
pub head_push : {X : Type 0} (f : Item → Option X) (items : List Item) (x : Item) → ((a : X) → f x ≡ Some a → slice_get (filter_map f items) 0 ≡ None)
    → slice_get (filter_map f (items ++ x ∷ [])) 0 ≡ title_after (slice_get (filter_map f items) 0) (f x)
head_push {X} f items x none = ap (λ l. slice_get l 0) (filter_map-append f items (x ∷ [])) ∙ go (f x) none
  where
    empty : (xs : List X) (a : X) → slice_get xs 0 ≡ None → slice_get (xs ++ a ∷ []) 0 ≡ Some a
    empty [] a e = refl
    empty (z ∷ zs) a e = absurd cc

    go : (o : Option X) → ((a : X) → o ≡ Some a → slice_get (filter_map f items) 0 ≡ None) → slice_get (filter_map f items ++ cons_option o []) 0 ≡ title_after (slice_get (filter_map f items) 0) o
    go None n = ap (λ l. slice_get l 0) (append-nil (filter_map f items))
    go (Some a) n = empty (filter_map f items) a (n a refl)

or_right : (b c : Bool) → c ≡ true → (b || c) ≡ true
or_right true c e = refl
or_right false c e = e

module _ {X : Type 0} (same : X → X → Bool) (decides : (a b : X) → Decides (same a b) (a ≡ b)) where
  found : (x : X) (xs : List X) → Contains xs x → list_any (same x) xs ≡ true
  found x [] m = absurd (contains_none x m)
  found x (y ∷ ys) m = elim (contains_cases y ys x m) [
    | inl e ↦ (let here : same x y ≡ true = (decides x y).1 (sym e) in rw here refl)
    | inr k ↦ or_right (same x y) (list_any (same x) ys) (found x ys k)
  ]

  absent : (x : X) (xs : List X) → list_any (same x) xs ≡ false → ¬ Contains xs x
  absent x xs e m = let both : true ≡ false = sym (found x xs m) ∙ e in cc

  unfound : (x : X) (xs : List X) → ¬ Contains xs x → list_any (same x) xs ≡ false
  unfound x xs n = go (list_any (same x) xs) refl
    where
      member : (ys : List X) → list_any (same x) ys ≡ true → Contains ys x
      member [] h = absurd cc
      member (y ∷ ys) h = elim (or_cases (same x y) (list_any (same x) ys) h) [
        | inl e ↦ subst (λ z. Contains (z ∷ ys) x) ((decides x y).0 e) (contains_head x ys)
        | inr k ↦ contains_tail y ys x (member ys k)
      ]

      go : (b : Bool) → list_any (same x) xs ≡ b → list_any (same x) xs ≡ false
      go true e = absurd (n (member xs e))
      go false e = e

  pub interned : (most : ℕ) (old new : List X) (x : X) (i : ℕ) → InternsBy same most old new x i → Interns same most old new x i
  interned most old new x i h = record {
    list = h.list;
    at = subst (IsAt new i) (sym ((decides x h.at.0).0 h.at.2)) h.at.1;
    room = λ full. (let left = h.room (unfound x old full.0) in omega (arith, left, full.1));
    few = h.few;
  }

  pub full : (most : ℕ) (old : List X) (x : X) → IsFullBy same most old x → IsFull most old x
  full most old x h = (absent x old h.new, h.full)
