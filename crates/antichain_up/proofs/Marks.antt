-- Marks in a row, and the first items of a list.
use Rattle.std.proofs.Common.{◌≡◌, ◌≢◌, ◌⊎◌, inl, inr, ℕ, zero, suc, ◌<◌, ◌+◌, Bool, true, false, cond, List, [], ◌∷◌, ◌++◌, length, take, get_or, set, Some, refl, sym, ap, subst, ◌∙◌, arith}
use Rattle.std.specs.Prelude.{◌↔◌, Contains, slice_get}
use Rattle.std.specs.List.{filter}
use Rattle.std.proofs.lemmas.Bool.{cases_eq}
use Rattle.std.proofs.lemmas.List.{take_more, get_or_default}
use Rattle.std.proofs.lemmas.List.Elements.{Contains-append_left, Contains-push, Contains-push_cases}
use Rattle.std.proofs.lemmas.Option.{slice_get_read}
use Rattle.tree_definitions.specs.Relation.{Row, Has, IsAt}
use Rattle.tree_definitions.proofs.Members.{contains_none, contains_head, contains_tail, contains_cases}

pub set_here : {X : Type 0} (xs : List X) (i : ℕ) (x : X) → i < length xs → IsAt (set xs i x) i x
set_here [] i x l = absurd (omega arith)
set_here (y ∷ ys) zero x l = refl
set_here (y ∷ ys) (suc i) x l = set_here ys i x (omega arith)

pub set_elsewhere : {X : Type 0} (xs : List X) (i j : ℕ) (x : X) → j ≢ i → slice_get (set xs i x) j ≡ slice_get xs j
set_elsewhere [] i j x n = refl
set_elsewhere (y ∷ ys) zero zero x n = absurd (n refl)
set_elsewhere (y ∷ ys) zero (suc j) x n = refl
set_elsewhere (y ∷ ys) (suc i) zero x n = refl
set_elsewhere (y ∷ ys) (suc i) (suc j) x n = set_elsewhere ys i j x (λ e. n (ap suc e))

-- a mark that is set
pub marked : (row : Row) (j s : ℕ) → j < length row → Has (set row j true) s ↔ ((s ≡ j) ⊎ Has row s)
marked row j s l = (
  λ h. elim (cases_eq s j) [ inl e ↦ inl e | inr n ↦ inr (sym (set_elsewhere row j s true n) ∙ h) ],
  λ d. elim (cases_eq s j) [
    | inl e ↦ subst (Has (set row j true)) (sym e) (set_here row j true l)
    | inr n ↦ elim d [ inl e ↦ absurd (n e) | inr h ↦ set_elsewhere row j s true n ∙ h ]
  ],
)

-- a mark that is cleared
pub cleared : (row : Row) (j s : ℕ) → j < length row → Has (set row j false) s ↔ ((s ≢ j) × Has row s)
cleared row j s l = (
  λ h. elim (cases_eq s j) [
    | inl e ↦ absurd (let f : Some true ≡ Some false = sym h ∙ subst (λ k. slice_get (set row j false) k ≡ Some false) (sym e) (set_here row j false l) in cc)
    | inr n ↦ (n, sym (set_elsewhere row j s false n) ∙ h)
  ],
  λ d. set_elsewhere row j s false d.0 ∙ d.1,
)

pub flag_has : (row : Row) (k : ℕ) → get_or row k false ≡ true → Has row k
flag_has [] k h = absurd cc
flag_has (b ∷ row) zero h = ap Some h
flag_has (b ∷ row) (suc k) h = flag_has row k h

-- what a read of a mark says
pub mark_read : (row : Row) (k : ℕ) (read b : Bool) → k < length row → read ≡ get_or row k read → read ≡ b → IsAt row k b
mark_read row k read b l is e = subst (IsAt row k) e (slice_get_read row (length row) k read refl l is)

-- one more of the first items
pub taken : {X : Type 0} (xs : List X) (i : ℕ) (x : X) → i < length xs → x ≡ get_or xs i x → take (i + 1) xs ≡ take i xs ++ x ∷ []
taken xs i x l e = take_more xs i x l ∙ ap (λ z. take i xs ++ z ∷ []) (sym e)

pub taken_cases : {X : Type 0} (xs : List X) (i : ℕ) (x y : X) → i < length xs → x ≡ get_or xs i x → Contains (take (i + 1) xs) y → Contains (take i xs) y ⊎ (x ≡ y)
taken_cases xs i x y l e h = Contains-push_cases (take i xs) x y (subst (λ zs. Contains zs y) (taken xs i x l e) h)

pub taken_old : {X : Type 0} (xs : List X) (i : ℕ) (x y : X) → i < length xs → x ≡ get_or xs i x → Contains (take i xs) y → Contains (take (i + 1) xs) y
taken_old xs i x y l e h = subst (λ zs. Contains zs y) (sym (taken xs i x l e)) (Contains-append_left (take i xs) (x ∷ []) y h)

pub taken_new : {X : Type 0} (xs : List X) (i : ℕ) (x : X) → i < length xs → x ≡ get_or xs i x → Contains (take (i + 1) xs) x
taken_new xs i x l e = subst (λ zs. Contains zs x) (sym (taken xs i x l e)) (Contains-push (take i xs) x)

-- what passes a test
filtered_head : {X : Type 0} (p : X → Bool) (y : X) (ys : List X) (x : X) → (Contains (filter p ys) x → Contains ys x × (p x ≡ true))
    → (b : Bool) → p y ≡ b → Contains (cond b (y ∷ filter p ys) (filter p ys)) x → Contains (y ∷ ys) x × (p x ≡ true)
filtered_head p y ys x rest true e m = elim (contains_cases y (filter p ys) x m) [
  | inl f ↦ (subst (Contains (y ∷ ys)) f (contains_head y ys), subst (λ z. p z ≡ true) f e)
  | inr k ↦ (contains_tail y ys x (rest k).0, (rest k).1)
]
filtered_head p y ys x rest false e m = (contains_tail y ys x (rest m).0, (rest m).1)

pub filtered : {X : Type 0} (p : X → Bool) (xs : List X) (x : X) → Contains (filter p xs) x → Contains xs x × (p x ≡ true)
filtered p [] x h = absurd (contains_none x h)
filtered p (y ∷ ys) x h = filtered_head p y ys x (filtered p ys x) (p y) refl h

passes_head : {X : Type 0} (p : X → Bool) (y : X) (ys : List X) (x : X) → p x ≡ true → (Contains ys x → Contains (filter p ys) x)
    → (b : Bool) → p y ≡ b → (y ≡ x) ⊎ Contains ys x → Contains (cond b (y ∷ filter p ys) (filter p ys)) x
passes_head p y ys x e rest true f (inl g) = subst (Contains (y ∷ filter p ys)) g (contains_head y (filter p ys))
passes_head p y ys x e rest true f (inr m) = contains_tail y (filter p ys) x (rest m)
passes_head p y ys x e rest false f (inl g) = absurd (let q : true ≡ false = sym e ∙ sym (ap p g) ∙ f in cc)
passes_head p y ys x e rest false f (inr m) = rest m

pub passes : {X : Type 0} (p : X → Bool) (xs : List X) (x : X) → Contains xs x → p x ≡ true → Contains (filter p xs) x
passes p [] x h e = h
passes p (y ∷ ys) x h e = passes_head p y ys x e (λ m. passes p ys x m e) (p y) refl (contains_cases y ys x h)

-- one more mark
pub marked_more : (old now : Row) (kids : List ℕ) (i : ℕ) → i < length kids → get_or kids i 0 < length now → ((s : ℕ) → Has now s ↔ (Has old s ⊎ Contains (take i kids) s))
    → (s : ℕ) → Has (set now (get_or kids i 0) true) s ↔ (Has old s ⊎ Contains (take (i + 1) kids) s)
marked_more old now kids i l w before s =
    let j = get_or kids i 0 in
    let is : j ≡ get_or kids i j = get_or_default kids i 0 j l in (
      λ h. elim ((marked now j s w).0 h) [
        | inl e ↦ inr (subst (Contains (take (i + 1) kids)) (sym e) (taken_new kids i j l is))
        | inr k ↦ elim ((before s).0 k) [ inl o ↦ inl o | inr m ↦ inr (taken_old kids i j s l is m) ]
      ],
      λ d. (marked now j s w).1 (elim d [
        | inl o ↦ inr ((before s).1 (inl o))
        | inr m ↦ elim (taken_cases kids i j s l is m) [ inl n ↦ inr ((before s).1 (inr n)) | inr e ↦ inl (sym e) ]
      ]),
    )
