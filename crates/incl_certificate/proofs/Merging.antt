-- Two lists of distinct symbols become one, a symbol of the second list at a time; and symbols that are sought among the first ones of a list.
use Rattle.std.proofs.Common.{◌≡◌, ◌≢◌, ℕ, zero, suc, ◌+◌, ◌<◌, ◌≤◌, inl, inr, Bool, true, false, cond, not, filter, List, [], ◌∷◌, ◌++◌, length, take, get_or, Contains, refl, sym, ap, ◌∙◌, ⊎_elim, append_assoc, arith}
use Rattle.std.specs.Prelude.{AllPairs, nat_lt}
use Rattle.std.specs.List.{list_any}
use Rattle.std.proofs.lemmas.Bool.{cases_Bool, cases_lt, lt-ltb, le-ltb}
use Rattle.std.proofs.lemmas.List.Elements.{All-contains, All-filter, Contains-get_or, Contains-append_cases, Contains-append_left, filter_more}
use Rattle.tree_definitions.specs.Tree.{Symbol}
use Rattle.tree_definitions.specs.Joint.{joint_symbols, same_symbol}
use Rattle.tree_definitions.specs.Relation.{IsAt}
use Rattle.tree_definitions.proofs.Members.{contains_at, place_of}
use Rattle.witness_trees.proofs.Looked.{any_member, member_any, not_before}
use Rattle.witness_trees.proofs.Reaching.{same_place}
use Rattle.incl_certificate.specs.Joint.{lacking}

-- a list joined to no symbols is itself
pub joint_none : (ys : List Symbol) → joint_symbols [] ys ≡ ys
joint_none [] = refl
joint_none (y ∷ ys) = ap (λ zs. y ∷ zs) (joint_none ys)

-- no symbol among those that are absent
absent : (x : Symbol) (xs : List Symbol) → (Contains xs x → ⊥) → list_any (same_symbol x) xs ≡ false
absent x xs n = ⊎_elim (λ (t : list_any (same_symbol x) xs ≡ true). absurd (n (member_any xs x t))) (λ f. f) (cases_Bool (list_any (same_symbol x) xs))

filter_member : (p : Symbol → Bool) (xs : List Symbol) (x : Symbol) → Contains (filter p xs) x → Contains xs x
filter_member p xs x h = All-contains (Contains xs) (filter p xs) x (All-filter p (Contains xs) xs (λ k d l. Contains-get_or xs k d l)) h

-- the next symbol of the second list is in the joint list so far where it is in the first one
same_any : (xs ys : List Symbol) (i : ℕ) (y : Symbol) → AllPairs ◌≢◌ ys → i < length ys → y ≡ get_or ys i y
    → list_any (same_symbol y) (joint_symbols xs (take i ys)) ≡ list_any (same_symbol y) xs
same_any xs ys i y apart l is = ⊎_elim known fresh (cases_Bool (list_any (same_symbol y) xs))
  where
    zs : List Symbol
    zs = joint_symbols xs (take i ys)

    later : Contains zs y → Contains xs y
    later h =
        ⊎_elim (λ m. m) (λ m. absurd (not_before ys i y apart l is (filter_member (λ a. not (list_any (same_symbol a) xs)) (take i ys) y m)))
        (Contains-append_cases xs (lacking xs (take i ys)) y h)

    known : list_any (same_symbol y) xs ≡ true → list_any (same_symbol y) zs ≡ list_any (same_symbol y) xs
    known t = any_member zs y (Contains-append_left xs (lacking xs (take i ys)) y (member_any xs y t)) ∙ sym t

    fresh : list_any (same_symbol y) xs ≡ false → list_any (same_symbol y) zs ≡ list_any (same_symbol y) xs
    fresh f = absent y zs (λ h. let t = any_member xs y (later h) in let e : true ≡ false = sym t ∙ f in cc) ∙ sym f

-- one more symbol is joined
pub joint_step : (xs ys : List Symbol) (i : ℕ) (y : Symbol) → AllPairs ◌≢◌ ys → i < length ys → y ≡ get_or ys i y
    → joint_symbols (joint_symbols xs (take i ys)) (y ∷ []) ≡ joint_symbols xs (take (i + 1) ys)
joint_step xs ys i y apart l is =
    let p : Symbol → Bool = λ a. not (list_any (same_symbol a) xs) in
    ap (λ b. joint_symbols xs (take i ys) ++ cond (not b) (y ∷ []) []) (same_any xs ys i y apart l is)
    ∙ append_assoc xs (filter p (take i ys)) (cond (p y) (y ∷ []) [])
    ∙ ap (λ zs. xs ++ zs) (sym (filter_more p ys i y l ∙ ap (λ z. filter p (take i ys) ++ cond (p z) (z ∷ []) []) (sym is)))

at_front : (n : ℕ) (xs : List Symbol) (i : ℕ) (x : Symbol) → i < n → IsAt xs i x → IsAt (take n xs) i x
at_front zero xs i x l at = absurd (omega arith)
at_front (suc n) [] i x l at = absurd cc
at_front (suc n) (y ∷ xs) zero x l at = at
at_front (suc n) (y ∷ xs) (suc i) x l at = at_front n xs i x (omega arith) at

front_at : (n : ℕ) (xs : List Symbol) (i : ℕ) (x : Symbol) → IsAt (take n xs) i x → (i < n) × IsAt xs i x
front_at zero xs i x at = absurd cc
front_at (suc n) [] i x at = absurd cc
front_at (suc n) (y ∷ xs) zero x at = (omega arith, at)
front_at (suc n) (y ∷ xs) (suc i) x at = let h = front_at n xs i x at in (omega (arith, h.0), h.1)

-- the place of a symbol says whether it is among the first ones
pub before_found : (symbols : List Symbol) (count i : ℕ) (x : Symbol) → AllPairs ◌≢◌ symbols → IsAt symbols i x → nat_lt i count ≡ list_any (same_symbol x) (take count symbols)
before_found symbols count i x apart at = elim (cases_lt i count) [
  | inl l ↦ lt-ltb i count l ∙ sym (any_member (take count symbols) x (contains_at (take count symbols) i x (at_front count symbols i x l at)))
  | inr g ↦ le-ltb i count g ∙ sym (absent x (take count symbols) (λ h. past g (place_of (take count symbols) x h)))
]
  where
    past : count ≤ i → (j : ℕ) × IsAt (take count symbols) j x → ⊥
    past g (j, front) =
        let h = front_at count symbols j x front in
        let e : i ≡ j = same_place symbols i j x apart at h.1 in
        omega (arith, h.0, e)

pub before_none : (symbols : List Symbol) (count : ℕ) (x : Symbol) → (Contains symbols x → ⊥) → false ≡ list_any (same_symbol x) (take count symbols)
before_none symbols count x n = sym (absent x (take count symbols) (λ h. early (place_of (take count symbols) x h)))
  where
    early : (j : ℕ) × IsAt (take count symbols) j x → ⊥
    early (j, front) = n (contains_at symbols j x (front_at count symbols j x front).1)
