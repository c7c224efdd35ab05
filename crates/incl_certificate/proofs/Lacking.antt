-- What a first list lacks of a second, item by item.
use Rattle.std.proofs.Common.{◌≡◌, ◌≢◌, ◌<◌, ◌+◌, ℕ, suc, Bool, true, false, cond, List, [], ◌∷◌, ◌++◌, length, length-append, take, drop, get_or, take-append-drop, refl, sym, ap, ◌∙◌, append_assoc, append-nil, arith}
use Rattle.std.specs.Prelude.{filter, not, IsTrue, ◌↔◌}
use Rattle.std.proofs.Math.Seq.{drop-cons}
use Rattle.std.proofs.lemmas.Bool.{true≢false}
use Rattle.std.proofs.lemmas.List.Elements.{filter_more}

module _ {X : Type 0} (p : X → Bool) where
  kept_parts : (xs ys : List X) → filter p (xs ++ ys) ≡ filter p xs ++ filter p ys
  kept_parts [] ys = refl
  kept_parts (x ∷ xs) ys = elim (p x) as (λ b. cond b (x ∷ filter p (xs ++ ys)) (filter p (xs ++ ys)) ≡ cond b (x ∷ filter p xs) (filter p xs) ++ filter p ys) [
    | true ↦ ap (λ l. x ∷ l) (kept_parts xs ys)
    | false ↦ kept_parts xs ys
  ]

  -- the item at i is kept, so it stands behind those kept before it
  kept_at : (xs : List X) (i : ℕ) (x : X) → i < length xs → x ≡ get_or xs i x → p x ≡ true
      → (more : List X) × (filter p xs ≡ filter p (take i xs) ++ x ∷ more)
  kept_at xs i x lt is e =
      let later = filter p (drop (suc i) xs) in (
        later,
        ap (filter p) (sym (take-append-drop i xs))
            ∙ kept_parts (take i xs) (drop i xs)
            ∙ ap (λ l. filter p (take i xs) ++ filter p l) (drop-cons xs i x lt ∙ ap (λ y. y ∷ drop (suc i) xs) (sym is))
            ∙ ap (λ b. filter p (take i xs) ++ cond b (x ∷ later) later) e,
      )

pub cancel_left : {X : Type 0} (front xs ys : List X) → front ++ xs ≡ front ++ ys → xs ≡ ys
cancel_left [] xs ys e = e
cancel_left (z ∷ front) xs ys e = let same : front ++ xs ≡ front ++ ys = cc in cancel_left front xs ys same

-- the rest is empty, but an item is lacking still
pub ends_early : {X : Type 0} (p : X → Bool) (symbols rest second : List X) (i : ℕ) (x : X) → symbols ≡ filter p (take i second) ++ rest → length rest ≡ 0
    → i < length second → x ≡ get_or second i x → p x ≡ true → IsTrue false ↔ (symbols ≡ filter p second)
ends_early p symbols rest second i x parts none lt is e =
    let k = kept_at p second i x lt is e in (
      λ no. absurd (true≢false (sym no)),
      λ same. absurd (omega (arith, ap length parts, ap length same, ap length k.1, length-append (filter p (take i second)) rest, length-append (filter p (take i second)) (x ∷ k.0))),
    )

-- the rest begins with another item than the next that is lacking
pub differs : {X : Type 0} (p : X → Bool) (symbols second others : List X) (i : ℕ) (x y : X) → symbols ≡ filter p (take i second) ++ y ∷ others
    → i < length second → x ≡ get_or second i x → p x ≡ true → y ≢ x → IsTrue false ↔ (symbols ≡ filter p second)
differs p symbols second others i x y parts lt is e apart =
    let k = kept_at p second i x lt is e in (
      λ no. absurd (true≢false (sym no)),
      λ same. let heads : y ∷ others ≡ x ∷ k.0 = cancel_left (filter p (take i second)) (y ∷ others) (x ∷ k.0) (sym parts ∙ same ∙ k.1) in
          let head : y ≡ x = cc in absurd (apart head),
    )

-- one more item is passed: it is not lacking
pub passed : {X : Type 0} (p : X → Bool) (symbols rest second : List X) (i : ℕ) (x : X) → symbols ≡ filter p (take i second) ++ rest
    → i < length second → x ≡ get_or second i x → p x ≡ false → symbols ≡ filter p (take (i + 1) second) ++ rest
passed p symbols rest second i x parts lt is e =
    parts ∙ ap (λ l. l ++ rest) (sym (filter_more p second i x lt ∙ ap (λ y. filter p (take i second) ++ cond (p y) (y ∷ []) []) (sym is) ∙ ap (λ b. filter p (take i second) ++ cond b (x ∷ []) []) e ∙ append-nil (filter p (take i second))))

-- one more item is lacking, and the rest begins with it
pub matched : {X : Type 0} (p : X → Bool) (symbols others second : List X) (i : ℕ) (x : X) → symbols ≡ filter p (take i second) ++ x ∷ others
    → i < length second → x ≡ get_or second i x → p x ≡ true → symbols ≡ filter p (take (i + 1) second) ++ others
matched p symbols others second i x parts lt is e =
    parts ∙ sym (ap (λ l. l ++ others) (filter_more p second i x lt ∙ ap (λ y. filter p (take i second) ++ cond (p y) (y ∷ []) []) (sym is) ∙ ap (λ b. filter p (take i second) ++ cond b (x ∷ []) []) e)
    ∙ append_assoc (filter p (take i second)) (x ∷ []) others)

pub from_not : (b : Bool) → not b ≡ false → b ≡ true
from_not true e = refl
from_not false e = absurd (true≢false e)
