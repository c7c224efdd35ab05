-- Lists in step.
use Rattle.std.proofs.Common.{◌≡◌, ℕ, zero, suc, List, [], ◌∷◌, length, map, refl, ap, subst, arith}
use Rattle.std.specs.List.{AllZip}
use Rattle.tree_definitions.specs.Relation.{Relation, IsAt}

pub zip_from : (R : Relation) (xs ys : List ℕ) → length xs ≡ length ys → ((i x y : ℕ) → IsAt xs i x → IsAt ys i y → R x y) → AllZip R xs ys
zip_from R [] [] e h = tt
zip_from R [] (y ∷ ys) e h = absurd (omega (arith, e))
zip_from R (x ∷ xs) [] e h = absurd (omega (arith, e))
zip_from R (x ∷ xs) (y ∷ ys) e h = (h 0 x y refl refl, zip_from R xs ys (omega (arith, e)) (λ i u v p q. h (suc i) u v p q))

pub zip_long : (R : Relation) (xs ys : List ℕ) → AllZip R xs ys → length xs ≡ length ys
zip_long R [] [] z = refl
zip_long R [] (y ∷ ys) z = absurd z
zip_long R (x ∷ xs) [] z = absurd z
zip_long R (x ∷ xs) (y ∷ ys) z = ap suc (zip_long R xs ys z.1)

pub zip_at : (R : Relation) (xs ys : List ℕ) → AllZip R xs ys → (i x y : ℕ) → IsAt xs i x → IsAt ys i y → R x y
zip_at R [] ys z i x y p q = absurd cc
zip_at R (x0 ∷ xs) [] z i x y p q = absurd z
zip_at R (x0 ∷ xs) (y0 ∷ ys) z zero x y p q = let e : x0 ≡ x = cc in let f : y0 ≡ y = cc in subst (R x) f (subst (λ u. R u y0) e z.0)
zip_at R (x0 ∷ xs) (y0 ∷ ys) z (suc i) x y p q = zip_at R xs ys z.1 i x y p q

pub zip_mapped : (R : Relation) (f g : ℕ → ℕ) (xs ys : List ℕ) → AllZip (λ x y. R (f x) (g y)) xs ys → AllZip R (map f xs) (map g ys)
zip_mapped R f g [] [] z = tt
zip_mapped R f g [] (y ∷ ys) z = absurd z
zip_mapped R f g (x ∷ xs) [] z = absurd z
zip_mapped R f g (x ∷ xs) (y ∷ ys) z = (z.0, zip_mapped R f g xs ys z.1)

pub zip_unmapped : (R : Relation) (f g : ℕ → ℕ) (xs ys : List ℕ) → AllZip R (map f xs) (map g ys) → AllZip (λ x y. R (f x) (g y)) xs ys
zip_unmapped R f g [] [] z = tt
zip_unmapped R f g [] (y ∷ ys) z = absurd z
zip_unmapped R f g (x ∷ xs) [] z = absurd z
zip_unmapped R f g (x ∷ xs) (y ∷ ys) z = (z.0, zip_unmapped R f g xs ys z.1)

pub map_same : (f : ℕ → ℕ) (xs : List ℕ) → ((x : ℕ) → f x ≡ x) → map f xs ≡ xs
map_same f [] h = refl
map_same f (x ∷ xs) h = let e = map_same f xs h in subst (λ ys. f x ∷ map f xs ≡ x ∷ ys) e (subst (λ y. f x ∷ map f xs ≡ y ∷ map f xs) (h x) refl)
