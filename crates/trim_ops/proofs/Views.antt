-- Lists of lists behind a view.
use Rattle.std.proofs.Common.{◌≡◌, ℕ, zero, suc, ◌<◌, List, [], ◌∷◌, ◌++◌, map, length, get_or, set, refl, sym, ap, ◌∙◌, subst}
use Rattle.std.proofs.lemmas.List.{get_or-map, length-map}

view_set : {X : Type 0} (f : X → List ℕ) (xs : List X) (i : ℕ) (x : X) → map f (set xs i x) ≡ set (map f xs) i (f x)
view_set f [] i x = refl
view_set f (y ∷ ys) zero x = refl
view_set f (y ∷ ys) (suc i) x = ap (λ zs. f y ∷ zs) (view_set f ys i x)

pub add_view : {X : Type 0} (f : X → List ℕ) (xs : List X) (q : ℕ) (new old : X) (r : ℕ) (self : List (List ℕ)) → map f xs ≡ self → q < length self
    → old ≡ get_or xs q old → f new ≡ f old ++ r ∷ [] → map f (set xs q new) ≡ set self q (get_or self q [] ++ r ∷ [])
add_view f xs q new old r self e l o n =
    let within : q < length xs = subst (λ k. q < k) (length-map xs f) (subst (λ s. q < length s) (sym e) l) in
    let same : f old ≡ get_or self q [] = ap f o ∙ sym (get_or-map f xs q old [] within) ∙ ap (λ s. get_or s q []) e in
    view_set f xs q new ∙ ap (λ s. set s q (f new)) e ∙ ap (λ v. set self q v) (n ∙ ap (λ s. s ++ r ∷ []) same)
