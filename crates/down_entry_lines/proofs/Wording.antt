-- The words of a line, and the first of them.
use Rattle.std.proofs.Common.{◌≡◌, ℕ, zero, suc, List, [], ◌∷◌, take, map, Bor, refl, ap}

-- the first words' texts
pub take_texts : (words : List (Bor (List ℕ))) (k : ℕ) → map (λ x. x.now) (take k words) ≡ take k (map (λ x. x.now) words)
take_texts words zero = refl
take_texts [] (suc k) = refl
take_texts (w ∷ words) (suc k) = ap (λ ws. w.now ∷ ws) (take_texts words k)
