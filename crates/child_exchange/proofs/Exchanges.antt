-- A tuple with another number at one place, and tuples place by place.
use Rattle.std.proofs.Common.{◌≡◌, ◌≢◌, ℕ, zero, suc, ◌<◌, List, [], ◌∷◌, length, set, refl, ap, ◌∙◌, arith, get_or, subst, sym}
use Rattle.std.specs.List.{AllZip}
use Rattle.std.proofs.lemmas.Option.{slice_get-get_or}
use Rattle.tree_definitions.specs.Automaton.{Rule}
use Rattle.tree_definitions.specs.Relation.{Relation, IsAt}
use Rattle.tree_definitions.proofs.Members.{at_unique}

pub set_here : (xs : List ℕ) (p r : ℕ) → p < length xs → IsAt (set xs p r) p r
set_here [] p r l = absurd (omega arith)
set_here (x ∷ xs) zero r l = refl
set_here (x ∷ xs) (suc p) r l = set_here xs p r (omega arith)

pub set_there : (xs : List ℕ) (p r i x : ℕ) → i ≢ p → IsAt xs i x → IsAt (set xs p r) i x
set_there [] p r i x d e = e
set_there (y ∷ ys) zero r zero x d e = absurd (d refl)
set_there (y ∷ ys) zero r (suc i) x d e = e
set_there (y ∷ ys) (suc p) r zero x d e = e
set_there (y ∷ ys) (suc p) r (suc i) x d e = set_there ys p r i x (λ f. d (ap suc f)) e

pub set_back : (xs : List ℕ) (p r i x : ℕ) → i ≢ p → IsAt (set xs p r) i x → IsAt xs i x
set_back [] p r i x d e = e
set_back (y ∷ ys) zero r zero x d e = absurd (d refl)
set_back (y ∷ ys) zero r (suc i) x d e = e
set_back (y ∷ ys) (suc p) r zero x d e = e
set_back (y ∷ ys) (suc p) r (suc i) x d e = set_back ys p r i x (λ f. d (ap suc f)) e

pub set_itself : (xs : List ℕ) (p x : ℕ) → IsAt xs p x → xs ≡ set xs p x
set_itself [] p x e = refl
set_itself (y ∷ ys) zero x e = let same : y ≡ x = cc in ap (λ z. z ∷ ys) same
set_itself (y ∷ ys) (suc p) x e = ap (λ zs. y ∷ zs) (set_itself ys p x e)

pub lists_same : (xs ys : List ℕ) → length xs ≡ length ys → ((i x : ℕ) → IsAt xs i x → IsAt ys i x) → xs ≡ ys
lists_same [] [] e h = refl
lists_same [] (y ∷ ys) e h = absurd (omega (arith, e))
lists_same (x ∷ xs) [] e h = absurd (omega (arith, e))
lists_same (x ∷ xs) (y ∷ ys) e h =
    let first : x ≡ y = at_unique (y ∷ ys) 0 x y (h 0 x refl) refl in
    ap (λ z. z ∷ xs) first ∙ ap (λ zs. y ∷ zs) (lists_same xs ys (omega (arith, e)) (λ i u k. h (suc i) u k))

-- what is read at a place of a rule's children stands there
pub kid_at : (list : List ℕ) (rule : Rule) (p : ℕ) → list ≡ rule.kids → p < length rule.kids → IsAt rule.kids p (get_or list p 0)
kid_at list rule p e l = subst (λ (xs : List ℕ). IsAt xs p (get_or list p 0)) e (slice_get-get_or list p 0 (subst (λ (xs : List ℕ). p < length xs) (sym e) l))

-- two lists of one length that are in the relation at each place
pub all_zip_from : (R : Relation) (xs ys : List ℕ) → length xs ≡ length ys → ((i x y : ℕ) → IsAt xs i x → IsAt ys i y → R x y) → AllZip R xs ys
all_zip_from R [] [] e h = tt
all_zip_from R [] (y ∷ ys) e h = absurd (omega (arith, e))
all_zip_from R (x ∷ xs) [] e h = absurd (omega (arith, e))
all_zip_from R (x ∷ xs) (y ∷ ys) e h = (h 0 x y refl refl, all_zip_from R xs ys (omega (arith, e)) (λ i u v p q. h (suc i) u v p q))
