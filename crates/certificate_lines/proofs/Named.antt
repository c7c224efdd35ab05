-- Names that are looked up in a list of distinct ones.
use Rattle.std.proofs.Common.{◌≡◌, ◌≢◌, ℕ, ◌<◌, true, false, cond, List, [], ◌∷◌, ◌++◌, length, length-take, take, get_or, Contains, sym, ap, ◌∙◌, subst, ⊎_elim, arith}
use Rattle.std.specs.Prelude.{AllPairs}
use Rattle.std.specs.List.{list_any}
use Rattle.std.specs.Str.{bytes_eq}
use Rattle.std.proofs.lemmas.Bool.{cases_Bool}
use Rattle.std.proofs.lemmas.List.{get_or-take}
use Rattle.std.proofs.lemmas.Slice.Eq.{bytes_eq-Decides}
use Rattle.indexmap.proofs.CallerLemmas.{Contains-list_any}

-- a copy of a name that the list lacks is put behind the others
pub appended : (old new : List (List ℕ)) (copy s : List ℕ) → copy ≡ s → (Contains old s → ⊥)
    → new ≡ cond (list_any (bytes_eq copy) old) old (old ++ copy ∷ []) → new ≡ old ++ s ∷ []
appended old new copy s is lacks keys =
    ⊎_elim
    (λ (t : list_any (bytes_eq copy) old ≡ true). absurd (lacks (subst (Contains old) is (Contains-list_any bytes_eq (λ x y. (bytes_eq-Decides x y).0) old copy t))))
    (λ (f : list_any (bytes_eq copy) old ≡ false). keys ∙ ap (λ b. cond b old (old ++ copy ∷ [])) f ∙ ap (λ x. old ++ x ∷ []) is)
    (cases_Bool (list_any (bytes_eq copy) old))

-- a name of distinct ones doesn't stand before itself
pub not_before : (ys : List (List ℕ)) (i : ℕ) (y : List ℕ) → AllPairs ◌≢◌ ys → i < length ys → y ≡ get_or ys i y → Contains (take i ys) y → ⊥
not_before ys i y apart l at h =
    let k : h.0 < i = omega (arith, length-take i ys, h.1) in
    apart h.0 i y k l (sym (get_or-take i ys h.0 y k) ∙ h.2 ∙ at)
