-- Sets made of their members one by one.
use Rattle.std.proofs.Common.{◌≡◌, ℕ, ◌+◌, ◌<◌, ◌≤◌, true, false, ◌⊎◌, inl, inr, List, [], ◌∷◌, ◌++◌, length, take, get_or, Contains, Some, sym, ap, ◌∙◌, subst, arith, ⊎_elim}
use Rattle.std.specs.Prelude.{◌↔◌, All, nat_eq}
use Rattle.std.specs.List.{list_any}
use Rattle.std.proofs.lemmas.Bool.Decides.{Decides-eqb}
use Rattle.std.proofs.lemmas.List.{take_more, take_all}
use Rattle.std.proofs.lemmas.List.Elements.{All-contains, Contains-append_left, Contains-push, Contains-push_cases}
use Rattle.std.proofs.lemmas.List.Folds.{list_any_at}
use Rattle.std.proofs.lemmas.List.FromFn.{length-map-range_with_len, get_or-map-range_with_len}
use Rattle.std.proofs.lemmas.Option.{slice_get-get_or, slice_get_within, get_or_from_slice_get}
use Rattle.indexmap.proofs.CallerLemmas.{Contains-list_any}
use Rattle.tree_definitions.specs.Relation.{Row, Has}
use Rattle.listed_pairs.specs.Members.{row_with}
use Rattle.certificate_lines.proofs.Digits.{same_row}

pub with_length : (n : ℕ) (places : List ℕ) → length (row_with n places) ≡ n
with_length n places = length-map-range_with_len (λ j. list_any (nat_eq j) places) 0 n

pub with_has : (n : ℕ) (places : List ℕ) (s : ℕ) → Has (row_with n places) s ↔ ((s < n) × Contains places s)
with_has n places s = (
  λ h.
      let w = slice_get_within (row_with n places) s true h in
      let long = with_length n places in
      let l : s < n = omega (arith, w, long) in
      let t : list_any (nat_eq s) places ≡ true = sym (get_or-map-range_with_len (λ j. list_any (nat_eq j) places) 0 n s s false l (omega arith)) ∙ get_or_from_slice_get (row_with n places) s true false h in
      (l, Contains-list_any nat_eq (λ x y. (Decides-eqb x y).0) places s t),
  λ h.
      let long = with_length n places in
      let l = h.0 in
      let at = h.1 in
      slice_get-get_or (row_with n places) s false (omega (arith, l, long))
      ∙ ap Some (get_or-map-range_with_len (λ j. list_any (nat_eq j) places) 0 n s s false l (omega arith)
      ∙ list_any_at (nat_eq s) places at.0 s at.1 ((Decides-eqb s (get_or places at.0 s)).1 (sym at.2))),
)

pub set_is : (n k : ℕ) (places : List ℕ) (row : Row) → length places ≤ k → All (λ s. s < n) places → length row ≡ n → ((s : ℕ) → Has row s ↔ Contains (take k places) s) → row ≡ row_with n places
set_is n k places row past within long members =
    let whole = take_all k places past in
    same_row row (row_with n places) (long ∙ sym (with_length n places)) (λ s. (
      λ h. let m = subst (λ xs. Contains xs s) whole ((members s).0 h) in (with_has n places s).1 (All-contains (λ s. s < n) places s within m, m),
      λ h. (members s).1 (subst (λ xs. Contains xs s) (sym whole) ((with_has n places s).0 h).1),
    ))

pub one_more_member : (places : List ℕ) (k : ℕ) (row new : Row) → k < length places → ((s : ℕ) → Has row s ↔ Contains (take k places) s)
    → ((s : ℕ) → Has new s ↔ ((s ≡ get_or places k 0) ⊎ Has row s)) → (s : ℕ) → Has new s ↔ Contains (take (k + 1) places) s
one_more_member places k row new l old more s =
    let grown = take_more places k 0 l in
    let here = get_or places k 0 in (
      λ h. subst (λ xs. Contains xs s) (sym grown) (⊎_elim
          (λ (e : s ≡ here). subst (Contains (take k places ++ here ∷ [])) (sym e) (Contains-push (take k places) here))
          (λ (o : Has row s). Contains-append_left (take k places) (here ∷ []) s ((old s).0 o))
          ((more s).0 h)),
      λ h. (more s).1 (⊎_elim
          (λ (o : Contains (take k places) s). inr ((old s).1 o))
          (λ (e : here ≡ s). inl (sym e))
          (Contains-push_cases (take k places) here s (subst (λ xs. Contains xs s) grown h))),
    )
