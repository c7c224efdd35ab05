-- Places of pairs, where the test of equality decides `≡`.
use Rattle.std.proofs.Common.{◌≡◌, ◌≢◌, ℕ, Bool, true, false, ◌&&◌, cond, eqb, eqb-true, eq-eqb, List, [], ◌∷◌, ◌++◌, get_or, Some, None, slice_get, Contains, sym, ap, ◌∙◌, subst, refl, ⊎_elim}
use Rattle.std.specs.Prelude.{AllPairs, Option, IfSome}
use Rattle.std.specs.Bool.{Decides}
use Rattle.std.specs.List.{position, list_any}
use Rattle.std.proofs.lemmas.Bool.{cases_Bool, false≢true}
use Rattle.std.proofs.lemmas.List.{get_or_default}
use Rattle.std.proofs.lemmas.List.Quantifiers.{position-Some, all_pairs_push}
use Rattle.std.proofs.lemmas.Option.{slice_get-get_or}
use Rattle.std.proofs.lemmas.List.Folds.{list_any_at}
use Rattle.indexmap.proofs.CallerLemmas.{Contains-list_any}
use Rattle.tree_definitions.specs.Product.{Both}
use Rattle.bool_ops.specs.Closing.{Adds}

abbrev pub same_pair : Both → Both → Bool
same_pair a b = eqb a.left b.left && eqb a.right b.right

both_true : (a b : Bool) → (a && b) ≡ true → (a ≡ true) × (b ≡ true)
both_true true b e = (refl, e)
both_true false b e = absurd (false≢true e)

pub same_pair_decides : (a b : Both) → Decides (same_pair a b) (a ≡ b)
same_pair_decides a b = (
  λ e.
      let h = both_true (eqb a.left b.left) (eqb a.right b.right) e in
      let lefts : a.left ≡ b.left = eqb-true a.left b.left h.0 in
      let rights : a.right ≡ b.right = eqb-true a.right b.right h.1 in
      ap (λ n. record { left = n; right = a.right }) lefts ∙ ap (λ r. record { left = b.left; right = r }) rights,
  λ e. ap (λ t. t && eqb a.right b.right) (eq-eqb a.left b.left (ap (λ s. s.left) e)) ∙ eq-eqb a.right b.right (ap (λ s. s.right) e),
)

pub position_finds : (xs : List Both) (x : Both) (i : ℕ) → position (same_pair x) xs ≡ Some i → slice_get xs i ≡ Some x
position_finds xs x i e =
    let at = position-Some (same_pair x) xs i x e in
    slice_get-get_or xs i x at.0 ∙ ap Some (sym ((same_pair_decides x (get_or xs i x)).0 at.1))

pub any_member : (xs : List Both) (x : Both) → Contains xs x → list_any (same_pair x) xs ≡ true
any_member xs x h = list_any_at (same_pair x) xs h.0 x h.1 ((same_pair_decides x (get_or xs h.0 x)).1 (sym h.2))

pub member_any : (xs : List Both) (x : Both) → list_any (same_pair x) xs ≡ true → Contains xs x
member_any xs x e = Contains-list_any same_pair (λ a b. (same_pair_decides a b).0) xs x e

-- a list with one more pair that it lacked
still_distinct : (old : List Both) (x : Both) → AllPairs ◌≢◌ old → (Contains old x → ⊥) → AllPairs ◌≢◌ (old ++ x ∷ [])
still_distinct old x h lacks = all_pairs_push ◌≢◌ old x h (λ k d l e. lacks (k, l, get_or_default old k x d l ∙ e))

-- what `insert` leaves
pub added : (old new : List Both) (x : Both) → AllPairs ◌≢◌ old → new ≡ cond (list_any (same_pair x) old) old (old ++ x ∷ []) → Adds old x new
added old new x apart keys = record {
  known = λ h. keys ∙ ap (λ b. cond b old (old ++ x ∷ [])) (any_member old x h);
  fresh = λ lacks. ⊎_elim
      (λ (t : list_any (same_pair x) old ≡ true). absurd (lacks (member_any old x t)))
      (λ (f : list_any (same_pair x) old ≡ false). keys ∙ ap (λ b. cond b old (old ++ x ∷ [])) f)
      (cases_Bool (list_any (same_pair x) old));
  distinct = ⊎_elim
      (λ (t : list_any (same_pair x) old ≡ true). subst (AllPairs ◌≢◌) (sym (keys ∙ ap (λ b. cond b old (old ++ x ∷ [])) t)) apart)
      (λ (f : list_any (same_pair x) old ≡ false).
      subst (AllPairs ◌≢◌) (sym (keys ∙ ap (λ b. cond b old (old ++ x ∷ [])) f))
      (still_distinct old x apart (λ h. false≢true (sym f ∙ any_member old x h))))
      (cases_Bool (list_any (same_pair x) old));
}

pub found : (xs : List Both) (x : Both) (o : Option ℕ) → o ≡ position (same_pair x) xs → IfSome o (λ i. slice_get xs i ≡ Some x)
found xs x None e = tt
found xs x (Some i) e = position_finds xs x i (sym e)
