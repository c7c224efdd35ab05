-- Places of symbols, where the test of equality decides `≡`.
use Rattle.std.proofs.Common.{◌≡◌, ◌≢◌, ℕ, ◌<◌, Bool, true, false, ◌&&◌, cond, eqb, eqb-true, eq-eqb, List, [], ◌∷◌, ◌++◌, length, length-append, get_or, Some, slice_get, Contains, sym, ap, ◌∙◌, subst, arith, refl, ⊎_elim, bytes_eq}
use Rattle.std.specs.Bool.{Decides}
use Rattle.std.specs.List.{position, list_any}
use Rattle.std.specs.Cmp.Lexicographic.{bytes_decides}
use Rattle.std.proofs.lemmas.Bool.{cases_Bool, false≢true}
use Rattle.std.proofs.lemmas.List.Quantifiers.{position-Some, all_pairs_push}
use Rattle.std.proofs.lemmas.List.{get_or_default}
use Rattle.std.proofs.lemmas.Option.{slice_get-get_or}
use Rattle.std.proofs.lemmas.List.Folds.{list_any_at}
use Rattle.indexmap.proofs.CallerLemmas.{Contains-list_any}
use Rattle.tree_definitions.specs.Tree.{Symbol}
use Rattle.tree_definitions.specs.Joint.{same_symbol}
use Rattle.ranked_alphabet.specs.Alphabets.{IsAlphabet, Interned}

both_true : (a b : Bool) → (a && b) ≡ true → (a ≡ true) × (b ≡ true)
both_true true b e = (refl, e)
both_true false b e = absurd (false≢true e)

pub same_symbol_decides : (a b : Symbol) → Decides (same_symbol a b) (a ≡ b)
same_symbol_decides a b = (
  λ e.
      let both = both_true (bytes_eq a.name b.name) (eqb a.rank b.rank) e in
      let names : a.name ≡ b.name = (bytes_decides a.name b.name).0 both.0 in
      let ranks : a.rank ≡ b.rank = eqb-true a.rank b.rank both.1 in
      ap (λ n. record { name = n; rank = a.rank }) names ∙ ap (λ r. record { name = b.name; rank = r }) ranks,
  λ e. ap (λ t. t && eqb a.rank b.rank) ((bytes_decides a.name b.name).1 (ap (λ s. s.name) e)) ∙ eq-eqb a.rank b.rank (ap (λ s. s.rank) e),
)

pub position_finds : (xs : List Symbol) (x : Symbol) (i : ℕ) → position (same_symbol x) xs ≡ Some i → slice_get xs i ≡ Some x
position_finds xs x i e =
    let at = position-Some (same_symbol x) xs i x e in
    slice_get-get_or xs i x at.0 ∙ ap Some (sym ((same_symbol_decides x (get_or xs i x)).0 at.1))

pub any_member : (xs : List Symbol) (x : Symbol) → Contains xs x → list_any (same_symbol x) xs ≡ true
any_member xs x h = list_any_at (same_symbol x) xs h.0 x h.1 ((same_symbol_decides x (get_or xs h.0 x)).1 (sym h.2))

pub member_any : (xs : List Symbol) (x : Symbol) → list_any (same_symbol x) xs ≡ true → Contains xs x
member_any xs x e = Contains-list_any same_symbol (λ a b. (same_symbol_decides a b).0) xs x e

-- what `insert_full` of a copy leaves
pub interned :
    (old new : List Symbol) (s copy k : Symbol) (i : ℕ) → copy ≡ s → (Contains old s → ⊥)
    → new ≡ cond (list_any (same_symbol copy) old) old (old ++ copy ∷ []) → slice_get new i ≡ Some k → same_symbol copy k ≡ true
    → Interned old s new i
interned old new s copy k i is lacks keys at same =
    let found : copy ≡ k = (same_symbol_decides copy k).0 same in
    record {
      place = at ∙ ap Some (sym found ∙ is);
      known = λ h. absurd (lacks h);
      fresh = λ _. ⊎_elim
          (λ (t : list_any (same_symbol copy) old ≡ true). absurd (lacks (subst (λ x. Contains old x) is (member_any old copy t))))
          (λ (f : list_any (same_symbol copy) old ≡ false). keys ∙ ap (λ b. cond b old (old ++ copy ∷ [])) f ∙ ap (λ x. old ++ x ∷ []) is)
          (cases_Bool (list_any (same_symbol copy) old));
    }

-- a list with one more symbol that it lacked
pub still_alphabet : (old : List Symbol) (s : Symbol) → IsAlphabet old → (Contains old s → ⊥) → length old < 65535 → IsAlphabet (old ++ s ∷ [])
still_alphabet old s h lacks room = record {
  distinct = all_pairs_push ◌≢◌ old s h.distinct (λ k d l e. lacks (k, l, get_or_default old k s d l ∙ e));
  few = simp length-append (omega arith);
}
