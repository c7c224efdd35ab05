-- The first item of a kind, as a walk over the list finds it.
use Rattle.std.proofs.Common.{◌≡◌, ◌≢◌, ℕ, ◌+◌, ◌≤◌, List, length, Option, Some, None, subst, arith, ⊎_elim}
use Rattle.std.specs.Prelude.{Contains, IfNone}
use Rattle.std.proofs.lemmas.Bool.{cases_eq}
use Rattle.std.proofs.lemmas.Option.{slice_get_within}
use Rattle.tree_definitions.specs.Relation.{IsAt}
use Rattle.tree_definitions.proofs.Members.{at_unique, place_of}
use Rattle.listed_pairs.specs.Places.{IsNth, IsFirst, NoneBefore}

module _ {X : Type 0} (xs : List X) (Kind : X → Type 0) where
  pub none_at_start : NoneBefore xs Kind 0
  none_at_start i x l at h = absurd (omega arith)

  pub none_next : (i : ℕ) (x : X) → NoneBefore xs Kind i → IsAt xs i x → ¬ Kind x → NoneBefore xs Kind (i + 1)
  none_next i x none at not j y l jat h = ⊎_elim
      (λ (e : j ≡ i). not (subst Kind (at_unique xs i y x (subst (λ k. IsAt xs k y) e jat) at) h))
      (λ (d : j ≢ i). none j y (omega arith) jat h)
      (cases_eq j i)

  pub first_here : (i n : ℕ) (x : X) → NoneBefore xs Kind i → IsAt xs i x → Kind x → n ≡ i + 1 → IsFirst (IsNth xs Kind) n
  first_here i n x none at h e = record {
    here = (i, x, omega arith, at, h);
    none_before = λ k l m. let f = m.2 in none m.0 m.1 (omega arith) m.3 m.4;
  }

  pub none_anywhere : (n : ℕ) → NoneBefore xs Kind n → length xs ≤ n → (x : X) → Contains xs x → ¬ Kind x
  none_anywhere n none whole x m h =
      let k = place_of xs x m in
      let w = slice_get_within xs k.0 x k.1 in
      none k.0 x (omega arith) k.1 h

pub first_weaker : (P Q : ℕ → Type 0) → ((n : ℕ) → P n → Q n) → ((n : ℕ) → Q n → P n) → (n : ℕ) → IsFirst P n → IsFirst Q n
first_weaker P Q to back n f = record { here = to n f.here; none_before = λ k l h. f.none_before k l (back k h) }

pub nth_weaker : {X : Type 0} (xs : List X) (P Q : X → Type 0) → ((x : X) → P x → Q x) → (n : ℕ) → IsNth xs P n → IsNth xs Q n
nth_weaker xs P Q to n h = (h.0, h.1, h.2, h.3, to h.1 h.4)

pub IfNone_then : {X P Q : Type 0} (o : Option X) → (P → Q) → IfNone o P → IfNone o Q
IfNone_then None f h = f h
IfNone_then (Some x) f h = h
