-- Lists of users, built one child at a time.
use Rattle.std.proofs.Common.{◌≡◌, ◌≢◌, ◌⊎◌, inl, inr, ℕ, zero, suc, ◌<◌, ◌+◌, List, [], ◌∷◌, ◌++◌, length, get_or, set, refl, sym, ap, ◌∙◌, subst, arith, ⊎_elim}
use Rattle.std.specs.Prelude.{Contains}
use Rattle.std.proofs.lemmas.Bool.{cases_eq}
use Rattle.std.proofs.lemmas.List.{length-set}
use Rattle.std.proofs.lemmas.List.Elements.{Contains-append_left, Contains-push, Contains-push_cases}
use Rattle.std.proofs.lemmas.Option.{slice_get_within, slice_get-get_or}
use Rattle.tree_definitions.specs.Automaton.{Rule}
use Rattle.tree_definitions.specs.Relation.{IsAt}
use Rattle.tree_definitions.proofs.Members.{at_unique}
use Rattle.trim_ops.specs.Marking.{Indexing, Parenting}

at_set : (xs : List (List ℕ)) (i : ℕ) (v : List ℕ) (j : ℕ) (y : List ℕ) → IsAt (set xs i v) j y → ((j ≡ i) × (y ≡ v)) ⊎ ((j ≢ i) × IsAt xs j y)
at_set [] i v j y e = absurd cc
at_set (x ∷ xs) zero v zero y e = let s : v ≡ y = cc in inl (refl, sym s)
at_set (x ∷ xs) zero v (suc j) y e = inr (omega arith, e)
at_set (x ∷ xs) (suc i) v zero y e = inr (omega arith, e)
at_set (x ∷ xs) (suc i) v (suc j) y e = elim (at_set xs i v j y e) [ inl h ↦ inl (ap suc h.0, h.1) | inr k ↦ let d = k.0 in inr (omega (arith, d), k.1) ]

pub indexing_add : (rules : List Rule) (n : ℕ) (Done Done2 : ℕ → ℕ → Type 0) (users : List (List ℕ)) (q r : ℕ) (rule : Rule) (k : ℕ)
    → IsAt rules r rule → IsAt rule.kids k q → q < n → Indexing rules n Done users → ((s i : ℕ) → Done2 s i → Done s i ⊎ ((s ≡ r) × (i ≡ k)))
    → Indexing rules n Done2 (set users q (get_or users q [] ++ r ∷ []))
indexing_add rules n Done Done2 users q r rule k rat kat l m more = record {
  size = length-set users q (get_or users q [] ++ r ∷ []) ∙ m.size;
  within = λ x list xat s h. elim (at_set users q (old ++ r ∷ []) x list xat) [
    | inl e ↦ elim (Contains-push_cases old r s (subst (λ t. Contains t s) e.1 h)) [ inl o ↦ m.within q old here s o | inr f ↦ subst (λ z. z < length rules) f (slice_get_within rules r rule rat) ]
    | inr o ↦ m.within x list o.1 s h
  ];
  whole = λ x list s other i xat sat iat d. elim (at_set users q (old ++ r ∷ []) x list xat) [
    | inl e ↦ subst (λ t. Contains t s) (sym e.1) (elim (more s i d) [
      | inl was ↦ Contains-append_left old (r ∷ []) s (m.whole q old s other i here sat (subst (IsAt other.kids i) e.0 iat) was)
      | inr f ↦ subst (Contains (old ++ r ∷ [])) (sym f.0) (Contains-push old r)
    ])
    | inr o ↦ elim (more s i d) [
      | inl was ↦ m.whole x list s other i o.1 sat iat was
      | inr f ↦
          let which : other ≡ rule = at_unique rules r other rule (subst (λ z. IsAt rules z other) f.0 sat) rat in
          let there : IsAt rule.kids k x = subst (λ z. IsAt rule.kids z x) f.1 (subst (λ (w : Rule). IsAt w.kids i x) which iat) in
          absurd (o.0 (at_unique rule.kids k x q there kat))
    ]
  ];
}
  where
    old : List ℕ
    old = get_or users q []

    here : IsAt users q (get_or users q [])
    here = slice_get-get_or users q [] (let e = m.size in omega (arith, e, l))

pub parenting_add : (rules : List Rule) (n r : ℕ) (lists : List (List ℕ)) (rule : Rule) → IsAt rules r rule → rule.parent < n → Parenting rules n r lists
    → Parenting rules n (r + 1) (set lists rule.parent (get_or lists rule.parent [] ++ r ∷ []))
parenting_add rules n r lists rule at l m = record {
  size = length-set lists rule.parent (old ++ r ∷ []) ∙ m.size;
  named = λ q list qat s h. elim (at_set lists rule.parent (old ++ r ∷ []) q list qat) [
    | inl e ↦ elim (Contains-push_cases old r s (subst (λ t. Contains t s) e.1 h)) [
      | inl o ↦ let k = m.named rule.parent old here s o in (k.0, k.1, k.2 ∙ sym e.0)
      | inr f ↦ (rule, subst (λ z. IsAt rules z rule) f at, sym e.0)
    ]
    | inr o ↦ m.named q list o.1 s h
  ];
  whole = λ list s other lat sat d. elim (at_set lists rule.parent (old ++ r ∷ []) other.parent list lat) [
    | inl e ↦ subst (λ t. Contains t s) (sym e.1) (⊎_elim
        (λ (f : s ≡ r). subst (Contains (old ++ r ∷ [])) (sym f) (Contains-push old r))
        (λ (f : s ≢ r). Contains-append_left old (r ∷ []) s (m.whole old s other (subst (λ p. IsAt lists p old) (sym e.0) here) sat (omega arith)))
        (cases_eq s r))
    | inr o ↦ ⊎_elim
        (λ (f : s ≡ r). absurd (o.0 (ap (λ (z : Rule). z.parent) (at_unique rules r other rule (subst (λ z. IsAt rules z other) f sat) at))))
        (λ (f : s ≢ r). m.whole list s other o.1 sat (omega arith))
        (cases_eq s r)
  ];
}
  where
    old : List ℕ
    old = get_or lists rule.parent []

    here : IsAt lists rule.parent (get_or lists rule.parent [])
    here = slice_get-get_or lists rule.parent [] (let e = m.size in omega (arith, e, l))
