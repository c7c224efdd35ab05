-- Slots of rules, and rules in the lists of their slots, one child at a time.
use Rattle.std.proofs.Common.{◌≡◌, ◌≢◌, ◌⊎◌, inl, inr, ℕ, zero, suc, ◌<◌, ◌+◌, ◌≤◌, true, false, List, [], ◌∷◌, ◌++◌, length, get_or, set, refl, sym, ap, ◌∙◌, subst, arith, ⊎_elim}
use Rattle.std.specs.Prelude.{Contains, AllPairs}
use Rattle.std.specs.List.{list_any}
use Rattle.std.proofs.lemmas.Bool.{cases_eq, cases_order, cases_Bool, false≢true}
use Rattle.std.proofs.lemmas.List.{length-set}
use Rattle.std.proofs.lemmas.List.Elements.{Contains-append_left, Contains-push, Contains-push_cases}
use Rattle.std.proofs.lemmas.Option.{slice_get_within, slice_get-get_or, get_or_from_slice_get}
use Rattle.tree_definitions.specs.Automaton.{Rule}
use Rattle.tree_definitions.specs.Product.{Both}
use Rattle.tree_definitions.specs.Relation.{IsAt}
use Rattle.tree_definitions.proofs.Members.{at_unique}
use Rattle.bool_ops.specs.Closing.{Adds}
use Rattle.bool_ops.specs.Filing.{entries_of, slot_of, HasSlotsTo, IsFiledTo}
use Rattle.bool_ops.proofs.Numbers.{same_pair, any_member, member_any}

-- Lists of pairs, one more at a time.
pub adds_cases : (old : List Both) (x : Both) (new : List Both) → Adds old x new → (Contains old x × (new ≡ old)) ⊎ ((Contains old x → ⊥) × (new ≡ old ++ x ∷ []))
adds_cases old x new a = ⊎_elim
    (λ (t : list_any (same_pair x) old ≡ true). inl (member_any old x t, a.known (member_any old x t)))
    (λ (f : list_any (same_pair x) old ≡ false).
    let lacks : Contains old x → ⊥ = λ h. false≢true (sym f ∙ any_member old x h) in
    inr (lacks, a.fresh lacks))
    (cases_Bool (list_any (same_pair x) old))

pub adds_here : (old : List Both) (x : Both) (new : List Both) → Adds old x new → Contains new x
adds_here old x new a = elim (adds_cases old x new a) [
  | inl h ↦ subst (λ l. Contains l x) (sym h.1) h.0
  | inr h ↦ subst (λ l. Contains l x) (sym h.1) (Contains-push old x)
]

pub adds_keeps : (old : List Both) (x : Both) (new : List Both) → Adds old x new → (y : Both) → Contains old y → Contains new y
adds_keeps old x new a y k = elim (adds_cases old x new a) [
  | inl h ↦ subst (λ l. Contains l y) (sym h.1) k
  | inr h ↦ subst (λ l. Contains l y) (sym h.1) (Contains-append_left old (x ∷ []) y k)
]

pub adds_only : (old : List Both) (x : Both) (new : List Both) → Adds old x new → (y : Both) → Contains new y → Contains old y ⊎ (x ≡ y)
adds_only old x new a y k = elim (adds_cases old x new a) [
  | inl h ↦ inl (subst (λ l. Contains l y) h.1 k)
  | inr h ↦ Contains-push_cases old x y (subst (λ l. Contains l y) h.1 k)
]

at_longer : (xs ys : List Both) (i : ℕ) (x : Both) → IsAt xs i x → IsAt (xs ++ ys) i x
at_longer [] ys i x e = absurd cc
at_longer (z ∷ xs) ys zero x e = e
at_longer (z ∷ xs) ys (suc i) x e = at_longer xs ys i x e

pub adds_at : (old : List Both) (x : Both) (new : List Both) → Adds old x new → (i : ℕ) (y : Both) → IsAt old i y → IsAt new i y
adds_at old x new a i y k = elim (adds_cases old x new a) [
  | inl h ↦ subst (λ l. IsAt l i y) (sym h.1) k
  | inr h ↦ subst (λ l. IsAt l i y) (sym h.1) (at_longer old (x ∷ []) i y k)
]

-- an item of a list of distinct ones stands at one place
pub at_distinct : {X : Type 0} (xs : List X) (i j : ℕ) (x : X) → AllPairs ◌≢◌ xs → IsAt xs i x → IsAt xs j x → i ≡ j
at_distinct xs i j x apart iat jat = elim (cases_order i j) [
  | inl e ↦ e
  | inr o ↦ elim o [
    | inl l ↦ absurd (apart i j x l (slice_get_within xs j x jat) (get_or_from_slice_get xs i x x iat ∙ sym (get_or_from_slice_get xs j x x jat)))
    | inr l ↦ absurd (apart j i x l (slice_get_within xs i x iat) (get_or_from_slice_get xs j x x jat ∙ sym (get_or_from_slice_get xs i x x iat)))
  ]
]

pub slots_add : (rules : List Rule) (Done Done2 : ℕ → ℕ → Type 0) (slots new : List Both) (r : ℕ) (rule : Rule) (i q : ℕ)
    → IsAt rules r rule → IsAt (entries_of rule.kids) i q → HasSlotsTo rules Done slots → Adds slots (slot_of rule.symbol i q) new
    → ((s j : ℕ) → Done2 s j → Done s j ⊎ ((s ≡ r) × (j ≡ i))) → HasSlotsTo rules Done2 new
slots_add rules Done Done2 slots new r rule i q rat iat m a more = record {
  distinct = a.distinct;
  whole = λ s other j p sat jat d. elim (more s j d) [
    | inl was ↦ adds_keeps slots (slot_of rule.symbol i q) new a (slot_of other.symbol j p) (m.whole s other j p sat jat was)
    | inr f ↦
        let which : other ≡ rule = at_unique rules r other rule (subst (λ z. IsAt rules z other) f.0 sat) rat in
        let there : IsAt (entries_of rule.kids) i p = subst (λ z. IsAt (entries_of rule.kids) z p) f.1 (subst (λ (w : Rule). IsAt (entries_of w.kids) j p) which jat) in
        let same : p ≡ q = at_unique (entries_of rule.kids) i p q there iat in
        let slot : slot_of rule.symbol i q ≡ slot_of other.symbol j p =
        ap (λ (w : Rule). slot_of w.symbol i q) (sym which) ∙ ap (λ z. slot_of other.symbol z q) (sym f.1) ∙ ap (λ z. slot_of other.symbol j z) (sym same) in
        subst (Contains new) slot (adds_here slots (slot_of rule.symbol i q) new a)
  ];
}

pub at_set : (xs : List (List ℕ)) (i : ℕ) (v : List ℕ) (j : ℕ) (y : List ℕ) → IsAt (set xs i v) j y → ((j ≡ i) × (y ≡ v)) ⊎ ((j ≢ i) × IsAt xs j y)
at_set [] i v j y e = absurd cc
at_set (x ∷ xs) zero v zero y e = let s : v ≡ y = cc in inl (refl, sym s)
at_set (x ∷ xs) zero v (suc j) y e = inr (omega arith, e)
at_set (x ∷ xs) (suc i) v zero y e = inr (omega arith, e)
at_set (x ∷ xs) (suc i) v (suc j) y e = elim (at_set xs i v j y e) [ inl h ↦ inl (ap suc h.0, h.1) | inr k ↦ let d = k.0 in inr (omega (arith, d), k.1) ]

module _ (rules : List Rule) (Done Done2 : ℕ → ℕ → Type 0) (slots : List Both) (lists : List (List ℕ)) (r : ℕ) (rule : Rule) (i q n : ℕ)
    (rat : IsAt rules r rule) (iat : IsAt (entries_of rule.kids) i q) (distinct : AllPairs ◌≢◌ slots) (nat : IsAt slots n (slot_of rule.symbol i q))
    (m : IsFiledTo rules Done slots lists) (more : (s j : ℕ) → Done2 s j → Done s j ⊎ ((s ≡ r) × (j ≡ i))) where
  old : List ℕ
  old = get_or lists n []

  here : IsAt lists n (get_or lists n [])
  here = slice_get-get_or lists n [] (let e = m.size in let l = slice_get_within slots n (slot_of rule.symbol i q) nat in omega (arith, e, l))

  same_slot : (s : ℕ) (other : Rule) (j p : ℕ) → IsAt rules s other → IsAt (entries_of other.kids) j p → s ≡ r → j ≡ i → slot_of rule.symbol i q ≡ slot_of other.symbol j p
  same_slot s other j p sat jat e f =
      let which : other ≡ rule = at_unique rules r other rule (subst (λ z. IsAt rules z other) e sat) rat in
      let there : IsAt (entries_of rule.kids) i p = subst (λ z. IsAt (entries_of rule.kids) z p) f (subst (λ (w : Rule). IsAt (entries_of w.kids) j p) which jat) in
      let same : p ≡ q = at_unique (entries_of rule.kids) i p q there iat in
      ap (λ (w : Rule). slot_of w.symbol i q) (sym which) ∙ ap (λ z. slot_of other.symbol z q) (sym f) ∙ ap (λ z. slot_of other.symbol j z) (sym same)

  pub filed_add : IsFiledTo rules Done2 slots (set lists n (get_or lists n [] ++ r ∷ []))
  unfolding old
  filed_add = record {
    size = length-set lists n (old ++ r ∷ []) ∙ m.size;
    within = λ x list xat s h. elim (at_set lists n (old ++ r ∷ []) x list xat) [
      | inl e ↦ elim (Contains-push_cases old r s (subst (λ t. Contains t s) e.1 h)) [ inl o ↦ m.within n old here s o | inr f ↦ subst (λ z. z < length rules) f (slice_get_within rules r rule rat) ]
      | inr o ↦ m.within x list o.1 s h
    ];
    whole = λ s other j p sat jat d x list slot xat. elim (at_set lists n (old ++ r ∷ []) x list xat) [
      | inl e ↦ subst (λ t. Contains t s) (sym e.1) (elim (more s j d) [
        | inl was ↦ Contains-append_left old (r ∷ []) s (m.whole s other j p sat jat was n old (subst (λ z. IsAt slots z (slot_of other.symbol j p)) e.0 slot) here)
        | inr f ↦ subst (Contains (old ++ r ∷ [])) (sym f.0) (Contains-push old r)
      ])
      | inr o ↦ elim (more s j d) [
        | inl was ↦ m.whole s other j p sat jat was x list slot o.1
        | inr f ↦ absurd (o.0 (at_distinct slots x n (slot_of rule.symbol i q) distinct (subst (IsAt slots x) (sym (same_slot s other j p sat jat f.0 f.1)) slot) nat))
      ]
    ];
  }

-- after the last child of a rule the rule is done
pub rule_done : (rules : List Rule) (r : ℕ) (rule : Rule) (n : ℕ) → IsAt rules r rule → length (entries_of rule.kids) ≤ n
    → (s : ℕ) (other : Rule) (i q : ℕ) → IsAt rules s other → IsAt (entries_of other.kids) i q → s < r + 1 → (s < r) ⊎ ((s ≡ r) × (i < n))
rule_done rules r rule n rat l s other i q sat iat d = ⊎_elim
    (λ (e : s ≡ r).
    let which : other ≡ rule = at_unique rules r other rule (subst (λ z. IsAt rules z other) e sat) rat in
    let w = slice_get_within (entries_of rule.kids) i q (subst (λ (o : Rule). IsAt (entries_of o.kids) i q) which iat) in
    inr (e, omega (arith, w)))
    (λ (f : s ≢ r). inl (omega arith))
    (cases_eq s r)
