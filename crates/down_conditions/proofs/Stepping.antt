-- One step of the search, by rows and slices.
use Rattle.std.proofs.Common.{◌≡◌, ◌≢◌, ◌⊎◌, ◌↔◌, inl, inr, ℕ, ◌+◌, ◌<◌, List, [], ◌∷◌, ◌++◌, length, get_or, refl, sym, ap, ◌∙◌, subst, arith, ⊎_elim}
use Rattle.std.specs.Prelude.{All}
use Rattle.std.proofs.lemmas.Bool.{cases_eq}
use Rattle.std.proofs.lemmas.List.Elements.{All-contains}
use Rattle.std.proofs.lemmas.Option.{slice_get_within}
use Rattle.tree_definitions.specs.Automaton.{Rule}
use Rattle.tree_definitions.specs.Cover.{Pair}
use Rattle.tree_definitions.specs.Relation.{Relation, Places, Row, Matrix, Has, Holds, IsAt}
use Rattle.tree_definitions.proofs.Members.{at_unique, contains_at}
use Rattle.down_conditions.specs.Covering.{IsHeld, Shifted}
use Rattle.down_conditions.specs.Choosing.{Covers, IsFresh, IsSearching, Sent, kids_of, tuple_at}
use Rattle.down_conditions.proofs.Steps.{search_passes, search_sends, search_skips, sending, sent_cases, sent_new, sent_old}

pub tuple_is : (rules : List Rule) (list : List ℕ) (j : ℕ) (rule : Rule) → IsAt rules (get_or list j 0) rule → tuple_at rules list j ≡ rule.kids
tuple_is rules list j rule at = ap kids_of at

pub member_within : (rules : List Rule) (m n r i : ℕ) (rule : Rule) (ks : List ℕ) → All (λ (o : Rule). All (λ q. m + q < n) o.kids) rules → IsAt rules r rule → ks ≡ rule.kids
    → i < length ks → m + get_or ks i 0 < n
member_within rules m n r i rule ks all at same l =
    let kids = All-contains (λ (o : Rule). All (λ q. m + q < n) o.kids) rules rule all (contains_at rules r rule at) in
    subst (All (λ q. m + q < n)) (sym same) kids i 0 l

pub held_grows : (R : Relation) (pairs : List Pair) (q : ℕ) (P Q : Places) → ((s : ℕ) → P s → Q s) → IsHeld R pairs q P → IsHeld R pairs q Q
held_grows R pairs q P Q to h = elim h [
  | inl alone ↦ inl (alone.0, to alone.0 alone.1, alone.2)
  | inr other ↦ inr (other.0, other.1, other.2, other.3, other.4, λ s has. let k = other.5 s has in (k.0, to k.0 k.1, k.2))
]

pub covers_grows : (R : Relation) (pairs : List Pair) (m : ℕ) (kids : List ℕ) (i : ℕ) (P Q : Places) → ((s : ℕ) → P s → Q s) → Covers R pairs m kids i P → Covers R pairs m kids i Q
covers_grows R pairs m kids i P Q to h = (h.0, h.1, held_grows R pairs h.0 (Shifted m P) (Shifted m Q) (λ s k. (k.0, k.1, to k.0 k.2)) h.2)

module _ (R : Relation) (pairs : List Pair) (m : ℕ) (kids : List ℕ) (tuple : ℕ → List ℕ) (count next : ℕ) (places : List ℕ) (sets : Matrix)
    (now : IsSearching (Covers R pairs m kids) tuple count (length kids) m places next sets) (room : length places < count) (ks : List ℕ) (its : tuple (length places) ≡ ks) where
  pub step_skips : (next ≡ 0) × ((i : ℕ) × (t : ℕ) × IsAt ks i t × Holds sets i (m + t)) → length ks ≡ length kids
      → IsSearching (Covers R pairs m kids) tuple count (length kids) m (places ++ length kids ∷ []) next sets
  step_skips h long =
      let w = slice_get_within ks h.1.0 h.1.1 h.1.2 in
      subst (λ z. IsSearching (Covers R pairs m kids) tuple count (length kids) m (places ++ length kids ∷ []) z sets) (sym h.0)
      (search_skips (Covers R pairs m kids) (covers_grows R pairs m kids) tuple count (length kids) m places next sets now room h.0 h.1.0 h.1.1 (omega (arith, w, long))
      (subst (λ (xs : List ℕ). IsAt xs h.1.0 h.1.1) (sym its) h.1.2) h.1.3)

  pub fresh_here : next < length kids → ((next ≡ 0) × ((i : ℕ) × (t : ℕ) × IsAt ks i t × Holds sets i (m + t)) → ⊥) → IsFresh tuple now.to (length places)
  fresh_here small open_place = ⊎_elim
      (λ (e : next ≡ 0). λ i t at sent. open_place (e, (i, t, subst (λ (xs : List ℕ). IsAt xs i t) its at, (now.has i (m + t)).1 (t, refl, sent))))
      (λ (d : next ≢ 0). now.fresh d small)
      (cases_eq next 0)

  module _ (small : next < length kids) (fresh : IsFresh tuple now.to (length places)) (q : ℕ) (kat : IsAt kids next q) (t : ℕ) (tat : IsAt ks next t)
      (sets2 : Matrix) (put : (j x : ℕ) → Holds sets2 j x ↔ (((j ≡ next) × (x ≡ m + t)) ⊎ Holds sets j x)) (row : Row) (rat : IsAt sets2 next row) where
    there : IsAt (tuple (length places)) next t
    there = subst (λ (xs : List ℕ). IsAt xs next t) (sym its) tat

    to_sent : (s : ℕ) → Has row s → Shifted m (Sent tuple (length places + 1) (sending now.to (length places) next) next) s
    to_sent s h = elim ((put next s).0 (row, rat, h)) [
      | inl new ↦ (t, new.1, sent_new tuple now.to (length places) next t there)
      | inr old ↦ (let k = (now.has next s).0 old in (k.0, k.1, sent_old tuple now.to (length places) next next k.0 k.2))
    ]

    from_sent : (s : ℕ) → Shifted m (Sent tuple (length places + 1) (sending now.to (length places) next) next) s → Has row s
    from_sent s h =
        let holds : Holds sets2 next s = (put next s).1 (elim (sent_cases tuple now.to (length places) next next h.0 h.2) [
          | inl old ↦ inr ((now.has next s).1 (h.0, h.1, old))
          | inr new ↦ inl (refl, h.1 ∙ ap (λ z. m + z) (at_unique (tuple (length places)) next h.0 t new.1 there))
        ]) in
        subst (λ r. Has r s) (at_unique sets2 next holds.0 row holds.1 rat) holds.2

    covered_here : IsHeld R pairs q (Has row) → Covers R pairs m kids next (Sent tuple (length places + 1) (sending now.to (length places) next) next)
    covered_here h = (q, kat, held_grows R pairs q (Has row) (Shifted m (Sent tuple (length places + 1) (sending now.to (length places) next) next)) to_sent h)

    held_here : Covers R pairs m kids next (Sent tuple (length places + 1) (sending now.to (length places) next) next) → IsHeld R pairs q (Has row)
    held_here h = held_grows R pairs q (Shifted m (Sent tuple (length places + 1) (sending now.to (length places) next) next)) (Has row) from_sent
        (subst (λ z. IsHeld R pairs z (Shifted m (Sent tuple (length places + 1) (sending now.to (length places) next) next))) (at_unique kids next h.0 q h.1 kat) h.2)

    pub step_passes : IsHeld R pairs q (Has row) → (sets3 : Matrix) → ((j x : ℕ) → Holds sets3 j x ↔ (((j ≡ next) × (x ≡ m + t) → ⊥) × Holds sets2 j x))
        → IsSearching (Covers R pairs m kids) tuple count (length kids) m places (next + 1) sets3
    step_passes held sets3 take = search_passes (Covers R pairs m kids) (covers_grows R pairs m kids) tuple count (length kids) m places next sets now room small fresh (covered_here held) sets3
        (λ x s. (
          (λ h.
              let k = (take x s).0 h in
              elim ((put x s).0 k.1) [ inl new ↦ absurd (k.0 new) | inr old ↦ old ]),
          (λ h. (take x s).1 (
            (λ same.
                let was = (now.has x s).0 h in
                let e = same.1 in
                let f = was.1 in
                let its_t : was.0 ≡ t = omega (arith, e, f) in
                fresh next t there (subst (Sent tuple (length places) now.to next) its_t (subst (λ z. Sent tuple (length places) now.to z was.0) same.0 was.2))),
            (put x s).1 (inr h),
          )),
        ))

    pub step_sends : (IsHeld R pairs q (Has row) → ⊥) → IsSearching (Covers R pairs m kids) tuple count (length kids) m (places ++ next ∷ []) 0 sets2
    step_sends not_held = search_sends (Covers R pairs m kids) (covers_grows R pairs m kids) tuple count (length kids) m places next sets now room small fresh t there
        (λ h. not_held (held_here h)) sets2 put
