-- The closing loop: its start, a step and its end.
use Rattle.std.proofs.Common.{◌≡◌, ◌≢◌, ◌⊎◌, inl, inr, ℕ, zero, suc, ◌<◌, ◌+◌, ◌≤◌, List, [], ◌∷◌, length, Some, refl, sym, ap, subst, arith, ⊎_elim}
use Rattle.std.specs.Prelude.{Contains}
use Rattle.std.proofs.lemmas.Bool.{cases_eq}
use Rattle.std.proofs.lemmas.List.Elements.{All-contains}
use Rattle.std.proofs.lemmas.Option.{slice_get_within}
use Rattle.tree_definitions.specs.Automaton.{Rule}
use Rattle.tree_definitions.specs.Product.{Both}
use Rattle.tree_definitions.specs.Relation.{IsAt}
use Rattle.tree_definitions.proofs.Members.{at_unique, at_within, place_of, contains_at, contains_none}
use Rattle.trim_ops.specs.Marking.{AreWithin, IsWithin}
use Rattle.bool_ops.specs.Closing.{both, AreAlike, Together, by_rules, AreHeld, Grows, Settled, SettledWith, IsBefore, AreBefore, IsClosing, IsClosed}
use Rattle.bool_ops.proofs.Closed.{took_kept}

module _ (ours theirs : List Rule) where
  pub together_left : (n : ℕ) → AreWithin n ours → (x : Both) → Together ours theirs x → x.left < n
  together_left n within x (by_rules r s left right rat sat alike kids) = (All-contains (IsWithin n) ours left within (contains_at ours r left rat)).parent

  pub closing_start : (p f : List Both) → Grows ours theirs [] [] p f
      → ((r s : ℕ) (left right : Rule) → IsAt ours r left → IsAt theirs s right → AreAlike left right → left.kids ≡ [] → Settled ours theirs [] p f r s)
      → IsClosing ours theirs 0 p f
  closing_start p f g leaves = record {
    sound = g.sound (λ x h. absurd (contains_none x h));
    fits = g.fits (λ x h. absurd (contains_none x h));
    within = omega arith;
    few = omega arith;
    closed = λ r s left right lat sat alike before.
        let none : left.kids ≡ [] = empty left.kids right.kids alike.kids before in
        leaves r s left right lat sat alike none left right lat sat alike (λ i a b aat bat. absurd (lacks left.kids i a none aat));
  }
    where
      empty : (ps qs : List ℕ) → length ps ≡ length qs → AreBefore p 0 ps qs → ps ≡ []
      empty [] qs e h = refl
      empty (a ∷ ps) [] e h = absurd (omega (arith, e))
      empty (a ∷ ps) (b ∷ qs) e h = let k = h 0 a b refl refl in let l = k.1 in absurd (omega (arith, l))

      lacks : (ps : List ℕ) (i a : ℕ) → ps ≡ [] → IsAt ps i a → ⊥
      lacks ps i a e h = let w = slice_get_within ps i a h in let l = ap length e in omega (arith, w, l)

  -- either all children stand before, or one of the pairs of children is x
  before_or_here : (p : List Both) (done : ℕ) (x : Both) (ps qs : List ℕ)
      → ((i a b : ℕ) → IsAt ps i a → IsAt qs i b → IsBefore p done (both a b) ⊎ (both a b ≡ x))
      → AreBefore p done ps qs ⊎ ((i : ℕ) × IsAt ps i x.left × IsAt qs i x.right)
  before_or_here p done x [] qs h = inl (λ i a b aat bat. absurd cc)
  before_or_here p done x (a ∷ ps) [] h = inl (λ i a b aat bat. absurd cc)
  before_or_here p done x (a ∷ ps) (b ∷ qs) h = elim (h 0 a b refl refl) [
    | inr e ↦ inr (0, ap Some (ap (λ (y : Both). y.left) e), ap Some (ap (λ (y : Both). y.right) e))
    | inl first ↦ elim (before_or_here p done x ps qs (λ i c d cat dat. h (suc i) c d cat dat)) [
      | inr k ↦ inr (suc k.0, k.1, k.2)
      | inl rest ↦ inl (both_parts first rest)
    ]
  ]
    where
      both_parts : IsBefore p done (both a b) → AreBefore p done ps qs → AreBefore p done (a ∷ ps) (b ∷ qs)
      both_parts first rest zero c d cat dat = let e : a ≡ c = cc in let g : b ≡ d = cc in subst (λ z. IsBefore p done (both z d)) e (subst (λ z. IsBefore p done (both a z)) g first)
      both_parts first rest (suc i) c d cat dat = rest i c d cat dat

  pub closing_step : (done : ℕ) (p f p2 f2 : List Both) (x : Both) → IsClosing ours theirs done p f → done < length p → length p ≤ 1000000 → IsAt p done x
      → Grows ours theirs p f p2 f2 → ((r : ℕ) → SettledWith ours theirs p p2 f2 r x) → IsClosing ours theirs (done + 1) p2 f2
  closing_step done p f p2 f2 x m l few xat g settled = record {
    sound = g.sound m.sound;
    fits = g.fits m.fits;
    within = let k = g.longer in omega (arith, k);
    few = omega arith;
    closed = λ r s left right lat sat alike before. elim (before_or_here p done x left.kids right.kids (λ i a b aat bat. split (both a b) (before i a b aat bat))) [
      | inl old ↦ took_kept ours theirs p f p2 f2 (both left.parent right.parent) (both r s) g (m.closed r s left right lat sat alike old)
      | inr k ↦ settled r s k.0 left right lat sat alike k.1 k.2 left right lat sat alike (λ i a b aat bat. there (both a b) (split (both a b) (before i a b aat bat)))
    ];
  }
    where
      split : (y : Both) → IsBefore p2 (done + 1) y → IsBefore p done y ⊎ (y ≡ x)
      split y (k, kl, kat) = ⊎_elim
          (λ (e : k ≡ done). inr (at_unique p2 done y x (subst (λ z. IsAt p2 z y) e kat) (g.places done x xat)))
          (λ (d : k ≢ done).
          let z = at_within p k (omega arith) in
          let same : z.0 ≡ y = at_unique p2 k z.0 y (g.places k z.0 z.1) kat in
          inl (k, omega arith, subst (IsAt p k) same z.1))
          (cases_eq k done)

      there : (y : Both) → IsBefore p done y ⊎ (y ≡ x) → Contains p y
      there y (inl h) = contains_at p h.0 y h.2
      there y (inr e) = subst (Contains p) (sym e) (contains_at p done x xat)

  module _ (done : ℕ) (p f : List Both) (m : IsClosing ours theirs done p f) (end : length p ≤ done) where
    all_before : (ps qs : List ℕ) → AreHeld p ps qs → AreBefore p done ps qs
    all_before ps qs h i a b aat bat =
        let at = place_of p (both a b) (h i a b aat bat) in
        let w = slice_get_within p at.0 (both a b) at.1 in
        (at.0, omega (arith, w), at.1)

    state_in : (x : Both) → Contains p x ⊎ (1000000 < length p) → Contains p x
    state_in x (inl h) = h
    state_in x (inr l) = let k = m.few in absurd (omega (arith, k))

    whole : (x : Both) → Together ours theirs x → Contains p x
    whole x (by_rules r s left right rat sat alike kids) =
        state_in (both left.parent right.parent)
        (m.closed r s left right rat sat alike (all_before left.kids right.kids (λ i a b aat bat. whole (both a b) (kids i a b aat bat)))).state

    pub closing_end : IsClosed ours theirs p f
    closing_end = record {
      exact = λ x. (m.sound x, whole x);
      few = let k = m.few in omega (arith, k);
      fits = m.fits;
      whole = λ r s left right rat sat alike held. (m.closed r s left right rat sat alike (all_before left.kids right.kids held)).rule;
    }
