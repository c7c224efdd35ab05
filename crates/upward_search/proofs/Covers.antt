-- What a new entry keeps true, and what stays covered.
use Rattle.std.proofs.Common.{◌≡◌, ◌⊎◌, inl, inr, ℕ, ◌<◌, List, length, map, sym, ap, ◌∙◌, subst, arith}
use Rattle.std.specs.Prelude.{true}
use Rattle.std.proofs.lemmas.Option.{slice_get_within}
use Rattle.tree_definitions.specs.Automaton.{Automaton}
use Rattle.tree_definitions.specs.Relation.{Relation, Places, Has, IsAt}
use Rattle.tree_definitions.specs.Cover.{Pair, FitsPair, Post, CoversUp}
use Rattle.tree_definitions.specs.UpTrail.{UpEntry, HasPairBefore, IsUpStep}
use Rattle.tree_definitions.proofs.Members.{at_within, at_unique}
use Rattle.upward_search.specs.Search.{IsOrder, IsOf, IsKeptOver, IsSearch, IsStepped, Adds, Grows}
use Rattle.upward_search.proofs.Zips.{at_push, at_last, at_push_cases, at_length, zip_map}

module _ (A B : Automaton) (RA RB : Relation) (left : IsOrder (length A.states) RA) (right : IsOrder (length B.states) RB) where
  -- what covers a pair covers all that the pair covers
  pub covers_transitive : (x y : Pair) (p : ℕ) (P : Places) → CoversUp RA RB x y.state (Has y.set) → CoversUp RA RB y p P → CoversUp RA RB x p P
  covers_transitive x y p P c d = record {
    state = left.transitive p y.state x.state d.state c.state;
    set = λ s m. let q = c.set s m in let r = d.set q.0 q.1 in (r.0, r.1, right.transitive s q.0 r.0 q.2 r.2);
  }

  pub covers_itself : (x : Pair) → FitsPair A B x → CoversUp RA RB x x.state (Has x.set)
  covers_itself x f =
      let e : length x.set ≡ length B.states = f.set in
      record { state = left.reflexive x.state f.state; set = λ s m. let l : s < length x.set = slice_get_within x.set s true m in (s, m, right.reflexive s (omega arith)) }

  -- a step that was covered by an entry is covered by a kept one
  pub covered_by_kept : (entries : List UpEntry) (kept : Places) → IsSearch A B RA RB entries kept
      → (k : ℕ) (entry : UpEntry) → IsAt entries k entry → (p : ℕ) (P : Places) → CoversUp RA RB entry.pair p P → IsKeptOver RA RB entries kept p P
  covered_by_kept entries kept search k entry at p P c =
      let h = search.covered k entry at in
      (h.0, h.1, h.2, h.3, covers_transitive h.1.pair entry.pair p P h.4 c)

  -- what was covered stays covered
  pub kept_over_grows : (entries entries' : List UpEntry) (kept kept' : Places) → Grows entries kept entries' kept' → IsSearch A B RA RB entries' kept'
      → (p : ℕ) (P : Places) → IsKeptOver RA RB entries kept p P → IsKeptOver RA RB entries' kept' p P
  kept_over_grows entries entries' kept kept' grows search p P h =
      covered_by_kept entries' kept' search h.0 h.1 (grows.stay h.0 h.1 h.3) p P h.4

  pub stepped_grows : (entries entries' : List UpEntry) (kept kept' : Places) → Grows entries kept entries' kept' → IsSearch A B RA RB entries' kept'
      → (pairs : List Pair) → IsStepped A B RA RB entries kept pairs → IsStepped A B RA RB entries' kept' pairs
  stepped_grows entries entries' kept kept' grows search pairs h a p rule =
      kept_over_grows entries entries' kept kept' grows search p (Post B a (map (λ pair. pair.set) pairs)) (h a p rule)

  -- an old entry of the longer list stood there before
  pub of_back : (entries entries' : List UpEntry) (kept kept' : Places) → Grows entries kept entries' kept'
      → (k : ℕ) (pair : Pair) → k < length entries → IsOf entries' kept' k pair → IsOf entries kept k pair
  of_back entries entries' kept kept' grows k pair l h =
      let at = at_within entries k l in
      let same : at.0 ≡ h.1.0 = at_unique entries' k at.0 h.1.0 (grows.stay k at.0 at.1) h.1.1 in
      (grows.no_more k l h.0, (at.0, at.1, ap (λ x. x.pair) same ∙ h.1.2))

  pub grows_self : (entries : List UpEntry) (kept : Places) → Grows entries kept entries kept
  grows_self entries kept = record { stay = λ k entry e. e; no_more = λ k l h. h }

  pub grows_on : (xs ys zs : List UpEntry) (kx ky kz : Places) → Grows xs kx ys ky → Grows ys ky zs kz → Grows xs kx zs kz
  grows_on xs ys zs kx ky kz g h = record {
    stay = λ k entry e. h.stay k entry (g.stay k entry e);
    no_more = λ k l m.
        let at = at_within xs k l in
        g.no_more k l (h.no_more k (at_length ys k at.0 (g.stay k at.0 at.1)) m);
  }

  module _ (entries entries' : List UpEntry) (kept kept' : Places) (entry : UpEntry) (adds : Adds RA RB entries kept entry entries' kept') where
    pub at_before : (k : ℕ) (x : UpEntry) → IsAt entries' k x → IsAt entries k x ⊎ ((k ≡ length entries) × (entry ≡ x))
    at_before k x e = at_push_cases entries entry k x (subst (λ xs. IsAt xs k x) adds.pushed e)

    pub at_after : (k : ℕ) (x : UpEntry) → IsAt entries k x → IsAt entries' k x
    at_after k x e = subst (λ xs. IsAt xs k x) (sym adds.pushed) (at_push entries entry k x e)

    pub at_new : IsAt entries' (length entries) entry
    at_new = subst (λ xs. IsAt xs (length entries) entry) (sym adds.pushed) (at_last entries entry)

    pub adds_grows : Grows entries kept entries' kept'
    adds_grows = record { stay = at_after; no_more = adds.was }

    named_after : (i e : ℕ) (pair : Pair) → HasPairBefore entries i e pair → HasPairBefore entries' i e pair
    named_after i e pair h = (h.0, (h.1.0, at_after e h.1.0 h.1.1, h.1.2))

    step_after : (i : ℕ) (x : UpEntry) → IsUpStep A B entries i x → IsUpStep A B entries' i x
    step_after i x s = record {
      symbol = s.symbol;
      stands = s.stands;
      pairs = s.pairs;
      named = zip_map (named_after i) x.kids s.pairs s.named;
      rule = s.rule;
      set = s.set;
    }

    pub adds_search : IsSearch A B RA RB entries kept → IsUpStep A B entries (length entries) entry → FitsPair A B entry.pair
        → ¬ IsKeptOver RA RB entries kept entry.pair.state (Has entry.pair.set) → IsSearch A B RA RB entries' kept'
    adds_search search is_step is_fit new = record { steps = steps; fits = fits; fresh = fresh; covered = covered; apart = apart }
      where
        steps : (i : ℕ) (x : UpEntry) → IsAt entries' i x → IsUpStep A B entries' i x
        steps i x e = elim (at_before i x e) [
          | inl h ↦ step_after i x (search.steps i x h)
          | inr h ↦ subst (λ y. IsUpStep A B entries' i y) h.1 (subst (λ j. IsUpStep A B entries' j entry) (sym h.0) (step_after (length entries) entry is_step))
        ]

        fits : (i : ℕ) (x : UpEntry) → IsAt entries' i x → FitsPair A B x.pair
        fits i x e = elim (at_before i x e) [
          | inl h ↦ search.fits i x h
          | inr h ↦ subst (λ (y : UpEntry). FitsPair A B y.pair) h.1 is_fit
        ]

        old_is_kept : (k : ℕ) (old : UpEntry) → kept k → IsAt entries k old → IsKeptOver RA RB entries' kept' old.pair.state (Has old.pair.set)
        old_is_kept k old m e = elim (adds.stays k old e m) [
          | inl n ↦ (k, old, n, at_after k old e, covers_itself old.pair (search.fits k old e))
          | inr c ↦ (length entries, entry, adds.last, at_new, c)
        ]

        covered : (i : ℕ) (x : UpEntry) → IsAt entries' i x → IsKeptOver RA RB entries' kept' x.pair.state (Has x.pair.set)
        covered i x e = elim (at_before i x e) [
          | inl h ↦
              let by = search.covered i x h in
              let now = old_is_kept by.0 by.1 by.2 by.3 in
              (now.0, now.1, now.2, now.3, covers_transitive now.1.pair by.1.pair x.pair.state (Has x.pair.set) now.4 by.4)
          | inr h ↦
              subst (λ (y : UpEntry). IsKeptOver RA RB entries' kept' y.pair.state (Has y.pair.set)) h.1
              (length entries, entry, adds.last, at_new, covers_itself entry.pair is_fit)
        ]

        fresh : (i j : ℕ) (later earlier : UpEntry) → j < i → IsAt entries' i later → IsAt entries' j earlier
            → ¬ CoversUp RA RB earlier.pair later.pair.state (Has later.pair.set)
        fresh i j later earlier l e f c = elim (at_before i later e) [
          | inl h ↦ elim (at_before j earlier f) [
            | inl g ↦ search.fresh i j later earlier l h g c
            | inr g ↦ let m = at_length entries i later h in let e = g.0 in omega arith
          ]
          | inr h ↦ elim (at_before j earlier f) [
            | inl g ↦
                let d = subst (λ (y : UpEntry). CoversUp RA RB earlier.pair y.pair.state (Has y.pair.set)) (sym h.1) c in
                new (covered_by_kept entries kept search j earlier g entry.pair.state (Has entry.pair.set) d)
            | inr g ↦ let e = g.0 in let d = h.0 in omega arith
          ]
        ]

        apart : (i j : ℕ) (earlier later : UpEntry) → i < j → kept' i → kept' j → IsAt entries' i earlier → IsAt entries' j later
            → ¬ CoversUp RA RB later.pair earlier.pair.state (Has earlier.pair.set)
        apart i j earlier later l ki kj e f c = elim (at_before i earlier e) [
          | inl h ↦ elim (at_before j later f) [
            | inl g ↦ search.apart i j earlier later l (adds.was i (at_length entries i earlier h) ki) (adds.was j (at_length entries j later g) kj) h g c
            | inr g ↦ adds.out i earlier h ki (subst (λ (y : UpEntry). CoversUp RA RB y.pair earlier.pair.state (Has earlier.pair.set)) (sym g.1) c)
          ]
          | inr h ↦ elim (at_before j later f) [
            | inl g ↦ let m = at_length entries j later g in let e = h.0 in omega arith
            | inr g ↦ let e = g.0 in let d = h.0 in omega arith
          ]
        ]
