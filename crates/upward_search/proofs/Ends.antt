-- What the end of a search means.
use Rattle.std.proofs.Common.{◌≡◌, ◌⊎◌, inl, inr, ℕ, ◌+◌, ◌*◌, ◌^◌, ◌<◌, ◌≤◌, List, [], ◌∷◌, length, map, refl, sym, ap, ◌∙◌, subst, arith}
use Rattle.std.specs.Prelude.{◌≢◌, AllPairs, Contains}
use Rattle.std.specs.List.{AllZip}
use Rattle.tree_definitions.specs.Tree.{Symbol}
use Rattle.tree_definitions.specs.Automaton.{Automaton, HasRule}
use Rattle.tree_definitions.specs.Relation.{Relation, Places, Row, Has, IsAt}
use Rattle.tree_definitions.specs.Simulation.{IsUp}
use Rattle.tree_definitions.specs.Cover.{Pair, Post, Rejects, CoversUp}
use Rattle.tree_definitions.specs.UpCert.{UpCert, IsCoveredUp, AreListed}
use Rattle.tree_definitions.specs.UpTrail.{UpEntry, UpTrail}
use Rattle.tree_definitions.proofs.Members.{at_unique, contains_at}
use Rattle.tree_definitions.proofs.Determined.{one_place}
use Rattle.tree_definitions.proofs.UpTrails.{up_trail_bound}
use Rattle.upward_search.specs.Search.{IsOrder, IsOf, IsKeptOver, IsSearch, AllAccept, IsClosed, ListsKept}

module _ (A B : Automaton) (RA RB : Relation) (entries : List UpEntry) (kept : Places) (search : IsSearch A B RA RB entries kept) (accept : AllAccept A B entries) (up_left : IsUp A RA) (up_right : IsUp B RB) where
  module _ (closed : IsClosed A B RA RB entries kept kept) (X : List Pair) (lists : ListsKept entries kept X) (distinct : AllPairs ◌≢◌ X) where
    covered_in : (p : ℕ) (P : Places) → IsKeptOver RA RB entries kept p P → IsCoveredUp RA RB X p P
    covered_in p P h = (h.1.pair, (lists h.1.pair).1 (h.0, (h.2, (h.1, h.3, refl))), h.4)

    -- the numbers of listed pairs
    Numbered : List ℕ → List Row → Type 0
    Numbered kids sets = (ids : List ℕ) × (pairs : List Pair) × AllZip (IsOf entries kept) ids pairs × (map (λ pair. pair.state) pairs ≡ kids) × (map (λ pair. pair.set) pairs ≡ sets)

    numbered : (kids : List ℕ) (sets : List Row) → AreListed X kids sets → Numbered kids sets
    unfolding Numbered
    numbered [] [] z = ([], [], tt, refl, refl)
    numbered [] (y ∷ ys) z = absurd z
    numbered (x ∷ xs) [] z = absurd z
    numbered (x ∷ xs) (y ∷ ys) z =
        let pair : Pair = record { state = x; set = y } in
        let one = (lists pair).0 z.0 in
        let rest = numbered xs ys z.1 in
        (one.0 ∷ rest.0, pair ∷ rest.1, (one.1, rest.2), ap (λ zs. x ∷ zs) rest.3, ap (λ zs. y ∷ zs) rest.4)

    steps : (a : Symbol) (kids : List ℕ) (p : ℕ) → HasRule A a kids p → (sets : List Row) → AreListed X kids sets → IsCoveredUp RA RB X p (Post B a sets)
    unfolding Numbered
    steps a kids p rule sets listed =
        let n = numbered kids sets listed in
        let h = closed n.0 n.1 n.2 a p (subst (λ ks. HasRule A a ks p) (sym n.3) rule) in
        covered_in p (Post B a sets) (subst (λ ss. IsKeptOver RA RB entries kept p (Post B a ss)) n.4 h)

    apart : (m n : ℕ) (x y : Pair) → m ≢ n → IsAt X m x → IsAt X n y → ¬ CoversUp RA RB x y.state (Has y.set)
    apart m n x y other ax ay c = go (lists x).0 (lists y).0
      where
        go : (Contains X x → (k : ℕ) × IsOf entries kept k x) → (Contains X y → (k : ℕ) × IsOf entries kept k y) → ⊥
        go f g =
            let i = f (contains_at X m x ax) in
            let j = g (contains_at X n y ay) in
            let d : CoversUp RA RB i.1.1.0.pair y.state (Has y.set) = subst (λ w. CoversUp RA RB w y.state (Has y.set)) (sym i.1.1.2) c in
            let e : CoversUp RA RB i.1.1.0.pair j.1.1.0.pair.state (Has j.1.1.0.pair.set) = subst (λ (w : Pair). CoversUp RA RB i.1.1.0.pair w.state (Has w.set)) (sym j.1.1.2) d in
            compare i.0 j.0 i.1.1.0 j.1.1.0 i.1.0 j.1.0 i.1.1.1 j.1.1.1 (λ same. ne (sym i.1.1.2 ∙ ap (λ w. w.pair) same ∙ j.1.1.2)) e
          where
            -- two places have two pairs
            ne : x ≡ y → ⊥
            ne e = other (one_place X distinct m n y (subst (IsAt X m) e ax) ay)

            compare : (i j : ℕ) (u v : UpEntry) → kept i → kept j → IsAt entries i u → IsAt entries j v → (u ≡ v → ⊥) → CoversUp RA RB u.pair v.pair.state (Has v.pair.set) → ⊥
            compare i j u v ki kj au av other c =
                let order : (i < j) ⊎ ((j < i) ⊎ (i ≡ j)) = three i j in
                elim order [
                  | inl l ↦ search.fresh j i v u l av au c
                  | inr r ↦ elim r [
                    | inl l ↦ search.apart j i v u l kj ki av au c
                    | inr e ↦ other (at_unique entries i u v au (subst (λ k. IsAt entries k v) (sym e) av))
                  ]
                ]
              where
                three : (i j : ℕ) → (i < j) ⊎ ((j < i) ⊎ (i ≡ j))
                three i j = grind arith

    -- a closed search is a certificate
    pub closed_at_end_means_UpCert : UpCert A B RA RB X
    closed_at_end_means_UpCert = record {
      left = up_left;
      right = up_right;
      accepting = λ pair m. let h = (lists pair).0 m in subst (λ w. ¬ Rejects A B w) h.1.1.2 (accept h.0 h.1.1.0 h.1.1.1);
      leaves = λ a p rule. covered_in p (Post B a []) (closed [] [] tt a p rule);
      steps = λ a q qs p rule sets listed. steps a (q ∷ qs) p rule sets listed;
      apart = apart;
    }

  -- a search with one entry more than its budget is a trail
  pub full_means_UpTrail : (budget : ℕ) → length entries ≡ budget + 1 → UpTrail A B RA RB budget entries
  full_means_UpTrail budget count = record { left = up_left; right = up_right; count = count; steps = search.steps; accepting = accept; fresh = search.fresh }

  -- with a large budget no search is full
  pub no_trail : (budget : ℕ) → IsOrder (length A.states) RA → IsOrder (length B.states) RB → length A.states * 2 ^ length B.states ≤ budget → length entries ≡ budget + 1 → ⊥
  no_trail budget left right large count =
      let bound = up_trail_bound A B RA RB budget entries left.reflexive right.reflexive search.fits (full_means_UpTrail budget count) in
      omega arith
