-- Which pairs the kept entries cover, and which entries a pair takes out.
use Rattle.std.proofs.Common.{◌≡◌, inl, inr, ℕ, ◌<◌, ◌+◌, true, List, [], ◌∷◌, ◌++◌, length, refl, sym, ap, subst, ◌∙◌, arith}
use Rattle.std.specs.Prelude.{Contains}
use Rattle.std.proofs.lemmas.Bool.{cases_lt}
use Rattle.std.proofs.lemmas.List.{length-map, length_push, map-append}
use Rattle.std.proofs.lemmas.Option.{slice_get_within}
use Rattle.tree_definitions.specs.Relation.{Has, IsAt, Holds, Below}
use Rattle.tree_definitions.specs.Cover.{CoversUp}
use Rattle.tree_definitions.specs.UpTrail.{UpEntry}
use Rattle.tree_definitions.proofs.Members.{at_unique}
use Rattle.ta_model.specs.Macrostates.{Macrostates, row_at}
use Rattle.upward_search.specs.Search.{IsKeptOver}
use Rattle.upward_search.proofs.Zips.{at_push, at_last, at_push_cases}
use Rattle.antichain_up.specs.ByState.{AreByState, TakesOut}
use Rattle.antichain_up.specs.Entries.{EntryRow, EntryList, Added, Kept, up_entry, up_entries}
use Rattle.antichain_up.specs.Orders.{TwoOrders, IsEmptyFrom, IsLeastFrom}
use Rattle.antichain_up.proofs.Views.{map_at, map_from}

module _ (store : Macrostates) (both : TwoOrders) (state set : ℕ) where
  -- the entry's set is below this one
  abbrev pub IsUnder : EntryRow → Type 0
  IsUnder e = Below (Holds both.right) (Has (row_at store e.set)) (Has (row_at store set))

  -- this set is below the entry's
  abbrev pub IsOver : EntryRow → Type 0
  IsOver e = Below (Holds both.right) (Has (row_at store set)) (Has (row_at store e.set))

  module _ (list : EntryList) where
    -- no kept entry with a state before this one covers the pair
    abbrev pub NoneBefore : ℕ → Type 0
    NoneBefore from = (k : ℕ) (e : EntryRow) → e.state < from → Kept list k → IsAt list.rows k e → Holds both.left state e.state → ¬ IsUnder e

    -- some entry of these numbers covers the pair's set
    abbrev pub SomeOf : List ℕ → List EntryRow → Type 0
    SomeOf numbers rows = (k : ℕ) × (e : EntryRow) × Contains numbers k × IsAt rows k e × IsUnder e

    pub covered : (lists : List (List ℕ)) (r : ℕ) (numbers : List ℕ) → AreByState list lists → IsAt lists r numbers → Holds both.left state r → SomeOf numbers list.rows
        → IsKeptOver (Holds both.left) (Holds both.right) (up_entries store list) (Kept list) state (Has (row_at store set))
    covered lists r numbers by_state at above (k, e, c, eat, under) =
        let s = by_state.sound r k numbers at c in
        let same : e.state ≡ r = subst (λ (x : EntryRow). x.state ≡ r) (at_unique list.rows k s.1.0 e s.1.1 eat) s.1.2 in
        (k, up_entry store e, s.0, map_at (up_entry store) list.rows k e eat, record { state = subst (Holds both.left state) (sym same) above; set = under })

    pub none_more : (lists : List (List ℕ)) (from r : ℕ) (numbers : List ℕ) → AreByState list lists → IsAt lists r numbers
        → IsLeastFrom (λ q. Holds both.left state q) from r → ¬ SomeOf numbers list.rows → NoneBefore from → NoneBefore (r + 1)
    none_more lists from r numbers by_state at least none before k e l kept eat holds under =
        elim (cases_lt e.state from) [
          | inl earlier ↦ before k e earlier kept eat holds under
          | inr later ↦
              let m = least.least e.state later holds in
              let same : e.state ≡ r = omega (arith, m, l) in
              none (k, e, by_state.all r k numbers at kept (e, eat, same), eat, under)
        ]

    pub none_covers : (from : ℕ) → IsEmptyFrom (λ q. Holds both.left state q) from → NoneBefore from
        → ¬ IsKeptOver (Holds both.left) (Holds both.right) (up_entries store list) (Kept list) state (Has (row_at store set))
    none_covers from none before (k, entry, kept, at, covers) =
        let f = map_from (up_entry store) list.rows k entry at in
        let c : CoversUp (Holds both.left) (Holds both.right) (up_entry store f.0).pair state (Has (row_at store set)) =
        subst (λ (x : UpEntry). CoversUp (Holds both.left) (Holds both.right) x.pair state (Has (row_at store set))) (sym f.2) covers in
        elim (cases_lt f.0.state from) [
          | inl earlier ↦ before k f.0 earlier kept f.1 c.state c.set
          | inr later ↦ none f.0.state later c.state
        ]

  -- the pair covers the entry, whose state is before this one
  abbrev pub IsCoveredBefore : ℕ → EntryRow → Type 0
  IsCoveredBefore from e = (e.state < from) × Holds both.left e.state state × IsOver e

  pub out_start : (list : EntryList) → TakesOut (IsCoveredBefore 0) list list
  out_start list = record {
    states = refl;
    rows = refl;
    many = refl;
    stays = λ k e at has. inl has;
    was = λ k has. has;
    out = λ k e at has d. omega (arith, d.0);
  }

  pub out_more : (from r : ℕ) (x y z : EntryList) → IsLeastFrom (λ q. Holds both.left q state) from r
      → TakesOut (IsCoveredBefore from) x y → TakesOut (λ e. (e.state ≡ r) × IsOver e) y z → TakesOut (IsCoveredBefore (r + 1)) x z
  out_more from r x y z least first next = record {
    states = next.states ∙ first.states;
    rows = next.rows ∙ first.rows;
    many = next.many ∙ first.many;
    stays = λ k e at has. elim (first.stays k e at has) [
      | inl h ↦ elim (next.stays k e (subst (λ rows. IsAt rows k e) (sym first.rows) at) h) [
        | inl g ↦ inl g
        | inr d ↦ let m = d.0 in inr (omega (arith, m), subst (λ q. Holds both.left q state) (sym d.0) least.member, d.1)
      ]
      | inr d ↦ let m = d.0 in let o = least.from_on in inr (omega (arith, m, o), d.1, d.2)
    ];
    was = λ k has. first.was k (next.was k has);
    out = λ k e at has d. elim (cases_lt e.state from) [
      | inl earlier ↦ first.out k e at (next.was k has) (earlier, d.1, d.2)
      | inr later ↦
          let m = least.least e.state later d.1 in
          let l = d.0 in
          let same : e.state ≡ r = omega (arith, m, l) in
          next.out k e (subst (λ rows. IsAt rows k e) (sym first.rows) at) has (same, d.2)
    ];
  }

  pub pushed : (from symbol : ℕ) (kids : List ℕ) (x y z : EntryList) → length x.kept ≡ length x.rows
      → IsEmptyFrom (λ q. Holds both.left q state) from → TakesOut (IsCoveredBefore from) x y
      → z ≡ record { states = y.states; rows = y.rows ++ record { state = state; set = set; symbol = symbol; kids = kids } ∷ []; kept = y.kept ++ true ∷ [] }
      → Added (Holds both.left) (Holds both.right) store x (record { state = state; set = set; symbol = symbol; kids = kids }) z
  pushed from symbol kids x y z flags none first is =
      subst (Added (Holds both.left) (Holds both.right) store x entry) (sym is') (record {
        states = first.states;
        rows = refl;
        flags = length_push y.kept true ∙ ap (λ n. n + 1) (first.many ∙ flags) ∙ sym (length_push x.rows entry);
        adds = record {
          pushed = map-append (up_entry store) x.rows (entry ∷ []);
          last = subst (Has (y.kept ++ true ∷ [])) (first.many ∙ flags ∙ sym (length-map x.rows (up_entry store))) (at_last y.kept true);
          stays = λ k old at has.
              let f = map_from (up_entry store) x.rows k old at in
              elim (first.stays k f.0 f.1 has) [
                | inl h ↦ inl (at_push y.kept true k true h)
                | inr d ↦ inr (subst (λ (u : UpEntry). CoversUp (Holds both.left) (Holds both.right) (up_entry store entry).pair u.pair.state (Has u.pair.set)) f.2 (record { state = d.1; set = d.2 }))
              ];
          was = λ k l has. first.was k (still k (subst (λ n. k < n) (length-map x.rows (up_entry store)) l) has);
          out = λ k old at has covers.
              let f = map_from (up_entry store) x.rows k old at in
              let c : CoversUp (Holds both.left) (Holds both.right) (up_entry store entry).pair f.0.state (Has (row_at store f.0.set)) =
              subst (λ (u : UpEntry). CoversUp (Holds both.left) (Holds both.right) (up_entry store entry).pair u.pair.state (Has u.pair.set)) (sym f.2) covers in
              let kept = still k (slice_get_within x.rows k f.0 f.1) has in
              elim (cases_lt f.0.state from) [
                | inl earlier ↦ first.out k f.0 f.1 kept (earlier, c.state, c.set)
                | inr later ↦ none f.0.state later c.state
              ];
        };
      })
    where
      entry : EntryRow
      entry = record { state = state; set = set; symbol = symbol; kids = kids }

      is' : z ≡ record { states = y.states; rows = x.rows ++ entry ∷ []; kept = y.kept ++ true ∷ [] }
      is' = is ∙ ap (λ rows. record { states = y.states; rows = rows ++ entry ∷ []; kept = y.kept ++ true ∷ [] }) first.rows

      still : (k : ℕ) → k < length x.rows → Has (y.kept ++ true ∷ []) k → Kept y k
      still k l has = elim (at_push_cases y.kept true k true has) [
        | inl h ↦ h
        | inr d ↦ let e = d.0 in let m = first.many in absurd (omega (arith, l, e, m, flags))
      ]
