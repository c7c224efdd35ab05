-- The kept entries by their states: some are taken out, and one is added.
use Rattle.std.proofs.Common.{◌≡◌, ◌≢◌, ◌⊎◌, inl, inr, ℕ, ◌<◌, ◌+◌, true, false, List, [], ◌∷◌, ◌++◌, length, take, get_or, set, refl, sym, ap, subst, ◌∙◌, arith}
use Rattle.std.specs.Prelude.{All, Contains}
use Rattle.std.proofs.lemmas.Bool.{cases_eq}
use Rattle.std.proofs.lemmas.List.{length-set}
use Rattle.std.proofs.lemmas.List.Elements.{Contains-append_left, Contains-get_or, Contains-push, Contains-push_cases}
use Rattle.std.proofs.lemmas.Option.{slice_get-get_or, slice_get_within}
use Rattle.tree_definitions.specs.Relation.{Row, Has, IsAt}
use Rattle.tree_definitions.proofs.Members.{at_unique, at_within}
use Rattle.upward_search.proofs.Zips.{at_push, at_last, at_push_cases}
use Rattle.antichain_up.specs.ByState.{AreByState, Keeps, Clears, TakesOut}
use Rattle.antichain_up.specs.Entries.{EntryRow, EntryList, IsEntryAt, Kept}
use Rattle.antichain_up.proofs.Marks.{set_here, set_elsewhere, cleared, taken_cases, taken_old, taken_new}

module _ (rows : List EntryRow) (numbers : List ℕ) (Kind : EntryRow → Type 0) (old now : Row) (i k : ℕ) (e : EntryRow)
    (within : i < length numbers) (is : k ≡ get_or numbers i k) (at : IsAt rows k e) (before : Clears rows (take i numbers) Kind old now) where
  pub cleared_one : k < length now → Kind e → Clears rows (take (i + 1) numbers) Kind old (set now k false)
  cleared_one l kind = record {
    many = length-set now k false ∙ before.many;
    stays = λ j f jat has. elim (cases_eq j k) [
      | inl same ↦ inr (
        subst (Contains (take (i + 1) numbers)) (sym same) (taken_new numbers i k within is),
        subst Kind (at_unique rows k e f at (subst (λ n. IsAt rows n f) same jat)) kind,
      )
      | inr other ↦ elim (before.stays j f jat has) [
        | inl h ↦ inl ((cleared now k j l).1 (other, h))
        | inr d ↦ inr (taken_old numbers i k j within is d.0, d.1)
      ]
    ];
    was = λ j has. before.was j ((cleared now k j l).0 has).1;
    out = λ j f jat has c. let d = (cleared now k j l).0 has in elim (taken_cases numbers i k j within is c) [
      | inl m ↦ before.out j f jat d.1 m
      | inr same ↦ absurd (d.0 (sym same))
    ];
  }

  pub spared_one : ¬ Kind e → Clears rows (take (i + 1) numbers) Kind old now
  spared_one not_kind = record {
    many = before.many;
    stays = λ j f jat has. elim (before.stays j f jat has) [
      | inl h ↦ inl h
      | inr d ↦ inr (taken_old numbers i k j within is d.0, d.1)
    ];
    was = before.was;
    out = λ j f jat has c. elim (taken_cases numbers i k j within is c) [
      | inl m ↦ before.out j f jat has m
      | inr same ↦ λ kind. not_kind (subst Kind (at_unique rows k f e (subst (λ n. IsAt rows n f) (sym same) jat) at) kind)
    ];
  }

module _ (list : EntryList) (kept : Row) (lists lists' : List (List ℕ)) (q : ℕ) (numbers : List ℕ) (Kind : EntryRow → Type 0)
    (flags : length list.kept ≡ length list.rows) (by_state : AreByState list lists) (at : IsAt lists q numbers)
    (clears : Clears list.rows numbers Kind list.kept kept) (keeps : Keeps kept q lists lists') where
  has_entry : (k : ℕ) → Has kept k → (e : EntryRow) × IsAt list.rows k e
  has_entry k h = let l = slice_get_within list.kept k true (clears.was k h) in at_within list.rows k (omega (arith, l, flags))

  pub taken_out : TakesOut (λ e. (e.state ≡ q) × Kind e) list (record list { kept = kept })
  taken_out = record {
    states = refl;
    rows = refl;
    many = clears.many;
    stays = λ k e kat has. elim (clears.stays k e kat has) [
      | inl h ↦ inl h
      | inr d ↦
          let f = (by_state.sound q k numbers at d.0).1 in
          inr (subst (λ (x : EntryRow). x.state ≡ q) (at_unique list.rows k f.0 e f.1 kat) f.2, d.1)
    ];
    was = clears.was;
    out = λ k e kat has d. clears.out k e kat has (by_state.all q k numbers at (clears.was k has) (e, kat, d.0)) d.1;
  }

  pub still_by_state : AreByState (record list { kept = kept }) lists'
  still_by_state = record {
    many = keeps.many ∙ by_state.many;
    all = λ r k after rat has entry. elim (cases_eq r q) [
      | inl same ↦
          let here : IsAt lists' q after = subst (λ n. IsAt lists' n after) same rat in
          (keeps.here numbers after at here k).1 (by_state.all q k numbers at (clears.was k has) (subst (λ n. IsEntryAt list n k) same entry), has)
      | inr other ↦ by_state.all r k after (sym (keeps.elsewhere r other) ∙ rat) (clears.was k has) entry
    ];
    sound = λ r k after rat c. elim (cases_eq r q) [
      | inl same ↦
          let here : IsAt lists' q after = subst (λ n. IsAt lists' n after) same rat in
          let d = (keeps.here numbers after at here k).0 c in
          (d.1, subst (λ n. IsEntryAt list n k) (sym same) (by_state.sound q k numbers at d.0).1)
      | inr other ↦ elsewhere r k other (by_state.sound r k after (sym (keeps.elsewhere r other) ∙ rat) c)
    ];
  }
    where
      elsewhere : (r k : ℕ) → r ≢ q → Kept list k × IsEntryAt list r k → Has kept k × IsEntryAt list r k
      elsewhere r k other (has, (e, eat, state)) = elim (clears.stays k e eat has) [
        | inl h ↦ (h, (e, eat, state))
        | inr d ↦
            let f = (by_state.sound q k numbers at d.0).1 in
            absurd (other (sym state ∙ ap (λ (x : EntryRow). x.state) (at_unique list.rows k e f.0 eat f.1) ∙ f.2))
      ]

-- one more kept entry
module _ (list : EntryList) (lists : List (List ℕ)) (entry : EntryRow) where
  abbrev pub with_entry : EntryList
  with_entry = record { states = list.states; rows = list.rows ++ entry ∷ []; kept = list.kept ++ true ∷ [] }

  abbrev pub with_number : List (List ℕ)
  with_number = set lists entry.state (get_or lists entry.state [] ++ length list.rows ∷ [])

  module _ (flags : length list.kept ≡ length list.rows) (by_state : AreByState list lists) (within : entry.state < list.states) where
    inside : entry.state < length lists
    inside = let m = by_state.many in omega (arith, m, within)

    grown : (after : List ℕ) → IsAt with_number entry.state after → (get_or lists entry.state [] ++ length list.rows ∷ []) ≡ after
    grown after at = at_unique with_number entry.state (get_or lists entry.state [] ++ length list.rows ∷ []) after (set_here lists entry.state (get_or lists entry.state [] ++ length list.rows ∷ []) inside) at

    before : IsAt lists entry.state (get_or lists entry.state [])
    before = slice_get-get_or lists entry.state [] inside

    kept_before : (k : ℕ) → k ≢ length list.rows → Kept with_entry k → Kept list k
    kept_before k n h = elim (at_push_cases list.kept true k true h) [ inl m ↦ m | inr d ↦ absurd (n (d.0 ∙ flags)) ]

    entry_before : (q k : ℕ) → k ≢ length list.rows → IsEntryAt with_entry q k → IsEntryAt list q k
    entry_before q k n (e, at, state) = elim (at_push_cases list.rows entry k e at) [ inl m ↦ (e, m, state) | inr d ↦ absurd (n d.0) ]

    last_state : (q k : ℕ) → k ≡ length list.rows → IsEntryAt with_entry q k → q ≡ entry.state
    last_state q k same (e, at, state) =
        let f : e ≡ entry = at_unique with_entry.rows (length list.rows) e entry (subst (λ n. IsAt with_entry.rows n e) same at) (at_last list.rows entry) in
        sym state ∙ ap (λ (x : EntryRow). x.state) f

    all_there : (q k : ℕ) (after : List ℕ) → IsAt with_number q after → Kept with_entry k → IsEntryAt with_entry q k → Contains after k
    all_there q k after at has e = elim (cases_eq k (length list.rows)) [
      | inl last ↦
          let here : IsAt with_number entry.state after = subst (λ n. IsAt with_number n after) (last_state q k last e) at in
          subst (λ xs. Contains xs k) (grown after here) (subst (Contains (get_or lists entry.state [] ++ length list.rows ∷ [])) (sym last) (Contains-push (get_or lists entry.state []) (length list.rows)))
      | inr earlier ↦ elim (cases_eq q entry.state) [
        | inl same ↦
            let here : IsAt with_number entry.state after = subst (λ n. IsAt with_number n after) same at in
            let old : IsEntryAt list entry.state k = subst (λ n. IsEntryAt list n k) same (entry_before q k earlier e) in
            subst (λ xs. Contains xs k) (grown after here)
            (Contains-append_left (get_or lists entry.state []) (length list.rows ∷ []) k (by_state.all entry.state k (get_or lists entry.state []) before (kept_before k earlier has) old))
        | inr other ↦ by_state.all q k after (sym (set_elsewhere lists entry.state q (get_or lists entry.state [] ++ length list.rows ∷ []) other) ∙ at) (kept_before k earlier has) (entry_before q k earlier e)
      ]
    ]

    still : (q k : ℕ) → Kept list k × IsEntryAt list q k → Kept with_entry k × IsEntryAt with_entry q k
    still q k (has, (e, at, state)) = (at_push list.kept true k true has, (e, at_push list.rows entry k e at, state))

    all_sound : (q k : ℕ) (after : List ℕ) → IsAt with_number q after → Contains after k → Kept with_entry k × IsEntryAt with_entry q k
    all_sound q k after at c = elim (cases_eq q entry.state) [
      | inl same ↦
          let here : IsAt with_number entry.state after = subst (λ n. IsAt with_number n after) same at in
          subst (λ n. Kept with_entry k × IsEntryAt with_entry n k) (sym same) (at_entry (Contains-push_cases (get_or lists entry.state []) (length list.rows) k (subst (λ xs. Contains xs k) (sym (grown after here)) c)))
      | inr other ↦ still q k (by_state.sound q k after (sym (set_elsewhere lists entry.state q (get_or lists entry.state [] ++ length list.rows ∷ []) other) ∙ at) c)
    ]
      where
        at_entry : Contains (get_or lists entry.state []) k ⊎ (length list.rows ≡ k) → Kept with_entry k × IsEntryAt with_entry entry.state k
        at_entry (inl m) = still entry.state k (by_state.sound entry.state k (get_or lists entry.state []) before m)
        at_entry (inr last) = subst (λ n. Kept with_entry n × IsEntryAt with_entry entry.state n) last
            (subst (λ n. Has with_entry.kept n) flags (at_last list.kept true), (entry, at_last list.rows entry, refl))

    pub added_by_state : AreByState with_entry with_number
    added_by_state = record {
      many = length-set lists entry.state (get_or lists entry.state [] ++ length list.rows ∷ []) ∙ by_state.many;
      all = all_there;
      sound = all_sound;
    }

-- the numbers of a list are those of entries
pub numbers_within : (list : EntryList) (lists : List (List ℕ)) (q : ℕ) (numbers : List ℕ) → AreByState list lists → IsAt lists q numbers → All (λ k. k < length list.rows) numbers
numbers_within list lists q numbers by_state at i d l =
    let f = (by_state.sound q (get_or numbers i d) numbers at (Contains-get_or numbers i d l)).1 in
    slice_get_within list.rows (get_or numbers i d) f.0 f.1
