-- What is read as a budget and entries is the printed text of these.
use Rattle.std.proofs.Common.{◌≡◌, true, ℕ, zero, suc, ◌+◌, ◌-◌, ◌≤◌, ◌&&◌, List, [], ◌∷◌, ◌++◌, length, drop, Option, Some, None, refl, sym, ap, ◌∙◌, subst, arith}
use Rattle.std.specs.Prelude.{All, IfOk, Ok, Err}
use Rattle.std.specs.declared.result.Result.{Result}
use Rattle.std.specs.Str.{bytes_eq}
use Rattle.std.proofs.lemmas.List.{length-map, length_push}
use Rattle.std.proofs.lemmas.List.Elements.{All-nil, All-cons}
use Rattle.std.proofs.lemmas.Option.{slice_get_within}
use Rattle.std.proofs.lemmas.List.Quantifiers.{position-Some}
use Rattle.std.proofs.lemmas.Slice.Eq.{bytes_eq-Decides}
use Rattle.tree_definitions.specs.Automaton.{Automaton, IsNarrow}
use Rattle.tree_definitions.specs.Relation.{IsAt}
use Rattle.tree_definitions.specs.UpTrail.{UpEntry}
use Rattle.tree_definitions.proofs.Listing.{number_at, at_number}
use Rattle.witness_trees.specs.Judged.{Verdict, Is, then_judged, place_in}
use Rattle.witness_trees.specs.Answers.{Answers}
use Rattle.witness_trees.specs.declared.reader.NodesTextError.{NodesTextError}
use Rattle.witness_trees.proofs.Symbols.{and_parts}
use Rattle.witness_trees.proofs.Lines.{place_means, earlier_kids}
use Rattle.certificate_lines.specs.Pairs.{state_in, state_then, states_in}
use Rattle.certificate_lines.proofs.BudgetLines.{budgeted_inverse}
use Rattle.certificate_lines.proofs.Lined.{AreFound}
use Rattle.certificate_lines.proofs.Sets.{with_length}
use Rattle.certificate_lines.proofs.Verdicts.{let_through, went_on_with}
use Rattle.entry_lines.specs.Entries.{entry_text, up_entries_text, WrittenEntry, entry_written, are_numbers_to, entry_of, entry_judged, entry_named, entry_spelled, entry_in, BudgetedEntries, up_entries_in}
use Rattle.certificate_kinds.specs.Fitting.{FitsUpEntry, AreUpEntries}
use Rattle.entry_lines.specs.Fitting.{IsPrintable}
use Rattle.entry_lines.specs.Views.{budgeted_view}

-- where the value of a name was found
found_by : {X : Type 0} (at : ℕ) (next : ℕ → Verdict X) (o : Option ℕ) (x : X) → state_then at next o ≡ Is x → (q : ℕ) × (o ≡ Some q) × (next q ≡ Is x)
found_by at next None x h = absurd cc
found_by at next (Some q) x h = (q, refl, h)

-- the entry that was made is the one that was read
made_is : (A B : Automaton) (k : ℕ) (line : List ℕ) (made entry : UpEntry) → bytes_eq (entry_text A B made) line ≡ true → made ≡ entry → FitsUpEntry A B k made → (line ≡ entry_text A B entry) × FitsUpEntry A B k entry
made_is A B k line made entry text same fits = (sym ((bytes_eq-Decides (entry_text A B made) line).0 text) ∙ ap (entry_text A B) same, subst (FitsUpEntry A B k) same fits)

-- a line that is judged an entry is its text, and the entry fits
entry_means : (A B : Automaton) → IsNarrow A → (read : List UpEntry) (at : ℕ) (line : List ℕ) (entry : UpEntry) → entry_in A B read at line ≡ Is entry → (line ≡ entry_text A B entry) × FitsUpEntry A B (length read) entry
unfolding entry_in
entry_means A B narrow read at line entry h = spelled (entry_written line) h
  where
    k : ℕ
    k = length read

    named : (w : WrittenEntry) → entry_named A B k at line w ≡ Is entry → (line ≡ entry_text A B entry) × FitsUpEntry A B k entry
    named w e =
        let state = found_by at (λ q. then_judged (states_in B.states (at + length w.state + 3) [] w.members) (λ places.
        state_then (at + w.place) (λ i. entry_judged A B k at line w.kids (entry_of B q places i w.kids)) (place_in A.symbols w.name (length w.kids)))) (state_in A.states w.state) entry e in
        let q = state.0 in
        let members = went_on_with (states_in B.states (at + length w.state + 3) [] w.members) (λ places.
        state_then (at + w.place) (λ i. entry_judged A B k at line w.kids (entry_of B q places i w.kids)) (place_in A.symbols w.name (length w.kids))) entry state.2 in
        let places = members.0 in
        let symbol = found_by (at + w.place) (λ i. entry_judged A B k at line w.kids (entry_of B q places i w.kids)) (place_in A.symbols w.name (length w.kids)) entry members.2 in
        let i = symbol.0 in
        let made = entry_of B q places i w.kids in
        let t = let_through (are_numbers_to k w.kids && bytes_eq (entry_text A B made) line) (Is made) at entry symbol.2 in
        let parts = and_parts (are_numbers_to k w.kids) (bytes_eq (entry_text A B made) line) t.0 in
        let same : made ≡ entry = let v = t.1 in cc in
        let a = place_means A.symbols w.name (length w.kids) i symbol.1 in
        let fits : FitsUpEntry A B k made = record {
          pair = record {
            state = (position-Some (bytes_eq w.state) A.states q w.state state.1).0;
            set = with_length (length B.states) places;
          };
          symbol = (a.0, number_at A.bits A.symbols i a.0 narrow a.1, length-map w.kids (λ n. n - 1) ∙ a.2);
          earlier = earlier_kids k w.kids parts.0;
        } in
        made_is A B k line made entry parts.1 same fits

    spelled : (o : Option WrittenEntry) → entry_spelled A B k at line o ≡ Is entry → (line ≡ entry_text A B entry) × FitsUpEntry A B k entry
    spelled None e = absurd cc
    spelled (Some w) e = named w e

-- each of the entries that were read fits at its place
fits_at : (A B : Automaton) (read entries : List UpEntry) → AreFound (λ read entry. FitsUpEntry A B (length read) entry) read entries → (j : ℕ) (entry : UpEntry) → IsAt entries j entry → FitsUpEntry A B (length read + j) entry
fits_at A B read [] h j entry p = absurd cc
fits_at A B read (x ∷ xs) h zero entry p =
    let same : x ≡ entry = cc in
    let e : length read ≡ length read + 0 = omega arith in
    subst (λ n. FitsUpEntry A B n entry) e (subst (FitsUpEntry A B (length read)) same h.0)
fits_at A B read (x ∷ xs) h (suc j) entry p =
    let grown = length_push read x in
    let e : length (read ++ x ∷ []) + j ≡ length read + suc j = omega (arith, grown) in
    subst (λ n. FitsUpEntry A B n entry) e (fits_at A B (read ++ x ∷ []) xs h.1 j entry p)

-- what is read is a budget and entries that fit, and their text ends the text
pub up_entries_inverse : (A B : Automaton) → IsNarrow A → (text : List ℕ) (at : ℕ) (found : BudgetedEntries) → at ≤ length text → up_entries_in A B text at ≡ Is found
    → AreUpEntries A B found.budget found.entries × (drop at text ≡ up_entries_text A B found.budget found.entries)
unfolding up_entries_in up_entries_text
up_entries_inverse A B narrow text at found within h =
    let r = budgeted_inverse (entry_in A B) (entry_text A B) (λ read entry. FitsUpEntry A B (length read) entry) (entry_means A B narrow) text at found within h in (
      record {
        some = r.some;
        few = r.few;
        count = r.count;
        fitting = λ j entry p.
            let e : 0 + j ≡ j = omega arith in
            subst (λ n. FitsUpEntry A B n entry) e (fits_at A B [] found.entries r.each j entry p);
      },
      r.printed,
    )

-- what a reader answers fits
pub answered_fits : {V : Type 0} (items : V → List UpEntry) (A B : Automaton) → IsNarrow A → (text : List ℕ) (at : ℕ) (result : Result (ℕ × V) NodesTextError) → at ≤ length text → Answers (budgeted_view items) result (up_entries_in A B text at)
    → IfOk result (λ found. AreUpEntries A B found.0 (items found.1))
answered_fits items A B narrow text at (Ok found) within h = (up_entries_inverse A B narrow text at (budgeted_view items found) within h).0
answered_fits items A B narrow text at (Err error) within h = tt

-- entries that fit can be printed
pub fit_printable : (A B : Automaton) → IsNarrow A → (budget : ℕ) (entries : List UpEntry) → AreUpEntries A B budget entries → All (IsPrintable A B) entries
fit_printable A B narrow budget entries fits = go entries (λ j entry p. printable j entry (fits.fitting j entry p))
  where
    printable : (j : ℕ) (entry : UpEntry) → FitsUpEntry A B j entry → IsPrintable A B entry
    printable j entry fit = record { pair = fit.pair; symbol = slice_get_within A.symbols entry.symbol fit.symbol.0 (at_number A.bits A.symbols entry.symbol fit.symbol.0 narrow fit.symbol.1) }

    go : (xs : List UpEntry) → ((j : ℕ) (entry : UpEntry) → IsAt xs j entry → IsPrintable A B entry) → All (IsPrintable A B) xs
    go [] h = All-nil (IsPrintable A B)
    go (x ∷ xs) h = All-cons (IsPrintable A B) x xs (h 0 x refl) (go xs (λ j entry p. h (suc j) entry p))
