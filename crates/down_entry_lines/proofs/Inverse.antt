-- What is read as a budget and entries is the printed text of these.
use Rattle.std.proofs.Common.{◌≡◌, ℕ, zero, suc, ◌+◌, ◌-◌, ◌<◌, ◌≤◌, ◌&&◌, List, [], ◌∷◌, ◌++◌, length, drop, map, Option, Some, None, refl, sym, ap, ◌∙◌, subst, append_assoc, arith}
use Rattle.std.specs.Prelude.{All, IfOk, Ok, Err, nat_le, slice_get}
use Rattle.std.specs.Option.{option_map_or}
use Rattle.std.specs.List.{list_all}
use Rattle.std.specs.declared.result.Result.{Result}
use Rattle.std.specs.Str.{bytes_eq}
use Rattle.std.proofs.lemmas.Bool.{leb-true}
use Rattle.std.proofs.lemmas.List.{length_push}
use Rattle.std.proofs.lemmas.List.Elements.{All-nil, All-cons}
use Rattle.std.proofs.lemmas.List.Quantifiers.{position-Some}
use Rattle.std.proofs.lemmas.Option.{slice_get_within}
use Rattle.std.proofs.lemmas.Slice.Eq.{bytes_eq-Decides}
use Rattle.tree_definitions.specs.Automaton.{Automaton, Rule}
use Rattle.tree_definitions.specs.Cover.{Pair, FitsPair}
use Rattle.tree_definitions.specs.DownTrail.{DownEntry, Root, Child, Split, HasPair}
use Rattle.tree_definitions.specs.Relation.{IsAt}
use Rattle.listed_pairs.specs.declared.entry.DownEntry.{DownEntry as CodeEntry}
use Rattle.listed_pairs.specs.DownEntries.{entries_of, SplitsAt, FitsDownEntry, AreDownEntries}
use Rattle.listed_pairs.specs.Members.{row_with}
use Rattle.witness_trees.specs.Judged.{Verdict, Is, then_judged, place_in}
use Rattle.witness_trees.specs.Answers.{Answers}
use Rattle.witness_trees.specs.declared.reader.NodesTextError.{NodesTextError}
use Rattle.witness_trees.proofs.Symbols.{and_parts}
use Rattle.witness_trees.proofs.Lines.{earlier_kids}
use Rattle.witness_trees.proofs.Inverse.{passed, went_on}
use Rattle.certificate_lines.specs.Budgets.{Budgeted}
use Rattle.certificate_lines.specs.Pairs.{state_in, state_then, states_in}
use Rattle.certificate_lines.proofs.BudgetLines.{budgeted_inverse}
use Rattle.certificate_lines.proofs.Lined.{AreFound}
use Rattle.certificate_lines.proofs.Sets.{with_length}
use Rattle.certificate_lines.proofs.Verdicts.{let_through, went_on_with}
use Rattle.down_entry_lines.specs.Entries.{entry_text, down_entries_text, WrittenEntry, RootLine, ChildLine, SplitLine, entry_written, or_bad, place_of, places_of, pair_state, state_of_pair, split_count, count_of_split, rule_place, entry_judged, child_judged, split_judged, pair_named, entry_named, entry_in, down_entries_in}
use Rattle.down_entry_lines.specs.Fitting.{IsPrintable}
use Rattle.down_entry_lines.specs.Views.{budgeted_view}
use Rattle.down_entry_lines.proofs.Ranks.{rule_found}

-- what was there, and what followed
or_found : {X Y : Type 0} (at : ℕ) (next : X → Verdict Y) (o : Option X) (y : Y) → or_bad at next o ≡ Is y → (x : X) × (o ≡ Some x) × (next x ≡ Is y)
or_found at next None y h = absurd cc
or_found at next (Some x) y h = (x, refl, h)

found_by : {X : Type 0} (at : ℕ) (next : ℕ → Verdict X) (o : Option ℕ) (x : X) → state_then at next o ≡ Is x → (q : ℕ) × (o ≡ Some q) × (next q ≡ Is x)
found_by at next None x h = absurd cc
found_by at next (Some q) x h = (q, refl, h)

-- a number within k places is that of one of them
place_within : (k n p : ℕ) → place_of k n ≡ Some p → p < k
place_within k n p h =
    let t = passed (nat_le 1 n && nat_le n k) (Some (n - 1)) p h in
    let parts = and_parts (nat_le 1 n) (nat_le n k) t.0 in
    let one = leb-true 1 n parts.0 in
    let low = leb-true n k parts.1 in
    let same : n - 1 ≡ p = let v = t.1 in cc in
    omega (arith, one, low, same)

places_within : (k : ℕ) (ns places : List ℕ) → places_of k ns ≡ Some places → All (λ p. p < k) places
places_within k ns places h =
    let t = passed (list_all (λ n. nat_le 1 n && nat_le n k) ns) (Some (map (λ n. n - 1) ns)) places h in
    let same : map (λ n. n - 1) ns ≡ places = let v = t.1 in cc in
    subst (All (λ p. p < k)) same (earlier_kids k ns t.0)

-- a state that is found is that of an entry's pair
state_means : (read : List DownEntry) (e q : ℕ) → state_of_pair read e ≡ Some q → (pair : Pair) × HasPair read e pair × (q ≡ pair.state)
state_means read e q h = go s.0 s.1 s.2
  where
    s : (x : DownEntry) × (slice_get read e ≡ Some x) × (pair_state x ≡ Some q)
    s = went_on (slice_get read e) pair_state q h

    go : (x : DownEntry) → slice_get read e ≡ Some x → pair_state x ≡ Some q → (pair : Pair) × HasPair read e pair × (q ≡ pair.state)
    go (Root pair) at is = let same : q ≡ pair.state = cc in (pair, (Root pair, at, refl), same)
    go (Child pair split place) at is = let same : q ≡ pair.state = cc in (pair, (Child pair split place, at, refl), same)
    go (Split r rule choice) at is = absurd cc

-- a place below a split's count is that of a child
split_means : (A : Automaton) (read : List DownEntry) (s j : ℕ) → j < count_of_split A read s → SplitsAt A read s j
split_means A read s j lt = entry (slice_get read s) refl lt
  where
    ruled : (e r : ℕ) (choice : List ℕ) → IsAt read s (Split e r choice) → (o : Option Rule) → slice_get A.rules r ≡ o → j < option_map_or (λ rule. length rule.kids) o 0 → SplitsAt A read s j
    ruled e r choice at None f l = absurd (omega (arith, l))
    ruled e r choice at (Some rule) f l = (e, r, choice, rule, at, f, l)

    kind : (x : DownEntry) → IsAt read s x → j < split_count A x → SplitsAt A read s j
    kind (Root pair) at l = absurd (omega (arith, l))
    kind (Child pair split place) at l = absurd (omega (arith, l))
    kind (Split e r choice) at l = ruled e r choice at (slice_get A.rules r) refl l

    entry : (o : Option DownEntry) → slice_get read s ≡ o → j < option_map_or (split_count A) o 0 → SplitsAt A read s j
    entry None at l = absurd (omega (arith, l))
    entry (Some x) at l = kind x at l

module _ (A B : Automaton) (read : List DownEntry) (at : ℕ) (line : List ℕ) (entry : DownEntry) where
  -- the line is the entry's text, and the entry fits
  abbrev pub IsMeant : Type 0
  IsMeant = (line ≡ entry_text A B entry) × FitsDownEntry A B read (length read) entry

  meant : (made : DownEntry) → FitsDownEntry A B read (length read) made → entry_judged A B at line made ≡ Is entry → IsMeant
  meant made fits h =
      let t = let_through (bytes_eq (entry_text A B made) line) (Is made) at entry h in
      let same : made ≡ entry = let v = t.1 in cc in
      (sym ((bytes_eq-Decides (entry_text A B made) line).0 t.0) ∙ ap (entry_text A B) same, subst (FitsDownEntry A B read (length read)) same fits)

  pair_fits : (state : List ℕ) (members : List (List ℕ)) (pair : Pair) → pair_named A B at state members ≡ Is pair → FitsPair A B pair
  pair_fits state members pair h =
      let s = found_by (at + 5) (λ q. then_judged (states_in B.states (at + 5 + length state + 3) [] members) (λ places. Is (record { state = q; set = row_with (length B.states) places }))) (state_in A.states state) pair h in
      let q = s.0 in
      let t = went_on_with (states_in B.states (at + 5 + length state + 3) [] members) (λ places. Is (record { state = q; set = row_with (length B.states) places })) pair s.2 in
      let made : Pair = record { state = q; set = row_with (length B.states) t.0 } in
      let same : made ≡ pair = let v = t.2 in cc in
      subst (FitsPair A B) same (record {
        state = (position-Some (bytes_eq state) A.states q state s.1).0;
        set = with_length (length B.states) t.0;
      })

  child_means : (split place : ℕ) (pair : Pair) → FitsPair A B pair → child_judged A B read at line split place pair ≡ Is entry → IsMeant
  child_means split place pair fits h =
      let s = or_found at (λ s. or_bad at (λ j. entry_judged A B at line (Child pair s j)) (place_of (count_of_split A read s) place)) (place_of (length read) split) entry h in
      let j = or_found at (λ j. entry_judged A B at line (Child pair s.0 j)) (place_of (count_of_split A read s.0) place) entry s.2 in
      meant (Child pair s.0 j.0) (fits, place_within (length read) split s.0 s.1, split_means A read s.0 j.0 (place_within (count_of_split A read s.0) place j.0 j.1)) j.2

  split_meant : (number : ℕ) (choice : List ℕ) (symbol : ℕ) (kids : List ℕ) → split_judged A B read at line number choice symbol kids ≡ Is entry → IsMeant
  split_meant number choice symbol kids h =
      let e = or_found at (λ e. or_bad at (λ q. or_bad at (λ r. or_bad at (λ places. entry_judged A B at line (Split e r places)) (places_of (length kids) choice))
      (rule_place A.rules (record { symbol = symbol; kids = kids; parent = q }))) (state_of_pair read e)) (place_of (length read) number) entry h in
      let q = or_found at (λ q. or_bad at (λ r. or_bad at (λ places. entry_judged A B at line (Split e.0 r places)) (places_of (length kids) choice))
      (rule_place A.rules (record { symbol = symbol; kids = kids; parent = q }))) (state_of_pair read e.0) entry e.2 in
      let rule : Rule = record { symbol = symbol; kids = kids; parent = q.0 } in
      let r = or_found at (λ r. or_bad at (λ places. entry_judged A B at line (Split e.0 r places)) (places_of (length kids) choice)) (rule_place A.rules rule) entry q.2 in
      let p = or_found at (λ places. entry_judged A B at line (Split e.0 r.0 places)) (places_of (length kids) choice) entry r.2 in
      let named = state_means read e.0 q.0 q.1 in
      meant (Split e.0 r.0 p.0) (place_within (length read) number e.0 e.1, (named.0, rule, named.1, rule_found A.rules rule r.0 r.1, named.2, places_within (length kids) choice p.0 p.1)) p.2

  named_means : (w : WrittenEntry) → entry_named A B read at line w ≡ Is entry → IsMeant
  named_means (RootLine state members) h =
      let p = went_on_with (pair_named A B at state members) (λ pair. entry_judged A B at line (Root pair)) entry h in
      meant (Root p.0) (pair_fits state members p.0 p.1) p.2
  named_means (ChildLine state members split place) h =
      let p = went_on_with (pair_named A B at state members) (child_judged A B read at line split place) entry h in
      child_means split place p.0 (pair_fits state members p.0 p.1) p.2
  named_means (SplitLine number from name children choice) h =
      let s = found_by (at + from) (λ symbol. then_judged (states_in A.states (at + from + length name + 1) [] children) (split_judged A B read at line number choice symbol)) (place_in A.symbols name (length children)) entry h in
      let k = went_on_with (states_in A.states (at + from + length name + 1) [] children) (split_judged A B read at line number choice s.0) entry s.2 in
      split_meant number choice s.0 k.0 k.2

  -- a line that is judged an entry is its text, and the entry fits
  entry_means : entry_in A B read at line ≡ Is entry → IsMeant
  unfolding entry_in
  entry_means h =
      let w = or_found at (entry_named A B read at line) (entry_written line) entry h in
      named_means w.0 w.2

-- what stands at a place still stands there when more follows
at_front : {X : Type 0} (xs ys : List X) (k : ℕ) (x : X) → IsAt xs k x → IsAt (xs ++ ys) k x
at_front [] ys k x h = absurd cc
at_front (y ∷ xs) ys zero x h = h
at_front (y ∷ xs) ys (suc k) x h = at_front xs ys k x h

-- an entry that fits still fits when more follow
fits_still : (A B : Automaton) (read more : List DownEntry) (i : ℕ) (entry : DownEntry) → FitsDownEntry A B read i entry → FitsDownEntry A B (read ++ more) i entry
fits_still A B read more i (Root pair) h = h
fits_still A B read more i (Child pair split place) h =
    let s = h.2 in
    (h.0, h.1, (s.0, s.1, s.2, s.3, at_front read more split (Split s.0 s.1 s.2) s.4, s.5, s.6))
fits_still A B read more i (Split e r choice) h =
    let d = h.1 in
    let named = d.2 in
    (h.0, (d.0, d.1, (named.0, at_front read more e named.0 named.1, named.2), d.3, d.4, d.5))

-- each of the entries that were read fits at its place
fits_at : (A B : Automaton) (read entries : List DownEntry) → AreFound (λ read entry. FitsDownEntry A B read (length read) entry) read entries → (j : ℕ) (entry : DownEntry) → IsAt entries j entry
    → FitsDownEntry A B (read ++ entries) (length read + j) entry
fits_at A B read [] h j entry p = absurd cc
fits_at A B read (x ∷ xs) h zero entry p =
    let same : x ≡ entry = cc in
    let e : length read ≡ length read + 0 = omega arith in
    subst (λ n. FitsDownEntry A B (read ++ x ∷ xs) n entry) e (fits_still A B read (x ∷ xs) (length read) entry (subst (FitsDownEntry A B read (length read)) same h.0))
fits_at A B read (x ∷ xs) h (suc j) entry p =
    let grown = length_push read x in
    let e : length (read ++ x ∷ []) + j ≡ length read + suc j = omega (arith, grown) in
    subst (λ n. FitsDownEntry A B (read ++ x ∷ xs) n entry) e
    (subst (λ all. FitsDownEntry A B all (length (read ++ x ∷ []) + j) entry) (append_assoc read (x ∷ []) xs) (fits_at A B (read ++ x ∷ []) xs h.1 j entry p))

-- what is read is a budget and entries that fit, and their text ends the text
pub down_entries_inverse : (A B : Automaton) (text : List ℕ) (at : ℕ) (found : Budgeted DownEntry) → at ≤ length text → down_entries_in A B text at ≡ Is found
    → AreDownEntries A B found.budget found.entries × (drop at text ≡ down_entries_text A B found.budget found.entries)
unfolding down_entries_in down_entries_text
down_entries_inverse A B text at found within h =
    let r = budgeted_inverse (entry_in A B) (entry_text A B) (λ read entry. FitsDownEntry A B read (length read) entry) (λ read at line entry. entry_means A B read at line entry) text at found within h in (
      record {
        some = r.some;
        few = r.few;
        count = r.count;
        fitting = λ j entry p.
            let e : 0 + j ≡ j = omega arith in
            subst (λ n. FitsDownEntry A B found.entries n entry) e (fits_at A B [] found.entries r.each j entry p);
      },
      r.printed,
    )

-- what a reader answers fits
pub answered_fits : {V : Type 0} (items : V → List CodeEntry) (A B : Automaton) (text : List ℕ) (at : ℕ) (result : Result (ℕ × V) NodesTextError) → at ≤ length text → Answers (budgeted_view items) result (down_entries_in A B text at)
    → IfOk result (λ found. AreDownEntries A B found.0 (entries_of (items found.1)))
answered_fits items A B text at (Ok found) within h = (down_entries_inverse A B text at (budgeted_view items found) within h).0
answered_fits items A B text at (Err error) within h = tt

-- entries that fit can be printed
pub fit_printable : (A B : Automaton) (budget : ℕ) (entries : List DownEntry) → AreDownEntries A B budget entries → All (IsPrintable A B) entries
fit_printable A B budget entries fits = go entries (λ j entry p. printable j entry (fits.fitting j entry p))
  where
    printable : (j : ℕ) (entry : DownEntry) → FitsDownEntry A B entries j entry → IsPrintable A B entry
    printable j (Root pair) fit = fit
    printable j (Child pair split place) fit = fit.0
    printable j (Split e r choice) fit = let d = fit.1 in slice_get_within A.rules r d.1 d.3

    go : (xs : List DownEntry) → ((j : ℕ) (entry : DownEntry) → IsAt xs j entry → IsPrintable A B entry) → All (IsPrintable A B) xs
    go [] h = All-nil (IsPrintable A B)
    go (x ∷ xs) h = All-cons (IsPrintable A B) x xs (h 0 x refl) (go xs (λ j entry p. h (suc j) entry p))
