-- The printed text of a budget and entries is read as these.
use Rattle.std.proofs.Common.{◌≡◌, ℕ, suc, ◌+◌, ◌-◌, ◌^◌, ◌<◌, ◌≤◌, cond, List, [], ◌∷◌, ◌++◌, length, drop, map, Some, refl, sym, ap, ap₂, ◌∙◌, subst, arith}
use Rattle.std.specs.Str.{bytes_eq}
use Rattle.std.proofs.Math.Seq.{drop-append_seam}
use Rattle.std.proofs.lemmas.List.{length-map, length_push}
use Rattle.std.proofs.lemmas.List.Elements.{recursion_from_All}
use Rattle.std.proofs.lemmas.Slice.Eq.{bytes_eq-Decides}
use Rattle.tree_definitions.specs.Automaton.{Automaton}
use Rattle.tree_definitions.specs.Relation.{Row, IsAt}
use Rattle.tree_definitions.specs.UpTrail.{UpEntry}
use Rattle.ta_model.specs.Listing.{IsListed}
use Rattle.listed_pairs.specs.Members.{members, row_with}
use Rattle.witness_trees.specs.NodesText.{name_at, kids_text}
use Rattle.witness_trees.specs.Judged.{Is, BadAt, then_judged, place_in}
use Rattle.witness_trees.proofs.Symbols.{and_both}
use Rattle.witness_trees.proofs.Spelled.{place_back, suc_within, pred_suc, name_found}
use Rattle.certificate_lines.specs.Pairs.{state_name, state_then, states_in}
use Rattle.certificate_lines.proofs.BudgetLines.{budgeted_back}
use Rattle.certificate_lines.proofs.Lined.{AreJudged}
use Rattle.certificate_lines.proofs.PairNames as states
use Rattle.certificate_lines.proofs.PairSets.{row_back}
use Rattle.entry_lines.specs.Entries.{entry_text, up_entries_text, are_numbers_to, entry_of, entry_judged, entry_spelled, entry_in, up_entries_in}
use Rattle.certificate_kinds.specs.Fitting.{FitsUpEntry, AreUpEntries}
use Rattle.entry_lines.proofs.Printed.{entry_free, member_states, stands, written_back}

module _ (A B : Automaton) (ours : IsListed A) (theirs : IsListed B) where
  -- a printed entry is read back at its place
  entry_back : (read : List UpEntry) (at : ℕ) (entry : UpEntry) → suc (length read) < 2 ^ 64 → FitsUpEntry A B (length read) entry → entry_in A B read at (entry_text A B entry) ≡ Is entry
  unfolding entry_in
  entry_back read at entry small fits =
      let k = length read in
      let line = entry_text A B entry in
      let q = entry.pair.state in
      let numbers = map suc entry.kids in
      let places = members entry.pair.set in
      let w = written_back A B ours theirs k small entry fits in
      let name = name_at A.symbols entry.symbol in
      let place = at + (length line - length (name ++ kids_text entry.kids)) in
      let a = fits.symbol.0 in
      let at_symbol : IsAt A.symbols entry.symbol a = stands A B ours theirs k small entry fits in
      let rank : length numbers ≡ a.rank = length-map entry.kids suc ∙ fits.symbol.2 in
      let symbol : place_in A.symbols name (length numbers) ≡ Some entry.symbol =
      ap₂ (place_in A.symbols) (name_found A.symbols entry.symbol a at_symbol) rank ∙ place_back A.symbols entry.symbol a ours.automaton.symbols at_symbol in
      let size = fits.pair.set in
      let set : row_with (length B.states) places ≡ entry.pair.set = ap (λ n. row_with n places) (sym size) ∙ row_back entry.pair.set in
      let right = and_both (are_numbers_to k numbers) (bytes_eq line line) (suc_within k entry.kids (recursion_from_All (λ j. j < k) entry.kids fits.earlier)) ((bytes_eq-Decides line line).1 refl) in
      ap (entry_spelled A B k at line) w
      ∙ ap (state_then at (λ q. then_judged (states_in B.states from [] words) (λ places. state_then place (λ i. entry_judged A B k at line numbers (entry_of B q places i numbers)) (place_in A.symbols name (length numbers)))))
      (states.place_back A.states ours.automaton.states q fits.pair.state)
      ∙ ap (λ v. then_judged v (λ places. state_then place (λ i. entry_judged A B k at line numbers (entry_of B q places i numbers)) (place_in A.symbols name (length numbers))))
      (states.states_back B.states theirs.automaton.states from [] places (member_states A B ours theirs k small entry fits))
      ∙ ap (state_then place (λ i. entry_judged A B k at line numbers (entry_of B q places i numbers))) symbol
      ∙ ap₂ (λ row ks. entry_judged A B k at line numbers (made row ks)) set (pred_suc entry.kids)
      ∙ ap (λ b. cond b (Is entry) (BadAt at)) right
    where
      made : Row → List ℕ → UpEntry
      made row ks = record { pair = record { state = entry.pair.state; set = row }; symbol = entry.symbol; kids = ks }

      from : ℕ
      from = at + length (state_name A.states entry.pair.state) + 3

      words : List (List ℕ)
      words = map (state_name B.states) (members entry.pair.set)

  -- printed entries are judged in their order
  entries_judged : (read entries : List UpEntry) → ((j : ℕ) (entry : UpEntry) → IsAt entries j entry → FitsUpEntry A B (length read + j) entry) → length read + length entries ≤ 4294967295 → AreJudged (entry_in A B) (entry_text A B) read entries
  entries_judged read [] fits few = tt
  entries_judged read (entry ∷ entries) fits few =
      let k = length read in
      let small : suc k < 2 ^ 64 = omega (arith, few) in
      let zeroth : k + 0 ≡ k = omega arith in
      let fit : FitsUpEntry A B k entry = subst (λ n. FitsUpEntry A B n entry) zeroth (fits 0 entry refl) in
      let grown = length_push read entry in (
        λ at. entry_back read at entry small fit,
        entry_free A B ours theirs k small entry fit,
        entries_judged (read ++ entry ∷ []) entries
            (λ j x p. let e : k + suc j ≡ length (read ++ entry ∷ []) + j = omega (arith, grown) in subst (λ n. FitsUpEntry A B n x) e (fits (suc j) x p)) (omega (arith, grown, few)),
      )

-- the text of a budget and entries that fit is read as these, wherever it ends a text
pub up_entries_back : (A B : Automaton) → IsListed A → IsListed B → (budget : ℕ) (entries : List UpEntry) → AreUpEntries A B budget entries → (text : List ℕ) (at : ℕ) → drop at text ≡ up_entries_text A B budget entries
    → up_entries_in A B text at ≡ Is (record { budget = budget; entries = entries })
unfolding up_entries_in up_entries_text
up_entries_back A B ours theirs budget entries fits text at here =
    let few = fits.few in
    let size = fits.count in
    budgeted_back (entry_in A B) (entry_text A B) budget entries fits.some few size
    (entries_judged A B ours theirs [] entries (λ j entry p. let e : j ≡ 0 + j = omega arith in subst (λ n. FitsUpEntry A B n entry) e (fits.fitting j entry p)) (omega (arith, size, few)))
    text at here

-- the same behind a front
pub up_entries_read_back : (A B : Automaton) (front : List ℕ) (budget : ℕ) (entries : List UpEntry) → IsListed A → IsListed B → AreUpEntries A B budget entries
    → up_entries_in A B (front ++ up_entries_text A B budget entries) (length front) ≡ Is (record { budget = budget; entries = entries })
up_entries_read_back A B front budget entries ours theirs fits =
    up_entries_back A B ours theirs budget entries fits (front ++ up_entries_text A B budget entries) (length front) (drop-append_seam front (up_entries_text A B budget entries))
