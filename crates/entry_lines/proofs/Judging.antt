-- What is said of the line of an entry that was read with capped numbers.
use Rattle.std.proofs.Common.{◌≡◌, ℕ, ◌+◌, ◌<◌, Bool, true, false, cond, ◌&&◌, List, [], length, map, Option, Some, None, refl, sym, ap, ap₂, ◌∙◌}
use Rattle.std.specs.Prelude.{option_map}
use Rattle.std.specs.Str.{bytes_eq}
use Rattle.std.proofs.lemmas.List.{length-map}
use Rattle.std.proofs.lemmas.Option.{slice_get_within}
use Rattle.tree_definitions.specs.Automaton.{Automaton}
use Rattle.tree_definitions.specs.Tree.{Symbol}
use Rattle.tree_definitions.specs.UpTrail.{UpEntry}
use Rattle.witness_trees.specs.Judged.{Verdict, Is, BadAt, then_judged, place_in}
use Rattle.witness_trees.specs.Answers.{capped}
use Rattle.witness_trees.proofs.Lines.{kids_same, places_same, place_means}
use Rattle.certificate_lines.specs.Pairs.{state_in, state_then, states_in}
use Rattle.entry_lines.specs.Entries.{entry_text, WrittenEntry, entry_written, are_numbers_to, entry_of, entry_judged, entry_named, entry_spelled, entry_in}
use Rattle.entry_lines.specs.Views.{capped_entry}

-- a symbol that was found is one of the list
pub found_within : (symbols : List Symbol) (name : List ℕ) (rank i : ℕ) → place_in symbols name rank ≡ Some i → i < length symbols
found_within symbols name rank i h = let a = place_means symbols name rank i h in slice_get_within symbols i a.0 a.1

module _ (A B : Automaton) (k at : ℕ) (line : List ℕ) where
  judged_same : (q : ℕ) (places : List ℕ) (i : ℕ) (ns : List ℕ) → k < 4294967295 → entry_judged A B k at line (map capped ns) (entry_of B q places i (map capped ns)) ≡ entry_judged A B k at line ns (entry_of B q places i ns)
  judged_same q places i ns small = go (are_numbers_to k ns) refl
    where
      said : Bool → List ℕ → Verdict UpEntry
      said t ns = cond (t && bytes_eq (entry_text A B (entry_of B q places i ns)) line) (Is (entry_of B q places i ns)) (BadAt at)

      with_kids : Bool → List ℕ → Verdict UpEntry
      with_kids t ks =
          let entry : UpEntry = record { pair = (entry_of B q places i ns).pair; symbol = i; kids = ks } in
          cond (t && bytes_eq (entry_text A B entry) line) (Is entry) (BadAt at)

      go : (t : Bool) → are_numbers_to k ns ≡ t → entry_judged A B k at line (map capped ns) (entry_of B q places i (map capped ns)) ≡ entry_judged A B k at line ns (entry_of B q places i ns)
      go true e = ap₂ with_kids (kids_same k small ns) (places_same k small ns e)
      go false e = ap (λ t. said t (map capped ns)) (kids_same k small ns ∙ e) ∙ sym (ap (λ t. said t ns) e)

  named_same : (w : WrittenEntry) → k < 4294967295 → entry_named A B k at line (capped_entry w) ≡ entry_named A B k at line w
  named_same w small = λ j. state_then at (λ q. then_judged (states_in B.states (at + length w.state + 3) [] w.members) (λ places.
      state_then (at + w.place) (λ i. judged_same q places i w.kids small j) (place_in A.symbols w.name (length-map w.kids capped j)))) (state_in A.states w.state)

-- what is said of a line that was read
pub entry_in_written : (A B : Automaton) (read : List UpEntry) (at : ℕ) (line : List ℕ) (w : WrittenEntry) → length read < 4294967295 → option_map capped_entry (entry_written line) ≡ Some w → entry_in A B read at line ≡ entry_named A B (length read) at line w
unfolding entry_in
entry_in_written A B read at line w small h = go (entry_written line) h
  where
    go : (o : Option WrittenEntry) → option_map capped_entry o ≡ Some w → entry_spelled A B (length read) at line o ≡ entry_named A B (length read) at line w
    go None e = absurd cc
    go (Some v) e =
        let same : capped_entry v ≡ w = cc in
        sym (named_same A B (length read) at line v small) ∙ ap (entry_named A B (length read) at line) same
