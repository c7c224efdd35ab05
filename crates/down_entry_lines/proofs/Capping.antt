-- What is said of the line of an entry that was read with capped numbers.
use Rattle.std.proofs.Common.{◌≡◌, ℕ, ◌+◌, ◌-◌, ◌<◌, ◌≤◌, inl, inr, Bool, true, false, cond, ◌&&◌, List, [], length, map, Option, Some, None, refl, sym, ap, ap₂, ◌∙◌, arith}
use Rattle.std.specs.Prelude.{nat_le, option_map, slice_get}
use Rattle.std.specs.Option.{option_map_or}
use Rattle.std.specs.List.{list_all}
use Rattle.std.proofs.lemmas.Bool.{cases_lt, lt-leb, and_right}
use Rattle.tree_definitions.specs.Automaton.{Automaton, Rule}
use Rattle.tree_definitions.specs.Cover.{Pair}
use Rattle.tree_definitions.specs.DownTrail.{DownEntry, Root, Child, Split}
use Rattle.ta_model.specs.Listing.{IsListed}
use Rattle.witness_trees.specs.Judged.{Verdict, then_judged, place_in}
use Rattle.witness_trees.specs.Answers.{capped}
use Rattle.witness_trees.proofs.Lines.{kids_same, places_same}
use Rattle.certificate_lines.specs.Pairs.{state_then, states_in}
use Rattle.down_entry_lines.specs.Entries.{WrittenEntry, RootLine, ChildLine, SplitLine, entry_written, or_bad, place_of, places_of, state_of_pair, split_count, count_of_split, rule_place, entry_judged, child_judged, split_judged, pair_named, entry_named, entry_in}
use Rattle.down_entry_lines.specs.Fitting.{AreRanksSmall}
use Rattle.down_entry_lines.specs.Views.{capped_entry}
use Rattle.down_entry_lines.proofs.Ranks.{few_kids, rule_found}

place_same : (k n : ℕ) → k < 4294967295 → place_of k (capped n) ≡ place_of k n
place_same k n small = elim (cases_lt 4294967296 n) [
  | inl above ↦
      ap (λ b. cond b (Some (capped n - 1)) None) (and_right (nat_le 1 (capped n)) (nat_le (capped n) k) (lt-leb (capped n) k (omega arith)))
      ∙ sym (ap (λ b. cond b (Some (n - 1)) None) (and_right (nat_le 1 n) (nat_le n k) (lt-leb n k (omega arith))))
  | inr low ↦ let e : capped n ≡ n = omega arith in ap (place_of k) e
]

all_places_same : (k : ℕ) (ns : List ℕ) → k < 4294967295 → places_of k (map capped ns) ≡ places_of k ns
all_places_same k ns small = go (list_all (λ n. nat_le 1 n && nat_le n k) ns) refl
  where
    said : Bool → List ℕ → Option (List ℕ)
    said b places = cond b (Some places) None

    go : (t : Bool) → list_all (λ n. nat_le 1 n && nat_le n k) ns ≡ t → places_of k (map capped ns) ≡ places_of k ns
    go true e = ap₂ said (kids_same k small ns) (places_same k small ns e)
    go false e = ap (λ t. said t (map (λ n. n - 1) (map capped ns))) (kids_same k small ns ∙ e) ∙ sym (ap (λ t. said t (map (λ n. n - 1) ns)) e)

module _ (A B : Automaton) (listed : IsListed A) (ranks : AreRanksSmall A) where
  pub count_small : (entry : DownEntry) → split_count A entry ≤ 255
  count_small (Root pair) = omega arith
  count_small (Child pair split place) = omega arith
  count_small (Split e r choice) = go (slice_get A.rules r) refl
    where
      go : (o : Option Rule) → slice_get A.rules r ≡ o → option_map_or (λ rule. length rule.kids) o 0 ≤ 255
      go None e = omega arith
      go (Some rule) e = few_kids A listed ranks r rule e

  count_at_small : (read : List DownEntry) (s : ℕ) → count_of_split A read s ≤ 255
  count_at_small read s = go (slice_get read s)
    where
      go : (o : Option DownEntry) → option_map_or (split_count A) o 0 ≤ 255
      go None = omega arith
      go (Some entry) = count_small entry

  module _ (read : List DownEntry) (few : length read < 4294967295) (at : ℕ) (line : List ℕ) where
    child_same : (split place : ℕ) (pair : Pair) → child_judged A B read at line (capped split) (capped place) pair ≡ child_judged A B read at line split place pair
    child_same split place pair = λ i.
        or_bad at (λ s. or_bad at (λ j. entry_judged A B at line (Child pair s j)) (place_same (count_of_split A read s) place (let small = count_at_small read s in omega (arith, small)) i)) (place_same (length read) split few i)

    chosen_same : (choice kids : List ℕ) (symbol q : ℕ) (next : ℕ → List ℕ → Verdict DownEntry) (o : Option ℕ) → rule_place A.rules (record { symbol = symbol; kids = kids; parent = q }) ≡ o
        → or_bad at (λ r. or_bad at (next r) (places_of (length kids) (map capped choice))) o ≡ or_bad at (λ r. or_bad at (next r) (places_of (length kids) choice)) o
    chosen_same choice kids symbol q next None e = refl
    chosen_same choice kids symbol q next (Some r) e =
        let small = few_kids A listed ranks r (record { symbol = symbol; kids = kids; parent = q }) (rule_found A.rules (record { symbol = symbol; kids = kids; parent = q }) r e) in
        ap (or_bad at (next r)) (all_places_same (length kids) choice (omega (arith, small)))

    split_same : (number : ℕ) (choice : List ℕ) (symbol : ℕ) (kids : List ℕ) → split_judged A B read at line (capped number) (map capped choice) symbol kids ≡ split_judged A B read at line number choice symbol kids
    split_same number choice symbol kids = λ i.
        or_bad at (λ e. or_bad at (λ q. chosen_same choice kids symbol q (λ r places. entry_judged A B at line (Split e r places)) (rule_place A.rules (record { symbol = symbol; kids = kids; parent = q })) refl i) (state_of_pair read e)) (place_same (length read) number few i)

    named_same : (w : WrittenEntry) → entry_named A B read at line (capped_entry w) ≡ entry_named A B read at line w
    named_same (RootLine state members) = refl
    named_same (ChildLine state members split place) = λ i. then_judged (pair_named A B at state members) (λ pair. child_same split place pair i)
    named_same (SplitLine number from name children choice) = λ i.
        state_then (at + from) (λ symbol. then_judged (states_in A.states (at + from + length name + 1) [] children) (λ kids. split_same number choice symbol kids i)) (place_in A.symbols name (length children))

    -- what is said of a line that was read
    pub entry_in_written : (w : WrittenEntry) → option_map capped_entry (entry_written line) ≡ Some w → entry_in A B read at line ≡ entry_named A B read at line w
    unfolding entry_in
    entry_in_written w h = go (entry_written line) h
      where
        go : (o : Option WrittenEntry) → option_map capped_entry o ≡ Some w → or_bad at (entry_named A B read at line) o ≡ entry_named A B read at line w
        go None e = absurd cc
        go (Some v) e =
            let same : capped_entry v ≡ w = cc in
            sym (named_same v) ∙ ap (entry_named A B read at line) same
