-- The printed text of pairs is read as those pairs.
use Rattle.std.proofs.Common.{◌≡◌, ℕ, ◌+◌, ◌^◌, ◌<◌, ◌≤◌, Bool, true, cond, List, [], ◌∷◌, ◌++◌, length, length-append, drop, map, Some, None, refl, sym, ap, ◌∙◌, subst, append_assoc, append-nil, arith}
use Rattle.std.specs.Prelude.{All, ◌&&◌, ◌==◌, codes}
use Rattle.std.specs.List.{AllByRecursion, flat_map}
use Rattle.std.specs.Fmt.{decimal}
use Rattle.std.specs.Str.{bytes_eq}
use Rattle.std.proofs.lemmas.Bool.{eq-eqb, le-leb}
use Rattle.std.proofs.lemmas.List.{length-drop}
use Rattle.std.proofs.lemmas.List.Elements.{All-from_recursion, recursion_from_All}
use Rattle.std.proofs.lemmas.List.Splits.{slice_split_at}
use Rattle.std.proofs.lemmas.Slice.Eq.{bytes_eq-Decides}
use Rattle.std.proofs.Math.Seq.{drop-append_seam}
use Rattle.tree_definitions.specs.Name.{is_name}
use Rattle.tree_definitions.specs.Automaton.{Automaton}
use Rattle.tree_definitions.specs.Cover.{Pair, FitsPair}
use Rattle.ta_model.specs.Listing.{IsListed}
use Rattle.listed_pairs.specs.Members.{members, row_with}
use Rattle.listed_pairs.specs.Order.{AreRising}
use Rattle.witness_trees.specs.Judged.{Is, BadAt, then_judged, cut_at, pieces_at}
use Rattle.witness_trees.proofs.Symbols.{and_both}
use Rattle.witness_trees.proofs.Spelled.{IsFree, free_append, name_free, number_free, cut_free}
use Rattle.certificate_lines.specs.Lines.{line_then, count_in, end_at}
use Rattle.certificate_lines.specs.Pairs.{state_name, pair_text, pairs_text, state_then, states_in, comes_behind, pair_judged, spelled_words, state_and_names, pair_spelled, pair_in, counted_pairs, pairs_in}
use Rattle.certificate_lines.specs.PairsRead.{ArePairsOf}
use Rattle.certificate_lines.proofs.PairCounts.{count_back}
use Rattle.certificate_lines.proofs.PairLines.{lines_of, behind_line, AreJudged, lines_back}
use Rattle.certificate_lines.proofs.PairNames.{AreStates, name_is, place_back, states_back, all_names, names_free, words_back}
use Rattle.certificate_lines.proofs.PairSets.{members_within, row_back}
use Rattle.certificate_lines.proofs.PairOrder.{behind_those_before}

module _ (A B : Automaton) (ours : IsListed A) (theirs : IsListed B) where
  member_states : (pair : Pair) → FitsPair A B pair → AreStates B.states (members pair.set)
  member_states pair fits = let size = fits.set in members_within (length B.states) 0 pair.set (omega (arith, size))

  -- a printed pair is one line
  pub pair_free : (pair : Pair) → FitsPair A B pair → IsFree 10 (pair_text A B pair)
  pair_free pair fits =
      free_append 10 (state_name A.states pair.state ++ codes " :") (flat_map (λ s. 32 ∷ state_name B.states s) (members pair.set))
      (free_append 10 (state_name A.states pair.state) (codes " :") (name_free 10 refl (state_name A.states pair.state) (name_is A.states ours.state_names pair.state fits.state)) (refl, (refl, tt)))
      (names_free B.states theirs.state_names (members pair.set) (member_states pair fits))

  -- the words of a pair's line
  words_of : (pair : Pair) → FitsPair A B pair → pieces_at 32 (pair_text A B pair) ≡ state_name A.states pair.state ∷ (58 ∷ []) ∷ map (state_name B.states) (members pair.set)
  words_of pair fits =
      let name = state_name A.states pair.state in
      let others = flat_map (λ s. 32 ∷ state_name B.states s) (members pair.set) in
      let free = name_free 32 refl name (name_is A.states ours.state_names pair.state fits.state) in
      ap (pieces_at 32) (append_assoc name (codes " :") others)
      ∙ slice_split_at (λ b. b == 32) name 32 (58 ∷ others) (All-from_recursion _ name free) (eq-eqb 32 32 refl)
      ∙ ap (λ ws. name ∷ ws) (words_back B.states theirs.state_names (58 ∷ []) (members pair.set) (refl, tt) (member_states pair fits))

  spelled_back : (pair : Pair) → FitsPair A B pair → spelled_words (pieces_at 32 (pair_text A B pair)) ≡ Some (state_name A.states pair.state, map (state_name B.states) (members pair.set))
  spelled_back pair fits =
      let name = state_name A.states pair.state in
      let names = map (state_name B.states) (members pair.set) in
      let right = and_both (is_name name) (bytes_eq (58 ∷ []) (58 ∷ [])) (name_is A.states ours.state_names pair.state fits.state) refl in
      ap spelled_words (words_of pair fits)
      ∙ ap (λ b. state_and_names name (is_name name && bytes_eq (58 ∷ []) (58 ∷ [])) (cond b (Some names) None)) (all_names B.states theirs.state_names (members pair.set) (member_states pair fits))
      ∙ ap (λ b. state_and_names name b (Some names)) right

  -- a printed pair is read back behind those before it
  pub pair_back : (read : List Pair) (at : ℕ) (pair : Pair) → FitsPair A B pair → comes_behind read pair ≡ true → pair_in A B read at (pair_text A B pair) ≡ Is pair
  unfolding pair_in
  pair_back read at pair fits behind =
      let name = state_name A.states pair.state in
      let names = map (state_name B.states) (members pair.set) in
      let line = pair_text A B pair in
      let size = fits.set in
      let set : row_with (length B.states) (members pair.set) ≡ pair.set = ap (λ n. row_with n (members pair.set)) (sym size) ∙ row_back pair.set in
      ap (pair_spelled A B read at line) (spelled_back pair fits)
      ∙ ap (state_then at (λ q. then_judged (states_in B.states (at + length name + 3) [] names) (λ places. pair_judged A B read at line (made q (row_with (length B.states) places))))) (place_back A.states ours.automaton.states pair.state fits.state)
      ∙ ap (λ v. then_judged v (λ places. pair_judged A B read at line (made pair.state (row_with (length B.states) places)))) (states_back B.states theirs.automaton.states (at + length name + 3) [] (members pair.set) (member_states pair fits))
      ∙ ap (λ row. pair_judged A B read at line (made pair.state row)) set
      ∙ ap (λ b. cond b (Is pair) (BadAt at)) (and_both (bytes_eq line line) (comes_behind read pair) ((bytes_eq-Decides line line).1 refl) behind)
    where
      made : ℕ → List Bool → Pair
      made q row = record { state = q; set = row }

  -- printed pairs are judged in their order
  pub pairs_judged_back : (read pairs : List Pair) → All (FitsPair A B) pairs → AreRising (read ++ pairs) → AreJudged (pair_in A B) (pair_text A B) read pairs
  pairs_judged_back read pairs fits rising = go read pairs (recursion_from_All (FitsPair A B) pairs fits) rising
    where
      go : (read pairs : List Pair) → AllByRecursion (FitsPair A B) pairs → AreRising (read ++ pairs) → AreJudged (pair_in A B) (pair_text A B) read pairs
      go read [] all rising = tt
      go read (x ∷ xs) all rising = (
        pair_free x all.0,
        λ at. pair_back read at x all.0 (behind_those_before read x xs rising),
        go (read ++ x ∷ []) xs all.1 (subst AreRising (sym (append_assoc read (x ∷ []) xs)) rising),
      )

-- the text of pairs in rising order is read as these pairs, wherever it ends a text
pub pairs_back : (A B : Automaton) → IsListed A → IsListed B → (text : List ℕ) (at : ℕ) (pairs : List Pair) → ArePairsOf A B (drop at text) pairs → pairs_in A B text at ≡ Is pairs
unfolding pairs_in pairs_text
pairs_back A B ours theirs text at pairs h =
    let few = h.few in
    let small : n < 2 ^ 64 = omega (arith, few) in
    let free : IsFree 10 head = free_append 10 (codes "pairs ") (decimal n) (refl, (refl, (refl, (refl, (refl, (refl, tt)))))) (number_free 10 refl n small) in
    let whole : drop at text ≡ head ++ 10 ∷ lines = h.printed ∙ append_assoc head (10 ∷ []) lines in
    let from = at + length head + 1 in
    let behind : drop from text ≡ lines ++ [] = behind_line at text head lines whole ∙ sym (append-nil lines) in
    let size = length-drop at text in
    let same : length (drop at text) ≡ length (head ++ 10 ∷ lines) = ap length whole in
    let long = length-append head (10 ∷ lines) in
    let past : length text ≤ from + length lines = omega (arith, size, same, long) in
    ap (λ bytes. line_then at (λ line. counted_pairs A B text at line (count_in (codes "pairs ") line)) (cut_at 10 bytes)) whole
    ∙ ap (line_then at (λ line. counted_pairs A B text at line (count_in (codes "pairs ") line))) (cut_free 10 head lines free)
    ∙ ap (counted_pairs A B text at head) (count_back (codes "pairs ") n few)
    ∙ ap (λ v. then_judged v (end_at text)) (lines_back (pair_in A B) (pair_text A B) text [] from [] pairs (pairs_judged_back A B ours theirs [] pairs h.fitting h.rising) behind)
    ∙ ap (λ b. cond b (Is pairs) (BadAt (from + length lines))) (le-leb (length text) (from + length lines) past)
  where
    n : ℕ
    n = length pairs

    head : List ℕ
    head = codes "pairs " ++ decimal (length pairs)

    lines : List ℕ
    lines = lines_of (pair_text A B) pairs

-- the same behind any bytes
pub printed_pairs_back : (A B : Automaton) (front : List ℕ) (pairs : List Pair) → IsListed A → IsListed B → All (FitsPair A B) pairs → AreRising pairs → length pairs < 4294967295
    → pairs_in A B (front ++ pairs_text A B pairs) (length front) ≡ Is pairs
printed_pairs_back A B front pairs ours theirs fits rising few =
    pairs_back A B ours theirs (front ++ pairs_text A B pairs) (length front) pairs (record {
      printed = drop-append_seam front (pairs_text A B pairs);
      fitting = fits;
      rising = rising;
      few = few;
    })
