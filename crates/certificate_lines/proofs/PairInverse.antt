-- What is read is the printed text of the pairs.
use Rattle.std.proofs.Common.{◌≡◌, ℕ, ◌+◌, ◌<◌, ◌≤◌, Bool, true, false, cond, List, [], ◌∷◌, ◌++◌, length, drop, Option, Some, None, refl, sym, ap, ap₂, ◌∙◌, subst, append_assoc, append-nil, arith}
use Rattle.std.specs.Prelude.{All, ◌&&◌, nat_le, codes}
use Rattle.std.specs.Fmt.{decimal}
use Rattle.std.specs.Str.{bytes_eq}
use Rattle.std.proofs.lemmas.Bool.{leb-true}
use Rattle.std.proofs.lemmas.List.{drop_all}
use Rattle.std.proofs.lemmas.List.Elements.{All-nil, All-push}
use Rattle.std.proofs.lemmas.List.Quantifiers.{position-Some}
use Rattle.std.proofs.lemmas.Slice.Eq.{bytes_eq-Decides}
use Rattle.tree_definitions.specs.Automaton.{Automaton}
use Rattle.tree_definitions.specs.Cover.{Pair, FitsPair}
use Rattle.listed_pairs.specs.Members.{row_with}
use Rattle.listed_pairs.specs.Order.{AreRising}
use Rattle.witness_trees.specs.Judged.{Verdict, Is, BadAt, UnknownAt, then_judged, cut_at, pieces_at}
use Rattle.witness_trees.proofs.Symbols.{and_parts}
use Rattle.witness_trees.proofs.Inverse.{cut_joined}
use Rattle.certificate_lines.specs.Lines.{Piece, line_then, lines_in, count_in, end_at}
use Rattle.certificate_lines.specs.Pairs.{pair_text, pairs_text, state_in, state_then, states_in, comes_behind, pair_judged, spelled_words, pair_spelled, pair_in, counted_pairs, pairs_in}
use Rattle.certificate_lines.specs.PairsRead.{ArePairsOf}
use Rattle.certificate_lines.proofs.Sets.{with_length}
use Rattle.certificate_lines.proofs.PairCounts.{count_written}
use Rattle.certificate_lines.proofs.PairLines.{lines_of, behind_line, line_within, IsContinued, lines_read}
use Rattle.certificate_lines.proofs.PairOrder.{rising_more}

-- what a line that was read as a pair is
pub record IsLineOf (A B : Automaton) (read : List Pair) (line : List ℕ) (pair : Pair) : Type 0 where
  pub printed : line ≡ pair_text A B pair
  pub fitting : FitsPair A B pair
  pub behind : comes_behind read pair ≡ true

module _ (A B : Automaton) (read : List Pair) (at : ℕ) (line : List ℕ) (pair : Pair) where
  abbrev made : ℕ → List ℕ → Pair
  made q places = record { state = q; set = row_with (length B.states) places }

  judged_so : (q : ℕ) (places : List ℕ) → q < length A.states → (b : Bool) → (bytes_eq (pair_text A B (made q places)) line && comes_behind read (made q places)) ≡ b → cond b (Is (made q places)) (BadAt at) ≡ Is pair → IsLineOf A B read line pair
  judged_so q places l true e h =
      let same : made q places ≡ pair = cc in
      let parts = and_parts (bytes_eq (pair_text A B (made q places)) line) (comes_behind read (made q places)) e in
      subst (IsLineOf A B read line) same (record {
        printed = sym ((bytes_eq-Decides (pair_text A B (made q places)) line).0 parts.0);
        fitting = record { state = l; set = with_length (length B.states) places };
        behind = parts.1;
      })
  judged_so q places l false e h = absurd cc

  placed : (q : ℕ) → q < length A.states → (v : Verdict (List ℕ)) → then_judged v (λ places. pair_judged A B read at line (made q places)) ≡ Is pair → IsLineOf A B read line pair
  placed q l (Is places) h = judged_so q places l (bytes_eq (pair_text A B (made q places)) line && comes_behind read (made q places)) refl h
  placed q l (BadAt byte) h = absurd cc
  placed q l (UnknownAt byte) h = absurd cc

  named : (state : List ℕ) (words : List (List ℕ)) (o : Option ℕ) → state_in A.states state ≡ o → state_then at (λ q. then_judged (states_in B.states (at + length state + 3) [] words) (λ places. pair_judged A B read at line (made q places))) o ≡ Is pair → IsLineOf A B read line pair
  named state words None e h = absurd cc
  named state words (Some q) e h = placed q (position-Some (bytes_eq state) A.states q state e).0 (states_in B.states (at + length state + 3) [] words) h

  spelled : (o : Option (List ℕ × List (List ℕ))) → pair_spelled A B read at line o ≡ Is pair → IsLineOf A B read line pair
  spelled None h = absurd cc
  spelled (Some p) h = named p.0 p.1 (state_in A.states p.0) refl h

  -- a line that is read as a pair is its text
  pub pair_inverse : pair_in A B read at line ≡ Is pair → IsLineOf A B read line pair
  unfolding pair_in
  pair_inverse h = spelled (spelled_words (pieces_at 32 line)) h

module _ (A B : Automaton) where
  -- pairs of A and B in rising order
  abbrev pub AreInOrder : List Pair → Type 0
  AreInOrder pairs = All (FitsPair A B) pairs × AreRising pairs

  none_in_order : AreInOrder []
  none_in_order = (All-nil (FitsPair A B), λ i j d l m. absurd (omega (arith, m)))

  one_more : (read : List Pair) (at : ℕ) (line : List ℕ) (pair : Pair) → AreInOrder read → pair_in A B read at line ≡ Is pair → (line ≡ pair_text A B pair) × AreInOrder (read ++ pair ∷ [])
  one_more read at line pair order h =
      let is = pair_inverse A B read at line pair h in
      (is.printed, (All-push (FitsPair A B) read pair order.0 is.fitting, rising_more read pair order.1 is.behind))

  -- only the text of pairs is read as them
  pub pairs_inverse : (text : List ℕ) (at : ℕ) (pairs : List Pair) → at ≤ length text → pairs_in A B text at ≡ Is pairs → ArePairsOf A B (drop at text) pairs
  unfolding pairs_in pairs_text
  pairs_inverse text at pairs le h = cut (cut_at 10 (drop at text)) refl h
    where
      whole : (p : List ℕ × List ℕ) → cut_at 10 (drop at text) ≡ Some p → (n : ℕ) → count_in (codes "pairs ") p.0 ≡ Some n → (piece : Piece (List Pair)) → piece.value ≡ pairs → length text ≤ piece.after
          → IsContinued (pair_text A B) text n (at + length p.0 + 1) [] piece × AreInOrder piece.value → ArePairsOf A B (drop at text) pairs
      whole p e n c piece is past r =
          let joined = cut_joined 10 (drop at text) p e in
          let found = r.0 in
          let head = count_written (codes "pairs ") p.0 n c in
          let more : found.more ≡ pairs = sym found.all ∙ is in
          let count : n ≡ length pairs = sym found.as_many ∙ ap length more in
          let few = head.1 in
          let rest : p.1 ≡ lines_of (pair_text A B) pairs =
          sym (behind_line at text p.0 p.1 joined) ∙ found.printed
          ∙ ap (λ bs. lines_of (pair_text A B) found.more ++ bs) (drop_all piece.after text past)
          ∙ append-nil (lines_of (pair_text A B) found.more)
          ∙ ap (lines_of (pair_text A B)) more
          in
          let line : p.0 ≡ codes "pairs " ++ decimal (length pairs) = head.0 ∙ ap (λ m. codes "pairs " ++ decimal m) count in
          let order : AreInOrder pairs = subst AreInOrder is r.1 in
          record {
            printed = joined ∙ ap₂ (λ a b. a ++ 10 ∷ b) line rest ∙ sym (append_assoc (codes "pairs " ++ decimal (length pairs)) (10 ∷ []) (lines_of (pair_text A B) pairs));
            fitting = order.0;
            rising = order.1;
            few = omega (arith, few, count);
          }

      ended : (p : List ℕ × List ℕ) → cut_at 10 (drop at text) ≡ Some p → (n : ℕ) → count_in (codes "pairs ") p.0 ≡ Some n → (piece : Piece (List Pair)) → lines_in (pair_in A B) text n (at + length p.0 + 1) [] ≡ Is piece
          → (b : Bool) → nat_le (length text) piece.after ≡ b → cond b (Is piece.value) (BadAt piece.after) ≡ Is pairs → ArePairsOf A B (drop at text) pairs
      ended p e n c piece l true t k =
          let is : piece.value ≡ pairs = cc in
          let within = line_within at text p.0 p.1 le (cut_joined 10 (drop at text) p e) in
          whole p e n c piece is (leb-true (length text) piece.after t) (lines_read (pair_in A B) (pair_text A B) AreInOrder one_more text n (at + length p.0 + 1) [] piece within none_in_order l)
      ended p e n c piece l false t k = absurd cc

      lined : (p : List ℕ × List ℕ) → cut_at 10 (drop at text) ≡ Some p → (n : ℕ) → count_in (codes "pairs ") p.0 ≡ Some n → (v : Verdict (Piece (List Pair))) → lines_in (pair_in A B) text n (at + length p.0 + 1) [] ≡ v
          → then_judged v (end_at text) ≡ Is pairs → ArePairsOf A B (drop at text) pairs
      lined p e n c (Is piece) l k = ended p e n c piece l (nat_le (length text) piece.after) refl k
      lined p e n c (BadAt byte) l k = absurd cc
      lined p e n c (UnknownAt byte) l k = absurd cc

      counted : (p : List ℕ × List ℕ) → cut_at 10 (drop at text) ≡ Some p → (o : Option ℕ) → count_in (codes "pairs ") p.0 ≡ o → counted_pairs A B text at p.0 o ≡ Is pairs → ArePairsOf A B (drop at text) pairs
      counted p e None c k = absurd cc
      counted p e (Some n) c k = lined p e n c (lines_in (pair_in A B) text n (at + length p.0 + 1) []) refl k

      cut : (o : Option (List ℕ × List ℕ)) → cut_at 10 (drop at text) ≡ o → line_then at (λ line. counted_pairs A B text at line (count_in (codes "pairs ") line)) o ≡ Is pairs → ArePairsOf A B (drop at text) pairs
      cut None e k = absurd cc
      cut (Some p) e k = counted p e (count_in (codes "pairs ") p.0) refl k
