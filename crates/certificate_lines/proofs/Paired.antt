-- What is said of the lines of pairs.
use Rattle.std.proofs.Common.{◌≡◌, ℕ, ◌+◌, ◌-◌, ◌<◌, ◌≤◌, Bool, true, false, cond, ◌&&◌, List, [], ◌∷◌, ◌++◌, length, length-append, take, drop, Option, Some, None, refl, sym, ap, ◌∙◌, subst, arith}
use Rattle.std.specs.Prelude.{All, codes}
use Rattle.std.specs.List.{list_all, join_with_byte}
use Rattle.std.specs.Str.{bytes_eq}
use Rattle.std.proofs.lemmas.Bool.{le-leb, lt-leb}
use Rattle.std.proofs.lemmas.List.{length-take-le, take_rest}
use Rattle.std.proofs.lemmas.List.Elements.{All-nil, All-push}
use Rattle.std.proofs.lemmas.List.Quantifiers.{position-Some}
use Rattle.std.proofs.lemmas.List.Splits.{join_with_byte-slice_split}
use Rattle.std.proofs.lemmas.Slice.Eq.{bytes_eq-Decides}
use Rattle.tree_definitions.specs.Automaton.{Automaton}
use Rattle.tree_definitions.specs.Cover.{Pair}
use Rattle.tree_definitions.specs.Name.{is_name}
use Rattle.witness_trees.specs.Judged.{Verdict, Is, BadAt, then_judged, cut_at, pieces_at}
use Rattle.certificate_lines.specs.Lines.{Piece, line_then, lines_in, count_in, end_at}
use Rattle.certificate_lines.specs.Pairs.{state_in, state_then, states_in, spelled_words, state_and_names, pair_in, counted_pairs, pairs_in}
use Rattle.certificate_lines.specs.Telling.{span}

-- what is found is a place of the list
pub states_within : (names : List (List ℕ)) (at : ℕ) (read : List ℕ) (words : List (List ℕ)) (places : List ℕ) → All (λ s. s < length names) read → states_in names at read words ≡ Is places → All (λ s. s < length names) places
unfolding states_in
states_within names at read [] places within h = let same : read ≡ places = cc in subst (All (λ s. s < length names)) same within
states_within names at read (w ∷ ws) places within h = go (state_in names w) refl h (λ q l. states_within names (at + length w + 1) (read ++ q ∷ []) ws places (All-push (λ s. s < length names) read q within l))
  where
    go : (o : Option ℕ) → state_in names w ≡ o → state_then at (λ q. states_in names (at + length w + 1) (read ++ q ∷ []) ws) o ≡ Is places
        → ((q : ℕ) → q < length names → states_in names (at + length w + 1) (read ++ q ∷ []) ws ≡ Is places → All (λ s. s < length names) places) → All (λ s. s < length names) places
    go None e k more = absurd cc
    go (Some q) e k more = more q (position-Some (bytes_eq w) names q w e).0 k

pub no_places : (n : ℕ) → All (λ s. s < n) []
no_places n = All-nil (λ s. s < n)

span_joined : (w : List ℕ) (ws : List (List ℕ)) → span (w ∷ ws) ≡ length (join_with_byte 32 (w ∷ ws)) + 1
span_joined w [] = let e : length w + 1 + 0 ≡ length w + 1 = omega arith in e
span_joined w (v ∷ ws) =
    let rest = span_joined v ws in
    let long = length-append w (32 ∷ join_with_byte 32 (v ∷ ws)) in
    omega (arith, rest, long)

-- the words of a line take as many bytes as it has
pub words_span : (line state : List ℕ) (names : List (List ℕ)) → spelled_words (pieces_at 32 line) ≡ Some (state, names) → length state + 3 + span names ≡ length line + 1
words_span line state names h = go (pieces_at 32 line) h (join_with_byte-slice_split 32 line)
  where
    Right : List ℕ → List (List ℕ) → Type 0
    Right s ns = length s + 3 + span ns ≡ length line + 1

    both : (a b : Bool) → (a && b) ≡ true → b ≡ true
    both true b e = e
    both false b e = absurd cc

    colon : (s c : List ℕ) (ws : List (List ℕ)) (b : Bool) → (is_name s && bytes_eq c (58 ∷ [])) ≡ b → cond {A = Option (List ℕ × List (List ℕ))} b (Some (s, ws)) None ≡ Some (state, names) → join_with_byte 32 (s ∷ c ∷ ws) ≡ line → Right state names
    colon s c ws true e k whole =
        let pair : ◌≡◌ {A = List ℕ × List (List ℕ)} (s, ws) (state, names) = cc in
        let first : s ≡ state = ap (λ (p : List ℕ × List (List ℕ)). p.0) pair in
        let others : ws ≡ names = ap (λ (p : List ℕ × List (List ℕ)). p.1) pair in
        let one = ap length ((bytes_eq-Decides c (58 ∷ [])).0 (both (is_name s) (bytes_eq c (58 ∷ [])) e)) in
        let long = span_joined s (c ∷ ws) in
        let size = ap length whole in
        let here : length s + 3 + span ws ≡ length line + 1 = omega (arith, one, long, size) in
        subst (λ x. Right x names) first (subst (Right s) others here)
    colon s c ws false e k whole = absurd cc

    worded : (s c : List ℕ) (ws : List (List ℕ)) (b : Bool) → list_all is_name ws ≡ b → state_and_names s (is_name s && bytes_eq c (58 ∷ [])) (cond b (Some ws) None) ≡ Some (state, names) → join_with_byte 32 (s ∷ c ∷ ws) ≡ line → Right state names
    worded s c ws true e k whole = colon s c ws (is_name s && bytes_eq c (58 ∷ [])) refl k whole
    worded s c ws false e k whole = absurd cc

    go : (words : List (List ℕ)) → spelled_words words ≡ Some (state, names) → join_with_byte 32 words ≡ line → Right state names
    go [] k whole = absurd cc
    go (s ∷ []) k whole = absurd cc
    go (s ∷ c ∷ ws) k whole = worded s c ws (list_all is_name ws) refl k whole

module _ (text : List ℕ) (piece : Piece (List Pair)) where
  pub ends_right : length text ≤ piece.after → end_at text piece ≡ Is piece.value
  ends_right le = ap (λ b. cond b (Is piece.value) (BadAt piece.after)) (le-leb (length text) piece.after le)

  pub ends_early : piece.after < length text → end_at text piece ≡ BadAt piece.after
  ends_early lt = ap (λ b. cond b (Is piece.value) (BadAt piece.after)) (lt-leb (length text) piece.after lt)

pub pairs_judged : (A B : Automaton) (text : List ℕ) (at end : ℕ) (line : List ℕ) (due : ℕ) (piece : Piece (List Pair))
    → end < length (take (length text - at) (drop at text))
    → cut_at 10 (take (length text - at) (drop at text)) ≡ Some (take end (take (length text - at) (drop at text)), drop (end + 1) (take (length text - at) (drop at text)))
    → line ≡ take (at + end - at) (drop at text) → Some due ≡ count_in (codes "pairs ") line → lines_in (pair_in A B) text due (at + end + 1) [] ≡ Is piece → pairs_in A B text at ≡ end_at text piece
unfolding pairs_in
pairs_judged A B text at end line due piece inside cut is said lines =
    let whole = take_rest text at in
    let size : end ≡ at + end - at = omega arith in
    let is_line : take end (take (length text - at) (drop at text)) ≡ line = ap (take end) whole ∙ ap (λ n. take n (drop at text)) size ∙ sym is in
    let long : length line ≡ end = ap length (sym is_line) ∙ length-take-le end (take (length text - at) (drop at text)) (omega (arith, inside)) in
    let after : at + length line + 1 ≡ at + end + 1 = omega (arith, long) in
    let next : List ℕ → Verdict (List Pair) = λ l. counted_pairs A B text at l (count_in (codes "pairs ") l) in
    ap (line_then at next) (ap (cut_at 10) (sym whole) ∙ cut)
    ∙ ap next is_line
    ∙ ap (counted_pairs A B text at line) (sym said)
    ∙ ap (λ n. then_judged (lines_in (pair_in A B) text due n []) (end_at text)) after
    ∙ ap (λ v. then_judged v (end_at text)) lines
