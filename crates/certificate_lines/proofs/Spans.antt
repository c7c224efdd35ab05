-- The words of a line, and how many bytes they take.
use Rattle.std.proofs.Common.{◌≡◌, ℕ, zero, suc, ◌+◌, ◌<◌, ◌≤◌, Bool, true, false, cond, ◌&&◌, List, [], ◌∷◌, length, length-append, take, map, Bor, Option, Some, None, refl, sym, ap, ◌∙◌, arith}
use Rattle.std.specs.Prelude.{◌==◌}
use Rattle.std.specs.List.{list_all, join_with_byte}
use Rattle.std.specs.Str.{bytes_eq}
use Rattle.std.proofs.lemmas.List.Splits.{join_with_byte-slice_split, length-slice_split}
use Rattle.std.proofs.lemmas.Slice.Eq.{bytes_eq-Decides}
use Rattle.tree_definitions.specs.Name.{is_name}
use Rattle.witness_trees.specs.Judged.{pieces_at}
use Rattle.witness_trees.proofs.Symbols.{and_parts}
use Rattle.certificate_lines.specs.Pairs.{spelled_words, state_and_names}
use Rattle.certificate_lines.specs.Telling.{span}

-- the words that are spelled as those of a pair
pub record AreOfPair (words : List (List ℕ)) (state : List ℕ) (names : List (List ℕ)) : Type 0 where
  pub parts : words ≡ state ∷ (58 ∷ []) ∷ names
  pub named : is_name state ≡ true
  pub all_named : list_all is_name names ≡ true

pub spelled_means : (words : List (List ℕ)) (state : List ℕ) (names : List (List ℕ)) → spelled_words words ≡ Some (state, names) → AreOfPair words state names
spelled_means [] state names h = absurd cc
spelled_means (s ∷ []) state names h = absurd cc
spelled_means (s ∷ c ∷ ws) state names h = worded (list_all is_name ws) refl h
  where
    both : (b : Bool) → (is_name s && bytes_eq c (58 ∷ [])) ≡ b → list_all is_name ws ≡ true → cond {A = Option (List ℕ × List (List ℕ))} b (Some (s, ws)) None ≡ Some (state, names) → AreOfPair (s ∷ c ∷ ws) state names
    both true e all k =
        let pair : ◌≡◌ {A = List ℕ × List (List ℕ)} (s, ws) (state, names) = cc in
        let first : s ≡ state = ap (λ (p : List ℕ × List (List ℕ)). p.0) pair in
        let others : ws ≡ names = ap (λ (p : List ℕ × List (List ℕ)). p.1) pair in
        let parts = and_parts (is_name s) (bytes_eq c (58 ∷ [])) e in
        let colon : c ≡ 58 ∷ [] = (bytes_eq-Decides c (58 ∷ [])).0 parts.1 in
        record {
          parts = λ i. first i ∷ colon i ∷ others i;
          named = ap is_name (sym first) ∙ parts.0;
          all_named = ap (list_all is_name) (sym others) ∙ all;
        }
    both false e all k = absurd cc

    worded : (b : Bool) → list_all is_name ws ≡ b → state_and_names s (is_name s && bytes_eq c (58 ∷ [])) (cond b (Some ws) None) ≡ Some (state, names) → AreOfPair (s ∷ c ∷ ws) state names
    worded true e k = both (is_name s && bytes_eq c (58 ∷ [])) refl e k
    worded false e k = absurd cc

span_joined : (mark : ℕ) (w : List ℕ) (ws : List (List ℕ)) → span (w ∷ ws) ≡ length (join_with_byte mark (w ∷ ws)) + 1
span_joined mark w [] = let e : length w + 1 + 0 ≡ length w + 1 = omega arith in e
span_joined mark w (v ∷ ws) =
    let rest = span_joined mark v ws in
    let long = length-append w (mark ∷ join_with_byte mark (v ∷ ws)) in
    omega (arith, rest, long)

-- the pieces of a line take one byte more than it
pub pieces_span : (mark : ℕ) (line : List ℕ) → span (pieces_at mark line) ≡ length line + 1
pieces_span mark line = go (pieces_at mark line) (omega (arith, length-slice_split (λ b. b == mark) line)) (join_with_byte-slice_split mark line)
  where
    go : (words : List (List ℕ)) → 0 < length words → join_with_byte mark words ≡ line → span words ≡ length line + 1
    go [] some e = absurd (omega arith)
    go (w ∷ ws) some e = span_joined mark w ws ∙ ap (λ xs. length xs + 1) e

front_span : (words : List (Bor (List ℕ))) (k : ℕ) → span (map (λ x. x.now) (take k words)) ≤ span (map (λ x. x.now) words)
front_span words zero = omega arith
front_span [] (suc k) = omega arith
front_span (w ∷ ws) (suc k) = let rest = front_span ws k in omega (arith, rest)

-- the words of a pair at the front of a line
pub pair_span : (line state : List ℕ) (names : List (List ℕ)) (words : List (Bor (List ℕ))) (k : ℕ) → map (λ x. x.now) words ≡ pieces_at 32 line → spelled_words (map (λ x. x.now) (take k words)) ≡ Some (state, names)
    → length state + 3 + span names ≤ length line + 1
pair_span line state names words k whole said =
    let m = spelled_means (map (λ x. x.now) (take k words)) state names said in
    let wide : span (map (λ x. x.now) (take k words)) ≡ length state + 1 + (1 + 1 + span names) = ap span m.parts in
    let front = front_span words k in
    let all = ap span whole in
    let line_wide = pieces_span 32 line in
    omega (arith, wide, front, all, line_wide)
