-- Words with spaces before them.
use Rattle.std.proofs.Common.{◌≡◌, ℕ, cond, List, [], ◌∷◌, ◌++◌, length, map, Some, None, refl, ap, ◌∙◌, append_assoc, append-nil}
use Rattle.std.specs.Prelude.{All, ◌&&◌, ◌==◌, slice_index_or}
use Rattle.std.specs.List.{flat_map}
use Rattle.std.specs.Str.{bytes_eq}
use Rattle.std.proofs.lemmas.Bool.{eq-eqb}
use Rattle.std.proofs.lemmas.List.Elements.{All-from_recursion}
use Rattle.std.proofs.lemmas.List.Splits.{slice_split_at}
use Rattle.tree_definitions.specs.Name.{IsName, is_name}
use Rattle.witness_trees.specs.Judged.{pieces_at}
use Rattle.witness_trees.proofs.Symbols.{and_both}
use Rattle.witness_trees.proofs.Spelled.{IsFree, name_free}
use Rattle.certificate_lines.specs.Pairs.{state_name, spelled_words, state_and_names}
use Rattle.certificate_lines.proofs.PairNames.{AreStates, name_is, all_names}

pub colon_free : IsFree 32 (58 ∷ [])
colon_free = (refl, tt)

-- words with a space before each, and what stands behind them
pub words_then : (names : List (List ℕ)) → All IsName names → (first : List ℕ) (places : List ℕ) (rest : List ℕ) → IsFree 32 first → AreStates names places
    → pieces_at 32 ((first ++ flat_map (λ s. 32 ∷ state_name names s) places) ++ 32 ∷ rest) ≡ first ∷ map (state_name names) places ++ pieces_at 32 rest
words_then names all first [] rest free h =
    ap (λ xs. pieces_at 32 (xs ++ 32 ∷ rest)) (append-nil first) ∙ slice_split_at (λ b. b == 32) first 32 rest (All-from_recursion _ first free) (eq-eqb 32 32 refl)
words_then names all first (q ∷ qs) rest free h =
    let others = flat_map (λ s. 32 ∷ state_name names s) qs in
    ap (pieces_at 32) (append_assoc first (32 ∷ (state_name names q ++ others)) (32 ∷ rest))
    ∙ slice_split_at (λ b. b == 32) first 32 ((state_name names q ++ others) ++ 32 ∷ rest) (All-from_recursion _ first free) (eq-eqb 32 32 refl)
    ∙ ap (λ ws. first ∷ ws) (words_then names all (state_name names q) qs rest (name_free 32 refl (state_name names q) (name_is names all q h.0)) h.1)

-- the words behind a front
pub word_behind : (front rest : List (List ℕ)) (w : List ℕ) → slice_index_or (front ++ w ∷ rest) (length front) [] ≡ w
word_behind [] rest w = refl
word_behind (x ∷ front) rest w = word_behind front rest w

-- the words of a pair
pub named_words : (names : List (List ℕ)) → All IsName names → (state : List ℕ) (places : List ℕ) → IsName state → AreStates names places
    → spelled_words (state ∷ (58 ∷ []) ∷ map (state_name names) places) ≡ Some (state, map (state_name names) places)
named_words names all state places is h =
    ap (λ b. state_and_names state (is_name state && bytes_eq (58 ∷ []) (58 ∷ [])) (cond b (Some (map (state_name names) places)) None)) (all_names names all places h)
    ∙ ap (λ b. state_and_names state b (Some (map (state_name names) places))) (and_both (is_name state) (bytes_eq (58 ∷ []) (58 ∷ [])) is refl)
