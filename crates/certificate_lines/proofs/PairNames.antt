-- The names of states in a pair's line, and the places that are found by them.
use Rattle.std.proofs.Common.{◌≡◌, ◌≢◌, ℕ, ◌+◌, ◌<◌, Bool, true, false, cond, List, [], ◌∷◌, ◌++◌, length, get_or, map, Some, None, refl, sym, ap, ◌∙◌, subst, append_assoc, append-nil, arith}
use Rattle.std.specs.Prelude.{All, AllPairs, ◌==◌, nat_lt}
use Rattle.std.specs.List.{AllByRecursion, list_all, flat_map, position_or_len}
use Rattle.std.specs.Option.{option_map_or}
use Rattle.std.specs.Str.{bytes_eq}
use Rattle.std.proofs.lemmas.Bool.{lt-ltb, eq-eqb}
use Rattle.std.proofs.lemmas.List.Elements.{All-contains, All-from_recursion}
use Rattle.std.proofs.lemmas.List.Splits.{slice_split_none, slice_split_at}
use Rattle.std.proofs.lemmas.List.Sums.{position_or_len_is}
use Rattle.std.proofs.lemmas.Option.{get_or_from_slice_get}
use Rattle.std.proofs.lemmas.Slice.Eq.{bytes_eq-Decides}
use Rattle.tree_definitions.specs.Name.{is_name, IsName}
use Rattle.tree_definitions.specs.Relation.{IsAt}
use Rattle.tree_definitions.proofs.Members.{at_within, contains_at}
use Rattle.witness_trees.specs.Judged.{Is, pieces_at}
use Rattle.witness_trees.proofs.Symbols.{and_both}
use Rattle.witness_trees.proofs.Spelled.{IsFree, free_append, name_free}
use Rattle.certificate_lines.specs.Pairs.{state_name, state_in, state_then, states_in}

-- each place is that of a state
abbrev pub AreStates : List (List ℕ) → List ℕ → Type 0
AreStates names places = AllByRecursion (λ s. s < length names) places

name_at : (names : List (List ℕ)) (q : ℕ) (w : List ℕ) → IsAt names q w → state_name names q ≡ w
name_at names q w at = ap (λ o. option_map_or (λ name. name) o []) at

-- what stands for a state is a name
pub name_is : (names : List (List ℕ)) → All IsName names → (q : ℕ) → q < length names → IsName (state_name names q)
name_is names all q l =
    let a = at_within names q l in
    subst IsName (sym (name_at names q a.0 a.1)) (All-contains IsName names a.0 all (contains_at names q a.0 a.1))

-- the place that is found by a state's name is its own, among distinct names
pub place_back : (names : List (List ℕ)) → AllPairs ◌≢◌ names → (q : ℕ) → q < length names → state_in names (state_name names q) ≡ Some q
place_back names apart q l =
    ap (λ n. cond (nat_lt n (length names)) (Some n) None) first ∙ ap (λ b. cond b (Some q) None) (lt-ltb q (length names) l)
  where
    name : List ℕ
    name = state_name names q

    here : get_or names q name ≡ name
    here = let a = at_within names q l in get_or_from_slice_get names q a.0 name a.1 ∙ sym (name_at names q a.0 a.1)

    other : (k : ℕ) → k < q → (b : Bool) → bytes_eq name (get_or names k name) ≡ b → b ≡ false
    other k lt true e = absurd (apart k q name lt l (sym ((bytes_eq-Decides name (get_or names k name)).0 e) ∙ sym here))
    other k lt false e = refl

    first : position_or_len (bytes_eq name) names ≡ q
    first = position_or_len_is (bytes_eq name) names q name (omega (arith, l)) (λ k lt. other k lt (bytes_eq name (get_or names k name)) refl) (λ _. (bytes_eq-Decides name (get_or names q name)).1 (sym here))

-- the places that are found by states' names are their own
pub states_back : (names : List (List ℕ)) → AllPairs ◌≢◌ names → (at : ℕ) (read places : List ℕ) → AreStates names places → states_in names at read (map (state_name names) places) ≡ Is (read ++ places)
unfolding states_in
states_back names apart at read [] h = ap Is (sym (append-nil read))
states_back names apart at read (q ∷ qs) h =
    ap (state_then at (λ s. states_in names (at + length (state_name names q) + 1) (read ++ s ∷ []) (map (state_name names) qs))) (place_back names apart q h.0)
    ∙ states_back names apart (at + length (state_name names q) + 1) (read ++ q ∷ []) qs h.1
    ∙ ap Is (append_assoc read (q ∷ []) qs)

-- the names of states are names
pub all_names : (names : List (List ℕ)) → All IsName names → (places : List ℕ) → AreStates names places → list_all is_name (map (state_name names) places) ≡ true
all_names names all [] h = refl
all_names names all (q ∷ qs) h = and_both (is_name (state_name names q)) (list_all is_name (map (state_name names) qs)) (name_is names all q h.0) (all_names names all qs h.1)

-- no line feed stands in names with a space before each
pub names_free : (names : List (List ℕ)) → All IsName names → (places : List ℕ) → AreStates names places → IsFree 10 (flat_map (λ s. 32 ∷ state_name names s) places)
names_free names all [] h = tt
names_free names all (q ∷ qs) h = (refl, free_append 10 (state_name names q) (flat_map (λ s. 32 ∷ state_name names s) qs) (name_free 10 refl (state_name names q) (name_is names all q h.0)) (names_free names all qs h.1))

-- words with spaces between them
pub words_back : (names : List (List ℕ)) → All IsName names → (first : List ℕ) (places : List ℕ) → IsFree 32 first → AreStates names places
    → pieces_at 32 (first ++ flat_map (λ s. 32 ∷ state_name names s) places) ≡ first ∷ map (state_name names) places
words_back names all first [] free h = ap (pieces_at 32) (append-nil first) ∙ slice_split_none (λ b. b == 32) first (All-from_recursion _ first free)
words_back names all first (q ∷ qs) free h =
    slice_split_at (λ b. b == 32) first 32 (state_name names q ++ flat_map (λ s. 32 ∷ state_name names s) qs) (All-from_recursion _ first free) (eq-eqb 32 32 refl)
    ∙ ap (λ ws. first ∷ ws) (words_back names all (state_name names q) qs (name_free 32 refl (state_name names q) (name_is names all q h.0)) h.1)
