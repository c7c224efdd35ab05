-- The printed line of an entry, and how it is written.
use Rattle.std.proofs.Common.{◌≡◌, ℕ, suc, ◌+◌, ◌-◌, ◌^◌, ◌<◌, Bool, true, false, cond, ◌&&◌, List, [], ◌∷◌, ◌++◌, length, length-append, take, map, Option, Some, None, refl, sym, ap, ap₂, ◌∙◌, append_assoc, append-nil, arith}
use Rattle.std.specs.Prelude.{All, ◌==◌, nat_le, codes}
use Rattle.std.specs.List.{AllByRecursion, flat_map, list_all}
use Rattle.std.specs.Str.{bytes_eq}
use Rattle.std.proofs.Math.Seq.{take-append_seam}
use Rattle.std.proofs.lemmas.Bool.{le-leb, and_right}
use Rattle.std.proofs.lemmas.Slice.Eq.{bytes_eq-Decides}
use Rattle.tree_definitions.specs.Name.{IsName, is_name_byte}
use Rattle.tree_definitions.specs.Automaton.{Automaton}
use Rattle.tree_definitions.specs.Cover.{Pair, FitsPair}
use Rattle.ta_model.specs.Listing.{IsListed}
use Rattle.listed_pairs.specs.Members.{members}
use Rattle.witness_trees.specs.NodesText.{number_text}
use Rattle.witness_trees.specs.Judged.{◌>>=◌, is_nil, is_digit, is_number, number_of, cut_at, pieces_at}
use Rattle.witness_trees.proofs.Symbols.{and_both}
use Rattle.witness_trees.proofs.Spelled.{IsFree, AreSmall, free_append, name_free, number_free, cut_free, cut_nowhere, decimal_number, decimal_value, one_piece, next_piece}
use Rattle.certificate_lines.specs.Pairs.{state_name, pair_text, spelled_names, spelled_words}
use Rattle.certificate_lines.proofs.PairNames.{AreStates, name_is, all_names, names_free}
use Rattle.certificate_lines.proofs.PairSets.{members_within}
use Rattle.certificate_lines.proofs.Spaced.{colon_free, words_then, named_words}
use Rattle.down_entry_lines.specs.Entries.{children_text, WrittenEntry, RootLine, ChildLine, SplitLine, children_in, rule_of, rule_in, word_at, root_words, ends_with_child, child_words, ends_with_root, pair_words, split_words}

-- parts with a mark before each
pub marked_back : (c : ℕ) (write : ℕ → List ℕ) (first : List ℕ) (ks : List ℕ) → IsFree c first → AllByRecursion (λ k. IsFree c (write k)) ks → pieces_at c (first ++ flat_map (λ k. c ∷ write k) ks) ≡ first ∷ map write ks
marked_back c write first [] free all = ap (pieces_at c) (append-nil first) ∙ one_piece c first free
marked_back c write first (k ∷ ks) free all =
    next_piece c first (write k ++ flat_map (λ k. c ∷ write k) ks) free ∙ ap (λ ws. first ∷ ws) (marked_back c write (write k) ks all.0 all.1)

pub marked_free : (c d : ℕ) (write : ℕ → List ℕ) (ks : List ℕ) → (d == c) ≡ false → AllByRecursion (λ k. IsFree c (write k)) ks → IsFree c (flat_map (λ k. d ∷ write k) ks)
marked_free c d write [] other all = tt
marked_free c d write (k ∷ ks) other all = (other, free_append c (write k) (flat_map (λ k. d ∷ write k) ks) all.0 (marked_free c d write ks other all.1))

pub each_name_free : (c : ℕ) → is_name_byte c ≡ false → (names : List (List ℕ)) → All IsName names → (places : List ℕ) → AreStates names places → AllByRecursion (λ s. IsFree c (state_name names s)) places
each_name_free c bad names all [] h = tt
each_name_free c bad names all (q ∷ qs) h = (name_free c bad (state_name names q) (name_is names all q h.0), each_name_free c bad names all qs h.1)

pub each_number_free : (c : ℕ) → is_digit c ≡ false → (ks : List ℕ) → AreSmall ks → AllByRecursion (λ k. IsFree c (number_text k)) ks
each_number_free c bad [] h = tt
each_number_free c bad (k ∷ ks) h = (number_free c bad (suc k) h.0, each_number_free c bad ks h.1)

all_numbers : (ks : List ℕ) → AreSmall ks → list_all is_number (map number_text ks) ≡ true
all_numbers [] all = refl
all_numbers (k ∷ ks) all = and_both (is_number (number_text k)) (list_all is_number (map number_text ks)) (decimal_number (suc k) (omega arith) all.0) (all_numbers ks all.1)

all_values : (ks : List ℕ) → AreSmall ks → map number_of (map number_text ks) ≡ map suc ks
all_values [] all = refl
all_values (k ∷ ks) all = ap₂ (λ m ms. m ∷ ms) (decimal_value (suc k) all.0) (all_values ks all.1)

-- a symbol and children
module _ (names : List (List ℕ)) (all : All IsName names) (symbol : List ℕ) (is : IsName symbol) where
  children_back : (q : ℕ) (qs : List ℕ) → AreStates names (q ∷ qs) → children_in ((state_name names q ++ flat_map (λ s. 44 ∷ state_name names s) qs) ++ 41 ∷ []) ≡ Some (map (state_name names) (q ∷ qs))
  unfolding children_in
  children_back q qs h =
      let first = state_name names q in
      let inner = first ++ flat_map (λ s. 44 ∷ state_name names s) qs in
      let free : IsFree 41 inner =
      free_append 41 first (flat_map (λ s. 44 ∷ state_name names s) qs) (name_free 41 refl first (name_is names all q h.0)) (marked_free 41 44 (state_name names) qs refl (each_name_free 41 refl names all qs h.1)) in
      ap (λ o. o >>= λ p. cond (is_nil p.1) (spelled_names (pieces_at 44 p.0)) None) (cut_free 41 inner [] free)
      ∙ ap spelled_names (marked_back 44 (state_name names) first qs (name_free 44 refl first (name_is names all q h.0)) (each_name_free 44 refl names all qs h.1))
      ∙ ap (λ b. cond b (Some (map (state_name names) (q ∷ qs))) None) (all_names names all (q ∷ qs) h)

  pub rule_back : (kids : List ℕ) → AreStates names kids → rule_in (symbol ++ children_text names kids) ≡ Some (symbol, map (state_name names) kids)
  unfolding rule_in
  rule_back [] h =
      ap (λ bytes. rule_of bytes (cut_at 40 bytes)) (append-nil symbol) ∙ ap (rule_of symbol) (cut_nowhere 40 symbol (name_free 40 refl symbol is)) ∙ ap (λ t. cond t (Some (symbol, [])) None) is
  rule_back (q ∷ qs) h =
      let inner = state_name names q ++ flat_map (λ s. 44 ∷ state_name names s) qs in
      ap (rule_of (symbol ++ children_text names (q ∷ qs))) (cut_free 40 symbol (inner ++ 41 ∷ []) (name_free 40 refl symbol is))
      ∙ ap (λ t. cond t (children_in (inner ++ 41 ∷ []) >>= λ children. Some (symbol, children)) None) is
      ∙ ap (λ o. o >>= λ children. Some (symbol, children)) (children_back q qs h)

  pub rule_free : (c : ℕ) → is_name_byte c ≡ false → (44 == c) ≡ false → (40 == c) ≡ false → (41 == c) ≡ false → (kids : List ℕ) → AreStates names kids → IsFree c (symbol ++ children_text names kids)
  rule_free c bad comma left right [] h = free_append c symbol [] (name_free c bad symbol is) tt
  rule_free c bad comma left right (q ∷ qs) h =
      let first = state_name names q in
      let inner = first ++ flat_map (λ s. 44 ∷ state_name names s) qs in
      let free : IsFree c inner = free_append c first (flat_map (λ s. 44 ∷ state_name names s) qs) (name_free c bad first (name_is names all q h.0)) (marked_free c 44 (state_name names) qs comma (each_name_free c bad names all qs h.1)) in
      free_append c symbol (children_text names (q ∷ qs)) (name_free c bad symbol is) (left, free_append c inner (41 ∷ []) free (right, tt))

-- words behind a front
word_after : (front tail : List (List ℕ)) (i : ℕ) → word_at (front ++ tail) (length front + i) ≡ word_at tail i
word_after [] tail i = let e : 0 + i ≡ i = omega arith in ap (word_at tail) e
word_after (x ∷ front) tail i =
    let e : length (x ∷ front) + i ≡ suc (length front + i) = omega arith in
    ap (word_at (x ∷ front ++ tail)) e ∙ word_after front tail i

at_tail : (front tail : List (List ℕ)) (n i : ℕ) → n ≡ length front + i → word_at (front ++ tail) n ≡ word_at tail i
at_tail front tail n i e = ap (word_at (front ++ tail)) e ∙ word_after front tail i

taken : (front tail : List (List ℕ)) (n : ℕ) → n ≡ length front → take n (front ++ tail) ≡ front
taken front tail n e = ap (λ k. take k (front ++ tail)) e ∙ take-append_seam front tail

not_root : (k : ℕ) → suc k < 2 ^ 64 → (b : Bool) → bytes_eq (number_text k) (codes "root") ≡ b → b ≡ false
not_root k small true e =
    let is : number_text k ≡ codes "root" = (bytes_eq-Decides (number_text k) (codes "root")).0 e in
    let wrong : false ≡ true = ap is_number (sym is) ∙ decimal_number (suc k) (omega arith) small in
    absurd cc
not_root k small false e = refl

module _ (front : List (List ℕ)) (state : List ℕ) (names : List (List ℕ)) (pair : spelled_words front ≡ Some (state, names)) where
  -- the words of a pair to begin with
  pub root_back : pair_words (front ++ (58 ∷ []) ∷ codes "root" ∷ []) ≡ Some (RootLine state names)
  unfolding root_words
  root_back =
      let long = length-append front tail in
      let last : word_at words (length words - 1) ≡ codes "root" = at_tail front tail (length words - 1) 1 (omega (arith, long)) in
      let mark : word_at words (length words - 2) ≡ 58 ∷ [] = at_tail front tail (length words - 2) 0 (omega (arith, long)) in
      let first : take (length words - 2) words ≡ front = taken front tail (length words - 2) (omega (arith, long)) in
      let ends : ends_with_root words ≡ true = and_both (nat_le 1 (length words)) (bytes_eq (word_at words (length words - 1)) (codes "root")) (le-leb 1 (length words) (omega (arith, long))) (ap (λ w. bytes_eq w (codes "root")) last) in
      let marks : (nat_le 2 (length words) && bytes_eq (word_at words (length words - 2)) (codes ":")) ≡ true =
      and_both (nat_le 2 (length words)) (bytes_eq (word_at words (length words - 2)) (codes ":")) (le-leb 2 (length words) (omega (arith, long))) (ap (λ w. bytes_eq w (codes ":")) mark) in
      ap (λ b. cond b (root_words words) (child_words words)) ends
      ∙ ap (λ b. cond b (spelled_words (take (length words - 2) words) >>= made) None) marks
      ∙ ap (λ ws. spelled_words ws >>= made) first
      ∙ ap (λ o. o >>= made) pair
    where
      tail : List (List ℕ)
      tail = (58 ∷ []) ∷ codes "root" ∷ []

      words : List (List ℕ)
      words = front ++ tail

      made : List ℕ × List (List ℕ) → Option WrittenEntry
      made p = Some (RootLine p.0 p.1)

  -- the words of a child's pair
  pub child_back : (split place : ℕ) → suc split < 2 ^ 64 → suc place < 2 ^ 64 → pair_words (front ++ (58 ∷ []) ∷ codes "child" ∷ number_text split ∷ number_text place ∷ []) ≡ Some (ChildLine state names (suc split) (suc place))
  unfolding child_words
  child_back split place few small =
      let long = length-append front tail in
      let last : word_at words (length words - 1) ≡ number_text place = at_tail front tail (length words - 1) 3 (omega (arith, long)) in
      let third : word_at words (length words - 2) ≡ number_text split = at_tail front tail (length words - 2) 2 (omega (arith, long)) in
      let second : word_at words (length words - 3) ≡ codes "child" = at_tail front tail (length words - 3) 1 (omega (arith, long)) in
      let mark : word_at words (length words - 4) ≡ 58 ∷ [] = at_tail front tail (length words - 4) 0 (omega (arith, long)) in
      let first : take (length words - 4) words ≡ front = taken front tail (length words - 4) (omega (arith, long)) in
      let other : ends_with_root words ≡ false =
      and_right (nat_le 1 (length words)) (bytes_eq (word_at words (length words - 1)) (codes "root")) (ap (λ w. bytes_eq w (codes "root")) last ∙ not_root place small (bytes_eq (number_text place) (codes "root")) refl) in
      let numbers = and_both (is_number (word_at words (length words - 2))) (is_number (word_at words (length words - 1)))
      (ap is_number third ∙ decimal_number (suc split) (omega arith) few) (ap is_number last ∙ decimal_number (suc place) (omega arith) small) in
      let named = and_both (bytes_eq (word_at words (length words - 3)) (codes "child")) (is_number (word_at words (length words - 2)) && is_number (word_at words (length words - 1))) (ap (λ w. bytes_eq w (codes "child")) second) numbers in
      let marked = and_both (bytes_eq (word_at words (length words - 4)) (codes ":")) (bytes_eq (word_at words (length words - 3)) (codes "child") && (is_number (word_at words (length words - 2)) && is_number (word_at words (length words - 1))))
      (ap (λ w. bytes_eq w (codes ":")) mark) named in
      let ends : ends_with_child words ≡ true = and_both (nat_le 4 (length words))
      (bytes_eq (word_at words (length words - 4)) (codes ":") && (bytes_eq (word_at words (length words - 3)) (codes "child") && (is_number (word_at words (length words - 2)) && is_number (word_at words (length words - 1)))))
      (le-leb 4 (length words) (omega (arith, long))) marked in
      ap (λ b. cond b (root_words words) (child_words words)) other
      ∙ ap (λ b. cond b (spelled_words (take (length words - 4) words) >>= made (number_of (word_at words (length words - 2))) (number_of (word_at words (length words - 1)))) None) ends
      ∙ ap₂ (λ ws n. spelled_words ws >>= made n (number_of (word_at words (length words - 1)))) first (ap number_of third ∙ decimal_value (suc split) few)
      ∙ ap₂ (λ o n. o >>= made (suc split) n) pair (ap number_of last ∙ decimal_value (suc place) small)
    where
      tail : List (List ℕ)
      tail = (58 ∷ []) ∷ codes "child" ∷ number_text split ∷ number_text place ∷ []

      words : List (List ℕ)
      words = front ++ tail

      made : ℕ → ℕ → List ℕ × List (List ℕ) → Option WrittenEntry
      made n m p = Some (ChildLine p.0 p.1 n m)

-- the words of a split
pub split_back : (e : ℕ) (rule symbol : List ℕ) (children : List (List ℕ)) (choice : List ℕ) → suc e < 2 ^ 64 → AreSmall choice → rule_in rule ≡ Some (symbol, children)
    → split_words (number_text e ∷ (58 ∷ []) ∷ rule ∷ (58 ∷ []) ∷ map number_text choice) ≡ Some (SplitLine (suc e) (length (number_text e) + 9) symbol children (map suc choice))
unfolding split_words
split_back e rule symbol children choice few small is =
    ap (λ b. cond b (rule_in rule >>= made (number_of number) (map number_of (map number_text choice))) None)
    (and_both (is_number number) (list_all is_number (map number_text choice)) (decimal_number (suc e) (omega arith) few) (all_numbers choice small))
    ∙ ap (λ o. o >>= made (number_of number) (map number_of (map number_text choice))) is
    ∙ ap₂ (λ n ms. made n ms (symbol, children)) (decimal_value (suc e) few) (all_values choice small)
  where
    number : List ℕ
    number = number_text e

    made : ℕ → List ℕ → List ℕ × List (List ℕ) → Option WrittenEntry
    made n ms p = Some (SplitLine n (length number + 9) p.0 p.1 ms)

-- a pair in a line
module _ (A B : Automaton) (ours : IsListed A) (theirs : IsListed B) (pair : Pair) (fits : FitsPair A B pair) where
  abbrev pub state : List ℕ
  state = state_name A.states pair.state

  abbrev pub names : List (List ℕ)
  names = map (state_name B.states) (members pair.set)

  pub member_states : AreStates B.states (members pair.set)
  member_states = let size = fits.set in members_within (length B.states) 0 pair.set (omega (arith, size))

  state_is : IsName (state_name A.states pair.state)
  state_is = name_is A.states ours.state_names pair.state fits.state

  pub pair_free : IsFree 10 (pair_text A B pair)
  pair_free =
      free_append 10 (state ++ codes " :") (flat_map (λ s. 32 ∷ state_name B.states s) (members pair.set))
      (free_append 10 state (codes " :") (name_free 10 refl state state_is) (refl, (refl, tt))) (names_free B.states theirs.state_names (members pair.set) member_states)

  pub pair_pieces : (rest : List ℕ) → pieces_at 32 (pair_text A B pair ++ 32 ∷ 58 ∷ 32 ∷ rest) ≡ (state ∷ (58 ∷ []) ∷ names) ++ (58 ∷ []) ∷ pieces_at 32 rest
  pair_pieces rest =
      let others = flat_map (λ s. 32 ∷ state_name B.states s) (members pair.set) in
      ap (pieces_at 32) (ap (λ xs. xs ++ 32 ∷ 58 ∷ 32 ∷ rest) (append_assoc state (codes " :") others) ∙ append_assoc state (32 ∷ 58 ∷ others) (32 ∷ 58 ∷ 32 ∷ rest))
      ∙ next_piece 32 state ((58 ∷ others) ++ 32 ∷ 58 ∷ 32 ∷ rest) (name_free 32 refl state state_is)
      ∙ ap (λ ws. state ∷ ws) (words_then B.states theirs.state_names (58 ∷ []) (members pair.set) (58 ∷ 32 ∷ rest) colon_free member_states)
      ∙ ap (λ ws. state ∷ (58 ∷ []) ∷ names ++ ws) (next_piece 32 (58 ∷ []) rest colon_free)

  pub pair_named_words : spelled_words (state ∷ (58 ∷ []) ∷ names) ≡ Some (state, names)
  pair_named_words = named_words B.states theirs.state_names state (members pair.set) state_is member_states
