-- The printed line of an entry, and how it is written.
use Rattle.std.proofs.Common.{◌≡◌, ℕ, suc, ◌+◌, ◌-◌, ◌^◌, ◌<◌, Bool, true, false, cond, ◌&&◌, List, [], ◌∷◌, ◌++◌, length, length-append, take, map, Option, Some, None, refl, sym, ap, ap₂, ◌∙◌, subst, append_assoc, arith}
use Rattle.std.specs.Prelude.{◌==◌, codes}
use Rattle.std.specs.List.{flat_map}
use Rattle.std.specs.Str.{bytes_eq}
use Rattle.std.proofs.Math.Seq.{take-append_seam}
use Rattle.std.proofs.lemmas.Bool.{eq-eqb, le-leb}
use Rattle.std.proofs.lemmas.List.Elements.{All-from_recursion, recursion_from_All, All-contains}
use Rattle.std.proofs.lemmas.List.Splits.{slice_split_none, slice_split_at}
use Rattle.tree_definitions.specs.Name.{IsName}
use Rattle.tree_definitions.specs.Tree.{Symbol}
use Rattle.tree_definitions.specs.Automaton.{Automaton}
use Rattle.tree_definitions.specs.Relation.{IsAt}
use Rattle.tree_definitions.specs.UpTrail.{UpEntry}
use Rattle.tree_definitions.proofs.Listing.{at_number}
use Rattle.tree_definitions.proofs.Members.{contains_at}
use Rattle.ta_model.specs.Listing.{IsListed}
use Rattle.listed_pairs.specs.Members.{members}
use Rattle.witness_trees.specs.NodesText.{name_at, number_text, kids_text}
use Rattle.witness_trees.specs.Judged.{◌>>=◌, is_digit, pieces_at, call_in}
use Rattle.witness_trees.proofs.Spelled.{IsFree, AreSmall, free_append, name_free, inner_free, call_back, name_found, small_earlier}
use Rattle.certificate_lines.specs.Pairs.{state_name, pair_text, spelled_words}
use Rattle.certificate_lines.proofs.PairNames.{AreStates, name_is, names_free}
use Rattle.certificate_lines.proofs.PairSets.{members_within}
use Rattle.certificate_lines.proofs.Spaced.{colon_free, words_then, word_behind, named_words}
use Rattle.entry_lines.specs.Entries.{entry_text, WrittenEntry, word_at, written_words, entry_written}
use Rattle.certificate_kinds.specs.Fitting.{FitsUpEntry}

-- no mark stands in numbers of children
kids_free : (c : ℕ) → is_digit c ≡ false → (44 == c) ≡ false → (40 == c) ≡ false → (41 == c) ≡ false → (ks : List ℕ) → AreSmall ks → IsFree c (kids_text ks)
kids_free c digit comma left right [] all = tt
kids_free c digit comma left right (k ∷ ks) all = (left, free_append c (number_text k ++ flat_map (λ j. 44 ∷ number_text j) ks) (41 ∷ []) (inner_free c digit comma k ks all.0 all.1) (right, tt))

next_word : (front : List (List ℕ)) (w v : List ℕ) → word_at (front ++ w ∷ v ∷ []) (length front + 1) ≡ v
next_word front w v =
    let long = length-append front (w ∷ []) in
    let e : length front + 1 ≡ length (front ++ w ∷ []) = omega (arith, long) in
    ap₂ word_at (sym (append_assoc front (w ∷ []) (v ∷ []))) e ∙ word_behind (front ++ w ∷ []) [] v

-- words that end with a colon and a call
words_written : (size : ℕ) (front : List (List ℕ)) (call state name : List ℕ) (members : List (List ℕ)) (kids : List ℕ) → spelled_words front ≡ Some (state, members) → call_in call ≡ Some (name, kids)
    → written_words size (front ++ (58 ∷ []) ∷ call ∷ []) ≡ Some (record { state = state; members = members; place = size - length call; name = name; kids = kids })
words_written size front call state name members kids pair called =
    let long = length-append front ((58 ∷ []) ∷ call ∷ []) in
    let second : length words - 2 ≡ length front = omega (arith, long) in
    let last : length words - 1 ≡ length front + 1 = omega (arith, long) in
    ap (λ b. said b (word_at words (length words - 2)) (take (length words - 2) words) (word_at words (length words - 1))) (le-leb 2 (length words) (omega (arith, long)))
    ∙ ap₂ (λ n m. said true (word_at words n) (take n words) (word_at words m)) second last
    ∙ ap₂ (λ w v. said true w (take (length front) words) v) (word_behind front (call ∷ []) (58 ∷ [])) (next_word front (58 ∷ []) call)
    ∙ ap (λ ws. said true (58 ∷ []) ws call) (take-append_seam front ((58 ∷ []) ∷ call ∷ []))
    ∙ ap (λ o. o >>= λ p. call_in call >>= λ c. Some (made p c call)) pair
    ∙ ap (λ o. o >>= λ c. Some (made (state, members) c call)) called
  where
    words : List (List ℕ)
    words = front ++ (58 ∷ []) ∷ call ∷ []

    made : List ℕ × List (List ℕ) → List ℕ × List ℕ → List ℕ → WrittenEntry
    made p c call = record { state = p.0; members = p.1; place = size - length call; name = c.0; kids = c.1 }

    said : Bool → List ℕ → List (List ℕ) → List ℕ → Option WrittenEntry
    said b mark front call = cond (b && bytes_eq mark (58 ∷ [])) (spelled_words front >>= λ p. call_in call >>= λ c. Some (made p c call)) None

module _ (A B : Automaton) (ours : IsListed A) (theirs : IsListed B) (k : ℕ) (small : suc k < 2 ^ 64) (entry : UpEntry) (fits : FitsUpEntry A B k entry) where
  abbrev pub state : List ℕ
  state = state_name A.states entry.pair.state

  abbrev pub names : List (List ℕ)
  names = map (state_name B.states) (members entry.pair.set)

  abbrev pub symbol : List ℕ
  symbol = name_at A.symbols entry.symbol

  pub member_states : AreStates B.states (members entry.pair.set)
  member_states = let size = fits.pair.set in members_within (length B.states) 0 entry.pair.set (omega (arith, size))

  state_is : IsName (state_name A.states entry.pair.state)
  state_is = name_is A.states ours.state_names entry.pair.state fits.pair.state

  pub stands : IsAt A.symbols entry.symbol fits.symbol.0
  stands = at_number A.bits A.symbols entry.symbol fits.symbol.0 ours.narrow fits.symbol.1

  symbol_is : IsName (name_at A.symbols entry.symbol)
  symbol_is =
      let a = fits.symbol.0 in
      let at = stands in
      subst IsName (sym (name_found A.symbols entry.symbol a at)) (All-contains (λ (x : Symbol). IsName x.name) A.symbols a ours.symbol_names (contains_at A.symbols entry.symbol a at))

  small_kids : AreSmall entry.kids
  small_kids = small_earlier k small entry.kids (recursion_from_All (λ j. j < k) entry.kids fits.earlier)

  -- a printed entry is one line
  pub entry_free : IsFree 10 (entry_text A B entry)
  entry_free =
      let others = flat_map (λ s. 32 ∷ state_name B.states s) (members entry.pair.set) in
      let pair : IsFree 10 (pair_text A B entry.pair) =
      free_append 10 (state ++ codes " :") others (free_append 10 state (codes " :") (name_free 10 refl state state_is) (refl, (refl, tt))) (names_free B.states theirs.state_names (members entry.pair.set) member_states) in
      free_append 10 (pair_text A B entry.pair ++ codes " : " ++ symbol) (kids_text entry.kids)
      (free_append 10 (pair_text A B entry.pair ++ codes " : ") symbol (free_append 10 (pair_text A B entry.pair) (codes " : ") pair (refl, (refl, (refl, tt)))) (name_free 10 refl symbol symbol_is))
      (kids_free 10 refl refl refl refl entry.kids small_kids)

  -- its words
  words_of : pieces_at 32 (entry_text A B entry) ≡ (state ∷ (58 ∷ []) ∷ names) ++ (58 ∷ []) ∷ (symbol ++ kids_text entry.kids) ∷ []
  words_of =
      let others = flat_map (λ s. 32 ∷ state_name B.states s) (members entry.pair.set) in
      let call = symbol ++ kids_text entry.kids in
      let pair = pair_text A B entry.pair in
      let call_free : IsFree 32 call = free_append 32 symbol (kids_text entry.kids) (name_free 32 refl symbol symbol_is) (kids_free 32 refl refl refl refl entry.kids small_kids) in
      ap (pieces_at 32) (append_assoc (pair ++ codes " : ") symbol (kids_text entry.kids) ∙ append_assoc pair (codes " : ") call
      ∙ ap (λ xs. xs ++ 32 ∷ 58 ∷ 32 ∷ call) (append_assoc state (codes " :") others) ∙ append_assoc state (32 ∷ 58 ∷ others) (32 ∷ 58 ∷ 32 ∷ call))
      ∙ slice_split_at (λ b. b == 32) state 32 ((58 ∷ others) ++ 32 ∷ 58 ∷ 32 ∷ call) (All-from_recursion _ state (name_free 32 refl state state_is)) (eq-eqb 32 32 refl)
      ∙ ap (λ ws. state ∷ ws) (words_then B.states theirs.state_names (58 ∷ []) (members entry.pair.set) (58 ∷ 32 ∷ call) colon_free member_states)
      ∙ ap (λ ws. state ∷ (58 ∷ []) ∷ names ++ ws) (slice_split_at (λ b. b == 32) (58 ∷ []) 32 call (All-from_recursion (λ b. (b == 32) ≡ false) (58 ∷ []) colon_free) (eq-eqb 32 32 refl)
      ∙ ap (λ ws. (58 ∷ []) ∷ ws) (slice_split_none (λ b. b == 32) call (All-from_recursion _ call call_free)))

  pair_words : spelled_words (state ∷ (58 ∷ []) ∷ names) ≡ Some (state, names)
  pair_words = named_words B.states theirs.state_names state (members entry.pair.set) state_is member_states

  -- how it is written
  pub written_back : entry_written (entry_text A B entry) ≡ Some (record {
    state = state;
    members = names;
    place = length (entry_text A B entry) - length (symbol ++ kids_text entry.kids);
    name = symbol;
    kids = map suc entry.kids;
  })
  unfolding entry_written
  written_back =
      ap (written_words (length (entry_text A B entry))) words_of
      ∙ words_written (length (entry_text A B entry)) (state ∷ (58 ∷ []) ∷ names) (symbol ++ kids_text entry.kids) state symbol names (map suc entry.kids) pair_words (call_back symbol entry.kids symbol_is small_kids)
