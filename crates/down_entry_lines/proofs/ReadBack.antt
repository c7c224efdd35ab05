-- The printed text of a budget and entries is read as these.
use Rattle.std.proofs.Common.{◌≡◌, ◌≢◌, ℕ, zero, suc, ◌+◌, ◌-◌, ◌^◌, ◌<◌, ◌≤◌, Bool, true, false, cond, List, [], ◌∷◌, ◌++◌, length, drop, get_or, map, Option, Some, None, refl, sym, ap, ap₂, ◌∙◌, subst, append_assoc, arith}
use Rattle.std.specs.Prelude.{AllPairs, nat_le, nat_lt, codes}
use Rattle.std.specs.Option.{option_map_or}
use Rattle.std.specs.Ordering.{eq_by_cmp}
use Rattle.std.specs.List.{AllByRecursion, flat_map, position_or_len}
use Rattle.std.proofs.Math.Seq.{drop-append_seam}
use Rattle.std.proofs.lemmas.Bool.{le-leb, lt-ltb}
use Rattle.std.proofs.lemmas.List.{length-map, length_push}
use Rattle.std.proofs.lemmas.List.Elements.{All-contains, recursion_from_All}
use Rattle.std.proofs.lemmas.List.Sums.{position_or_len_is}
use Rattle.std.proofs.lemmas.Option.{slice_get_within, get_or_from_slice_get}
use Rattle.std.proofs.lemmas.Slice.Eq.{bytes_eq-Decides}
use Rattle.tree_definitions.specs.Name.{IsName}
use Rattle.tree_definitions.specs.Tree.{Symbol}
use Rattle.tree_definitions.specs.Automaton.{Automaton, Rule, FitsRule}
use Rattle.tree_definitions.specs.Canonical.{rule_cmp}
use Rattle.tree_definitions.specs.Cover.{Pair, FitsPair}
use Rattle.tree_definitions.specs.DownTrail.{DownEntry, Root, Child, Split, IsPairOf, HasPair}
use Rattle.tree_definitions.specs.Relation.{Row, IsAt}
use Rattle.tree_definitions.proofs.Members.{contains_at}
use Rattle.ta_model.specs.Listing.{IsListed}
use Rattle.listed_pairs.specs.DownEntries.{FitsDownEntry, AreDownEntries}
use Rattle.listed_pairs.specs.Members.{members, row_with}
use Rattle.witness_trees.specs.NodesText.{name_at, number_text}
use Rattle.witness_trees.specs.Judged.{Is, BadAt, then_judged, place_in, pieces_at}
use Rattle.witness_trees.proofs.Symbols.{and_both}
use Rattle.witness_trees.proofs.Spelled.{IsFree, AreSmall, free_append, number_free, one_piece, next_piece, place_back, suc_within, pred_suc, name_found}
use Rattle.certificate_lines.specs.Pairs.{state_name, pair_text, state_then, states_in}
use Rattle.certificate_lines.proofs.BudgetLines.{budgeted_back}
use Rattle.certificate_lines.proofs.Lined.{AreJudged}
use Rattle.certificate_lines.proofs.PairNames as states
use Rattle.certificate_lines.proofs.PairNames.{AreStates}
use Rattle.certificate_lines.proofs.PairSets.{row_back}
use Rattle.certificate_lines.proofs.Spaced.{colon_free}
use Rattle.down_entry_lines.specs.Entries.{rule_text, rule_text_at, entry_text, down_entries_text, RootLine, ChildLine, SplitLine, written_words, entry_written, or_bad, place_of, places_of, pair_state, state_of_pair, split_count, count_of_split, rule_place, entry_judged, child_judged, split_judged, pair_named, entry_named, entry_in, down_entries_in}
use Rattle.down_entry_lines.specs.Fitting.{AreRanksNumbers}
use Rattle.down_entry_lines.proofs.Printed.{marked_back, marked_free, each_number_free, rule_back, rule_free, root_back, child_back, split_back, member_states, pair_free, pair_pieces, pair_named_words}
use Rattle.down_entry_lines.proofs.Ranks.{kids_number}
use Rattle.down_entry_lines.proofs.Ruled.{same_rules, rule_tied}

-- a place among k is found by its number
number_back : (k p : ℕ) → p < k → place_of k (suc p) ≡ Some p
number_back k p l =
    let e : suc p - 1 ≡ p = omega arith in
    ap (λ b. cond b (Some (suc p - 1)) None) (and_both (nat_le 1 (suc p)) (nat_le (suc p) k) (le-leb 1 (suc p) (omega arith)) (le-leb (suc p) k (omega (arith, l)))) ∙ ap Some e

numbers_back : (k : ℕ) (ps : List ℕ) → AllByRecursion (λ p. p < k) ps → places_of k (map suc ps) ≡ Some ps
numbers_back k ps h = ap₂ (λ b xs. cond b (Some xs) None) (suc_within k ps h) (pred_suc ps)

-- the place of a rule among distinct ones
rule_place_back : (rules : List Rule) (r : ℕ) (rule : Rule) → AllPairs ◌≢◌ rules → IsAt rules r rule → rule_place rules rule ≡ Some r
rule_place_back rules r rule apart at =
    ap (λ n. cond (nat_lt n (length rules)) (Some n) None) first ∙ ap (λ b. cond b (Some r) None) (lt-ltb r (length rules) within)
  where
    within : r < length rules
    within = slice_get_within rules r rule at

    here : get_or rules r rule ≡ rule
    here = get_or_from_slice_get rules r rule rule at

    other : (k : ℕ) → k < r → (b : Bool) → eq_by_cmp rule_cmp rule (get_or rules k rule) ≡ b → b ≡ false
    other k lt true e = absurd (apart k r rule lt within (sym (same_rules rule (get_or rules k rule) e) ∙ sym here))
    other k lt false e = refl

    first : position_or_len (eq_by_cmp rule_cmp rule) rules ≡ r
    first = position_or_len_is (eq_by_cmp rule_cmp rule) rules r rule (omega (arith, within)) (λ k lt. other k lt (eq_by_cmp rule_cmp rule (get_or rules k rule)) refl) (λ _. rule_tied rule (get_or rules r rule) (sym here))

-- the numbers of few places are small
small_places : (k : ℕ) → k < 2 ^ 64 → (ps : List ℕ) → AllByRecursion (λ p. p < k) ps → AreSmall ps
small_places k few [] h = tt
small_places k few (p ∷ ps) h = let l = h.0 in (omega (arith, l, few), small_places k few ps h.1)

states_of_all : (A : Automaton) (ks : List ℕ) → AllByRecursion (λ q. q < length A.states) ks → AreStates A.states ks
states_of_all A ks h = h

-- the state of an entry's pair
state_back : (read : List DownEntry) (e : ℕ) (pair : Pair) → HasPair read e pair → state_of_pair read e ≡ Some pair.state
state_back read e pair h = ap (λ o. state_in o) h.1 ∙ go h.0 h.2
  where
    state_in : Option DownEntry → Option ℕ
    state_in None = None
    state_in (Some x) = pair_state x

    go : (x : DownEntry) → IsPairOf x pair → pair_state x ≡ Some pair.state
    go (Root p) is = ap (λ (x : Pair). Some x.state) is
    go (Child p split place) is = ap (λ (x : Pair). Some x.state) is
    go (Split a b c) is = absurd is

module _ (A B : Automaton) (ours : IsListed A) (theirs : IsListed B) (ranks : AreRanksNumbers A) where
  -- a pair is found by its names
  pair_back : (at : ℕ) (pair : Pair) → FitsPair A B pair → pair_named A B at (state_name A.states pair.state) (map (state_name B.states) (members pair.set)) ≡ Is pair
  pair_back at pair fits =
      let places = members pair.set in
      let size = fits.set in
      let set : row_with (length B.states) places ≡ pair.set = ap (λ n. row_with n places) (sym size) ∙ row_back pair.set in
      ap (state_then (at + 5) (λ q. then_judged (states_in B.states from [] words) (λ places. Is (made q (row_with (length B.states) places))))) (states.place_back A.states ours.automaton.states pair.state fits.state)
      ∙ ap (λ v. then_judged v (λ places. Is (made pair.state (row_with (length B.states) places)))) (states.states_back B.states theirs.automaton.states from [] places (member_states A B ours theirs pair fits))
      ∙ ap (λ row. Is (made pair.state row)) set
    where
      made : ℕ → Row → Pair
      made q row = record { state = q; set = row }

      from : ℕ
      from = at + 5 + length (state_name A.states pair.state) + 3

      words : List (List ℕ)
      words = map (state_name B.states) (members pair.set)

  judged_own : (at : ℕ) (entry : DownEntry) → entry_judged A B at (entry_text A B entry) entry ≡ Is entry
  judged_own at entry = ap (λ b. cond b (Is entry) (BadAt at)) ((bytes_eq-Decides (entry_text A B entry) (entry_text A B entry)).1 refl)

  -- how the line of a pair to begin with is written
  root_line : (pair : Pair) → FitsPair A B pair → entry_written (entry_text A B (Root pair)) ≡ Some (RootLine (state_name A.states pair.state) (map (state_name B.states) (members pair.set)))
  unfolding entry_written
  root_line pair fits =
      let state = state_name A.states pair.state in
      let names = map (state_name B.states) (members pair.set) in
      let front = state ∷ (58 ∷ []) ∷ names in
      ap written_words (next_piece 32 (codes "pair") (pair_text A B pair ++ codes " : root") (refl, (refl, (refl, (refl, tt))))
      ∙ ap (λ ws. codes "pair" ∷ ws) (pair_pieces A B ours theirs pair fits (codes "root") ∙ ap (λ ws. front ++ (58 ∷ []) ∷ ws) (one_piece 32 (codes "root") (refl, (refl, (refl, (refl, tt)))))))
      ∙ root_back front state names (pair_named_words A B ours theirs pair fits)

  -- how the line of a child's pair is written
  child_line : (pair : Pair) (split place : ℕ) → FitsPair A B pair → suc split < 2 ^ 64 → suc place < 2 ^ 64
      → entry_written (entry_text A B (Child pair split place)) ≡ Some (ChildLine (state_name A.states pair.state) (map (state_name B.states) (members pair.set)) (suc split) (suc place))
  unfolding entry_written
  child_line pair split place fits few small =
      let state = state_name A.states pair.state in
      let names = map (state_name B.states) (members pair.set) in
      let front = state ∷ (58 ∷ []) ∷ names in
      let text = pair_text A B pair in
      let n = number_text split in
      let m = number_text place in
      let parts : ((text ++ codes " : child ") ++ n) ++ 32 ∷ m ≡ text ++ (codes " : child " ++ (n ++ 32 ∷ m)) =
      append_assoc (text ++ codes " : child ") n (32 ∷ m) ∙ append_assoc text (codes " : child ") (n ++ 32 ∷ m) in
      let numbers : pieces_at 32 (codes "child" ++ 32 ∷ (n ++ 32 ∷ m)) ≡ codes "child" ∷ n ∷ m ∷ [] =
      next_piece 32 (codes "child") (n ++ 32 ∷ m) (refl, (refl, (refl, (refl, (refl, tt)))))
      ∙ ap (λ ws. codes "child" ∷ ws) (next_piece 32 n m (number_free 32 refl (suc split) few) ∙ ap (λ ws. n ∷ ws) (one_piece 32 m (number_free 32 refl (suc place) small))) in
      ap written_words (next_piece 32 (codes "pair") (((text ++ codes " : child ") ++ n) ++ 32 ∷ m) (refl, (refl, (refl, (refl, tt))))
      ∙ ap (λ xs. codes "pair" ∷ pieces_at 32 xs) parts
      ∙ ap (λ ws. codes "pair" ∷ ws) (pair_pieces A B ours theirs pair fits (codes "child" ++ 32 ∷ (n ++ 32 ∷ m)) ∙ ap (λ ws. front ++ (58 ∷ []) ∷ ws) numbers))
      ∙ child_back front state names (pair_named_words A B ours theirs pair fits) split place few small

  -- a rule in a line
  module _ (r : ℕ) (rule : Rule) (at_rule : IsAt A.rules r rule) where
    fits_rule : FitsRule A rule
    fits_rule = All-contains (FitsRule A) A.rules rule ours.automaton.fitting (contains_at A.rules r rule at_rule)

    symbol_name : IsName (name_at A.symbols rule.symbol)
    symbol_name =
        let f = fits_rule.symbol in
        subst IsName (sym (name_found A.symbols rule.symbol f.0 f.1)) (All-contains (λ (x : Symbol). IsName x.name) A.symbols f.0 ours.symbol_names (contains_at A.symbols rule.symbol f.0 f.1))

    kid_states : AreStates A.states rule.kids
    kid_states = recursion_from_All (λ q. q < length A.states) rule.kids fits_rule.kids

    rule_said : rule_text_at A r ≡ rule_text A rule
    rule_said = ap (λ o. option_map_or (rule_text A) o []) at_rule

    -- how the line of a split is written
    split_line : (e : ℕ) (choice : List ℕ) → suc e < 2 ^ 64 → AreSmall choice
        → entry_written (entry_text A B (Split e r choice)) ≡ Some (SplitLine (suc e) (length (number_text e) + 9) (name_at A.symbols rule.symbol) (map (state_name A.states) rule.kids) (map suc choice))
    unfolding entry_written
    split_line e choice few small =
        let n = number_text e in
        let said = rule_text A rule in
        let places = flat_map (λ place. 32 ∷ number_text place) choice in
        let free : IsFree 32 said = rule_free A.states ours.state_names (name_at A.symbols rule.symbol) symbol_name 32 refl refl refl refl rule.kids kid_states in
        let parts : (((n ++ codes " : ") ++ rule_text_at A r) ++ codes " :") ++ places ≡ n ++ (codes " : " ++ (said ++ (codes " :" ++ places))) =
        ap (λ xs. (((n ++ codes " : ") ++ xs) ++ codes " :") ++ places) rule_said
        ∙ append_assoc ((n ++ codes " : ") ++ said) (codes " :") places ∙ append_assoc (n ++ codes " : ") said (codes " :" ++ places) ∙ append_assoc n (codes " : ") (said ++ (codes " :" ++ places)) in
        let last : pieces_at 32 ((58 ∷ []) ++ places) ≡ (58 ∷ []) ∷ map number_text choice = marked_back 32 number_text (58 ∷ []) choice colon_free (each_number_free 32 refl choice small) in
        let words : pieces_at 32 (n ++ (codes " : " ++ (said ++ (codes " :" ++ places)))) ≡ n ∷ (58 ∷ []) ∷ said ∷ (58 ∷ []) ∷ map number_text choice =
        next_piece 32 n (58 ∷ 32 ∷ (said ++ 32 ∷ 58 ∷ places)) (number_free 32 refl (suc e) few)
        ∙ ap (λ ws. n ∷ ws) (next_piece 32 (58 ∷ []) (said ++ 32 ∷ 58 ∷ places) colon_free
        ∙ ap (λ ws. (58 ∷ []) ∷ ws) (next_piece 32 said (58 ∷ places) free ∙ ap (λ ws. said ∷ ws) last)) in
        ap written_words (next_piece 32 (codes "split") ((((n ++ codes " : ") ++ rule_text_at A r) ++ codes " :") ++ places) (refl, (refl, (refl, (refl, (refl, tt)))))
        ∙ ap (λ xs. codes "split" ∷ pieces_at 32 xs) parts
        ∙ ap (λ ws. codes "split" ∷ ws) words)
        ∙ split_back e said (name_at A.symbols rule.symbol) (map (state_name A.states) rule.kids) choice few small
        (rule_back A.states ours.state_names (name_at A.symbols rule.symbol) symbol_name rule.kids kid_states)

    -- a split is found by its numbers
    split_found : (read : List DownEntry) (at e : ℕ) (choice : List ℕ) (pair : Pair) (line : List ℕ) → e < length read → HasPair read e pair → rule.parent ≡ pair.state → AllByRecursion (λ p. p < length rule.kids) choice
        → split_judged A B read at line (suc e) (map suc choice) rule.symbol rule.kids ≡ entry_judged A B at line (Split e r choice)
    split_found read at e choice pair line lt named parent all =
        ap (or_bad at (λ e. or_bad at (λ q. or_bad at (λ r. or_bad at (λ places. entry_judged A B at line (Split e r places)) (places_of (length rule.kids) (map suc choice))) (rule_place A.rules (of_parent q))) (state_of_pair read e))) (number_back (length read) e lt)
        ∙ ap (or_bad at (λ q. or_bad at (λ r. or_bad at (λ places. entry_judged A B at line (Split e r places)) (places_of (length rule.kids) (map suc choice))) (rule_place A.rules (of_parent q)))) (state_back read e pair named)
        ∙ ap (or_bad at (λ r. or_bad at (λ places. entry_judged A B at line (Split e r places)) (places_of (length rule.kids) (map suc choice)))) (ap (λ q. rule_place A.rules (of_parent q)) (sym parent) ∙ rule_place_back A.rules r rule ours.automaton.rules at_rule)
        ∙ ap (or_bad at (λ places. entry_judged A B at line (Split e r places))) (numbers_back (length rule.kids) choice all)
      where
        of_parent : ℕ → Rule
        of_parent q = record { symbol = rule.symbol; kids = rule.kids; parent = q }

    -- a split is found by its names
    split_named_back : (read : List DownEntry) (at number from : ℕ) (numbers : List ℕ) (line : List ℕ)
        → entry_named A B read at line (SplitLine number from (name_at A.symbols rule.symbol) (map (state_name A.states) rule.kids) numbers) ≡ split_judged A B read at line number numbers rule.symbol rule.kids
    split_named_back read at number from numbers line =
        let f = fits_rule.symbol in
        let children = map (state_name A.states) rule.kids in
        let name = name_at A.symbols rule.symbol in
        let rank : length children ≡ f.0.rank = length-map rule.kids (state_name A.states) ∙ f.2 in
        let symbol : place_in A.symbols name (length children) ≡ Some rule.symbol =
        ap₂ (place_in A.symbols) (name_found A.symbols rule.symbol f.0 f.1) rank ∙ place_back A.symbols rule.symbol f.0 ours.automaton.symbols f.1 in
        ap (state_then (at + from) (λ symbol. then_judged (states_in A.states (at + from + length name + 1) [] children) (split_judged A B read at line number numbers symbol))) symbol
        ∙ ap (λ v. then_judged v (split_judged A B read at line number numbers rule.symbol)) (states.states_back A.states ours.automaton.states (at + from + length name + 1) [] rule.kids kid_states)

  -- how many children a split has
  count_back : (read : List DownEntry) (split e r : ℕ) (choice : List ℕ) (rule : Rule) → IsAt read split (Split e r choice) → IsAt A.rules r rule → count_of_split A read split ≡ length rule.kids
  count_back read split e r choice rule at at_rule = ap (λ o. option_map_or (split_count A) o 0) at ∙ ap (λ o. option_map_or (λ rule. length rule.kids) o 0) at_rule

  -- a printed entry is read back at its place
  entry_back : (read : List DownEntry) (at : ℕ) (entry : DownEntry) → suc (length read) < 2 ^ 64 → FitsDownEntry A B read (length read) entry → entry_in A B read at (entry_text A B entry) ≡ Is entry
  unfolding entry_in
  entry_back read at (Root pair) small fits =
      let line = entry_text A B (Root pair) in
      ap (or_bad at (entry_named A B read at line)) (root_line pair fits)
      ∙ ap (λ v. then_judged v (λ pair. entry_judged A B at line (Root pair))) (pair_back at pair fits)
      ∙ judged_own at (Root pair)
  entry_back read at (Child pair split place) small fits =
      let line = entry_text A B (Child pair split place) in
      let s = fits.2 in
      let before = fits.1 in
      let rule = s.3 in
      let lt = s.6 in
      let few = kids_number A ours ranks s.1 rule s.5 in
      let count = count_back read split s.0 s.1 s.2 rule s.4 s.5 in
      ap (or_bad at (entry_named A B read at line)) (child_line pair split place fits.0 (omega (arith, before, small)) (omega (arith, lt, few)))
      ∙ ap (λ v. then_judged v (child_judged A B read at line (suc split) (suc place))) (pair_back at pair fits.0)
      ∙ ap (or_bad at (λ s. or_bad at (λ j. entry_judged A B at line (Child pair s j)) (place_of (count_of_split A read s) (suc place)))) (number_back (length read) split before)
      ∙ ap (or_bad at (λ j. entry_judged A B at line (Child pair split j))) (number_back (count_of_split A read split) place (omega (arith, lt, count)))
      ∙ judged_own at (Child pair split place)
  entry_back read at (Split e r choice) small fits =
      let line = entry_text A B (Split e r choice) in
      let before = fits.0 in
      let d = fits.1 in
      let rule = d.1 in
      let few = kids_number A ours ranks r rule d.3 in
      let all = recursion_from_All (λ p. p < length rule.kids) choice d.5 in
      ap (or_bad at (entry_named A B read at line)) (split_line r rule d.3 e choice (omega (arith, before, small)) (small_places (length rule.kids) few choice all))
      ∙ split_named_back r rule d.3 read at (suc e) (length (number_text e) + 9) (map suc choice) line
      ∙ split_found r rule d.3 read at e choice d.0 line before d.2 d.4 all
      ∙ judged_own at (Split e r choice)

  -- a printed entry is one line
  entry_free : (read : List DownEntry) (entry : DownEntry) → suc (length read) < 2 ^ 64 → FitsDownEntry A B read (length read) entry → IsFree 10 (entry_text A B entry)
  entry_free read (Root pair) small fits =
      free_append 10 (codes "pair " ++ pair_text A B pair) (codes " : root")
      (free_append 10 (codes "pair ") (pair_text A B pair) (refl, (refl, (refl, (refl, (refl, tt))))) (pair_free A B ours theirs pair fits))
      (refl, (refl, (refl, (refl, (refl, (refl, (refl, tt)))))))
  entry_free read (Child pair split place) small fits =
      let s = fits.2 in
      let before = fits.1 in
      let lt = s.6 in
      let few = kids_number A ours ranks s.1 s.3 s.5 in
      free_append 10 (codes "pair " ++ pair_text A B pair ++ codes " : child " ++ number_text split) (32 ∷ number_text place)
      (free_append 10 (codes "pair " ++ pair_text A B pair ++ codes " : child ") (number_text split)
      (free_append 10 (codes "pair " ++ pair_text A B pair) (codes " : child ")
      (free_append 10 (codes "pair ") (pair_text A B pair) (refl, (refl, (refl, (refl, (refl, tt))))) (pair_free A B ours theirs pair fits.0))
      (refl, (refl, (refl, (refl, (refl, (refl, (refl, (refl, (refl, tt))))))))))
      (number_free 10 refl (suc split) (omega (arith, before, small))))
      (refl, number_free 10 refl (suc place) (omega (arith, lt, few)))
  entry_free read (Split e r choice) small fits =
      let before = fits.0 in
      let d = fits.1 in
      let rule = d.1 in
      let few = kids_number A ours ranks r rule d.3 in
      let all = recursion_from_All (λ p. p < length rule.kids) choice d.5 in
      let said : IsFree 10 (rule_text_at A r) = subst (IsFree 10) (sym (rule_said r rule d.3)) (rule_free A.states ours.state_names (name_at A.symbols rule.symbol) (symbol_name r rule d.3) 10 refl refl refl refl rule.kids (kid_states r rule d.3)) in
      let places = flat_map (λ place. 32 ∷ number_text place) choice in
      free_append 10 (codes "split " ++ number_text e ++ codes " : " ++ rule_text_at A r ++ codes " :") places
      (free_append 10 (codes "split " ++ number_text e ++ codes " : " ++ rule_text_at A r) (codes " :")
      (free_append 10 (codes "split " ++ number_text e ++ codes " : ") (rule_text_at A r)
      (free_append 10 (codes "split " ++ number_text e) (codes " : ")
      (free_append 10 (codes "split ") (number_text e) (refl, (refl, (refl, (refl, (refl, (refl, tt)))))) (number_free 10 refl (suc e) (omega (arith, before, small))))
      (refl, (refl, (refl, tt)))) said) (refl, (refl, tt)))
      (marked_free 10 32 number_text choice refl (each_number_free 10 refl choice (small_places (length rule.kids) few choice all)))

-- what stands at an earlier place stood there before more followed
at_earlier : {X : Type 0} (xs ys : List X) (k : ℕ) (x : X) → k < length xs → IsAt (xs ++ ys) k x → IsAt xs k x
at_earlier [] ys k x l h = absurd (omega (arith, l))
at_earlier (y ∷ xs) ys zero x l h = h
at_earlier (y ∷ xs) ys (suc k) x l h = at_earlier xs ys k x (omega (arith, l)) h

-- an entry that fits with others behind it fits behind those before it
fits_behind : (A B : Automaton) (read more : List DownEntry) (entry : DownEntry) → FitsDownEntry A B (read ++ more) (length read) entry → FitsDownEntry A B read (length read) entry
fits_behind A B read more (Root pair) h = h
fits_behind A B read more (Child pair split place) h =
    let s = h.2 in
    (h.0, h.1, (s.0, s.1, s.2, s.3, at_earlier read more split (Split s.0 s.1 s.2) h.1 s.4, s.5, s.6))
fits_behind A B read more (Split e r choice) h =
    let d = h.1 in
    let named = d.2 in
    (h.0, (d.0, d.1, (named.0, at_earlier read more e named.0 h.0 named.1, named.2), d.3, d.4, d.5))

module _ (A B : Automaton) (ours : IsListed A) (theirs : IsListed B) (ranks : AreRanksNumbers A) where
  -- printed entries are judged in their order
  entries_judged : (read entries : List DownEntry) → ((j : ℕ) (entry : DownEntry) → IsAt entries j entry → FitsDownEntry A B (read ++ entries) (length read + j) entry) → length read + length entries ≤ 4294967295
      → AreJudged (entry_in A B) (entry_text A B) read entries
  entries_judged read [] fits few = tt
  entries_judged read (entry ∷ entries) fits few =
      let k = length read in
      let small : suc k < 2 ^ 64 = omega (arith, few) in
      let zeroth : k + 0 ≡ k = omega arith in
      let fit : FitsDownEntry A B read k entry = fits_behind A B read (entry ∷ entries) entry (subst (λ n. FitsDownEntry A B (read ++ entry ∷ entries) n entry) zeroth (fits 0 entry refl)) in
      let grown = length_push read entry in (
        λ at. entry_back A B ours theirs ranks read at entry small fit,
        entry_free A B ours theirs ranks read entry small fit,
        entries_judged (read ++ entry ∷ []) entries
            (λ j x p.
            let e : k + suc j ≡ length (read ++ entry ∷ []) + j = omega (arith, grown) in
            subst (λ all. FitsDownEntry A B all (length (read ++ entry ∷ []) + j) x) (sym (append_assoc read (entry ∷ []) entries))
            (subst (λ n. FitsDownEntry A B (read ++ entry ∷ entries) n x) e (fits (suc j) x p)))
            (omega (arith, grown, few)),
      )

  -- the text of a budget and entries that fit is read as these, wherever it ends a text
  pub down_entries_back : (budget : ℕ) (entries : List DownEntry) → AreDownEntries A B budget entries → (text : List ℕ) (at : ℕ) → drop at text ≡ down_entries_text A B budget entries
      → down_entries_in A B text at ≡ Is (record { budget = budget; entries = entries })
  unfolding down_entries_in down_entries_text
  down_entries_back budget entries fits text at here =
      let few = fits.few in
      let size = fits.count in
      budgeted_back (entry_in A B) (entry_text A B) budget entries fits.some few size
      (entries_judged [] entries (λ j entry p. let e : j ≡ 0 + j = omega arith in subst (λ n. FitsDownEntry A B entries n entry) e (fits.fitting j entry p)) (omega (arith, size, few)))
      text at here

-- the same behind a front
pub down_entries_read_back : (A B : Automaton) (front : List ℕ) (budget : ℕ) (entries : List DownEntry) → IsListed A → IsListed B → AreRanksNumbers A → AreDownEntries A B budget entries
    → down_entries_in A B (front ++ down_entries_text A B budget entries) (length front) ≡ Is (record { budget = budget; entries = entries })
down_entries_read_back A B front budget entries ours theirs ranks fits =
    down_entries_back A B ours theirs ranks budget entries fits (front ++ down_entries_text A B budget entries) (length front) (drop-append_seam front (down_entries_text A B budget entries))
