-- A printed text spells the automaton that was printed.
use Rattle.std.proofs.Common.{◌≡◌, ◌≢◌, ℕ, zero, suc, ◌<◌, ◌^◌, Bool, List, [], ◌∷◌, ◌++◌, map, length, get_or, Option, Some, None, refl, sym, ap, ◌∙◌, subst, append_assoc, length-append, arith}
use Rattle.std.specs.Prelude.{codes, decimal, flat_map, filter_map, AllPairs, Contains, fold, slice_get, unwrap_or}
use Rattle.std.specs.List.{AllByRecursion, AllZip, cons_option}
use Rattle.std.specs.Option.{option_map_or}
use Rattle.std.specs.Bool.{Decides}
use Rattle.std.specs.Str.{bytes_eq}
use Rattle.std.proofs.lemmas.List.{append-nil, get_or_at, get_or_append_left, get_or-map, length-map}
use Rattle.std.proofs.lemmas.List.Elements.{filter_map-append, recursion_from_All, All-contains}
use Rattle.std.proofs.lemmas.List.Sums.{fold-append}
use Rattle.std.proofs.lemmas.Slice.Eq.{bytes_eq-Decides}
use Rattle.std.proofs.lemmas.Fmt.{decimal_is_IsNumeral}
use Rattle.tree_definitions.specs.Tree.{Symbol}
use Rattle.tree_definitions.specs.Automaton.{Automaton, Rule, IsNarrow, IsState, FitsRule as FitsLine, IsAutomaton}
use Rattle.tree_definitions.specs.Relation.{IsAt}
use Rattle.tree_definitions.specs.Joint.{same_symbol}
use Rattle.tree_definitions.proofs.Members.{contains_at, contains_head, contains_tail}
use Rattle.tree_definitions.specs.Name.{IsName}
use Rattle.timbuk_definitions.proofs.Names.{name_is_word}
use Rattle.timbuk_definitions.specs.Token.{Tokens}
use Rattle.timbuk_definitions.specs.Grammar.{OpText, RuleText, FileText, FitsState, FitsOp, FitsKids, FitsRule, FitsFile, NamedRule, Item, Plain, Title, OpName, OpRank, StateName, FinalName, RuleName, word, section, mark, op_items, op_symbol, state_items, later_kids_items, kids_items, names_of, kid_names, rule_of, parent_items, rule_items, title_items, transitions_items, finals_items, states_items, items_of, item_tokens}
use Rattle.timbuk_definitions.specs.Reading.{with_new, first, same_rule, title_of, symbol_of, state_of, final_of, rule_in, symbols_of, states_of, finals_of, rules_of, name_of, IsRuleAt, Spells}
use Rattle.timbuk_definitions.specs.Printed.{plain_text, HasNames}
use Rattle.timbuk_definitions.proofs.Chained.{spaced, state_name, symbol_name, op_text, rule_text, transitions_text, finals_text, states_text, chained, plain_chained}
use Rattle.timbuk_definitions.proofs.Lexing.{lex, lex_lexed}
use Rattle.timbuk_definitions.proofs.Complete.{ops_word, automaton_word, states_word, final_word, transitions_word, sort_colon}
use Rattle.timbuk_definitions.proofs.Firsts.{one_place, with_old, with_fresh}
use Rattle.timbuk_definitions.proofs.Spelled.{symbol_decides, rule_decides, rule_unique}
use Rattle.timbuk_definitions.proofs.Written.{Writes, Begins, nothing_written, white, begun, marked, worded, states_written, rule_written, plain, kids_of, decimal_is_digits, sort_space, sort_feed}

-- a list without repeats is its own list of first places
module _ {X : Type 0} (same : X → X → Bool) (decides : (a b : X) → Decides (same a b) (a ≡ b)) where
  fresh_next : (acc xs : List X) (x : X) → AllPairs ◌≢◌ (acc ++ x ∷ xs) → ¬ Contains acc x
  fresh_next acc xs x d m =
      let here : get_or (acc ++ x ∷ xs) m.0 x ≡ x = get_or_append_left acc (x ∷ xs) x m.0 m.1 ∙ m.2 in
      let there : get_or (acc ++ x ∷ xs) (length acc) x ≡ x = get_or_at acc x xs x (length acc) refl in
      d m.0 (length acc) x m.1 (omega (arith, length-append acc (x ∷ xs))) (here ∙ sym there)

  fold_self : (xs acc : List X) → AllPairs ◌≢◌ (acc ++ xs) → fold (with_new same) acc xs ≡ acc ++ xs
  fold_self [] acc d = sym (append-nil acc)
  fold_self (x ∷ xs) acc d =
      let e : acc ++ x ∷ xs ≡ (acc ++ x ∷ []) ++ xs = sym (append_assoc acc (x ∷ []) xs) in
      ap (λ z. fold (with_new same) z xs) (with_fresh same decides acc x (fresh_next acc xs x d))
      ∙ fold_self xs (acc ++ x ∷ []) (subst (AllPairs ◌≢◌) e d) ∙ sym e

  fold_old : (ys listed : List X) → AllByRecursion (Contains listed) ys → fold (with_new same) listed ys ≡ listed
  fold_old [] listed h = refl
  fold_old (y ∷ ys) listed h = ap (λ z. fold (with_new same) z ys) (with_old same decides listed y h.0) ∙ fold_old ys listed h.1

  first_keeps : (xs ys : List X) → AllPairs ◌≢◌ xs → AllByRecursion (Contains xs) ys → first same (xs ++ ys) ≡ xs
  first_keeps xs ys d h = fold-append (with_new same) [] xs ys ∙ ap (λ z. fold (with_new same) z ys) (fold_self xs [] d) ∙ fold_old ys xs h

-- an image without repeats
map_distinct : {X Y : Type 0} (f : X → Y) (xs : List X) → AllPairs ◌≢◌ xs → ((x x' : X) → Contains xs x → Contains xs x' → f x ≡ f x' → x ≡ x') → AllPairs ◌≢◌ (map f xs)
map_distinct {X} {Y} f [] d inj = λ i j e l m. absurd (omega arith)
map_distinct {X} {Y} f (z ∷ zs) d inj = λ i j e l m same.
    let jn : j < length (z ∷ zs) = subst (λ n. j < n) (length-map (z ∷ zs) f) m in
    let inn : i < length (z ∷ zs) = omega arith in
    let fi : get_or (map f (z ∷ zs)) i e ≡ f (get_or (z ∷ zs) i z) = get_or-map f (z ∷ zs) i z e inn in
    let fj : get_or (map f (z ∷ zs)) j e ≡ f (get_or (z ∷ zs) j z) = get_or-map f (z ∷ zs) j z e jn in
    d i j z l jn (inj (get_or (z ∷ zs) i z) (get_or (z ∷ zs) j z) (at (z ∷ zs) i z inn) (at (z ∷ zs) j z jn) (sym fi ∙ same ∙ fj))
  where
    at : (xs : List X) (i : ℕ) (e : X) → i < length xs → Contains xs (get_or xs i e)
    at [] i e l = absurd (omega arith)
    at (y ∷ ys) zero e l = contains_head y ys
    at (y ∷ ys) (suc i) e l = contains_tail y ys (get_or ys i e) (at ys i e (omega arith))

abbrev op_of : Symbol → OpText
op_of a = record { name = a.name; digits = decimal a.rank }

abbrev line_text : Automaton → Rule → RuleText
line_text A r = record { name = symbol_name A r.symbol; kids = kids_of (map (state_name A) r.kids); parent = plain (state_name A r.parent) }

-- what is written of A
abbrev file_of : Automaton → FileText
file_of A = record { ops = map op_of A.symbols; title = Some A.name; states = map plain A.states; finals = map plain (map (state_name A) A.finals); rules = map (line_text A) A.rules }

name_at : (names : List (List ℕ)) → AllByRecursion IsName names → (q : ℕ) → q < length names → IsName (unwrap_or (slice_get names q) [])
name_at [] h q l = absurd (omega arith)
name_at (n ∷ ns) h zero l = h.0
name_at (n ∷ ns) h (suc q) l = name_at ns h.1 q (omega arith)

stands_at : (names : List (List ℕ)) (q : ℕ) → q < length names → slice_get names q ≡ Some (unwrap_or (slice_get names q) [])
stands_at [] q l = absurd (omega arith)
stands_at (n ∷ ns) zero l = refl
stands_at (n ∷ ns) (suc q) l = stands_at ns q (omega arith)

symbol_fits : (symbols : List Symbol) → AllByRecursion (λ a. IsName a.name × (a.rank < 2 ^ 64)) symbols → (k : ℕ) (a : Symbol) → slice_get symbols k ≡ Some a → IsName a.name
symbol_fits [] h k a e = absurd cc
symbol_fits (b ∷ bs) h zero a e = let same : b ≡ a = cc in subst (λ (x : Symbol). IsName x.name) same h.0.0
symbol_fits (b ∷ bs) h (suc k) a e = symbol_fits bs h.1 k a e

module _ (A : Automaton) (fits : IsAutomaton A) (names : HasNames A) where
  state_named : (q : ℕ) → IsState A q → IsName (state_name A q)
  state_named q l = name_at A.states names.states q l

  states_named : (qs : List ℕ) → AllByRecursion (IsState A) qs → AllByRecursion IsName (map (state_name A) qs)
  states_named [] h = tt
  states_named (q ∷ qs) h = (state_named q h.0, states_named qs h.1)

  symbol_named : (r : Rule) → FitsLine A r → IsName (symbol_name A r.symbol)
  symbol_named r h = subst (λ o. IsName (option_map_or (λ (a : Symbol). a.name) o [])) (sym h.symbol.1) (symbol_fits A.symbols names.symbols r.symbol h.symbol.0 h.symbol.1)

  kid_states : (r : Rule) → FitsLine A r → AllByRecursion (IsState A) r.kids
  kid_states r h = recursion_from_All (IsState A) r.kids h.kids

  lines_fit : AllByRecursion (FitsLine A) A.rules
  lines_fit = recursion_from_All (FitsLine A) A.rules fits.fitting

  final_states : AllByRecursion (IsState A) A.finals
  final_states = recursion_from_All (IsState A) A.finals fits.final_states

  -- the text
  rules_written : (rules : List Rule) → AllByRecursion (FitsLine A) rules → Begins (flat_map (rule_text A) rules) (flat_map rule_items (map (line_text A) rules))
  rules_written [] h = begun [] [] nothing_written
  rules_written (r ∷ rs) h =
      rule_written (symbol_name A r.symbol) (map (state_name A) r.kids) (state_name A r.parent) (symbol_named r h.0) (states_named r.kids (kid_states r h.0)) (state_named r.parent h.0.parent)
      (flat_map (rule_text A) rs) (flat_map rule_items (map (line_text A) rs)) (rules_written rs h.1)

  ops_written : (symbols : List Symbol) → AllByRecursion (λ a. IsName a.name × (a.rank < 2 ^ 64)) symbols → (rest : List ℕ) (items : List Item) → Writes rest items
      → Writes (flat_map op_text symbols ++ rest) (flat_map op_items (map op_of symbols) ++ items)
  ops_written [] h rest items k = k
  ops_written (a ∷ as') h rest items k =
      let later : Writes (flat_map op_text as' ++ rest) (flat_map op_items (map op_of as') ++ items) = ops_written as' h.1 rest items k in
      let bytes : (op_text a ++ flat_map op_text as') ++ rest ≡ 32 ∷ (a.name ++ (58 ∷ (decimal a.rank ++ (flat_map op_text as' ++ rest)))) = simp append_assoc in
      let more : List Item = flat_map op_items (map op_of as') ++ items in
      let digits : Begins (decimal a.rank ++ (flat_map op_text as' ++ rest)) (word (decimal a.rank) (OpRank (op_symbol (op_of a))) ∷ more) =
      worded (decimal a.rank) (OpRank (op_symbol (op_of a))) (flat_map op_text as' ++ rest) more (decimal_is_digits a.rank h.0.1).word later in
      let colon : Writes (58 ∷ (decimal a.rank ++ (flat_map op_text as' ++ rest))) (mark 58 ∷ word (decimal a.rank) (OpRank (op_symbol (op_of a))) ∷ more) =
      marked 58 (decimal a.rank ++ (flat_map op_text as' ++ rest)) (word (decimal a.rank) (OpRank (op_symbol (op_of a))) ∷ more) sort_colon digits in
      subst (λ z. Writes z (flat_map op_items (map op_of (a ∷ as')) ++ items)) (sym bytes)
      (white 32 (a.name ++ (58 ∷ (decimal a.rank ++ (flat_map op_text as' ++ rest)))) _ sort_space
      (worded a.name (OpName a.name) (58 ∷ (decimal a.rank ++ (flat_map op_text as' ++ rest))) _ (name_is_word a.name h.0.0) colon))

  abbrev F : FileText
  F = file_of A

  transitions_written : Writes (transitions_text A) (transitions_items F.rules)
  transitions_written =
      let lines : Writes (10 ∷ flat_map (rule_text A) A.rules) (flat_map rule_items F.rules) = white 10 (flat_map (rule_text A) A.rules) (flat_map rule_items F.rules) sort_feed (rules_written A.rules lines_fit) in
      white 10 (codes "Transitions" ++ (10 ∷ flat_map (rule_text A) A.rules)) (transitions_items F.rules) sort_feed
      (worded (codes "Transitions") Plain (10 ∷ flat_map (rule_text A) A.rules) (flat_map rule_items F.rules) transitions_word lines)

  finals_written : Writes (finals_text A) (finals_items F.finals F.rules)
  finals_written =
      let names_of_finals = states_written FinalName (map (state_name A) A.finals) (states_named A.finals final_states) (transitions_text A) (transitions_items F.rules) transitions_written in
      let after : List ℕ = flat_map spaced (map (state_name A) A.finals) ++ transitions_text A in
      let said : List Item = flat_map (λ s. state_items (FinalName s.name) s) F.finals ++ transitions_items F.rules in
      let states : Writes (32 ∷ (codes "States" ++ after)) (section (codes "States") ∷ said) =
      white 32 (codes "States" ++ after) (section (codes "States") ∷ said) sort_space (worded (codes "States") Plain after said states_word names_of_finals) in
      white 10 (codes "Final" ++ (32 ∷ (codes "States" ++ after))) (finals_items F.finals F.rules) sort_feed
      (worded (codes "Final") Plain (32 ∷ (codes "States" ++ after)) (section (codes "States") ∷ said) final_word states)

  all_states_written : Writes (states_text A) (states_items F.states F.finals F.rules)
  all_states_written =
      let listed = states_written StateName A.states names.states (finals_text A) (finals_items F.finals F.rules) finals_written in
      white 10 (codes "States" ++ (flat_map spaced A.states ++ finals_text A)) (states_items F.states F.finals F.rules) sort_feed
      (worded (codes "States") Plain (flat_map spaced A.states ++ finals_text A) (flat_map (λ s. state_items (StateName s.name) s) F.states ++ finals_items F.finals F.rules) states_word listed)

  written : Begins (chained A) (items_of F)
  written =
      let titled : Begins (A.name ++ states_text A) (word A.name (Title A.name) ∷ states_items F.states F.finals F.rules) = worded A.name (Title A.name) (states_text A) (states_items F.states F.finals F.rules) (name_is_word A.name names.name) all_states_written in
      let spaced_title : Writes (32 ∷ (A.name ++ states_text A)) (word A.name (Title A.name) ∷ states_items F.states F.finals F.rules) = white 32 (A.name ++ states_text A) _ sort_space titled in
      let automaton : Begins (codes "Automaton" ++ (32 ∷ (A.name ++ states_text A))) (section (codes "Automaton") ∷ word A.name (Title A.name) ∷ states_items F.states F.finals F.rules) =
      worded (codes "Automaton") Plain (32 ∷ (A.name ++ states_text A)) _ automaton_word spaced_title in
      let lined : Writes (10 ∷ (codes "Automaton" ++ (32 ∷ (A.name ++ states_text A)))) (section (codes "Automaton") ∷ word A.name (Title A.name) ∷ states_items F.states F.finals F.rules) =
      white 10 (codes "Automaton" ++ (32 ∷ (A.name ++ states_text A))) _ sort_feed automaton in
      worded (codes "Ops") Plain (flat_map op_text A.symbols ++ (10 ∷ (codes "Automaton" ++ (32 ∷ (A.name ++ states_text A))))) (flat_map op_items F.ops ++ section (codes "Automaton") ∷ (title_items F.title ++ states_items F.states F.finals F.rules)) ops_word
      (ops_written A.symbols names.symbols (10 ∷ (codes "Automaton" ++ (32 ∷ (A.name ++ states_text A)))) _ lined)

  tokens_written : Tokens (chained A) (item_tokens (items_of F))
  tokens_written = ((lex (chained A)).gap, (lex (chained A)).lexemes, lex_lexed (chained A), written.tokens)

  -- the file fits
  plain_fit : (ns : List (List ℕ)) → AllByRecursion IsName ns → AllByRecursion FitsState (map plain ns)
  plain_fit [] h = tt
  plain_fit (n ∷ ns) h = ((h.0, tt), plain_fit ns h.1)

  kids_fit : (ns : List (List ℕ)) → AllByRecursion IsName ns → FitsKids (kids_of ns)
  kids_fit [] h = tt
  kids_fit (n ∷ ns) h = plain_fit (n ∷ ns) h

  ops_fit : (symbols : List Symbol) → AllByRecursion (λ a. IsName a.name × (a.rank < 2 ^ 64)) symbols → AllByRecursion FitsOp (map op_of symbols)
  ops_fit [] h = tt
  ops_fit (a ∷ as') h = ((h.0.0, decimal_is_digits a.rank h.0.1), ops_fit as' h.1)

  rules_fit : (rules : List Rule) → AllByRecursion (FitsLine A) rules → AllByRecursion FitsRule (map (line_text A) rules)
  rules_fit [] h = tt
  rules_fit (r ∷ rs) h = (record { name = symbol_named r h.0; kids = kids_fit (map (state_name A) r.kids) (states_named r.kids (kid_states r h.0)); parent = (state_named r.parent h.0.parent, tt) }, rules_fit rs h.1)

  file_fits : FitsFile F
  file_fits = record {
    ops = ops_fit A.symbols names.symbols;
    title = names.name;
    states = plain_fit A.states names.states;
    finals = plain_fit (map (state_name A) A.finals) (states_named A.finals final_states);
    rules = rules_fit A.rules lines_fit;
  }

  -- what stands at the places of a rule
  abbrev named : Rule → NamedRule
  named r = rule_of (symbol_name A r.symbol) (map (state_name A) r.kids) (state_name A r.parent)

  state_stands : (q : ℕ) → IsState A q → IsAt A.states q (state_name A q)
  state_stands q l = stands_at A.states q l

  states_stand : (qs : List ℕ) → AllByRecursion (IsState A) qs → AllZip (IsAt A.states) qs (map (state_name A) qs)
  states_stand [] h = tt
  states_stand (q ∷ qs) h = (state_stands q h.0, states_stand qs h.1)

  line_stands : (r : Rule) → FitsLine A r → IsRuleAt A.symbols A.states r (named r)
  line_stands r h = record {
    symbol =
        let a = h.symbol.0 in
        let name : symbol_name A r.symbol ≡ a.name = ap (λ o. option_map_or (λ (x : Symbol). x.name) o []) h.symbol.1 in
        let rank : length (map (state_name A) r.kids) ≡ a.rank = length-map r.kids (state_name A) ∙ h.symbol.2 in
        h.symbol.1 ∙ (λ i. Some (record { name = sym name i; rank = sym rank i }));
    kids = states_stand r.kids (kid_states r h);
    parent = state_stands r.parent h.parent;
  }

  lines_stand : (rs : List Rule) → AllByRecursion (FitsLine A) rs → AllZip (IsRuleAt A.symbols A.states) rs (map named rs)
  lines_stand [] h = tt
  lines_stand (r ∷ rs) h = (line_stands r h.0, lines_stand rs h.1)

  finals_distinct : AllPairs ◌≢◌ (map (state_name A) A.finals)
  finals_distinct = map_distinct (state_name A) A.finals fits.finals (λ q q' m m' e.
      one_place A.states fits.states q q' (state_name A q') (subst (IsAt A.states q) e (state_stands q (All-contains (IsState A) A.finals q fits.final_states m))) (state_stands q' (All-contains (IsState A) A.finals q' fits.final_states m')))

  lines_distinct : AllPairs ◌≢◌ (map named A.rules)
  lines_distinct = map_distinct named A.rules fits.rules (λ r r' m m' e.
      rule_unique A.symbols A.states fits.symbols fits.states r r' (named r')
      (subst (IsRuleAt A.symbols A.states r) e (line_stands r (All-contains (FitsLine A) A.rules r fits.fitting m))) (line_stands r' (All-contains (FitsLine A) A.rules r' fits.fitting m')))

-- what items add, over lists of them
values : {X Z Y : Type 0} (f : Item → Option Y) (g : X → List Item) (k : Z → X) (h : Z → List Y) → ((z : Z) → filter_map f (g (k z)) ≡ h z)
    → (zs : List Z) (more : List Item) → filter_map f (flat_map g (map k zs) ++ more) ≡ flat_map h zs ++ filter_map f more
values f g k h e [] more = refl
values f g k h e (z ∷ zs) more =
    ap (filter_map f) (append_assoc (g (k z)) (flat_map g (map k zs)) more) ∙ filter_map-append f (g (k z)) (flat_map g (map k zs) ++ more)
    ∙ (λ i. e z i ++ values f g k h e zs more i) ∙ sym (append_assoc (h z) (flat_map h zs) (filter_map f more))

no_values : {Z Y : Type 0} (zs : List Z) → flat_map (λ (z : Z). let none : List Y = [] in none) zs ≡ []
no_values [] = refl
no_values (z ∷ zs) = no_values zs

one_value : {Z Y : Type 0} (v : Z → Y) (zs : List Z) → flat_map (λ z. v z ∷ []) zs ≡ map v zs
one_value v [] = refl
one_value v (z ∷ zs) = ap (λ x. v z ∷ x) (one_value v zs)

-- what the children of a rule add
later_states : (i : ℕ) (ns : List (List ℕ)) → filter_map state_of (later_kids_items i (map plain ns)) ≡ ns
later_states i [] = refl
later_states i (n ∷ ns) = ap (λ x. n ∷ x) (later_states (suc i) ns)

later_symbols : (i : ℕ) (ns : List (List ℕ)) → filter_map symbol_of (later_kids_items i (map plain ns)) ≡ []
later_symbols i [] = refl
later_symbols i (n ∷ ns) = later_symbols (suc i) ns

later_finals : (i : ℕ) (ns : List (List ℕ)) → filter_map final_of (later_kids_items i (map plain ns)) ≡ []
later_finals i [] = refl
later_finals i (n ∷ ns) = later_finals (suc i) ns

later_rules : (i : ℕ) (ns : List (List ℕ)) → filter_map rule_in (later_kids_items i (map plain ns)) ≡ []
later_rules i [] = refl
later_rules i (n ∷ ns) = later_rules (suc i) ns

kids_states : (ns : List (List ℕ)) → filter_map state_of (kids_items (kids_of ns)) ≡ ns
kids_states [] = refl
kids_states (n ∷ ns) = ap (λ x. n ∷ x) (later_states 1 ns)

kids_symbols : (ns : List (List ℕ)) → filter_map symbol_of (kids_items (kids_of ns)) ≡ []
kids_symbols [] = refl
kids_symbols (n ∷ ns) = later_symbols 1 ns

kids_finals : (ns : List (List ℕ)) → filter_map final_of (kids_items (kids_of ns)) ≡ []
kids_finals [] = refl
kids_finals (n ∷ ns) = later_finals 1 ns

kids_rules : (ns : List (List ℕ)) → filter_map rule_in (kids_items (kids_of ns)) ≡ []
kids_rules [] = refl
kids_rules (n ∷ ns) = later_rules 1 ns

names_back : (ns : List (List ℕ)) → names_of (map plain ns) ≡ ns
names_back [] = refl
names_back (n ∷ ns) = ap (λ x. n ∷ x) (names_back ns)

kids_back : (ns : List (List ℕ)) → kid_names (kids_of ns) ≡ ns
kids_back [] = refl
kids_back (n ∷ ns) = names_back (n ∷ ns)

abbrev text_of_rule : List ℕ → List (List ℕ) → List ℕ → RuleText
text_of_rule n ks p = record { name = n; kids = kids_of ks; parent = plain p }

rule_adds : {Y : Type 0} (f : Item → Option Y) (n : List ℕ) (ks : List (List ℕ)) (p : List ℕ) → f (word n (RuleName n)) ≡ None
    → filter_map f (rule_items (text_of_rule n ks p)) ≡ filter_map f (kids_items (kids_of ks)) ++ filter_map f (parent_items n (kid_names (kids_of ks)) (plain p))
rule_adds f n ks p e =
    ap (λ o. cons_option o (filter_map f (kids_items (kids_of ks) ++ parent_items n (kid_names (kids_of ks)) (plain p)))) e
    ∙ filter_map-append f (kids_items (kids_of ks)) (parent_items n (kid_names (kids_of ks)) (plain p))

rule_states : (n : List ℕ) (ks : List (List ℕ)) (p : List ℕ) → filter_map state_of (rule_items (text_of_rule n ks p)) ≡ ks ++ p ∷ []
rule_states n ks p = rule_adds state_of n ks p refl ∙ ap (λ x. x ++ p ∷ []) (kids_states ks)

rule_symbols : (n : List ℕ) (ks : List (List ℕ)) (p : List ℕ) → filter_map symbol_of (rule_items (text_of_rule n ks p)) ≡ record { name = n; rank = length ks } ∷ []
rule_symbols n ks p = rule_adds symbol_of n ks p refl ∙ (λ i. kids_symbols ks i ++ record { name = n; rank = length (kids_back ks i) } ∷ [])

rule_finals : (n : List ℕ) (ks : List (List ℕ)) (p : List ℕ) → filter_map final_of (rule_items (text_of_rule n ks p)) ≡ []
rule_finals n ks p = rule_adds final_of n ks p refl ∙ ap (λ x. x ++ []) (kids_finals ks)

rule_rules : (n : List ℕ) (ks : List (List ℕ)) (p : List ℕ) → filter_map rule_in (rule_items (text_of_rule n ks p)) ≡ rule_of n ks p ∷ []
rule_rules n ks p = rule_adds rule_in n ks p refl ∙ (λ i. kids_rules ks i ++ rule_of n (kids_back ks i) p ∷ [])

values_last : {X Z Y : Type 0} (f : Item → Option Y) (g : X → List Item) (k : Z → X) (h : Z → List Y) → ((z : Z) → filter_map f (g (k z)) ≡ h z) → (zs : List Z) → filter_map f (flat_map g (map k zs)) ≡ flat_map h zs
values_last f g k h e zs = ap (filter_map f) (sym (append-nil (flat_map g (map k zs)))) ∙ values f g k h e zs [] ∙ append-nil (flat_map h zs)

skip : {Y : Type 0} (f : Item → Option Y) (x : Item) (xs : List Item) → f x ≡ None → filter_map f (x ∷ xs) ≡ filter_map f xs
skip f x xs e = ap (λ o. cons_option o (filter_map f xs)) e

-- what the items of the file of A add
file_values : {Y : Type 0} (A : Automaton) (f : Item → Option Y) (sec : (w : List ℕ) → f (section w) ≡ None) (hop : Symbol → List Y) (hst hfi : List ℕ → List Y) (hru : Rule → List Y)
    → ((a : Symbol) → filter_map f (op_items (op_of a)) ≡ hop a)
    → ((n : List ℕ) → filter_map f (state_items (StateName n) (plain n)) ≡ hst n)
    → ((n : List ℕ) → filter_map f (state_items (FinalName n) (plain n)) ≡ hfi n)
    → ((r : Rule) → filter_map f (rule_items (line_text A r)) ≡ hru r)
    → filter_map f (items_of (file_of A)) ≡ flat_map hop A.symbols ++ cons_option (f (word A.name (Title A.name))) (flat_map hst A.states ++ (flat_map hfi (map (state_name A) A.finals) ++ flat_map hru A.rules))
file_values A f sec hop hst hfi hru eo es ef er =
    let F : FileText = file_of A in
    let rules = skip f (section (codes "Transitions")) (flat_map rule_items F.rules) (sec (codes "Transitions")) ∙ values_last f rule_items (line_text A) hru er A.rules in
    let finals = skip f (section (codes "Final")) (section (codes "States") ∷ (flat_map (λ s. state_items (FinalName s.name) s) F.finals ++ transitions_items F.rules)) (sec (codes "Final"))
    ∙ skip f (section (codes "States")) (flat_map (λ s. state_items (FinalName s.name) s) F.finals ++ transitions_items F.rules) (sec (codes "States"))
    ∙ values f (λ s. state_items (FinalName s.name) s) plain hfi ef (map (state_name A) A.finals) (transitions_items F.rules)
    ∙ ap (λ z. flat_map hfi (map (state_name A) A.finals) ++ z) rules in
    let states = skip f (section (codes "States")) (flat_map (λ s. state_items (StateName s.name) s) F.states ++ finals_items F.finals F.rules) (sec (codes "States"))
    ∙ values f (λ s. state_items (StateName s.name) s) plain hst es A.states (finals_items F.finals F.rules)
    ∙ ap (λ z. flat_map hst A.states ++ z) finals in
    let after : List Item = word A.name (Title A.name) ∷ states_items F.states F.finals F.rules in
    skip f (section (codes "Ops")) (flat_map op_items F.ops ++ section (codes "Automaton") ∷ after) (sec (codes "Ops"))
    ∙ values f op_items op_of hop eo A.symbols (section (codes "Automaton") ∷ after)
    ∙ ap (λ z. flat_map hop A.symbols ++ z) (skip f (section (codes "Automaton")) after (sec (codes "Automaton")) ∙ ap (cons_option (f (word A.name (Title A.name)))) states)

same_values : {Y : Type 0} (ys : List Y) → flat_map (λ y. y ∷ []) ys ≡ ys
same_values [] = refl
same_values (y ∷ ys) = ap (λ x. y ∷ x) (same_values ys)

each_append : {X : Type 0} (P : X → Type 0) (xs ys : List X) → AllByRecursion P xs → AllByRecursion P ys → AllByRecursion P (xs ++ ys)
each_append P [] ys h k = k
each_append P (x ∷ xs) ys h k = (h.0, each_append P xs ys h.1 k)

ranks_back : (symbols : List Symbol) → AllByRecursion (λ a. IsName a.name × (a.rank < 2 ^ 64)) symbols → flat_map (λ a. op_symbol (op_of a) ∷ []) symbols ≡ symbols
ranks_back [] h = refl
ranks_back (a ∷ as') h = λ i. record { name = a.name; rank = (decimal_is_IsNumeral a.rank h.0.1).1 i } ∷ ranks_back as' h.1 i

abbrev nothing : {Z Y : Type 0} → Z → List Y
nothing z = []

module _ (A : Automaton) (fits : IsAutomaton A) (narrow : IsNarrow A) (names : HasNames A) where
  abbrev Items : List Item
  Items = items_of (file_of A)

  abbrev rule_symbol : Rule → Symbol
  rule_symbol r = record { name = symbol_name A r.symbol; rank = length (map (state_name A) r.kids) }

  all_lines : AllByRecursion (FitsLine A) A.rules
  all_lines = recursion_from_All (FitsLine A) A.rules fits.fitting

  state_in : (q : ℕ) → IsState A q → Contains A.states (state_name A q)
  state_in q l = contains_at A.states q (state_name A q) (stands_at A.states q l)

  states_in : (qs : List ℕ) → AllByRecursion (IsState A) qs → AllByRecursion (Contains A.states) (map (state_name A) qs)
  states_in [] h = tt
  states_in (q ∷ qs) h = (state_in q h.0, states_in qs h.1)

  rules_symbols_in : (rs : List Rule) → AllByRecursion (FitsLine A) rs → AllByRecursion (Contains A.symbols) (flat_map (λ r. rule_symbol r ∷ []) rs)
  rules_symbols_in [] h = tt
  rules_symbols_in (r ∷ rs) h = (contains_at A.symbols r.symbol (rule_symbol r) (line_stands A fits names r h.0).symbol, rules_symbols_in rs h.1)

  rules_states_in : (rs : List Rule) → AllByRecursion (FitsLine A) rs → AllByRecursion (Contains A.states) (flat_map (λ r. map (state_name A) r.kids ++ state_name A r.parent ∷ []) rs)
  rules_states_in [] h = tt
  rules_states_in (r ∷ rs) h =
      each_append (Contains A.states) (map (state_name A) r.kids ++ state_name A r.parent ∷ []) (flat_map (λ r. map (state_name A) r.kids ++ state_name A r.parent ∷ []) rs)
      (each_append (Contains A.states) (map (state_name A) r.kids) (state_name A r.parent ∷ []) (states_in r.kids (recursion_from_All (IsState A) r.kids h.0.kids)) (state_in r.parent h.0.parent, tt))
      (rules_states_in rs h.1)

  title_back : name_of Items ≡ A.name
  title_back =
      let v = file_values A title_of (λ w. refl) nothing nothing nothing nothing (λ a. refl) (λ n. refl) (λ n. refl) (λ r. title_none (symbol_name A r.symbol) (map (state_name A) r.kids) (state_name A r.parent)) in
      ap (λ z. unwrap_or (slice_get z 0) (codes "anonymous")) (v ∙ ap (λ z. z ++ (A.name ∷ (flat_map nothing A.states ++ (flat_map nothing (map (state_name A) A.finals) ++ flat_map nothing A.rules)))) (no_values A.symbols))
    where
      later : (i : ℕ) (ns : List (List ℕ)) → filter_map title_of (later_kids_items i (map plain ns)) ≡ []
      later i [] = refl
      later i (n ∷ ns) = later (suc i) ns

      kids : (ns : List (List ℕ)) → filter_map title_of (kids_items (kids_of ns)) ≡ []
      kids [] = refl
      kids (n ∷ ns) = later 1 ns

      title_none : (n : List ℕ) (ks : List (List ℕ)) (p : List ℕ) → filter_map title_of (rule_items (text_of_rule n ks p)) ≡ []
      title_none n ks p = rule_adds title_of n ks p refl ∙ ap (λ x. x ++ []) (kids ks)

  symbols_back : symbols_of Items ≡ A.symbols
  symbols_back =
      let v = file_values A symbol_of (λ w. refl) (λ a. op_symbol (op_of a) ∷ []) nothing nothing (λ r. rule_symbol r ∷ []) (λ a. refl) (λ n. refl) (λ n. refl)
      (λ r. rule_symbols (symbol_name A r.symbol) (map (state_name A) r.kids) (state_name A r.parent)) in
      let e : filter_map symbol_of Items ≡ A.symbols ++ flat_map (λ r. rule_symbol r ∷ []) A.rules =
      v ∙ (λ i. ranks_back A.symbols names.symbols i ++ (no_values {Y = Symbol} A.states i ++ (no_values {Y = Symbol} (map (state_name A) A.finals) i ++ flat_map (λ r. rule_symbol r ∷ []) A.rules))) in
      ap (first same_symbol) e ∙ first_keeps same_symbol symbol_decides A.symbols (flat_map (λ r. rule_symbol r ∷ []) A.rules) fits.symbols (rules_symbols_in A.rules all_lines)

  states_back : states_of Items ≡ A.states
  states_back =
      let v = file_values A state_of (λ w. refl) nothing (λ n. n ∷ []) (λ n. n ∷ []) (λ r. map (state_name A) r.kids ++ state_name A r.parent ∷ []) (λ a. refl) (λ n. refl) (λ n. refl)
      (λ r. rule_states (symbol_name A r.symbol) (map (state_name A) r.kids) (state_name A r.parent)) in
      let others : List (List ℕ) = map (state_name A) A.finals ++ flat_map (λ r. map (state_name A) r.kids ++ state_name A r.parent ∷ []) A.rules in
      let e : filter_map state_of Items ≡ A.states ++ others =
      v ∙ (λ i. no_values {Y = List ℕ} A.symbols i ++ (same_values A.states i ++ (same_values (map (state_name A) A.finals) i ++ flat_map (λ r. map (state_name A) r.kids ++ state_name A r.parent ∷ []) A.rules))) in
      ap (first bytes_eq) e ∙ first_keeps bytes_eq bytes_eq-Decides A.states others fits.states
      (each_append (Contains A.states) (map (state_name A) A.finals) (flat_map (λ r. map (state_name A) r.kids ++ state_name A r.parent ∷ []) A.rules)
      (states_in A.finals (recursion_from_All (IsState A) A.finals fits.final_states)) (rules_states_in A.rules all_lines))

  finals_back : finals_of Items ≡ map (state_name A) A.finals
  finals_back =
      let v = file_values A final_of (λ w. refl) nothing nothing (λ n. n ∷ []) nothing (λ a. refl) (λ n. refl) (λ n. refl)
      (λ r. rule_finals (symbol_name A r.symbol) (map (state_name A) r.kids) (state_name A r.parent)) in
      let e : filter_map final_of Items ≡ map (state_name A) A.finals ++ [] =
      v ∙ (λ i. no_values {Y = List ℕ} A.symbols i ++ (no_values {Y = List ℕ} A.states i ++ (same_values (map (state_name A) A.finals) i ++ no_values {Y = List ℕ} A.rules i))) in
      ap (first bytes_eq) e ∙ first_keeps bytes_eq bytes_eq-Decides (map (state_name A) A.finals) [] (finals_distinct A fits names) tt

  rules_back : rules_of Items ≡ map (named A fits names) A.rules
  rules_back =
      let v = file_values A rule_in (λ w. refl) nothing nothing nothing (λ r. named A fits names r ∷ []) (λ a. refl) (λ n. refl) (λ n. refl)
      (λ r. rule_rules (symbol_name A r.symbol) (map (state_name A) r.kids) (state_name A r.parent)) in
      let e : filter_map rule_in Items ≡ map (named A fits names) A.rules ++ [] =
      v ∙ (λ i. no_values {Y = NamedRule} A.symbols i ++ (no_values {Y = NamedRule} A.states i ++ (no_values {Y = NamedRule} (map (state_name A) A.finals) i ++ one_value (named A fits names) A.rules i)))
      ∙ sym (append-nil (map (named A fits names) A.rules)) in
      ap (first same_rule) e ∙ first_keeps same_rule rule_decides (map (named A fits names) A.rules) [] (lines_distinct A fits names) tt

  pub read_back : Spells (plain_text A) A
  read_back = (
    Items,
    (file_of A, file_fits A fits names, refl),
    subst (λ text. Tokens text (item_tokens Items)) (sym (plain_chained A)) (tokens_written A fits names),
    record {
      narrow = narrow;
      name = sym title_back;
      symbols = sym symbols_back;
      states = sym states_back;
      finals = subst (AllZip (IsAt A.states) A.finals) (sym finals_back) (states_stand A fits names A.finals (recursion_from_All (IsState A) A.finals fits.final_states));
      rules = subst (AllZip (IsRuleAt A.symbols A.states) A.rules) (sym rules_back) (lines_stand A fits names A.rules all_lines);
    },
  )
