-- What one turn of the reader, and the end of the text, mean.
use Rattle.std.proofs.Common.{◌≡◌, ℕ, ◌+◌, ◌-◌, ◌^◌, ◌<◌, ◌≤◌, List, [], ◌∷◌, ◌++◌, length, drop, inl, inr, Option, Some, None, refl, sym, ap, ◌∙◌, subst, append_assoc, length-append, length-drop, arith}
use Rattle.std.specs.Prelude.{slice_range, unwrap_or, codes}
use Rattle.std.specs.List.{AllByRecursion}
use Rattle.std.proofs.lemmas.List.{drop_all}
use Rattle.std.proofs.lemmas.List.Elements.{All-from_recursion}
use Rattle.tree_definitions.specs.Name.{IsName}
use Rattle.tree_definitions.specs.Tree.{Symbol}
use Rattle.ta_model.specs.Listing.{IsListed}
use Rattle.timbuk_definitions.specs.Token.{Sort, White, Marked, Inner, Other, sort_of, Token, bytes_of, IsGap, Lexeme, IsLexed, AreLexemes, text_of, bytes_of_lexeme, offset_after, Tokens}
use Rattle.timbuk_definitions.specs.Cursor.{BeginsWhite, BeginsWord}
use Rattle.timbuk_definitions.specs.Grammar.{IsFile, item_tokens}
use Rattle.timbuk_definitions.specs.Machine.{InStates, InFinals, InRules, InKids, Spot, Start, InOps, AfterOp, AfterOpColon, AfterAutomaton, AfterTitle, AfterFinal, AfterHead, AfterOpen, AfterComma, AfterClose, AfterPointer, In, AfterState, AfterColon, Move, kind_of, step, IsEnd}
use Rattle.timbuk_definitions.specs.Place.{Limit, IsBadPlace, PassesLimit, PassesNoLimit}
use Rattle.timbuk_definitions.specs.Progress.{HasRead}
use Rattle.timbuk_definitions.specs.Reading.{HasLists, Spells}
use Rattle.timbuk_definitions.proofs.Lexing.{one, lex, lex_lexed, lex_lexemes, Lexed, both}
use Rattle.timbuk_definitions.proofs.Next.{next_one, solid_gap}
use Rattle.timbuk_definitions.proofs.Seen.{sees}
use Rattle.timbuk_definitions.proofs.Steps.{begun, taken, over, bad, bad_unlimited, ended_well, ended_early, ended_unlimited}
use Rattle.timbuk_definitions.proofs.Formed.{file_formed}
use Rattle.timbuk_definitions.proofs.Named.{file_named}
use Rattle.timbuk_definitions.proofs.Counted.{within_small}
use Rattle.timbuk_text.specs.declared.table.Stand.{Stand}
use Rattle.timbuk_text.specs.declared.table.Step.{Step}
use Rattle.timbuk_text.specs.declared.table.Sight.{Sight}
use Rattle.timbuk_text.specs.Scan.{GapBetween, IsTokenAt}
use Rattle.timbuk_text.specs.Table.{some_spot, stand_of, sight_of, action_of, moved, next_at}
use Rattle.timbuk_text.specs.Store.{Store, empty}
use Rattle.timbuk_text.specs.Taking.{IsReady, Takes, Passes, item}
use Rattle.timbuk_text.specs.Reading.{IsReading, automaton_of}
use Rattle.timbuk_text.proofs.Alike.{alike}
use Rattle.timbuk_text.proofs.Turns.{Turn, turned}

texts_append : (xs ys : List Lexeme) → text_of (xs ++ ys) ≡ text_of xs ++ text_of ys
texts_append [] ys = refl
texts_append (x ∷ xs) ys = ap (λ t. bytes_of_lexeme x ++ t) (texts_append xs ys) ∙ sym (append_assoc (bytes_of_lexeme x) (text_of xs) (text_of ys))

-- the place is the offset of what is left
place_of_rest : (text gap : List ℕ) (front back : List Lexeme) (at : ℕ) → IsLexed text gap (front ++ back) → drop at text ≡ text_of back → at ≤ length text → at ≡ offset_after gap front
place_of_rest text gap front back at h e l =
    let whole : text ≡ (gap ++ text_of front) ++ text_of back = h.whole ∙ ap (λ t. gap ++ t) (texts_append front back) ∙ sym (append_assoc gap (text_of front) (text_of back)) in
    let long : length text ≡ length (gap ++ text_of front) + length (text_of back) = ap length whole ∙ length-append (gap ++ text_of front) (text_of back) in
    let left : length text - at ≡ length (text_of back) = sym (length-drop at text) ∙ ap length e in
    omega (arith, long, left)

later_lexemes : (front back : List Lexeme) → AreLexemes (front ++ back) → AreLexemes back
later_lexemes [] back h = h
later_lexemes (l ∷ front) back h = later_lexemes front back h.3

-- the white space at the front
pub record Parted (bytes : List ℕ) : Type 0 where
  pub gap : List ℕ
  pub rest : List ℕ
  pub white : IsGap gap
  pub whole : bytes ≡ gap ++ rest
  pub solid : ¬ BeginsWhite rest

part : (bytes : List ℕ) → Parted bytes
part [] = record { gap = []; rest = []; white = tt; whole = refl; solid = λ h. h }
part (b ∷ bs) = go (sort_of b) refl (part bs)
  where
    other : ¬ (sort_of b ≡ White) → Parted (b ∷ bs)
    other n = record { gap = []; rest = b ∷ bs; white = tt; whole = refl; solid = n }

    go : (s : Sort) → sort_of b ≡ s → Parted bs → Parted (b ∷ bs)
    go White e p = record { gap = b ∷ p.gap; rest = p.rest; white = (e, p.white); whole = ap (λ t. b ∷ t) p.whole; solid = p.solid }
    go Marked e p = other (λ h. let both : White ≡ Marked = sym h ∙ e in cc)
    go Inner e p = other (λ h. let both : White ≡ Inner = sym h ∙ e in cc)
    go Other e p = other (λ h. let both : White ≡ Other = sym h ∙ e in cc)

moved_some : (o : Option Move) (s : Step) → moved o ≡ Some s → (mv : Move) × (o ≡ Some mv) × (s.action ≡ action_of mv.role) × (s.stand ≡ stand_of mv.spot)
moved_some None s e = absurd cc
moved_some (Some mv) s e = let made : Step = record { action = action_of mv.role; stand = stand_of mv.spot } in let same : made ≡ s = cc in (mv, refl, sym (ap (λ (x : Step). x.action) same), sym (ap (λ (x : Step). x.stand) same))

moved_none : (o : Option Move) → moved o ≡ None → o ≡ None
moved_none None e = refl
moved_none (Some mv) e = absurd cc

-- before the first token
pub begins_reading : (text : List ℕ) (at : ℕ) → GapBetween text 0 at → ¬ BeginsWhite (drop at text) → IsReading text at Stand.Start empty
begins_reading text at g n =
    let rest : List ℕ = drop at text in
    let same : text_of (lex (drop at text)).lexemes ≡ drop at text = sym ((lex_lexed (drop at text)).whole ∙ ap (λ x. x ++ text_of (lex (drop at text)).lexemes) (solid_gap (drop at text) n)) in
    record {
      gap = g.0;
      front = [];
      back = (lex (drop at text)).lexemes;
      items = [];
      spot = Start;
      read = begun text g.0 (lex (drop at text)).lexemes (record { whole = g.2 ∙ ap (λ x. g.0 ++ x) (sym same); white = g.1; each = (lex_lexed (drop at text)).each });
      rest = sym same;
      solid = n;
      stands = refl;
      lists = record { title = refl; symbols = refl; states = refl; finals = tt; rules = tt };
      carries = refl;
      few = record { symbols = omega arith; states = omega arith; rules = omega arith };
    }

module _ (text : List ℕ) (at : ℕ) (stand : Stand) (s : Store) (r : IsReading text at stand s) where
  each_back : AreLexemes r.back
  each_back = later_lexemes r.front r.back r.read.lexed.each

  pub place : at ≤ length text → at ≡ offset_after r.gap r.front
  place l = place_of_rest text r.gap r.front r.back at r.read.lexed r.rest l

  module _ (end : ℕ) (t : Token) (found : IsTokenAt text at end t) where
    -- the token with the gap after it is the next lexeme
    next_lexeme : (gap rest : List ℕ) → IsGap gap → drop end text ≡ gap ++ rest → ¬ BeginsWhite rest → (r.back ≡ one t gap ∷ (lex rest).lexemes) × (text_of (lex rest).lexemes ≡ rest)
    next_lexeme gap rest white e solid = next_one r.back t gap rest each_back (record {
      whole = sym r.rest ∙ found.whole ∙ ap (λ x. bytes_of t ++ x) e;
      token = found.token;
      white = white;
      solid = solid;
      longest = λ w is none. λ h. found.longest w is (subst BeginsWord (sym (e ∙ ap (λ g. g ++ rest) none)) h);
    })

    some_next : (l : Lexeme) × (more : List Lexeme) × (r.back ≡ l ∷ more) × (l.token ≡ t)
    some_next = let p = part (drop end text) in let n = next_lexeme p.gap p.rest p.white p.whole p.solid in (one t p.gap, (lex p.rest).lexemes, n.0, refl)

    read_next : HasRead text r.gap r.front (some_next.0 ∷ some_next.1) r.items r.spot
    read_next = subst (λ b. HasRead text r.gap r.front b r.items r.spot) some_next.2 r.read

    -- the table's step is the machine's
    looks : (sight : Sight) → sight ≡ sight_of (kind_of t) → moved (step r.spot (kind_of t)) ≡ next_at stand sight
    looks sight e = alike r.spot (kind_of t) ∙ (λ i. next_at (sym r.stands i) (sym e i))

    -- no file goes on with the token
    pub turn_bad : (sight : Sight) → sight ≡ sight_of (kind_of t) → next_at stand sight ≡ None → at ≤ length text → IsBadPlace text at × PassesNoLimit text
    unfolding some_next
    turn_bad sight e f l =
        let none : step r.spot (kind_of t) ≡ None = moved_none (step r.spot (kind_of t)) (looks sight e ∙ f) in
        (subst (IsBadPlace text) (sym (place l)) (bad text r.gap r.front some_next.1 r.items r.spot some_next.0 read_next none), bad_unlimited text r.gap r.front some_next.1 r.items r.spot some_next.0 read_next none)

    module _ (sight : Sight) (seen : sight ≡ sight_of (kind_of t)) (st : Step) (goes : next_at stand sight ≡ Some st) where
      move : (mv : Move) × (step r.spot (kind_of t) ≡ Some mv) × (st.action ≡ action_of mv.role) × (st.stand ≡ stand_of mv.spot)
      move = moved_some (step r.spot (kind_of t)) st (looks sight seen ∙ goes)

      turn : Turn s (slice_range text at end) move.0
      turn = subst (λ w. Turn s w move.0) found.bytes (turned r.spot (kind_of t) s t move.0 r.carries (sees t found.token) move.1)

      pub turn_ready : IsReady st.action s (slice_range text at end)
      turn_ready = subst (λ d. IsReady d s (slice_range text at end)) (sym move.2) turn.ready

      -- the token is over a limit
      pub turn_over : (what : Limit) → Passes st.action (slice_range text at end) s what → at ≤ length text → PassesLimit text what at
      unfolding some_next
      turn_over what p l =
          let least = subst (λ d. Passes d (slice_range text at end) s what) move.2 p r.items t move.0.role turn.says r.lists in
          subst (PassesLimit text what) (sym (place l))
          (over text r.gap r.front some_next.1 r.items r.spot some_next.0 read_next move.0 what move.1 (least.over, least.least))

      -- the token is taken
      pub turn_taken : (new : Store) (after : ℕ) → Takes st.action (slice_range text at end) s new → GapBetween text end after → ¬ BeginsWhite (drop after text) → IsReading text after st.stand new
      turn_taken new after p g solid =
          let takes : Takes (action_of move.0.role) (slice_range text at end) s new = subst (λ d. Takes d (slice_range text at end) s new) move.2 p in
          let adds = takes.adds r.items t move.0.role turn.says r.lists in
          let n = next_lexeme g.0 (drop after text) g.1 g.2 solid in
          let read : HasRead text r.gap r.front (one t g.0 ∷ (lex (drop after text)).lexemes) r.items r.spot = subst (λ b. HasRead text r.gap r.front b r.items r.spot) n.0 r.read in
          record {
            gap = r.gap;
            front = r.front ++ one t g.0 ∷ [];
            back = (lex (drop after text)).lexemes;
            items = r.items ++ item t move.0.role ∷ [];
            spot = move.0.spot;
            read = taken text r.gap r.front (lex (drop after text)).lexemes r.items r.spot (one t g.0) read move.0 move.1 adds.within;
            rest = sym n.1;
            solid = solid;
            stands = move.3;
            lists = adds.lists;
            carries = turn.carries new takes.after takes.grows;
            few = takes.few;
          }

-- the text of lexemes is empty only without lexemes
no_lexemes : (ls : List Lexeme) → AreLexemes ls → text_of ls ≡ [] → ls ≡ []
no_lexemes ls h e = let both_ends : both [] ls ≡ both [] [] = sym (lex_lexemes ls h) ∙ ap lex e ∙ lex_lexemes [] tt in ap (λ (x : Lexed). x.lexemes) both_ends

module _ (text : List ℕ) (at : ℕ) (stand : Stand) (s : Store) (r : IsReading text at stand s) (l : length text ≤ at) where
  all_read : HasRead text r.gap r.front [] r.items r.spot
  all_read = subst (λ b. HasRead text r.gap r.front b r.items r.spot) (no_lexemes r.back (each_back text at stand s r) (sym r.rest ∙ drop_all at text l)) r.read

  -- a file may not end here
  pub end_bad : ¬ IsEnd r.spot → IsBadPlace text (length text) × PassesNoLimit text
  end_bad n = (ended_early text r.gap r.front r.items r.spot all_read n, ended_unlimited text r.gap r.front r.items r.spot all_read)

  lists : HasLists r.items (automaton_of s)
  lists = record { narrow = refl; name = ap (λ t. unwrap_or t (codes "anonymous")) r.lists.title; symbols = r.lists.symbols; states = r.lists.states; finals = r.lists.finals; rules = r.lists.rules }

  module _ (e : IsEnd r.spot) where
    file : IsFile r.items × Tokens text (item_tokens r.items)
    file = ended_well text r.gap r.front r.items r.spot all_read e

    pub end_spells : Spells text (automaton_of s) × PassesNoLimit text
    end_spells = ((r.items, file.0, file.1, lists), ended_unlimited text r.gap r.front r.items r.spot all_read)

    names_of_symbols : (as' : List Symbol) → AllByRecursion (λ (a : Symbol). IsName a.name × (a.rank < 2 ^ 64)) as' → AllByRecursion (λ (a : Symbol). IsName a.name) as'
    names_of_symbols [] h = tt
    names_of_symbols (a ∷ as') h = (h.0.0, names_of_symbols as' h.1)

    pub end_listed : IsListed (automaton_of s)
    end_listed =
        let names = file_named r.items (automaton_of s) file.0 r.read.within lists in
        let small = within_small r.items (automaton_of s) r.read.within lists in
        record {
          automaton = file_formed r.items (automaton_of s) file.0 lists;
          narrow = refl;
          name = names.name;
          symbol_names = All-from_recursion (λ (a : Symbol). IsName a.name) s.symbols (names_of_symbols s.symbols names.symbols);
          state_names = All-from_recursion IsName s.states names.states;
          few_symbols = small.few_symbols;
          few_states = omega (arith, small.few_states);
          few_rules = omega (arith, small.few_rules);
        }

-- a file may end at the spot exactly where it may at the stand
pub ending_from : (s : Spot) → IsEnd s → IsEnd (some_spot (stand_of s))
ending_from s (inl e) = inl (ap (λ m. some_spot (stand_of m)) e)
ending_from s (inr e) = inr (ap (λ m. some_spot (stand_of m)) e)

no_end : (s : Spot) → ¬ (s ≡ In InRules) → ¬ (s ≡ AfterState InRules) → ¬ IsEnd s
no_end s a b (inl e) = a e
no_end s a b (inr e) = b e

pub ending_to : (s : Spot) → IsEnd (some_spot (stand_of s)) → IsEnd s
ending_to (In InRules) h = inl refl
ending_to (AfterState InRules) h = inr refl
ending_to (In InStates) h = h
ending_to (In InFinals) h = h
ending_to (In (InKids n kids)) h = absurd (no_end (In (InKids [] [])) (λ e. cc) (λ e. cc) h)
ending_to (AfterState InStates) h = h
ending_to (AfterState InFinals) h = h
ending_to (AfterState (InKids n kids)) h = absurd (no_end (AfterState (InKids [] [])) (λ e. cc) (λ e. cc) h)
ending_to (AfterColon InStates) h = h
ending_to (AfterColon InFinals) h = h
ending_to (AfterColon InRules) h = h
ending_to (AfterColon (InKids n kids)) h = absurd (no_end (AfterColon (InKids [] [])) (λ e. cc) (λ e. cc) h)
ending_to (AfterOp n) h = absurd (no_end (AfterOp []) (λ e. cc) (λ e. cc) h)
ending_to (AfterOpColon n) h = absurd (no_end (AfterOpColon []) (λ e. cc) (λ e. cc) h)
ending_to (AfterHead n) h = absurd (no_end (AfterHead []) (λ e. cc) (λ e. cc) h)
ending_to (AfterOpen n) h = absurd (no_end (AfterOpen []) (λ e. cc) (λ e. cc) h)
ending_to (AfterComma n kids) h = absurd (no_end (AfterComma [] []) (λ e. cc) (λ e. cc) h)
ending_to (AfterClose n kids) h = absurd (no_end (AfterClose [] []) (λ e. cc) (λ e. cc) h)
ending_to (AfterPointer n kids) h = absurd (no_end (AfterPointer [] []) (λ e. cc) (λ e. cc) h)
ending_to Start h = h
ending_to InOps h = h
ending_to AfterAutomaton h = h
ending_to AfterTitle h = h
ending_to AfterFinal h = h
