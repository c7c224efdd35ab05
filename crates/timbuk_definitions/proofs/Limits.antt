-- The first limit that a text passes.
use Rattle.std.proofs.Common.{◌≡◌, ℕ, ◌<◌, ◌≤◌, ◌⊎◌, inl, inr, List, [], ◌∷◌, ◌++◌, length, Option, Some, None, refl, sym, ap, ◌∙◌, subst, append_assoc, arith}
use Rattle.std.specs.Prelude.{Contains}
use Rattle.std.specs.Str.{bytes_eq}
use Rattle.std.specs.Bool.{Decides}
use Rattle.std.specs.Prelude.{Bool}
use Rattle.std.proofs.lemmas.List.{map-append, append-nil, same_from_push}
use Rattle.std.proofs.lemmas.Bool.{cases_lt, cases_order}
use Rattle.tree_definitions.specs.Joint.{same_symbol}
use Rattle.timbuk_definitions.specs.Token.{Token, IsToken, Lexeme, IsLexed, tokens_of, offset_after}
use Rattle.timbuk_definitions.specs.Grammar.{Item, Role, OpRank, KidName, BeginsFile, BeginFileTokens, item_tokens}
use Rattle.timbuk_definitions.specs.Reading.{same_rule, symbol_of, state_of, rule_in, symbols_of, states_of, rules_of}
use Rattle.timbuk_definitions.specs.Machine.{kind_of, step, Start}
use Rattle.timbuk_definitions.specs.Place.{Limit, Names, Rank, Symbols, States, Rules, number_of, name_in, IsFull, IsOver, IsWithin, PassesLimit}
use Rattle.timbuk_definitions.proofs.Lexing.{lex, lex_lexed, one_lexing}
use Rattle.timbuk_definitions.proofs.Stuck.{begins_runs, same_run}
use Rattle.timbuk_definitions.proofs.Firsts.{dec_listed}
use Rattle.timbuk_definitions.proofs.Spelled.{symbol_decides, rule_decides}
use Rattle.std.proofs.lemmas.Slice.Eq.{bytes_eq-Decides}
use Rattle.timbuk_definitions.proofs.BadPlaces.{same_or_apart, tokens_split, begins_front, begin_front, Walk, walk, not_begun}

dec_lt : (m n : ℕ) → Dec (m < n)
dec_lt m n = elim (cases_lt m n) [ inl l ↦ yes l | inr g ↦ no (λ l. omega arith) ]

dec_le : (m n : ℕ) → Dec (m ≤ n)
dec_le m n = elim (cases_lt n m) [ inl l ↦ no (λ g. omega arith) | inr g ↦ yes g ]

dec_full : {X : Type 0} (same : X → X → Bool) → ((a b : X) → Decides (same a b) (a ≡ b)) → (most : ℕ) (listed : List X) (x : X) → Dec (IsFull most listed x)
dec_full same decides most listed x = go (dec_listed same decides listed x) (dec_le most (length listed))
  where
    go : Dec (Contains listed x) → Dec (most ≤ length listed) → Dec (IsFull most listed x)
    go (yes m) d = no (λ h. h.0 m)
    go (no n) (yes l) = yes (n, l)
    go (no n) (no g) = no (λ h. g h.1)

-- a fact of the value that there may be
dec_some : {X : Type 0} (P : X → Type 0) → ((x : X) → Dec (P x)) → (o : Option X) → Dec ((x : X) × (o ≡ Some x) × P x)
dec_some P d None = no (λ h. cc (h.1))
dec_some {X} P d (Some x) = go (d x)
  where
    go : Dec (P x) → Dec ((y : X) × (Some x ≡ Some y) × P y)
    go (yes p) = yes (x, refl, p)
    go (no n) = no (λ h. let e : x ≡ h.0 = cc (h.1) in n (subst P (sym e) h.2))

dec_rank : (role : Role) → Dec (elim role as (λ r. Type 0) [ OpRank a ↦ 32 < a.rank | KidName i w ↦ 32 ≤ i | _ ↦ ⊥ ])
dec_rank (OpRank a) = dec_lt 32 a.rank
dec_rank (KidName i w) = dec_le 32 i
dec_rank _ = no (λ h. h)

pub dec_over : (what : Limit) (front : List Item) (x : Item) → Dec (IsOver what front x)
dec_over Names front x = dec_some (λ w. 1000 < length w) (λ w. dec_lt 1000 (length w)) (name_in x)
dec_over Rank front x = dec_rank x.role
dec_over Symbols front x = dec_some (IsFull 65535 (symbols_of front)) (dec_full same_symbol symbol_decides 65535 (symbols_of front)) (symbol_of x)
dec_over States front x = dec_some (IsFull 1000000 (states_of front)) (dec_full bytes_eq bytes_eq-Decides 1000000 (states_of front)) (state_of x)
dec_over Rules front x = dec_some (IsFull 2000000 (rules_of front)) (dec_full same_rule rule_decides 2000000 (rules_of front)) (rule_in x)

-- the first limit that the item is over, if any
abbrev pub Least : List Item → Item → Limit → Type 0
Least front x what = IsOver what front x × ((other : Limit) → number_of other < number_of what → ¬ IsOver other front x)

pub least_over : (front : List Item) (x : Item) → ((what : Limit) × Least front x what) ⊎ ((what : Limit) → ¬ IsOver what front x)
least_over front x = go (dec_over Names front x) (dec_over Rank front x) (dec_over Symbols front x) (dec_over States front x) (dec_over Rules front x)
  where
    before_rank : ¬ IsOver Names front x → (other : Limit) → number_of other < 1 → ¬ IsOver other front x
    before_rank a Names l = a
    before_rank a Rank l = absurd (omega arith)
    before_rank a Symbols l = absurd (omega arith)
    before_rank a States l = absurd (omega arith)
    before_rank a Rules l = absurd (omega arith)

    before_symbols : ¬ IsOver Names front x → ¬ IsOver Rank front x → (other : Limit) → number_of other < 2 → ¬ IsOver other front x
    before_symbols a b Names l = a
    before_symbols a b Rank l = b
    before_symbols a b Symbols l = absurd (omega arith)
    before_symbols a b States l = absurd (omega arith)
    before_symbols a b Rules l = absurd (omega arith)

    before_states : ¬ IsOver Names front x → ¬ IsOver Rank front x → ¬ IsOver Symbols front x → (other : Limit) → number_of other < 3 → ¬ IsOver other front x
    before_states a b c Names l = a
    before_states a b c Rank l = b
    before_states a b c Symbols l = c
    before_states a b c States l = absurd (omega arith)
    before_states a b c Rules l = absurd (omega arith)

    before_rules : ¬ IsOver Names front x → ¬ IsOver Rank front x → ¬ IsOver Symbols front x → ¬ IsOver States front x → (other : Limit) → number_of other < 4 → ¬ IsOver other front x
    before_rules a b c d Names l = a
    before_rules a b c d Rank l = b
    before_rules a b c d Symbols l = c
    before_rules a b c d States l = d
    before_rules a b c d Rules l = absurd (omega arith)

    none : ¬ IsOver Names front x → ¬ IsOver Rank front x → ¬ IsOver Symbols front x → ¬ IsOver States front x → ¬ IsOver Rules front x → (what : Limit) → ¬ IsOver what front x
    none a b c d e Names = a
    none a b c d e Rank = b
    none a b c d e Symbols = c
    none a b c d e States = d
    none a b c d e Rules = e

    go : Dec (IsOver Names front x) → Dec (IsOver Rank front x) → Dec (IsOver Symbols front x) → Dec (IsOver States front x) → Dec (IsOver Rules front x)
        → ((what : Limit) × Least front x what) ⊎ ((what : Limit) → ¬ IsOver what front x)
    go (yes y) b c d e = inl (Names, (y, λ other l. absurd (omega arith)))
    go (no a) (yes y) c d e = inl (Rank, (y, before_rank a))
    go (no a) (no b) (yes y) d e = inl (Symbols, (y, before_symbols a b))
    go (no a) (no b) (no c) (yes y) e = inl (States, (y, before_states a b c))
    go (no a) (no b) (no c) (no d) (yes y) = inl (Rules, (y, before_rules a b c d))
    go (no a) (no b) (no c) (no d) (no e) = inr (none a b c d e)

-- a place in a list and one more
push_cases : {X : Type 0} (xs f b : List X) (x y : X) → xs ++ x ∷ [] ≡ f ++ y ∷ b → ((c : List X) × (xs ≡ f ++ y ∷ c)) ⊎ ((xs ≡ f) × (x ≡ y))
push_cases xs f b x y e = elim (same_or_apart xs f x y [] b e) [
  | inl p ↦ inr p
  | inr (inl p) ↦ absurd (too_long xs p.0 b x y (e ∙ ap (λ z. z ++ y ∷ b) p.1))
  | inr (inr p) ↦ inl p
]
  where
    too_long : {X : Type 0} (xs m b : List X) (x y : X) → xs ++ x ∷ [] ≡ (xs ++ x ∷ m) ++ y ∷ b → ⊥
    too_long [] [] b x y e = cc
    too_long [] (z ∷ m) b x y e = cc
    too_long (w ∷ xs) m b x y e = too_long xs m b x y (let r : xs ++ x ∷ [] ≡ (xs ++ x ∷ m) ++ y ∷ b = cc in r)

pub within_none : IsWithin []
within_none [] back x what e = absurd cc
within_none (y ∷ front) back x what e = absurd cc

pub within_push : (items : List Item) (x : Item) → IsWithin items → ((what : Limit) → ¬ IsOver what items x) → IsWithin (items ++ x ∷ [])
within_push items x w n front back y what e over = elim (push_cases items front back x y e) [
  | inl p ↦ w front p.0 y what p.1 over
  | inr p ↦ n what (subst (λ z. IsOver what items z) (sym p.1) (subst (λ z. IsOver what z y) (sym p.0) over))
]

-- the first item over a limit
pub record Crossing (items : List Item) : Type 0 where
  pub front : List Item
  pub item : Item
  pub back : List Item
  pub what : Limit
  pub whole : items ≡ front ++ item ∷ back
  pub within : IsWithin front
  pub least : Least front item what

pub scan : (rest done : List Item) → IsWithin done → Crossing (done ++ rest) ⊎ IsWithin (done ++ rest)
scan [] done w = inr (subst IsWithin (sym (append-nil done)) w)
scan (x ∷ xs) done w = go (least_over done x) (scan xs (done ++ x ∷ []))
  where
    go : ((what : Limit) × Least done x what) ⊎ ((what : Limit) → ¬ IsOver what done x)
        → (IsWithin (done ++ x ∷ []) → Crossing ((done ++ x ∷ []) ++ xs) ⊎ IsWithin ((done ++ x ∷ []) ++ xs))
        → Crossing (done ++ x ∷ xs) ⊎ IsWithin (done ++ x ∷ xs)
    go (inl p) f = inl (record { front = done; item = x; back = xs; what = p.0; whole = refl; within = w; least = p.1 })
    go (inr n) f = subst (λ z. Crossing z ⊎ IsWithin z) (append_assoc done (x ∷ []) xs) (f (within_push done x w n))

same_limit : (a b : Limit) → number_of a ≡ number_of b → a ≡ b
same_limit Names Names e = refl
same_limit Rank Rank e = refl
same_limit Symbols Symbols e = refl
same_limit States States e = refl
same_limit Rules Rules e = refl
same_limit _ _ e = absurd (omega arith)

-- beginnings with the same tokens say the same
pub same_items : (xs ys : List Item) → BeginsFile xs → BeginsFile ys → item_tokens xs ≡ item_tokens ys → xs ≡ ys
same_items xs ys b c e =
    let r = (begins_runs xs).0 b in
    let q = (begins_runs ys).0 c in
    (same_run xs ys Start r.0 q.0 r.1 q.1 e).0

-- a beginning with the tokens of another and more has its items
front_items : (xs ys : List Item) (vs : List Token) → BeginsFile xs → BeginsFile ys → item_tokens ys ≡ item_tokens xs ++ vs → (zs : List Item) × (ys ≡ xs ++ zs)
front_items xs ys vs b c e =
    let p = tokens_split ys (item_tokens xs) vs e in
    let same = same_items p.0 xs (begins_front p.0 p.1 (subst BeginsFile p.2 c)) b p.3 in
    (p.1, p.2 ∙ ap (λ z. z ++ p.1) same)

-- the items and the lexemes before the last
before_last : (xs : List Item) (x : Item) (ls : List Lexeme) (l : Lexeme) → item_tokens (xs ++ x ∷ []) ≡ tokens_of (ls ++ l ∷ []) → item_tokens xs ≡ tokens_of ls
before_last xs x ls l e =
    (same_from_push (item_tokens xs) (tokens_of ls) x.token l.token (sym (map-append (λ (y : Item). y.token) xs (x ∷ [])) ∙ e ∙ map-append (λ (y : Lexeme). y.token) ls (l ∷ []))).0

-- where the tokens go on after the one that passes the limit, the items go on
pub goes_past : (text : List ℕ) (a : Limit) (i : ℕ) (p : PassesLimit text a i) (ys : List Item) (m : List Lexeme) → BeginsFile ys → item_tokens ys ≡ tokens_of (p.front ++ p.lexeme ∷ m) → ¬ IsWithin ys
goes_past text a i p ys m b e w =
    let whole : item_tokens ys ≡ item_tokens (p.items ++ p.item ∷ []) ++ tokens_of m =
    e ∙ ap tokens_of (sym (append_assoc p.front (p.lexeme ∷ []) m)) ∙ map-append (λ (l : Lexeme). l.token) (p.front ++ p.lexeme ∷ []) m ∙ ap (λ z. z ++ tokens_of m) (sym p.tokens) in
    let r = front_items (p.items ++ p.item ∷ []) ys (tokens_of m) p.begins b whole in
    w p.items r.0 p.item a (r.1 ∙ append_assoc p.items (p.item ∷ []) r.0) p.over

-- of two passed limits the second can't be later than the first
not_later : (text : List ℕ) (a b : Limit) (i j : ℕ) (p : PassesLimit text a i) (q : PassesLimit text b j) (m : List Lexeme) → q.front ≡ p.front ++ p.lexeme ∷ m → ⊥
not_later text a b i j p q m e =
    goes_past text a i p q.items m (begins_front q.items (q.item ∷ []) q.begins) (before_last q.items q.item q.front q.lexeme q.tokens ∙ ap tokens_of e) q.within

at_one_token : (text : List ℕ) (a b : Limit) (i j : ℕ) (p : PassesLimit text a i) (q : PassesLimit text b j) → p.gap ≡ q.gap → p.front ≡ q.front → p.lexeme ≡ q.lexeme → (a ≡ b) × (i ≡ j)
at_one_token text a b i j p q g f l = (same_limit a b numbers, p.place ∙ (λ k. offset_after (g k) (f k)) ∙ sym q.place)
  where
    tokens : item_tokens (p.items ++ p.item ∷ []) ≡ item_tokens (q.items ++ q.item ∷ [])
    tokens = p.tokens ∙ (λ k. tokens_of (f k ++ l k ∷ [])) ∙ sym q.tokens

    parts : (p.items ≡ q.items) × (p.item ≡ q.item)
    parts = same_from_push p.items q.items p.item q.item (same_items (p.items ++ p.item ∷ []) (q.items ++ q.item ∷ []) p.begins q.begins tokens)

    p_over : IsOver a q.items q.item
    p_over = subst (λ z. IsOver a q.items z) parts.1 (subst (λ z. IsOver a z p.item) parts.0 p.over)

    q_over : IsOver b p.items p.item
    q_over = subst (λ z. IsOver b p.items z) (sym parts.1) (subst (λ z. IsOver b z q.item) (sym parts.0) q.over)

    numbers : number_of a ≡ number_of b
    numbers = elim (cases_order (number_of a) (number_of b)) [
      | inl e ↦ e
      | inr (inl s) ↦ absurd (q.least a s p_over)
      | inr (inr s) ↦ absurd (p.least b s q_over)
    ]

pub one_limit : (text : List ℕ) (a b : Limit) (i j : ℕ) → PassesLimit text a i → PassesLimit text b j → (a ≡ b) × (i ≡ j)
one_limit text a b i j p q = go (same_or_apart p.front q.front p.lexeme q.lexeme p.back q.back (sym p.whole ∙ same.1 ∙ q.whole))
  where
    same : (p.gap ≡ q.gap) × (p.lexemes ≡ q.lexemes)
    same = one_lexing text p.gap q.gap p.lexemes q.lexemes p.lexed q.lexed

    go : ((p.front ≡ q.front) × (p.lexeme ≡ q.lexeme)) ⊎ (((m : List Lexeme) × (q.front ≡ p.front ++ p.lexeme ∷ m)) ⊎ ((m : List Lexeme) × (p.front ≡ q.front ++ q.lexeme ∷ m))) → (a ≡ b) × (i ≡ j)
    go (inl e) = at_one_token text a b i j p q same.0 e.0 e.1
    go (inr (inl e)) = absurd (not_later text a b i j p q e.0 e.1)
    go (inr (inr e)) = absurd (not_later text b a j i q p e.0 e.1)

-- the lexemes of items that are a front of others
pub lexemes_split : (xs ys : List Item) (ls : List Lexeme) → item_tokens (xs ++ ys) ≡ tokens_of ls → (f : List Lexeme) × (b : List Lexeme) × (ls ≡ f ++ b) × (item_tokens xs ≡ tokens_of f) × (item_tokens ys ≡ tokens_of b)
lexemes_split [] ys ls e = ([], ls, refl, refl, e)
lexemes_split (x ∷ xs) ys [] e = absurd cc
lexemes_split (x ∷ xs) ys (l ∷ ls) e =
    let head : x.token ≡ l.token = cc in
    let rest : item_tokens (xs ++ ys) ≡ tokens_of ls = cc in
    let p = lexemes_split xs ys ls rest in
    (l ∷ p.0, p.1, ap (λ z. l ∷ z) p.2, (λ i. head i ∷ p.3 i), p.4)

-- a text passes a limit or it doesn't
pub limit_or_none : (text : List ℕ) → ((what : Limit) × (at : ℕ) × PassesLimit text what at) ⊎ ((what : Limit) (at : ℕ) → ¬ PassesLimit text what at)
limit_or_none text = go (scan w.items [] within_none)
  where
    lexed : IsLexed text (lex text).gap (lex text).lexemes
    lexed = lex_lexed text

    w : Walk Start (lex text).lexemes
    w = walk (lex text).lexemes lexed.each Start

    begins : BeginsFile w.items
    begins = (begins_runs w.items).1 (w.spot, w.runs)

    passed : (c : Crossing w.items) → (f : List Lexeme) (b : List Lexeme) → w.front ≡ f ++ b → item_tokens c.front ≡ tokens_of f → item_tokens (c.item ∷ c.back) ≡ tokens_of b → (at : ℕ) × PassesLimit text c.what at
    passed c f [] e h g = absurd cc
    passed c f (l ∷ b) e h g =
        let head : c.item.token ≡ l.token = cc in (
          offset_after (lex text).gap f,
          record {
            gap = (lex text).gap;
            lexemes = (lex text).lexemes;
            lexed = lexed;
            front = f;
            lexeme = l;
            back = b ++ w.back;
            whole = w.whole ∙ ap (λ z. z ++ w.back) e ∙ append_assoc f (l ∷ b) w.back;
            items = c.front;
            item = c.item;
            begins = begins_front (c.front ++ c.item ∷ []) c.back (subst BeginsFile (c.whole ∙ sym (append_assoc c.front (c.item ∷ []) c.back)) begins);
            tokens = map-append (λ (y : Item). y.token) c.front (c.item ∷ []) ∙ (λ i. h i ++ head i ∷ []) ∙ sym (map-append (λ (y : Lexeme). y.token) f (l ∷ []));
            over = c.least.0;
            within = c.within;
            least = c.least.1;
            place = refl;
          },
        )

    never : IsWithin w.items → (what : Limit) (at : ℕ) → ¬ PassesLimit text what at
    never h what at p = at_stop w.stop
      where
        same : p.lexemes ≡ (lex text).lexemes
        same = (one_lexing text p.gap (lex text).gap p.lexemes (lex text).lexemes p.lexed lexed).1

        p_begins : BeginFileTokens (tokens_of (p.front ++ p.lexeme ∷ []))
        p_begins = (p.items ++ p.item ∷ [], p.begins, p.tokens)

        inside : (m : List Lexeme) → w.front ≡ p.front ++ p.lexeme ∷ m → ⊥
        inside m e = goes_past text what at p w.items m begins (w.tokens ∙ ap tokens_of e) h

        at_stop : (w.back ≡ []) ⊎ ((l : Lexeme) × (more : List Lexeme) × (w.back ≡ l ∷ more) × IsToken l.token × (step w.spot (kind_of l.token) ≡ None)) → ⊥
        at_stop (inl e) = inside p.back (sym (w.whole ∙ ap (λ x. w.front ++ x) e ∙ append-nil w.front) ∙ sym same ∙ p.whole)
        at_stop (inr r) =
            let stuck = not_begun (lex text).lexemes w r.0 r.3 r.4 in
            elim (same_or_apart p.front w.front p.lexeme r.0 p.back r.1 (sym p.whole ∙ same ∙ w.whole ∙ ap (λ x. w.front ++ x) r.2)) [
              | inl e ↦ stuck (subst BeginFileTokens (λ k. tokens_of (e.0 k ++ e.1 k ∷ [])) p_begins)
              | inr (inl e) ↦ inside e.0 e.1
              | inr (inr e) ↦ stuck (begin_front (tokens_of (w.front ++ r.0 ∷ [])) (tokens_of (e.0 ++ p.lexeme ∷ []))
                  (subst BeginFileTokens (ap tokens_of (ap (λ z. z ++ p.lexeme ∷ []) (e.1 ∙ sym (append_assoc w.front (r.0 ∷ []) e.0)) ∙ append_assoc (w.front ++ r.0 ∷ []) e.0 (p.lexeme ∷ [])) ∙ map-append (λ (y : Lexeme). y.token) (w.front ++ r.0 ∷ []) (e.0 ++ p.lexeme ∷ [])) p_begins))
            ]

    go : Crossing w.items ⊎ IsWithin w.items → ((what : Limit) × (at : ℕ) × PassesLimit text what at) ⊎ ((what : Limit) (at : ℕ) → ¬ PassesLimit text what at)
    go (inl c) =
        let s = lexemes_split c.front (c.item ∷ c.back) w.front (ap item_tokens (sym c.whole) ∙ w.tokens) in
        let r = passed c s.0 s.1 s.2 s.3 s.4 in
        inl (c.what, r.0, r.1)
    go (inr h) = inr (never h)
