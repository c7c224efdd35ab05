-- The tokens of a printed text.
use Rattle.std.proofs.Common.{◌≡◌, ◌≢◌, ℕ, suc, ◌+◌, ◌<◌, ◌≤◌, ◌^◌, true, false, ◌&&◌, List, [], ◌∷◌, ◌++◌, map, Option, Some, None, refl, sym, ap, ◌∙◌, subst, append_assoc, arith}
use Rattle.std.specs.Prelude.{codes, decimal, flat_map}
use Rattle.std.specs.List.{AllByRecursion}
use Rattle.std.specs.Prelude.{nat_le, ◌==◌}
use Rattle.std.proofs.Common.{◌%◌}
use Rattle.std.proofs.lemmas.Bool.{or_from, and_left, and_from, ne_eqb, le-leb}
use Rattle.std.proofs.lemmas.Bool.Decides.{nat_tests}
use Rattle.std.proofs.lemmas.Fmt.{decimal_by_steps}
use Rattle.tree_definitions.specs.Name.{has_arrow, IsName}
use Rattle.timbuk_definitions.proofs.Names.{has_arrow_more, has_arrow_one, name_is_word}
use Rattle.timbuk_definitions.specs.Token.{White, Marked, Inner, sort_of, Token, Mark, Arrow, Word, is_arrow, IsWord, Lexeme, tokens_of, IsParted}
use Rattle.timbuk_definitions.specs.Grammar.{IsDigits, are_digits, StateText, RuleText, Item, Role, word, mark, state_items, later_kids_items, kids_items, kid_names, rule_of, parent_items, rule_items, item_tokens, KidName, ParentName, RuleName}
use Rattle.timbuk_definitions.proofs.Chained.{spaced, later_kids_text, kids_text}
use Rattle.timbuk_definitions.proofs.Lexing.{Lexed, both, one, lex, lex_cons, lex_token, lex_word, parted_other, parted_gap}
use Rattle.timbuk_definitions.proofs.Complete.{sort_open, sort_close, sort_comma}

-- the bytes have the tokens of the items, and a word may stand right before them
pub record Writes (bytes : List ℕ) (items : List Item) : Type 0 where
  pub tokens : tokens_of (lex bytes).lexemes ≡ item_tokens items
  pub free : (w : List ℕ) → IsParted (one (Word w) (lex bytes).gap) (lex bytes).lexemes

-- the same, where no word may stand right before them
pub record Begins (bytes : List ℕ) (items : List Item) : Type 0 where
  pub tokens : tokens_of (lex bytes).lexemes ≡ item_tokens items

pub nothing_written : Writes [] []
unfolding lex
nothing_written = record { tokens = refl; free = λ w. tt }

at_lexed : (bytes g : List ℕ) (ls : List Lexeme) (items : List Item) → lex bytes ≡ both g ls → tokens_of ls ≡ item_tokens items → ((w : List ℕ) → IsParted (one (Word w) g) ls) → Writes bytes items
at_lexed bytes g ls items e t f = record {
  tokens = ap (λ (x : Lexed). tokens_of x.lexemes) e ∙ t;
  free = λ w. subst (λ (x : Lexed). IsParted (one (Word w) x.gap) x.lexemes) (sym e) (f w);
}

pub white : (b : ℕ) (rest : List ℕ) (items : List Item) → sort_of b ≡ White → Begins rest items → Writes (b ∷ rest) items
white b rest items s h = at_lexed (b ∷ rest) (b ∷ (lex rest).gap) (lex rest).lexemes items (lex_cons b White rest (lex rest).gap (lex rest).lexemes s refl) h.tokens (λ w. parted_gap (Word w) b (lex rest).gap (lex rest).lexemes)

pub begun : (rest : List ℕ) (items : List Item) → Writes rest items → Begins rest items
begun rest items h = record { tokens = h.tokens }

before_other : (w : List ℕ) (t : Token) (g : List ℕ) (ls : List Lexeme) → ((v : List ℕ) → t ≢ Word v) → IsParted (one (Word w) []) (one t g ∷ ls)
before_other w t g ls n = λ v u e f. absurd (n u f)

pub marked : (b : ℕ) (rest : List ℕ) (items : List Item) → sort_of b ≡ Marked → Begins rest items → Writes (b ∷ rest) (mark b ∷ items)
marked b rest items s h =
    at_lexed (b ∷ rest) [] (one (Mark b) (lex rest).gap ∷ (lex rest).lexemes) (mark b ∷ items) (lex_cons b Marked rest (lex rest).gap (lex rest).lexemes s refl)
    (ap (λ z. Mark b ∷ z) h.tokens) (λ w. before_other w (Mark b) (lex rest).gap (lex rest).lexemes (λ v k. cc))

pub arrowed : (role : Role) (rest : List ℕ) (items : List Item) → Begins rest items → Writes (45 ∷ 62 ∷ rest) (record { token = Arrow; role = role } ∷ items)
arrowed role rest items h =
    at_lexed (45 ∷ 62 ∷ rest) [] (one Arrow (lex rest).gap ∷ (lex rest).lexemes) (record { token = Arrow; role = role } ∷ items)
    (lex_token Arrow rest (lex rest).gap (lex rest).lexemes tt (parted_other Arrow (lex rest).gap (lex rest).lexemes (λ v k. cc)) refl)
    (ap (λ z. Arrow ∷ z) h.tokens) (λ w. before_other w Arrow (lex rest).gap (lex rest).lexemes (λ v k. cc))

pub worded : (w : List ℕ) (role : Role) (rest : List ℕ) (items : List Item) → IsWord w → Writes rest items → Begins (w ++ rest) (word w role ∷ items)
worded w role rest items i h = record {
  tokens = ap (λ (x : Lexed). tokens_of x.lexemes) (lex_word w rest (lex rest).gap (lex rest).lexemes i (h.free w) refl) ∙ ap (λ z. Word w ∷ z) h.tokens;
}

pub sort_space : sort_of 32 ≡ White
unfolding sort_of
sort_space = refl

pub sort_feed : sort_of 10 ≡ White
unfolding sort_of
sort_feed = refl

abbrev pub plain : List ℕ → StateText
plain n = record { name = n; digits = None }

spaced_word : (w : List ℕ) (role : Role) (more rest : List ℕ) (items : List Item) → IsWord w → Writes (more ++ rest) items → Writes ((spaced w ++ more) ++ rest) (word w role ∷ items)
spaced_word w role more rest items i h =
    white 32 ((w ++ more) ++ rest) (word w role ∷ items) sort_space
    (subst (λ z. Begins z (word w role ∷ items)) (sym (append_assoc w more rest)) (worded w role (more ++ rest) items i h))

pub states_written : (role : List ℕ → Role) (names : List (List ℕ)) → AllByRecursion IsName names → (rest : List ℕ) (items : List Item) → Writes rest items
    → Writes (flat_map spaced names ++ rest) (flat_map (λ s. state_items (role s.name) s) (map plain names) ++ items)
states_written role [] h rest items k = k
states_written role (n ∷ ns) h rest items k = spaced_word n (role n) (flat_map spaced ns) rest _ (name_is_word n h.0) (states_written role ns h.1 rest items k)

marked_word : (b : ℕ) (w : List ℕ) (role : Role) (more rest : List ℕ) (items : List Item) → sort_of b ≡ Marked → IsWord w → Writes (more ++ rest) items → Writes (b ∷ ((w ++ more) ++ rest)) (mark b ∷ word w role ∷ items)
marked_word b w role more rest items s i h =
    marked b ((w ++ more) ++ rest) (word w role ∷ items) s
    (subst (λ z. Begins z (word w role ∷ items)) (sym (append_assoc w more rest)) (worded w role (more ++ rest) items i h))

later_written : (i : ℕ) (names : List (List ℕ)) → AllByRecursion IsName names → (rest : List ℕ) (items : List Item) → Writes rest items
    → Writes (later_kids_text names ++ rest) (later_kids_items i (map plain names) ++ items)
later_written i [] h rest items k = marked 41 rest items sort_close (begun rest items k)
later_written i (n ∷ ns) h rest items k =
    marked_word 44 n (KidName i n) (later_kids_text ns) rest (later_kids_items (suc i) (map plain ns) ++ items) sort_comma (name_is_word n h.0) (later_written (suc i) ns h.1 rest items k)

abbrev pub kids_of : List (List ℕ) → Option (List StateText)
kids_of [] = None
kids_of (n ∷ ns) = Some (map plain (n ∷ ns))

kids_written : (names : List (List ℕ)) → AllByRecursion IsName names → (rest : List ℕ) (items : List Item) → Writes rest items
    → Writes (kids_text names ++ rest) (kids_items (kids_of names) ++ items)
kids_written [] h rest items k = k
kids_written (n ∷ ns) h rest items k =
    marked_word 40 n (KidName 0 n) (later_kids_text ns) rest (later_kids_items 1 (map plain ns) ++ items) sort_open (name_is_word n h.0) (later_written 1 ns h.1 rest items k)

-- a rule by its names
pub rule_written : (name : List ℕ) (kids : List (List ℕ)) (parent : List ℕ) → IsName name → AllByRecursion IsName kids → IsName parent → (rest : List ℕ) (items : List Item) → Begins rest items
    → Begins ((name ++ (kids_text kids ++ (codes " -> " ++ (parent ++ 10 ∷ [])))) ++ rest) (rule_items (record { name = name; kids = kids_of kids; parent = plain parent }) ++ items)
rule_written name kids parent hn hk hp rest items k =
    subst (λ z. Begins z (rule_items r ++ items)) (sym bytes) (subst (Begins (name ++ (kids_text kids ++ (32 ∷ 45 ∷ 62 ∷ 32 ∷ (parent ++ (10 ∷ rest)))))) (sym said) all)
  where
    r : RuleText
    r = record { name = name; kids = kids_of kids; parent = plain parent }

    ends : List Item
    ends = parent_items name (kid_names (kids_of kids)) (plain parent)

    bytes : (name ++ (kids_text kids ++ (codes " -> " ++ (parent ++ 10 ∷ [])))) ++ rest ≡ name ++ (kids_text kids ++ (32 ∷ 45 ∷ 62 ∷ 32 ∷ (parent ++ (10 ∷ rest))))
    bytes = simp append_assoc

    said : rule_items r ++ items ≡ word name (RuleName name) ∷ (kids_items (kids_of kids) ++ (ends ++ items))
    said = ap (λ z. word name (RuleName name) ∷ z) (append_assoc (kids_items (kids_of kids)) ends items)

    last : Writes (10 ∷ rest) items
    last = white 10 rest items sort_feed k

    tail : Writes (32 ∷ 45 ∷ 62 ∷ 32 ∷ (parent ++ (10 ∷ rest))) (ends ++ items)
    tail =
        white 32 (45 ∷ 62 ∷ 32 ∷ (parent ++ (10 ∷ rest))) (ends ++ items) sort_space
        (begun (45 ∷ 62 ∷ 32 ∷ (parent ++ (10 ∷ rest))) (ends ++ items)
        (arrowed _ (32 ∷ (parent ++ (10 ∷ rest))) _ (begun (32 ∷ (parent ++ (10 ∷ rest))) _
        (white 32 (parent ++ (10 ∷ rest)) _ sort_space (worded parent (ParentName (rule_of name (kid_names (kids_of kids)) parent)) (10 ∷ rest) items (name_is_word parent hp) last)))))

    all : Begins (name ++ (kids_text kids ++ (32 ∷ 45 ∷ 62 ∷ 32 ∷ (parent ++ (10 ∷ rest))))) (word name (RuleName name) ∷ (kids_items (kids_of kids) ++ (ends ++ items)))
    all = worded name (RuleName name) _ _ (name_is_word name hn) (kids_written kids hk _ (ends ++ items) tail)

-- digits of a number are a word
record AreDigits (ds : List ℕ) : Type 0 where
  some : ds ≢ []
  each : AllByRecursion (λ b. (48 ≤ b) × (b ≤ 57)) ds

digit_sort : (b : ℕ) → 48 ≤ b → b ≤ 57 → sort_of b ≡ Inner
unfolding sort_of
digit_sort b l h = grind (arith, nat_tests)

digits_inner : (ds : List ℕ) → AllByRecursion (λ b. (48 ≤ b) × (b ≤ 57)) ds → AllByRecursion (λ b. sort_of b ≡ Inner) ds
digits_inner [] h = tt
digits_inner (d ∷ ds) h = (digit_sort d h.0.0 h.0.1, digits_inner ds h.1)

digits_arrow : (ds : List ℕ) → AllByRecursion (λ b. (48 ≤ b) × (b ≤ 57)) ds → has_arrow ds ≡ false
digits_arrow [] h = refl
digits_arrow (d ∷ []) h = has_arrow_one d
digits_arrow (d ∷ e ∷ ds) h = has_arrow_more d e ds ∙ or_from (is_arrow d e) (has_arrow (e ∷ ds)) (and_left (d == 45) (e == 62) (ne_eqb d 45 (λ k. absurd (omega (arith, h.0.0))))) (digits_arrow (e ∷ ds) h.1)

digits_test : (ds : List ℕ) → AllByRecursion (λ b. (48 ≤ b) × (b ≤ 57)) ds → are_digits ds ≡ true
digits_test [] h = refl
digits_test (d ∷ ds) h = and_from (nat_le 48 d && nat_le d 57) (are_digits ds) (and_from (nat_le 48 d) (nat_le d 57) (le-leb 48 d h.0.0) (le-leb d 57 h.0.1)) (digits_test ds h.1)

digits_push : (ds : List ℕ) (d : ℕ) → d < 10 → AreDigits ds → AreDigits (ds ++ (48 + d) ∷ [])
digits_push ds d l h = record { some = λ e. none ds e; each = go ds h.each }
  where
    none : (ds : List ℕ) → ds ++ (48 + d) ∷ [] ≡ [] → ⊥
    none [] e = cc
    none (x ∷ xs) e = cc

    go : (ds : List ℕ) → AllByRecursion (λ b. (48 ≤ b) × (b ≤ 57)) ds → AllByRecursion (λ b. (48 ≤ b) × (b ≤ 57)) (ds ++ (48 + d) ∷ [])
    go [] k = ((omega arith, omega arith), tt)
    go (x ∷ xs) k = (k.0, go xs k.1)

decimal_digits : (n : ℕ) → n < 2 ^ 64 → AreDigits (decimal n)
decimal_digits n h =
    decimal_by_steps (λ n ds. AreDigits ds) (λ n l. record { some = λ e. cc; each = ((omega arith, omega arith), tt) })
    (λ n ds l k. digits_push ds (n % 10) (omega arith) k) n h

pub decimal_is_digits : (n : ℕ) → n < 2 ^ 64 → IsDigits (decimal n)
decimal_is_digits n h =
    let d = decimal_digits n h in
    record { word = record { some = d.some; inner = digits_inner (decimal n) d.each; no_arrow = digits_arrow (decimal n) d.each }; digits = digits_test (decimal n) d.each }
