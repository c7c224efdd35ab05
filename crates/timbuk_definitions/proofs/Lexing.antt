-- The tokens of a text, computed from its end: each text has some, and no others.
use Rattle.std.proofs.Common.{◌≡◌, ◌≢◌, ℕ, Bool, true, false, if◌then◌else◌, List, [], ◌∷◌, ◌++◌, refl, sym, ap, ◌∙◌, append_assoc}
use Rattle.std.proofs.lemmas.List.{append-nil}
use Rattle.std.proofs.lemmas.Bool.{and_parts, or_parts, eqb-true, or_from}
use Rattle.tree_definitions.specs.Name.{has_arrow}
use Rattle.timbuk_definitions.proofs.Names.{has_arrow_more, has_arrow_one}
use Rattle.timbuk_definitions.specs.Token.{Sort, White, Marked, Inner, Other, sort_of, Token, Mark, Arrow, Word, BadByte, is_arrow, IsWord, bytes_of, IsToken, IsGap, Lexeme, text_of, tokens_of, IsParted, AreLexemes, IsLexed, Tokens}

pub record Lexed : Type 0 where
  pub gap : List ℕ
  pub lexemes : List Lexeme

abbrev pub one : Token → List ℕ → Lexeme
one t g = record { token = t; gap = g }

-- the arrow before the rest of a word that began with its second byte
abbrev pub arrow_before : List ℕ → List ℕ → List Lexeme → List Lexeme
arrow_before [] g ls = one Arrow g ∷ ls
arrow_before (d ∷ w) g ls = one Arrow [] ∷ one (Word (d ∷ w)) g ∷ ls

-- a byte of a word right before a token
abbrev pub onto : ℕ → Token → List ℕ → List Lexeme → List Lexeme
onto b (Word (c ∷ w)) g ls = if is_arrow b c then arrow_before w g ls else one (Word (b ∷ c ∷ w)) g ∷ ls
onto b t g ls = one (Word (b ∷ [])) [] ∷ one t g ∷ ls

abbrev pub inner : ℕ → List ℕ → List Lexeme → List Lexeme
inner b (x ∷ g) ls = one (Word (b ∷ [])) (x ∷ g) ∷ ls
inner b [] [] = one (Word (b ∷ [])) [] ∷ []
inner b [] (l ∷ ls) = onto b l.token l.gap ls

abbrev pub add : ℕ → Sort → List ℕ → List Lexeme → Lexed
add b White g ls = record { gap = b ∷ g; lexemes = ls }
add b Marked g ls = record { gap = []; lexemes = one (Mark b) g ∷ ls }
add b Other g ls = record { gap = []; lexemes = one (BadByte b) g ∷ ls }
add b Inner g ls = record { gap = []; lexemes = inner b g ls }

unfoldable pub lex : List ℕ → Lexed
lex [] = record { gap = []; lexemes = [] }
lex (b ∷ bs) = add b (sort_of b) (lex bs).gap (lex bs).lexemes

pub arrow_bytes : (b c : ℕ) → is_arrow b c ≡ true → (b ≡ 45) × (c ≡ 62)
arrow_bytes b c e = let p = and_parts _ _ e in (eqb-true b 45 p.0, eqb-true c 62 p.1)

-- what is no word is parted from what comes
pub parted_other : (t : Token) (g : List ℕ) (ls : List Lexeme) → ((w : List ℕ) → t ≢ Word w) → IsParted (one t g) ls
parted_other t g [] n = tt
parted_other t g (m ∷ ms) n = λ v w e f. absurd (n v e)

-- what comes is no word
parted_before : (t : Token) (g : List ℕ) (m : Lexeme) (ms : List Lexeme) → ((w : List ℕ) → m.token ≢ Word w) → IsParted (one t g) (m ∷ ms)
parted_before t g m ms n = λ v w e f. absurd (n w f)

-- a gap that isn't empty
pub parted_gap : (t : Token) (x : ℕ) (g : List ℕ) (ls : List Lexeme) → IsParted (one t (x ∷ g)) ls
parted_gap t x g [] = tt
parted_gap t x g (m ∷ ms) = λ v w e f h. cc

-- a word is parted as another with the same gap
parted_same : (v w : List ℕ) (g : List ℕ) (ls : List Lexeme) → IsParted (one (Word v) g) ls → IsParted (one (Word w) g) ls
parted_same v w g [] h = tt
parted_same v w g (m ∷ ms) h = λ x y e f. h v y refl f

one_byte : (b : ℕ) → sort_of b ≡ Inner → IsWord (b ∷ [])
one_byte b e = record { some = λ h. cc; inner = (e, tt); no_arrow = has_arrow_one b }

record Good (text : List ℕ) (ls : List Lexeme) : Type 0 where
  whole : text ≡ text_of ls
  each : AreLexemes ls

good_arrow : (b c : ℕ) (w g : List ℕ) (ls : List Lexeme) (text : List ℕ) → is_arrow b c ≡ true → Good (c ∷ text) (one (Word (c ∷ w)) g ∷ ls) → Good (b ∷ c ∷ text) (arrow_before w g ls)
good_arrow b c [] g ls text e h =
    let p = arrow_bytes b c e in
    record {
      whole = let t : c ∷ text ≡ c ∷ (g ++ text_of ls) = h.whole in cc (p.0, p.1, t);
      each = (tt, h.each.1, parted_other Arrow g ls (λ w n. cc), h.each.3);
    }
good_arrow b c (d ∷ w) g ls text e h =
    let p = arrow_bytes b c e in
    let old : IsWord (c ∷ d ∷ w) = h.each.0 in
    record {
      whole = let t : c ∷ text ≡ c ∷ d ∷ ((w ++ g) ++ text_of ls) = h.whole in cc (p.0, p.1, t);
      each = (
        tt,
        tt,
        parted_other Arrow [] (one (Word (d ∷ w)) g ∷ ls) (λ w n. cc),
        (record { some = λ n. cc; inner = old.inner.1; no_arrow = (or_parts _ _ old.no_arrow).1 }, h.each.1, parted_same (c ∷ d ∷ w) (d ∷ w) g ls h.each.2, h.each.3),
      );
    }

good_longer : (b c : ℕ) (w g : List ℕ) (ls : List Lexeme) (text : List ℕ) → sort_of b ≡ Inner → is_arrow b c ≡ false → Good text (one (Word (c ∷ w)) g ∷ ls) → Good (b ∷ text) (one (Word (b ∷ c ∷ w)) g ∷ ls)
good_longer b c w g ls text s e h =
    let old : IsWord (c ∷ w) = h.each.0 in
    record {
      whole = ap (λ t. b ∷ t) h.whole;
      each = (record { some = λ n. cc; inner = (s, old.inner); no_arrow = has_arrow_more b c w ∙ or_from (is_arrow b c) (has_arrow (c ∷ w)) e old.no_arrow }, h.each.1, parted_same (c ∷ w) (b ∷ c ∷ w) g ls h.each.2, h.each.3);
    }

good_single : (b : ℕ) (t : Token) (g : List ℕ) (ls : List Lexeme) (text : List ℕ) → sort_of b ≡ Inner → ((w : List ℕ) → t ≢ Word w) → Good text (one t g ∷ ls) → Good (b ∷ text) (one (Word (b ∷ [])) [] ∷ one t g ∷ ls)
good_single b t g ls text s n h = record {
  whole = ap (λ t. b ∷ t) h.whole;
  each = (one_byte b s, tt, parted_before (Word (b ∷ [])) [] (one t g) ls n, h.each);
}

good_onto : (b : ℕ) (t : Token) (g : List ℕ) (ls : List Lexeme) (text : List ℕ) → sort_of b ≡ Inner → Good text (one t g ∷ ls) → Good (b ∷ text) (onto b t g ls)
good_onto b (Word []) g ls text s h = absurd (h.each.0.some refl)
good_onto b (Word (c ∷ w)) g ls text s h = go (is_arrow b c) refl
  where
    go : (r : Bool) → is_arrow b c ≡ r → Good (b ∷ text) (if r then arrow_before w g ls else one (Word (b ∷ c ∷ w)) g ∷ ls)
    go true e =
        let t : text ≡ c ∷ ((w ++ g) ++ text_of ls) = h.whole in
        let moved : Good (c ∷ ((w ++ g) ++ text_of ls)) (one (Word (c ∷ w)) g ∷ ls) = record { whole = refl; each = h.each } in
        rw t (good_arrow b c w g ls ((w ++ g) ++ text_of ls) e moved)
    go false e = good_longer b c w g ls text s e h
good_onto b (Mark c) g ls text s h = good_single b (Mark c) g ls text s (λ w n. cc) h
good_onto b Arrow g ls text s h = good_single b Arrow g ls text s (λ w n. cc) h
good_onto b (BadByte c) g ls text s h = good_single b (BadByte c) g ls text s (λ w n. cc) h

good_inner : (b : ℕ) (g : List ℕ) (ls : List Lexeme) (text : List ℕ) → sort_of b ≡ Inner → IsLexed text g ls → Good (b ∷ text) (inner b g ls)
good_inner b (x ∷ g) ls text s h = record {
  whole = ap (λ t. b ∷ t) h.whole;
  each = (one_byte b s, h.white, parted_gap (Word (b ∷ [])) x g ls, h.each);
}
good_inner b [] [] text s h = record { whole = ap (λ t. b ∷ t) h.whole; each = (one_byte b s, tt, tt, tt) }
good_inner b [] (l ∷ ls) text s h = good_onto b l.token l.gap ls text s (record { whole = h.whole; each = h.each })

lexed_add : (b : ℕ) (s : Sort) (g : List ℕ) (ls : List Lexeme) (text : List ℕ) → sort_of b ≡ s → IsLexed text g ls → IsLexed (b ∷ text) (add b s g ls).gap (add b s g ls).lexemes
lexed_add b White g ls text s h = record { whole = ap (λ t. b ∷ t) h.whole; white = (s, h.white); each = h.each }
lexed_add b Marked g ls text s h = record { whole = ap (λ t. b ∷ t) h.whole; white = tt; each = (s, h.white, parted_other (Mark b) g ls (λ w n. cc), h.each) }
lexed_add b Other g ls text s h = record { whole = ap (λ t. b ∷ t) h.whole; white = tt; each = (s, h.white, parted_other (BadByte b) g ls (λ w n. cc), h.each) }
lexed_add b Inner g ls text s h = let r = good_inner b g ls text s h in record { whole = r.whole; white = tt; each = r.each }

-- what `lex` finds is right
pub lex_lexed : (text : List ℕ) → IsLexed text (lex text).gap (lex text).lexemes
unfolding lex
lex_lexed [] = record { whole = refl; white = tt; each = tt }
lex_lexed (b ∷ bs) = lexed_add b (sort_of b) (lex bs).gap (lex bs).lexemes bs refl (lex_lexed bs)

abbrev pub both : List ℕ → List Lexeme → Lexed
both g ls = record { gap = g; lexemes = ls }

pub lex_cons : (b : ℕ) (s : Sort) (bs g : List ℕ) (ls : List Lexeme) → sort_of b ≡ s → lex bs ≡ both g ls → lex (b ∷ bs) ≡ add b s g ls
unfolding lex
lex_cons b s bs g ls e h = rw (e, h) refl

pub lex_white : (gap rest g : List ℕ) (ls : List Lexeme) → IsGap gap → lex rest ≡ both g ls → lex (gap ++ rest) ≡ both (gap ++ g) ls
lex_white [] rest g ls w h = h
lex_white (b ∷ gap) rest g ls w h = lex_cons b White (gap ++ rest) (gap ++ g) ls w.0 (lex_white gap rest g ls w.1 h)

-- a byte of a word that is parted from what comes is a word of its own
inner_alone : (b : ℕ) (w g : List ℕ) (ls : List Lexeme) → IsParted (one (Word w) g) ls → inner b g ls ≡ one (Word (b ∷ [])) g ∷ ls
inner_alone b w (x ∷ g) ls h = refl
inner_alone b w [] [] h = refl
inner_alone b w [] (m ∷ ms) h = go m.token refl
  where
    go : (t : Token) → m.token ≡ t → onto b t m.gap ms ≡ one (Word (b ∷ [])) [] ∷ one t m.gap ∷ ms
    go (Word v) e = absurd (h w v refl e refl)
    go (Mark c) e = refl
    go Arrow e = refl
    go (BadByte c) e = refl

pub lex_word : (w rest g : List ℕ) (ls : List Lexeme) → IsWord w → IsParted (one (Word w) g) ls → lex rest ≡ both g ls → lex (w ++ rest) ≡ both [] (one (Word w) g ∷ ls)
lex_word [] rest g ls i p h = absurd (i.some refl)
lex_word (b ∷ []) rest g ls i p h = lex_cons b Inner rest g ls i.inner.0 h ∙ ap (both []) (inner_alone b (b ∷ []) g ls p)
lex_word (b ∷ c ∷ w) rest g ls i p h =
    let arrows = or_parts (is_arrow b c) (has_arrow (c ∷ w)) (sym (has_arrow_more b c w) ∙ i.no_arrow) in
    let shorter : IsWord (c ∷ w) = record { some = λ n. cc; inner = i.inner.1; no_arrow = arrows.1 } in
    let rest_lexed = lex_word (c ∷ w) rest g ls shorter (parted_same (b ∷ c ∷ w) (c ∷ w) g ls p) h in
    lex_cons b Inner (c ∷ w ++ rest) [] (one (Word (c ∷ w)) g ∷ ls) i.inner.0 rest_lexed ∙ rw arrows.0 refl

pub lex_token : (t : Token) (rest g : List ℕ) (ls : List Lexeme) → IsToken t → IsParted (one t g) ls → lex rest ≡ both g ls → lex (bytes_of t ++ rest) ≡ both [] (one t g ∷ ls)
unfolding sort_of
lex_token (Mark b) rest g ls i p h = lex_cons b Marked rest g ls i h
lex_token (BadByte b) rest g ls i p h = lex_cons b Other rest g ls i h
lex_token (Word w) rest g ls i p h = lex_word w rest g ls i p h
lex_token Arrow rest g ls i p h = lex_cons 45 Inner (62 ∷ rest) [] (inner 62 g ls) refl (lex_cons 62 Inner rest g ls refl h) ∙ ap (both []) (go g ls)
  where
    go : (g : List ℕ) (ls : List Lexeme) → inner 45 [] (inner 62 g ls) ≡ one Arrow g ∷ ls
    go (x ∷ g) ls = refl
    go [] [] = refl
    go [] (m ∷ ms) = at m.token refl
      where
        at : (t : Token) → m.token ≡ t → inner 45 [] (onto 62 t m.gap ms) ≡ one Arrow [] ∷ one t m.gap ∷ ms
        at (Word []) e = refl
        at (Word (c ∷ w)) e = refl
        at (Mark c) e = refl
        at Arrow e = refl
        at (BadByte c) e = refl

pub lex_lexemes : (ls : List Lexeme) → AreLexemes ls → lex (text_of ls) ≡ both [] ls
unfolding lex
lex_lexemes [] h = refl
lex_lexemes (l ∷ ls) h =
    let rest : lex (l.gap ++ text_of ls) ≡ both (l.gap ++ []) ls = lex_white l.gap (text_of ls) [] ls h.1 (lex_lexemes ls h.3) in
    let same : l.gap ++ [] ≡ l.gap = append-nil l.gap in
    rw append_assoc (lex_token l.token (l.gap ++ text_of ls) l.gap ls h.0 h.2 (rest ∙ ap (λ g. both g ls) same))

-- whatever the tokens of a text are, `lex` finds them
pub lexed_lex : (text g : List ℕ) (ls : List Lexeme) → IsLexed text g ls → lex text ≡ both g ls
lexed_lex text g ls h =
    let all = lex_white g (text_of ls) [] ls h.white (lex_lexemes ls h.each) in
    let same : g ++ [] ≡ g = append-nil g in
    ap lex h.whole ∙ all ∙ ap (λ x. both x ls) same

-- a text has one gap and one list of lexemes
pub one_lexing : (text g g' : List ℕ) (ls ls' : List Lexeme) → IsLexed text g ls → IsLexed text g' ls' → (g ≡ g') × (ls ≡ ls')
one_lexing text g g' ls ls' h h' =
    let e : both g ls ≡ both g' ls' = sym (lexed_lex text g ls h) ∙ lexed_lex text g' ls' h' in
    (ap (λ (x : Lexed). x.gap) e, ap (λ (x : Lexed). x.lexemes) e)

pub some_tokens : (text : List ℕ) → (ts : List Token) × Tokens text ts
some_tokens text = (tokens_of (lex text).lexemes, ((lex text).gap, (lex text).lexemes, lex_lexed text, refl))

pub one_tokens : (text : List ℕ) (ts us : List Token) → Tokens text ts → Tokens text us → ts ≡ us
one_tokens text ts us t u = let e = one_lexing text t.0 u.0 t.1 u.1 t.2 u.2 in sym t.3 ∙ ap tokens_of e.1 ∙ u.3
