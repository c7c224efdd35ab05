-- The token that a reader finds at the front is the next one of the text.
use Rattle.std.proofs.Common.{◌≡◌, ◌≢◌, ℕ, Bool, true, false, List, [], ◌∷◌, ◌++◌, refl, sym, ap, ◌∙◌, subst}
use Rattle.std.proofs.lemmas.List.{append-nil}
use Rattle.timbuk_definitions.specs.Token.{Sort, White, Marked, Inner, Other, sort_of, Token, Mark, Arrow, Word, BadByte, is_arrow, Lexeme, text_of, IsParted, AreLexemes}
use Rattle.timbuk_definitions.specs.Cursor.{BeginsWhite, BeginsWord, IsNext}
use Rattle.timbuk_definitions.proofs.Lexing.{Lexed, both, one, add, lex, lex_lexed, lex_lexemes, lex_cons, lex_white, lex_token, parted_other, arrow_bytes}

-- what doesn't begin with white space has no gap at its front
pub solid_gap : (rest : List ℕ) → ¬ BeginsWhite rest → (lex rest).gap ≡ []
unfolding lex
solid_gap [] n = refl
solid_gap (b ∷ bs) n = go (sort_of b) refl
  where
    go : (s : Sort) → sort_of b ≡ s → (add b s (lex bs).gap (lex bs).lexemes).gap ≡ []
    go White e = absurd (n e)
    go Marked e = refl
    go Inner e = refl
    go Other e = refl

-- what doesn't begin with a word has no word at its front
no_word : (rest : List ℕ) → ¬ BeginsWord rest → (m : Lexeme) (ms : List Lexeme) → lex rest ≡ both [] (m ∷ ms) → (w : List ℕ) → m.token ≢ Word w
no_word [] n m ms e w f = let gone : both [] [] ≡ both [] (m ∷ ms) = sym (lex_lexemes [] tt) ∙ e in let lists : [] ≡ m ∷ ms = ap (λ (x : Lexed). x.lexemes) gone in cc
no_word (b ∷ bs) n m ms e w f = go (sort_of b) refl
  where
    start : (s : Sort) → sort_of b ≡ s → add b s (lex bs).gap (lex bs).lexemes ≡ both [] (m ∷ ms)
    start s h = sym (lex_cons b s bs (lex bs).gap (lex bs).lexemes h refl) ∙ e

    first : (x : Lexeme) (xs : List Lexeme) → x ∷ xs ≡ m ∷ ms → x.token ≡ Word w
    first x xs h = let same : x ≡ m = cc in ap (λ (y : Lexeme). y.token) same ∙ f

    arrow : (cs : List ℕ) → bs ≡ cs → sort_of b ≡ Inner → ⊥
    arrow [] h s = n (subst (λ x. BeginsWord (b ∷ x)) (sym h) s)
    arrow (c ∷ cs) h s = which (is_arrow b c) refl
      where
        which : (r : Bool) → is_arrow b c ≡ r → ⊥
        which false a = n (subst (λ x. BeginsWord (b ∷ x)) (sym h) (s, a))
        which true a =
            let p = arrow_bytes b c a in
            let found : lex (45 ∷ 62 ∷ cs) ≡ both [] (one Arrow (lex cs).gap ∷ (lex cs).lexemes) = lex_token Arrow cs (lex cs).gap (lex cs).lexemes tt (parted_other Arrow (lex cs).gap (lex cs).lexemes (λ v k. cc)) refl in
            let same : b ∷ bs ≡ 45 ∷ 62 ∷ cs = cc (p.0, p.1, h) in
            let lists : one Arrow (lex cs).gap ∷ (lex cs).lexemes ≡ m ∷ ms = ap (λ (x : Lexed). x.lexemes) (sym found ∙ ap lex (sym same) ∙ e) in
            let t : Arrow ≡ Word w = first (one Arrow (lex cs).gap) (lex cs).lexemes lists in
            cc

    go : (s : Sort) → sort_of b ≡ s → ⊥
    go White h = let gaps : b ∷ (lex bs).gap ≡ [] = ap (λ (x : Lexed). x.gap) (start White h) in cc
    go Marked h = let t : Mark b ≡ Word w = first (one (Mark b) (lex bs).gap) (lex bs).lexemes (ap (λ (x : Lexed). x.lexemes) (start Marked h)) in cc
    go Other h = let t : BadByte b ≡ Word w = first (one (BadByte b) (lex bs).gap) (lex bs).lexemes (ap (λ (x : Lexed). x.lexemes) (start Other h)) in cc
    go Inner h = arrow bs refl h

-- the token found is parted from what is lexed after it
parted_next : (bytes : List ℕ) (t : Token) (gap rest : List ℕ) (ls : List Lexeme) → IsNext bytes t gap rest → lex rest ≡ both [] ls → IsParted (one t gap) ls
parted_next bytes t gap rest [] h e = tt
parted_next bytes t gap rest (m ∷ ms) h e = λ v w p q empty. no_word rest (h.longest v p empty) m ms e w q

pub next_lexed : (bytes : List ℕ) (t : Token) (gap rest : List ℕ) → IsNext bytes t gap rest → lex bytes ≡ both [] (one t gap ∷ (lex rest).lexemes)
next_lexed bytes t gap rest h =
    let found : lex rest ≡ both [] (lex rest).lexemes = ap (λ g. both g (lex rest).lexemes) (solid_gap rest h.solid) in
    let after : lex (gap ++ rest) ≡ both gap (lex rest).lexemes = lex_white gap rest [] (lex rest).lexemes h.white found ∙ ap (λ g. both g (lex rest).lexemes) (append-nil gap) in
    ap lex h.whole ∙ lex_token t (gap ++ rest) gap (lex rest).lexemes h.token (parted_next bytes t gap rest (lex rest).lexemes h found) after

-- of the lexemes that are left the first is the one found, and the others are those of the rest
pub next_one : (back : List Lexeme) (t : Token) (gap rest : List ℕ) → AreLexemes back → IsNext (text_of back) t gap rest → (back ≡ one t gap ∷ (lex rest).lexemes) × (text_of (lex rest).lexemes ≡ rest)
next_one back t gap rest good h =
    let lists : back ≡ one t gap ∷ (lex rest).lexemes = ap (λ (x : Lexed). x.lexemes) (sym (lex_lexemes back good) ∙ next_lexed (text_of back) t gap rest h) in
    let whole : rest ≡ (lex rest).gap ++ text_of (lex rest).lexemes = (lex_lexed rest).whole in
    (lists, sym (whole ∙ ap (λ g. g ++ text_of (lex rest).lexemes) (solid_gap rest h.solid)))
