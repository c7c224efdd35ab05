-- The token at a place of a text.
use Rattle.std.proofs.Common.{◌≡◌, ℕ, ◌+◌, ◌-◌, ◌<◌, ◌≤◌, inl, inr, true, false, List, [], ◌∷◌, ◌++◌, length, get_or, take, drop, refl, sym, ap, ◌∙◌, subst, length-append, length-drop, arith}
use Rattle.std.specs.Prelude.{◌==◌, slice_range}
use Rattle.std.proofs.lemmas.List.{drop_more, drop_all}
use Rattle.std.proofs.lemmas.Bool.{cases_lt, and_parts, eqb-true}
use Rattle.std.proofs.lemmas.Bool.Decides.{nat_tests}
use lib.Seq.{take-append_seam}
use Rattle.timbuk_definitions.specs.Token.{Sort, White, Marked, Inner, Other, sort_of, is_arrow, Token, Mark, Arrow, Word, BadByte, bytes_of, IsToken}
use Rattle.timbuk_definitions.specs.Cursor.{BeginsWhite, BeginsWord}
use Rattle.timbuk_definitions.specs.Machine.{Stray, kind_of, mark_kind, word_kind}
use Rattle.timbuk_text.specs.Scan.{WordBetween, BeginsArrow, IsTokenAt}

-- what stands between two places
between : (text xs : List ℕ) (from end : ℕ) → from ≤ end → end ≤ length text → drop from text ≡ xs ++ drop end text → xs ≡ slice_range text from end
between text xs from end l m e =
    let whole : length (drop from text) ≡ length xs + length (drop end text) = ap length e ∙ length-append xs (drop end text) in
    let long : length xs ≡ end - from = omega (arith, whole, length-drop from text, length-drop end text) in
    sym (ap (λ k. take k (drop from text)) (sym long) ∙ ap (take (length xs)) e ∙ take-append_seam xs (drop end text))

pub word_found : (text : List ℕ) (from end : ℕ) → from ≤ end → end ≤ length text → WordBetween text from end → ¬ BeginsWord (drop end text)
    → (t : Token) × IsTokenAt text from end t × (word_kind (slice_range text from end) ≡ kind_of t)
word_found text from end l m w n =
    let same = between text w.0 from end l m w.2 in
    (Word w.0, record { token = w.1; bytes = same; whole = w.2; longest = λ v e. n }, ap word_kind (sym same))

one_more : (text : List ℕ) (at : ℕ) (xs : List ℕ) → drop at text ≡ xs → ¬ (xs ≡ []) → at < length text
one_more text at xs e n = elim (cases_lt at (length text)) [ inl l ↦ l | inr g ↦ absurd (n (sym e ∙ drop_all at text g)) ]

pub arrow_within : (text : List ℕ) (at : ℕ) → BeginsArrow (drop at text) → (at + 2 ≤ length text) × (drop at text ≡ 45 ∷ 62 ∷ drop (at + 2) text)
arrow_within text at h = go (drop at text) refl h
  where
    go : (bs : List ℕ) → drop at text ≡ bs → BeginsArrow bs → (at + 2 ≤ length text) × (drop at text ≡ 45 ∷ 62 ∷ drop (at + 2) text)
    go [] e k = absurd k
    go (b ∷ []) e k = absurd k
    go (b ∷ c ∷ bs) e k =
        let l : at < length text = one_more text at (b ∷ c ∷ bs) e (λ x. cc) in
        let first : drop at text ≡ get_or text at 0 ∷ drop (at + 1) text = drop_more text at 0 l in
        let tail : drop (at + 1) text ≡ c ∷ bs = (let both : get_or text at 0 ∷ drop (at + 1) text ≡ b ∷ c ∷ bs = sym first ∙ e in cc) in
        let m : at + 1 < length text = one_more text (at + 1) (c ∷ bs) tail (λ x. cc) in
        let second : drop (at + 1) text ≡ get_or text (at + 1) 0 ∷ drop (at + 1 + 1) text = drop_more text (at + 1) 0 m in
        let rest : drop (at + 1 + 1) text ≡ bs = (let both : get_or text (at + 1) 0 ∷ drop (at + 1 + 1) text ≡ c ∷ bs = sym second ∙ tail in cc) in
        let place : at + 1 + 1 ≡ at + 2 = omega arith in
        let p = and_parts (b == 45) (c == 62) k in
        let dash : b ≡ 45 = eqb-true b 45 p.0 in
        let head : c ≡ 62 = eqb-true c 62 p.1 in
        (omega arith, e ∙ (λ i. dash i ∷ head i ∷ (sym rest ∙ ap (λ k. drop k text) place) i))

pub arrow_found : (text : List ℕ) (at : ℕ) → BeginsArrow (drop at text) → IsTokenAt text at (at + 2) Arrow
arrow_found text at h =
    let w = arrow_within text at h in
    record { token = tt; bytes = between text (45 ∷ 62 ∷ []) at (at + 2) (omega arith) w.0 w.1; whole = w.1; longest = λ v e. cc }

-- a byte that is no mark has no kind of its own
other_kind : (b : ℕ) → sort_of b ≡ Other → mark_kind b ≡ Stray
unfolding sort_of
other_kind b e = grind (arith, nat_tests)

begins : (b : ℕ) (bs : List ℕ) → sort_of b ≡ Inner → ¬ BeginsWord (b ∷ bs) → BeginsArrow (b ∷ bs)
begins b [] s n = absurd (n s)
begins b (c ∷ bs) s n = go (is_arrow b c) refl
  where
    go : (r : _) → is_arrow b c ≡ r → is_arrow b c ≡ true
    go true e = e
    go false e = absurd (n (s, e))

pub byte_found : (text : List ℕ) (at : ℕ) → at < length text → ¬ BeginsWhite (drop at text) → ¬ BeginsWord (drop at text) → ¬ BeginsArrow (drop at text)
    → (t : Token) × IsTokenAt text at (at + 1) t × (mark_kind (get_or text at 0) ≡ kind_of t)
byte_found text at l white word arrow = go (sort_of b) refl
  where
    b : ℕ
    b = get_or text at 0

    here : drop at text ≡ get_or text at 0 ∷ drop (at + 1) text
    here = drop_more text at 0 l

    found : (t : Token) → IsToken t → bytes_of t ≡ get_or text at 0 ∷ [] → ((w : List ℕ) → t ≡ Word w → ⊥) → IsTokenAt text at (at + 1) t
    found t is e n =
        let whole : drop at text ≡ bytes_of t ++ drop (at + 1) text = here ∙ ap (λ x. x ++ drop (at + 1) text) (sym e) in
        record { token = is; bytes = between text (bytes_of t) at (at + 1) (omega arith) (omega arith) whole; whole = whole; longest = λ w f. absurd (n w f) }

    go : (s : Sort) → sort_of (get_or text at 0) ≡ s → (t : Token) × IsTokenAt text at (at + 1) t × (mark_kind (get_or text at 0) ≡ kind_of t)
    go White e = absurd (white (subst BeginsWhite (sym here) e))
    go Marked e = (Mark (get_or text at 0), found (Mark (get_or text at 0)) e refl (λ w f. cc), refl)
    go Inner e = absurd (arrow (subst BeginsArrow (sym here) (begins (get_or text at 0) (drop (at + 1) text) e (λ h. word (subst BeginsWord (sym here) h)))))
    go Other e = (BadByte (get_or text at 0), found (BadByte (get_or text at 0)) e refl (λ w f. cc), other_kind (get_or text at 0) e)
