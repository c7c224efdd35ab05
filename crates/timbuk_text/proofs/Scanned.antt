-- One more byte of a gap or of a word.
use Rattle.std.proofs.Common.{◌≡◌, ℕ, ◌+◌, ◌<◌, inl, inr, false, List, [], ◌∷◌, ◌++◌, length, get_or, take, drop, refl, sym, ap, ◌∙◌, subst, append_assoc}
use Rattle.std.specs.List.{AllByRecursion}
use Rattle.std.proofs.lemmas.List.{drop_more, drop_all, append-nil}
use Rattle.std.proofs.lemmas.Bool.{cases_lt, or_parts, or_from}
use Rattle.tree_definitions.specs.Name.{has_arrow}
use Rattle.timbuk_definitions.proofs.Names.{has_arrow_more, has_arrow_one}
use Rattle.timbuk_definitions.specs.Token.{White, Inner, sort_of, is_arrow}
use Rattle.timbuk_definitions.specs.Cursor.{BeginsWhite, BeginsWord}
use Rattle.timbuk_text.specs.Scan.{GapBetween, WordBetween, IsWordSoFar, WordSoFar}

all_push : (P : ℕ → Type 0) (xs : List ℕ) (x : ℕ) → AllByRecursion P xs → P x → AllByRecursion P (xs ++ x ∷ [])
all_push P [] x h p = (p, tt)
all_push P (y ∷ ys) x h p = (h.0, all_push P ys x h.1 p)

-- where something begins, a byte stands
pub white_within : (text : List ℕ) (at : ℕ) → BeginsWhite (drop at text) → at < length text
white_within text at h = elim (cases_lt at (length text)) [ inl l ↦ l | inr g ↦ absurd (subst BeginsWhite (drop_all at text g) h) ]

pub word_within : (text : List ℕ) (at : ℕ) → BeginsWord (drop at text) → at < length text
word_within text at h = elim (cases_lt at (length text)) [ inl l ↦ l | inr g ↦ absurd (subst BeginsWord (drop_all at text g) h) ]

longer : (text w : List ℕ) (from at b : ℕ) → drop from text ≡ w ++ drop at text → drop at text ≡ b ∷ drop (at + 1) text → drop from text ≡ (w ++ b ∷ []) ++ drop (at + 1) text
longer text w from at b e f = e ∙ ap (λ x. w ++ x) f ∙ sym (append_assoc w (b ∷ []) (drop (at + 1) text))

pub gap_more : (text : List ℕ) (from at : ℕ) → GapBetween text from at → BeginsWhite (drop at text) → GapBetween text from (at + 1)
gap_more text from at h white =
    let b = get_or text at 0 in
    let here : drop at text ≡ b ∷ drop (at + 1) text = drop_more text at 0 (white_within text at white) in
    (h.0 ++ b ∷ [], all_push (λ b. sort_of b ≡ White) h.0 b h.1 (subst BeginsWhite here white), longer text h.0 from at b h.2 here)

arrow_push : (w : List ℕ) (b c : ℕ) → has_arrow (w ++ b ∷ []) ≡ false → is_arrow b c ≡ false → has_arrow (w ++ b ∷ c ∷ []) ≡ false
arrow_push [] b c h a = has_arrow_more b c [] ∙ or_from (is_arrow b c) (has_arrow (c ∷ [])) a (has_arrow_one c)
arrow_push (x ∷ []) b c h a =
    has_arrow_more x b (c ∷ []) ∙ or_from (is_arrow x b) (has_arrow (b ∷ c ∷ [])) (or_parts (is_arrow x b) (has_arrow (b ∷ [])) (sym (has_arrow_more x b []) ∙ h)).0 (arrow_push [] b c (has_arrow_one b) a)
arrow_push (x ∷ y ∷ w) b c h a =
    let p = or_parts (is_arrow x y) (has_arrow (y ∷ w ++ b ∷ [])) (sym (has_arrow_more x y (w ++ b ∷ [])) ∙ h) in
    has_arrow_more x y (w ++ b ∷ c ∷ []) ∙ or_from (is_arrow x y) (has_arrow (y ∷ w ++ b ∷ c ∷ [])) p.0 (arrow_push (y ∷ w) b c p.1 a)

arrow_front : (w v : List ℕ) → has_arrow (w ++ v) ≡ false → has_arrow w ≡ false
arrow_front [] v h = refl
arrow_front (x ∷ []) v h = has_arrow_one x
arrow_front (x ∷ y ∷ w) v h =
    let p = or_parts (is_arrow x y) (has_arrow (y ∷ w ++ v)) (sym (has_arrow_more x y (w ++ v)) ∙ h) in
    has_arrow_more x y w ∙ or_from (is_arrow x y) (has_arrow (y ∷ w)) p.0 (arrow_front (y ∷ w) v p.1)

word_push : (w rest : List ℕ) (b : ℕ) → IsWordSoFar w (b ∷ rest) → BeginsWord (b ∷ rest) → IsWordSoFar (w ++ b ∷ []) rest
word_push w [] b h k = record { inner = all_push (λ b. sort_of b ≡ Inner) w b h.inner k; no_arrow = subst (λ x. has_arrow x ≡ false) (sym (append-nil (w ++ b ∷ []))) h.no_arrow }
word_push w (c ∷ rest) b h k = record {
  inner = all_push (λ b. sort_of b ≡ Inner) w b h.inner k.0;
  no_arrow = subst (λ x. has_arrow x ≡ false) (sym (append_assoc w (b ∷ []) (c ∷ []))) (arrow_push w b c h.no_arrow k.1);
}

pub word_more : (text : List ℕ) (from at : ℕ) → WordSoFar text from at → BeginsWord (drop at text) → WordSoFar text from (at + 1)
word_more text from at h word =
    let b = get_or text at 0 in
    let here : drop at text ≡ b ∷ drop (at + 1) text = drop_more text at 0 (word_within text at word) in
    (h.0 ++ b ∷ [], word_push h.0 (drop (at + 1) text) b (subst (IsWordSoFar h.0) here h.1) (subst BeginsWord here word), longer text h.0 from at b h.2 here)

pub no_bytes_yet : (text : List ℕ) (from : ℕ) → WordSoFar text from from
no_bytes_yet text from = ([], record { inner = tt; no_arrow = none (drop from text) }, refl)
  where
    none : (rest : List ℕ) → has_arrow (take 1 rest) ≡ false
    none [] = refl
    none (b ∷ rest) = has_arrow_one b

-- what has come so far is a word where no more comes, if a byte has come
pub word_done : (text : List ℕ) (from at : ℕ) → BeginsWord (drop from text) → ¬ BeginsWord (drop at text) → WordSoFar text from at → WordBetween text from at
word_done text from at starts stops h = (
  h.0,
  record {
    some = λ e. stops (subst BeginsWord (h.2 ∙ ap (λ w. w ++ drop at text) e) starts);
    inner = h.1.inner;
    no_arrow = arrow_front h.0 (take 1 (drop at text)) h.1.no_arrow;
  },
  h.2,
)
