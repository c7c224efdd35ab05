-- The text of a budget and entries is read as these, and nothing else is.
use Rattle.std.proofs.Common.{◌≡◌, true, ℕ, ◌+◌, ◌≤◌, cond, ◌&&◌, List, [], ◌∷◌, ◌++◌, length, length-append, drop, Option, Some, None, refl, sym, ap, ap₂, ◌∙◌, subst, append_assoc, append-nil, arith}
use Rattle.std.specs.Prelude.{nat_le, nat_eq, codes}
use Rattle.std.specs.List.{starts_with}
use Rattle.std.specs.Fmt.{decimal}
use Rattle.std.proofs.Math.Seq.{drop-append_seam}
use Rattle.std.proofs.lemmas.Bool.{leb-true, le-leb}
use Rattle.std.proofs.lemmas.List.{length-drop, drop_all, drop-drop}
use Rattle.witness_trees.specs.Judged.{Verdict, Is, BadAt, then_judged, cut_at, is_number, number_of}
use Rattle.witness_trees.proofs.Symbols.{and_parts, and_both}
use Rattle.witness_trees.proofs.Inverse.{passed, cut_joined, number_written}
use Rattle.witness_trees.proofs.Spelled.{IsFree, free_append, number_free, cut_free, decimal_number, decimal_value}
use Rattle.certificate_lines.specs.Lines.{Piece, stands_at, line_then, lines_in}
use Rattle.certificate_lines.specs.Budgets.{entries_line, head_text, budgeted_text, Budgeted, budget_in, count_behind, head_of, head_in, end_of_entries, behind_head, budgeted_in}
use Rattle.certificate_lines.proofs.Lined.{lines_text, behind_line, behind_word, AreJudged, lines_back, AreFound, lines_inverse}
use Rattle.certificate_lines.proofs.Starts.{starts_joined, starts_own}
use Rattle.certificate_lines.proofs.Verdicts.{let_through, went_on_with}

-- the line of a budget
budget_means : (line : List ℕ) (budget : ℕ) → budget_in line ≡ Some budget → (line ≡ codes "budget " ++ decimal budget) × (1 ≤ budget) × (budget ≤ 1000000)
budget_means line budget h =
    let digits = drop 7 line in
    let t = passed (starts_with nat_eq line (codes "budget ") && (is_number digits && (nat_le 1 (number_of digits) && nat_le (number_of digits) 1000000))) (Some (number_of digits)) budget h in
    let first = and_parts (starts_with nat_eq line (codes "budget ")) (is_number digits && (nat_le 1 (number_of digits) && nat_le (number_of digits) 1000000)) t.0 in
    let second = and_parts (is_number digits) (nat_le 1 (number_of digits) && nat_le (number_of digits) 1000000) first.1 in
    let third = and_parts (nat_le 1 (number_of digits)) (nat_le (number_of digits) 1000000) second.1 in
    let value : number_of digits ≡ budget = let v = t.1 in cc in
    let some = leb-true 1 (number_of digits) third.0 in
    let few = leb-true (number_of digits) 1000000 third.1 in
    let written : digits ≡ decimal budget = sym (number_written digits second.0 (omega (arith, few))) ∙ ap decimal value in
    (starts_joined (codes "budget ") line first.0 ∙ ap (λ ds. codes "budget " ++ ds) written, omega (arith, some, value), omega (arith, few, value))

-- what two lines that were read are
pub record IsHead (text : List ℕ) (at : ℕ) (head : Piece ℕ) : Type 0 where
  pub some : 1 ≤ head.value
  pub few : head.value ≤ 1000000
  pub within_text : head.after ≤ length text
  pub printed : drop at text ≡ head_text head.value ++ drop head.after text

pub head_means : (text : List ℕ) (at : ℕ) (head : Piece ℕ) → at ≤ length text → head_in text at ≡ Is head → IsHead text at head
unfolding head_in
head_means text at head within h = cut (cut_at 10 (drop at text)) refl h
  where
    below : (p : List ℕ × List ℕ) → cut_at 10 (drop at text) ≡ Some p → (budget : ℕ) → budget_in p.0 ≡ Some budget → count_behind text (at + length p.0 + 1) budget ≡ Is head → IsHead text at head
    below p e budget b k =
        let line = p.0 in
        let after = at + length line + 1 in
        let count = entries_line budget in
        let means = budget_means line budget b in
        let begins : drop at text ≡ line ++ 10 ∷ p.1 = cut_joined 10 (drop at text) p e in
        let left = length-drop at text in
        let long = ap length begins in
        let parts = length-append line (10 ∷ p.1) in
        let le : after ≤ length text = omega (arith, left, long, parts, within) in
        let made : Piece ℕ = record { value = budget; after = after + length count } in
        let t = let_through (stands_at count text after) (Is made) after head k in
        let stands = behind_word count text after le t.0 in
        let same : made ≡ head = let v = t.1 in cc in
        let rest = drop (after + length count) text in
        let behind : p.1 ≡ count ++ rest = sym (behind_line text line p.1 at begins) ∙ stands.0 in
        let first = codes "budget " ++ decimal budget in
        subst (IsHead text at) same (record {
          some = means.1;
          few = means.2;
          within_text = stands.1;
          printed = begins ∙ ap₂ (λ xs ys. xs ++ 10 ∷ ys) means.0 behind ∙ sym (append_assoc first (10 ∷ []) (count ++ rest)) ∙ sym (append_assoc (first ++ 10 ∷ []) count rest);
        })

    counted : (p : List ℕ × List ℕ) → cut_at 10 (drop at text) ≡ Some p → (o : Option ℕ) → budget_in p.0 ≡ o → head_of text at p.0 o ≡ Is head → IsHead text at head
    counted p e None b k = absurd cc
    counted p e (Some budget) b k = below p e budget b k

    cut : (o : Option (List ℕ × List ℕ)) → cut_at 10 (drop at text) ≡ o → line_then at (λ line. head_of text at line (budget_in line)) o ≡ Is head → IsHead text at head
    cut None e k = absurd cc
    cut (Some p) e k = counted p e (budget_in p.0) refl k

-- what was read as a budget and entries
pub record AreBudgeted {X : Type 0} (line_of : X → List ℕ) (P : List X → X → Type 0) (text : List ℕ) (at : ℕ) (found : Budgeted X) : Type 0 where
  pub some : 1 ≤ found.budget
  pub few : found.budget ≤ 1000000
  pub count : length found.entries ≡ found.budget + 1
  pub each : AreFound P [] found.entries
  pub printed : drop at text ≡ budgeted_text line_of found.budget found.entries

-- what is read is a budget and entries, and their text ends the text
pub budgeted_inverse : {X : Type 0} (judge : List X → ℕ → List ℕ → Verdict X) (line_of : X → List ℕ) (P : List X → X → Type 0)
    → ((read : List X) (at : ℕ) (line : List ℕ) (x : X) → judge read at line ≡ Is x → (line ≡ line_of x) × P read x)
    → (text : List ℕ) (at : ℕ) (found : Budgeted X) → at ≤ length text → budgeted_in judge text at ≡ Is found → AreBudgeted line_of P text at found
budgeted_inverse {X} judge line_of P means text at found within h =
    let s = went_on_with (head_in text at) (behind_head judge text) found h in
    let head = s.0 in
    let is = head_means text at head within s.1 in
    let t = went_on_with (lines_in judge text (head.value + 1) head.after []) (end_of_entries text head.value) found s.2 in
    let piece = t.0 in
    let made : Budgeted X = record { budget = head.value; entries = piece.value } in
    let u = let_through (nat_le (length text) piece.after) (Is made) piece.after found t.2 in
    let same : made ≡ found = let v = u.1 in cc in
    let r = lines_inverse judge line_of P text means (head.value + 1) head.after [] piece is.within_text t.1 in
    let all : piece.value ≡ r.more = r.all in
    let none : drop piece.after text ≡ [] = drop_all piece.after text (leb-true (length text) piece.after u.0) in
    let last : drop head.after text ≡ lines_text line_of piece.value =
    r.printed ∙ ap₂ (λ xs ys. lines_text line_of xs ++ ys) (sym all) none ∙ append-nil (lines_text line_of piece.value) in
    subst (AreBudgeted line_of P text at) same (record {
      some = is.some;
      few = is.few;
      count = ap length all ∙ r.as_many;
      each = subst (AreFound P []) (sym all) r.found;
      printed = is.printed ∙ ap (λ xs. head_text head.value ++ xs) last;
    })

budget_free : (budget : ℕ) → budget ≤ 1000000 → IsFree 10 (codes "budget " ++ decimal budget)
budget_free budget few =
    free_append 10 (codes "budget ") (decimal budget) (refl, (refl, (refl, (refl, (refl, (refl, (refl, tt))))))) (number_free 10 refl budget (omega (arith, few)))

budget_back : (budget : ℕ) → 1 ≤ budget → budget ≤ 1000000 → budget_in (codes "budget " ++ decimal budget) ≡ Some budget
budget_back budget some few =
    let value = decimal_value budget (omega (arith, few)) in
    let limits : (nat_le 1 (number_of (decimal budget)) && nat_le (number_of (decimal budget)) 1000000) ≡ true =
    ap (λ n. nat_le 1 n && nat_le n 1000000) value ∙ and_both (nat_le 1 budget) (nat_le budget 1000000) (le-leb 1 budget some) (le-leb budget 1000000 few) in
    ap (λ t. cond t (Some (number_of (decimal budget))) None) (and_both (is_number (decimal budget)) (nat_le 1 (number_of (decimal budget)) && nat_le (number_of (decimal budget)) 1000000) (decimal_number budget (omega (arith, some)) (omega (arith, few))) limits)
    ∙ ap Some value

-- the two lines of a budget are read as it, and what stands behind them
head_back : (budget : ℕ) → 1 ≤ budget → budget ≤ 1000000 → (text rest : List ℕ) (at : ℕ) → drop at text ≡ head_text budget ++ rest
    → (head_in text at ≡ Is (record { value = budget; after = at + length (head_text budget) })) × (drop (at + length (head_text budget)) text ≡ rest)
unfolding head_in
head_back budget some few text rest at here =
    let whole : drop at text ≡ first ++ 10 ∷ (count ++ rest) = here ∙ append_assoc (first ++ 10 ∷ []) count rest ∙ append_assoc first (10 ∷ []) (count ++ rest) in
    let behind : drop after text ≡ count ++ rest = behind_line text first (count ++ rest) at whole in
    let stands : stands_at count text after ≡ true = ap (λ xs. starts_with nat_eq xs count) behind ∙ starts_own count rest in
    let one = length-append first (10 ∷ []) in
    let both = length-append (first ++ 10 ∷ []) count in
    let size : after + length count ≡ at + length (head_text budget) = omega (arith, one, both) in (
      ap (λ bytes. line_then at next (cut_at 10 bytes)) whole
          ∙ ap (line_then at next) (cut_free 10 first (count ++ rest) (budget_free budget few))
          ∙ ap (head_of text at first) (budget_back budget some few)
          ∙ ap (λ b. cond b (Is (found (after + length count))) (BadAt after)) stands
          ∙ ap (λ n. Is (found n)) size,
      sym (drop-drop (length (head_text budget)) at text) ∙ ap (drop (length (head_text budget))) here ∙ drop-append_seam (head_text budget) rest,
    )
  where
    first : List ℕ
    first = codes "budget " ++ decimal budget

    count : List ℕ
    count = entries_line budget

    after : ℕ
    after = at + length first + 1

    next : List ℕ → Verdict (Piece ℕ)
    next line = head_of text at line (budget_in line)

    found : ℕ → Piece ℕ
    found n = record { value = budget; after = n }

-- the text of a budget and entries whose lines are judged right is read as these, wherever it ends a text
pub budgeted_back : {X : Type 0} (judge : List X → ℕ → List ℕ → Verdict X) (line_of : X → List ℕ) (budget : ℕ) (entries : List X) → 1 ≤ budget → budget ≤ 1000000 → length entries ≡ budget + 1
    → AreJudged judge line_of [] entries → (text : List ℕ) (at : ℕ) → drop at text ≡ budgeted_text line_of budget entries → budgeted_in judge text at ≡ Is (record { budget = budget; entries = entries })
budgeted_back {X} judge line_of budget entries some few size right text at here =
    let head = head_back budget some few text lines at here in
    let last : drop from text ≡ lines ++ [] = head.1 ∙ sym (append-nil lines) in
    let read = lines_back judge line_of text [] from [] entries last right in
    let left = length-drop at text in
    let long = ap length here in
    let parts = length-append (head_text budget) lines in
    let past : length text ≤ from + length lines = omega (arith, left, long, parts) in
    ap (λ v. then_judged v (behind_head judge text)) head.0
    ∙ ap (λ n. then_judged (lines_in judge text n from []) (end_of_entries text budget)) (sym size)
    ∙ ap (λ v. then_judged v (end_of_entries text budget)) read
    ∙ ap (λ b. cond b (Is found) (BadAt (from + length lines))) (le-leb (length text) (from + length lines) past)
  where
    lines : List ℕ
    lines = lines_text line_of entries

    from : ℕ
    from = at + length (head_text budget)

    found : Budgeted X
    found = record { budget = budget; entries = entries }
