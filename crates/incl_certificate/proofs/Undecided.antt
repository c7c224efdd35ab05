-- What was read behind the first two lines of a certificate that says that nothing was decided.
use Rattle.std.proofs.Common.{◌≡◌, ◌≤◌, ℕ, ◌+◌, true, List, ◌++◌, length, length-append, drop, refl, sym, ap, ◌∙◌, append_assoc, arith}
use Rattle.std.specs.Prelude.{IfOk}
use Rattle.std.specs.declared.result.Result.{Result}
use Rattle.std.proofs.lemmas.List.{drop-drop}
use Rattle.std.proofs.lemmas.Result.{IfOk-weaker}
use Rattle.tree_definitions.specs.Automaton.{Automaton}
use Rattle.tree_definitions.specs.Relation.{Matrix}
use Rattle.tree_definitions.specs.Canonical.{canon}
use Rattle.tree_definitions.specs.DownTrail.{DownEntry}
use Rattle.listed_pairs.specs.DownEntries.{AreDownEntries, entries_of}
use Rattle.certificate_lines.specs.Budgets.{Budgeted}
use Rattle.down_entry_lines.specs.Entries.{down_entries_text}
use Rattle.certificate_lines.specs.Lines.{Piece, stands_at}
use Rattle.certificate_lines.specs.Relations.{IsRelationAt, relation_text}
use Rattle.certificate_lines.proofs.Starts.{starts_joined}
use Rattle.entry_lines.specs.Entries.{BudgetedEntries, up_entries_text}
use Rattle.certificate_kinds.specs.Fitting.{AreUpEntries}
use Rattle.certificate_kinds.specs.Certificates.{FitsUpTrail, FitsDownTrail}
use Rattle.incl_certificate.specs.Telling.{IsUpTrailBehind, IsDownTrailBehind}
use Rattle.incl_certificate.specs.Text.{undecided_line, up_trail_line, down_trail_line, left_word, right_word, both_word, up_trail_text, down_trail_text, certificate_text}
use Rattle.certificate_kinds.specs.declared.certificate.Certificate.{Certificate}
use Rattle.certificate_kinds.specs.declared.certificate.Certificate.TheVariants.{Up, Down, Tree, UpTrail, DownTrail}
use Rattle.incl_certificate.specs.declared.reading.CertError.{CertError}
use Rattle.incl_certificate.proofs.Included.{relation_fits}

module _ (A B : Automaton) (text : List ℕ) (at : ℕ) (left right : Piece Matrix) (found : BudgetedEntries)
    (l : IsRelationAt left_word (length A.states) text at left) (r : IsRelationAt right_word (length B.states) text left.after right)
    (fit : AreUpEntries A B found.budget found.entries) (stands : drop right.after text ≡ up_entries_text A B found.budget found.entries) where
  pub trail_behind : drop at text ≡ relation_text left_word left.value ++ relation_text right_word right.value ++ up_entries_text A B found.budget found.entries
  trail_behind =
      l.printed
      ∙ ap (λ rest. relation_text left_word left.value ++ rest) (r.printed ∙ ap (λ rest. relation_text right_word right.value ++ rest) stands)
      ∙ sym (append_assoc (relation_text left_word left.value) (relation_text right_word right.value) (up_entries_text A B found.budget found.entries))

  pub trail_fits : FitsUpTrail A B left.value right.value found.budget found.entries
  trail_fits = record {
    left = relation_fits left_word (length A.states) text at left l;
    right = relation_fits right_word (length B.states) text left.after right r;
    entries = fit;
  }

module _ (A B : Automaton) (text : List ℕ) (at : ℕ) (both : Piece Matrix) (found : Budgeted DownEntry)
    (r : IsRelationAt both_word (length A.states + length B.states) text at both)
    (fit : AreDownEntries (canon A) B found.budget found.entries) (stands : drop both.after text ≡ down_entries_text (canon A) B found.budget found.entries) where
  pub down_trail_behind : drop at text ≡ relation_text both_word both.value ++ down_entries_text (canon A) B found.budget found.entries
  down_trail_behind = r.printed ∙ ap (λ rest. relation_text both_word both.value ++ rest) stands

  pub down_trail_fits : FitsDownTrail A B both.value found.budget found.entries
  down_trail_fits = record { both = relation_fits both_word (length A.states + length B.states) text at both r; entries = fit }

-- the first two lines, and what is behind them
two_lines : (text : List ℕ) → stands_at undecided_line text 0 ≡ true → stands_at up_trail_line text 10 ≡ true → text ≡ undecided_line ++ (up_trail_line ++ drop 33 text)
two_lines text first second =
    starts_joined undecided_line text first
    ∙ ap (λ rest. undecided_line ++ rest) (starts_joined up_trail_line (drop 10 text) second ∙ ap (λ rest. up_trail_line ++ rest) (drop-drop (length up_trail_line) 10 text))

pub undecided_within : (text : List ℕ) → stands_at undecided_line text 0 ≡ true → 10 ≤ length text
undecided_within text first =
    let whole = ap length (starts_joined undecided_line text first) in
    let head = length-append undecided_line (drop 10 text) in
    let ten : length undecided_line ≡ 10 = refl in
    omega (arith, whole, head, ten)

pub trail_within : (text : List ℕ) → stands_at undecided_line text 0 ≡ true → stands_at up_trail_line text 10 ≡ true → 33 ≤ length text
trail_within text first second =
    let whole = ap length (two_lines text first second) in
    let head = length-append undecided_line (up_trail_line ++ drop 33 text) in
    let tail = length-append up_trail_line (drop 33 text) in
    let ten : length undecided_line ≡ 10 = refl in
    let more : length up_trail_line ≡ 23 = refl in
    omega (arith, whole, head, tail, ten, more)

trail_is : (A B : Automaton) (text : List ℕ) → stands_at undecided_line text 0 ≡ true → stands_at up_trail_line text 10 ≡ true → (c : Certificate) → IsUpTrailBehind A B (drop 33 text) c → text ≡ certificate_text A B c
unfolding up_trail_text
trail_is A B text first second (Up left right pairs) h = absurd h
trail_is A B text first second (Down both pairs) h = absurd h
trail_is A B text first second (Tree nodes) h = absurd h
trail_is A B text first second (DownTrail both budget entries) h = absurd h
trail_is A B text first second (UpTrail left right budget entries) h =
    let head = undecided_line ++ up_trail_line in
    let first_part = relation_text left_word left in
    let second_part = relation_text right_word right in
    let last_part = up_entries_text A B budget entries.items in
    two_lines text first second
    ∙ ap (λ rest. head ++ rest) h
    ∙ sym (append_assoc head (first_part ++ second_part) last_part)
    ∙ ap (λ x. x ++ last_part) (sym (append_assoc head first_part second_part))

pub trail_whole : (A B : Automaton) (text : List ℕ) (answer : Result Certificate CertError) → stands_at undecided_line text 0 ≡ true → stands_at up_trail_line text 10 ≡ true
    → IfOk answer (IsUpTrailBehind A B (drop 33 text)) → IfOk answer (λ c. text ≡ certificate_text A B c)
trail_whole A B text answer first second h = IfOk-weaker answer (IsUpTrailBehind A B (drop 33 text)) (λ c. text ≡ certificate_text A B c) (trail_is A B text first second) h

-- the first two lines of a downward trail, and what is behind them
down_two_lines : (text : List ℕ) → stands_at undecided_line text 0 ≡ true → stands_at down_trail_line text 10 ≡ true → text ≡ undecided_line ++ (down_trail_line ++ drop 35 text)
down_two_lines text first second =
    starts_joined undecided_line text first
    ∙ ap (λ rest. undecided_line ++ rest) (starts_joined down_trail_line (drop 10 text) second ∙ ap (λ rest. down_trail_line ++ rest) (drop-drop (length down_trail_line) 10 text))

pub down_trail_within : (text : List ℕ) → stands_at undecided_line text 0 ≡ true → stands_at down_trail_line text 10 ≡ true → 35 ≤ length text
down_trail_within text first second =
    let whole = ap length (down_two_lines text first second) in
    let head = length-append undecided_line (down_trail_line ++ drop 35 text) in
    let tail = length-append down_trail_line (drop 35 text) in
    let ten : length undecided_line ≡ 10 = refl in
    let more : length down_trail_line ≡ 25 = refl in
    omega (arith, whole, head, tail, ten, more)

down_trail_is : (A B : Automaton) (text : List ℕ) → stands_at undecided_line text 0 ≡ true → stands_at down_trail_line text 10 ≡ true → (c : Certificate) → IsDownTrailBehind A B (drop 35 text) c → text ≡ certificate_text A B c
unfolding down_trail_text
down_trail_is A B text first second (Up left right pairs) h = absurd h
down_trail_is A B text first second (Down both pairs) h = absurd h
down_trail_is A B text first second (Tree nodes) h = absurd h
down_trail_is A B text first second (UpTrail left right budget entries) h = absurd h
down_trail_is A B text first second (DownTrail both budget entries) h =
    let head = undecided_line ++ down_trail_line in
    down_two_lines text first second
    ∙ ap (λ rest. head ++ rest) h
    ∙ sym (append_assoc head (relation_text both_word both) (down_entries_text (canon A) B budget (entries_of entries.items)))

pub down_trail_whole : (A B : Automaton) (text : List ℕ) (answer : Result Certificate CertError) → stands_at undecided_line text 0 ≡ true → stands_at down_trail_line text 10 ≡ true
    → IfOk answer (IsDownTrailBehind A B (drop 35 text)) → IfOk answer (λ c. text ≡ certificate_text A B c)
down_trail_whole A B text answer first second h = IfOk-weaker answer (IsDownTrailBehind A B (drop 35 text)) (λ c. text ≡ certificate_text A B c) (down_trail_is A B text first second) h
