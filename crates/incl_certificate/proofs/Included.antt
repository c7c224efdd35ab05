-- What was read behind the first two lines of a certificate that says that A is included.
use Rattle.std.proofs.Common.{◌≡◌, ◌≤◌, ℕ, ◌+◌, true, List, ◌++◌, length, length-append, drop, refl, sym, ap, ◌∙◌, append_assoc, arith}
use Rattle.std.specs.Prelude.{IfOk}
use Rattle.std.specs.declared.result.Result.{Result}
use Rattle.std.proofs.lemmas.List.{drop-drop}
use Rattle.std.proofs.lemmas.Result.{IfOk-weaker}
use Rattle.tree_definitions.specs.Automaton.{Automaton}
use Rattle.tree_definitions.specs.Cover.{Pair}
use Rattle.tree_definitions.specs.Relation.{Matrix}
use Rattle.certificate_lines.specs.Lines.{Piece, stands_at}
use Rattle.certificate_lines.specs.Pairs.{pairs_text}
use Rattle.certificate_lines.specs.PairsRead.{ArePairsOf}
use Rattle.certificate_lines.specs.Relations.{IsRelationAt, relation_text}
use Rattle.certificate_lines.proofs.Starts.{starts_joined}
use Rattle.certificate_kinds.specs.Certificates.{FitsRelation, FitPairs, FitsUp, FitsDown}
use Rattle.incl_certificate.specs.Telling.{IsDownBehind, IsUpBehind}
use Rattle.incl_certificate.specs.Text.{included_line, up_line, down_line, left_word, right_word, both_word, up_text, down_text, certificate_text}
use Rattle.certificate_kinds.specs.declared.certificate.Certificate.{Certificate}
use Rattle.certificate_kinds.specs.declared.certificate.Certificate.TheVariants.{Up, Down, Tree, UpTrail, DownTrail}
use Rattle.incl_certificate.specs.declared.reading.CertError.{CertError}

pub relation_fits : (word : List ℕ) (n : ℕ) (text : List ℕ) (at : ℕ) (piece : Piece Matrix) → IsRelationAt word n text at piece → FitsRelation n piece.value
relation_fits word n text at piece h = record { square = h.square; few = h.few }

pairs_fit : (A B : Automaton) (text : List ℕ) (pairs : List Pair) → ArePairsOf A B text pairs → FitPairs A B pairs
pairs_fit A B text pairs h = record { each = h.fitting; rising = h.rising; few = h.few }

module _ (A B : Automaton) (text : List ℕ) (at : ℕ) (left right : Piece Matrix) (pairs : List Pair)
    (l : IsRelationAt left_word (length A.states) text at left) (r : IsRelationAt right_word (length B.states) text left.after right) (p : ArePairsOf A B (drop right.after text) pairs) where
  pub up_behind : drop at text ≡ relation_text left_word left.value ++ relation_text right_word right.value ++ pairs_text A B pairs
  up_behind =
      l.printed
      ∙ ap (λ rest. relation_text left_word left.value ++ rest) (r.printed ∙ ap (λ rest. relation_text right_word right.value ++ rest) p.printed)
      ∙ sym (append_assoc (relation_text left_word left.value) (relation_text right_word right.value) (pairs_text A B pairs))

  pub up_fits : FitsUp A B left.value right.value pairs
  up_fits = record {
    left = relation_fits left_word (length A.states) text at left l;
    right = relation_fits right_word (length B.states) text left.after right r;
    pairs = pairs_fit A B (drop right.after text) pairs p;
  }

module _ (A B : Automaton) (text : List ℕ) (at : ℕ) (both : Piece Matrix) (pairs : List Pair)
    (r : IsRelationAt both_word (length A.states + length B.states) text at both) (p : ArePairsOf A B (drop both.after text) pairs) where
  pub down_behind : drop at text ≡ relation_text both_word both.value ++ pairs_text A B pairs
  down_behind = r.printed ∙ ap (λ rest. relation_text both_word both.value ++ rest) p.printed

  pub down_fits : FitsDown A B both.value pairs
  down_fits = record {
    both = relation_fits both_word (length A.states + length B.states) text at both r;
    pairs = pairs_fit A B (drop both.after text) pairs p;
  }

-- the first two lines, and what is behind them
two_lines : (text line : List ℕ) → stands_at included_line text 0 ≡ true → stands_at line text 9 ≡ true → text ≡ included_line ++ (line ++ drop (9 + length line) text)
two_lines text line first second =
    starts_joined included_line text first
    ∙ ap (λ rest. included_line ++ rest) (starts_joined line (drop 9 text) second ∙ ap (λ rest. line ++ rest) (drop-drop (length line) 9 text))

-- a second line that stands there ends in the text
pub line_within : (text line : List ℕ) → stands_at included_line text 0 ≡ true → stands_at line text 9 ≡ true → 9 + length line ≤ length text
line_within text line first second =
    let whole = ap length (two_lines text line first second) in
    let head = length-append included_line (line ++ drop (9 + length line) text) in
    let tail = length-append line (drop (9 + length line) text) in
    let nine : length included_line ≡ 9 = refl in
    omega (arith, whole, head, tail, nine)

pub first_within : (text : List ℕ) → stands_at included_line text 0 ≡ true → 9 ≤ length text
first_within text first =
    let whole = ap length (starts_joined included_line text first) in
    let head = length-append included_line (drop 9 text) in
    let nine : length included_line ≡ 9 = refl in
    omega (arith, whole, head, nine)

module _ (A B : Automaton) (text : List ℕ) (first : stands_at included_line text 0 ≡ true) where
  up_is : (c : Certificate) → stands_at up_line text 9 ≡ true → IsUpBehind A B (drop 26 text) c → text ≡ certificate_text A B c
  unfolding up_text
  up_is (Up left right pairs) second h =
      let head = included_line ++ up_line in
      let first_part = relation_text left_word left in
      let second_part = relation_text right_word right in
      let last_part = pairs_text A B pairs.items in
      two_lines text up_line first second
      ∙ ap (λ rest. head ++ rest) h
      ∙ sym (append_assoc head (first_part ++ second_part) last_part)
      ∙ ap (λ x. x ++ last_part) (sym (append_assoc head first_part second_part))
  up_is (Down both pairs) second h = absurd h
  up_is (Tree nodes) second h = absurd h
  up_is (UpTrail left right budget entries) second h = absurd h
  up_is (DownTrail both budget entries) second h = absurd h

  down_is : (c : Certificate) → stands_at down_line text 9 ≡ true → IsDownBehind A B (drop 28 text) c → text ≡ certificate_text A B c
  unfolding down_text
  down_is (Up left right pairs) second h = absurd h
  down_is (Down both pairs) second h =
      let head = included_line ++ down_line in
      two_lines text down_line first second
      ∙ ap (λ rest. head ++ rest) h
      ∙ sym (append_assoc head (relation_text both_word both) (pairs_text A B pairs.items))
  down_is (Tree nodes) second h = absurd h
  down_is (UpTrail left right budget entries) second h = absurd h
  down_is (DownTrail both budget entries) second h = absurd h

  pub up_whole : (answer : Result Certificate CertError) → stands_at up_line text 9 ≡ true → IfOk answer (IsUpBehind A B (drop 26 text)) → IfOk answer (λ c. text ≡ certificate_text A B c)
  up_whole answer second h = IfOk-weaker answer (IsUpBehind A B (drop 26 text)) (λ c. text ≡ certificate_text A B c) (λ c. up_is c second) h

  pub down_whole : (answer : Result Certificate CertError) → stands_at down_line text 9 ≡ true → IfOk answer (IsDownBehind A B (drop 28 text)) → IfOk answer (λ c. text ≡ certificate_text A B c)
  down_whole answer second h = IfOk-weaker answer (IsDownBehind A B (drop 28 text)) (λ c. text ≡ certificate_text A B c) (λ c. down_is c second) h
