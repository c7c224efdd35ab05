-- The two fixed lines of a certificate, and what is judged behind them.
use Rattle.std.proofs.Common.{◌≡◌, ◌+◌, ℕ, Bool, true, false, cond, List, length, take, drop, refl, sym, ap, ◌∙◌, subst, arith}
use Rattle.std.specs.Str.{bytes_eq}
use Rattle.tree_definitions.specs.Automaton.{Automaton}
use Rattle.tree_definitions.specs.Joint.{joint_symbols}
use Rattle.tree_definitions.specs.Witness.{NodeRow}
use Rattle.witness_trees.specs.Judged.{Verdict, Is, BadAt, UnknownAt, judged}
use Rattle.incl_certificate.specs.Text.{answer_line, kind_line, moved, line_due, judged_tree}

line_fails : {X : Type 0} (line text : List ℕ) (next : List ℕ → Verdict X) → bytes_eq (take (length line) text) line ≡ false → line_due line next text ≡ BadAt 0
line_fails line text next e = ap (λ b. cond b (moved (length line) (next (drop (length line) text))) (BadAt 0)) e

line_is : {X : Type 0} (line text rest : List ℕ) (next : List ℕ → Verdict X) → bytes_eq (take (length line) text) line ≡ true → rest ≡ drop (length line) text
    → line_due line next text ≡ moved (length line) (next rest)
line_is line text rest next e is =
    ap (λ b. cond b (moved (length line) (next (drop (length line) text))) (BadAt 0)) e ∙ ap (λ l. moved (length line) (next l)) (sym is)

-- a text begins with these bytes
abbrev pub Begins : List ℕ → List ℕ → Bool → Type 0
Begins line text b = bytes_eq (take (length line) text) line ≡ b

pub no_answer : (A B : Automaton) (text answer : List ℕ) → answer ≡ answer_line → Begins answer text false → judged_tree A B text ≡ BadAt 0
unfolding judged_tree
no_answer A B text answer is e = line_fails answer_line text (line_due kind_line (judged (joint_symbols A.symbols B.symbols))) (subst (λ l. Begins l text false) is e)

answer_long : length answer_line ≡ 13
unfolding answer_line
answer_long = refl

kind_long : length kind_line ≡ 19
unfolding kind_line
kind_long = refl

pub no_kind : (A B : Automaton) (text rest answer kind : List ℕ) → answer ≡ answer_line → Begins answer text true → rest ≡ drop (length answer) text
    → kind ≡ kind_line → Begins kind rest false → judged_tree A B text ≡ BadAt 13
unfolding judged_tree
no_kind A B text rest answer kind a e r k f =
    line_is answer_line text rest (line_due kind_line (judged (joint_symbols A.symbols B.symbols))) (subst (λ l. Begins l text true) a e) (subst (λ l. rest ≡ drop (length l) text) a r)
    ∙ ap (moved (length answer_line)) (line_fails kind_line rest (judged (joint_symbols A.symbols B.symbols)) (subst (λ l. Begins l rest false) k f))
    ∙ ap (λ n. BadAt (n + 0)) answer_long

-- what is judged behind both lines, which have 32 bytes
pub behind : (A B : Automaton) (text rest lines answer kind : List ℕ) → answer ≡ answer_line → Begins answer text true → rest ≡ drop (length answer) text
    → kind ≡ kind_line → Begins kind rest true → lines ≡ drop (length kind) rest
    → judged_tree A B text ≡ moved 13 (moved 19 (judged (joint_symbols A.symbols B.symbols) lines))
unfolding judged_tree
behind A B text rest lines answer kind a e r k f l =
    line_is answer_line text rest (line_due kind_line (judged (joint_symbols A.symbols B.symbols))) (subst (λ w. Begins w text true) a e) (subst (λ w. rest ≡ drop (length w) text) a r)
    ∙ ap (moved (length answer_line)) (line_is kind_line rest lines (judged (joint_symbols A.symbols B.symbols)) (subst (λ w. Begins w rest true) k f) (subst (λ w. lines ≡ drop (length w) rest) k l))
    ∙ ap (λ n. moved n (moved (length kind_line) (judged (joint_symbols A.symbols B.symbols) lines))) answer_long
    ∙ ap (λ n. moved 13 (moved n (judged (joint_symbols A.symbols B.symbols) lines))) kind_long

pub bad_behind : (v : Verdict (List NodeRow)) (at : ℕ) → v ≡ BadAt at → moved 13 (moved 19 v) ≡ BadAt (32 + at)
bad_behind v at e = ap (λ w. moved 13 (moved 19 w)) e ∙ ap BadAt (omega arith)

pub unknown_behind : (v : Verdict (List NodeRow)) (at : ℕ) → v ≡ UnknownAt at → moved 13 (moved 19 v) ≡ UnknownAt (32 + at)
unknown_behind v at e = ap (λ w. moved 13 (moved 19 w)) e ∙ ap UnknownAt (omega arith)

pub is_behind : (v : Verdict (List NodeRow)) (rows : List NodeRow) → v ≡ Is rows → moved 13 (moved 19 v) ≡ Is rows
is_behind v rows e = ap (λ w. moved 13 (moved 19 w)) e
