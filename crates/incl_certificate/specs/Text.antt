-- The text of a certificate, and what reading says of a text.
use Rattle.std.specs.Prelude.{◌≡◌, ℕ, ◌+◌, List, ◌++◌, length, take, drop, codes, if◌then◌else◌}
use Rattle.std.specs.Str.{bytes_eq}
use Rattle.tree_definitions.specs.Automaton.{Automaton}
use Rattle.tree_definitions.specs.Canonical.{canon}
use Rattle.tree_definitions.specs.Cover.{Pair}
use Rattle.tree_definitions.specs.DownTrail.{DownEntry}
use Rattle.tree_definitions.specs.Joint.{joint_symbols}
use Rattle.tree_definitions.specs.Relation.{Matrix}
use Rattle.tree_definitions.specs.UpTrail.{UpEntry}
use Rattle.tree_definitions.specs.Witness.{NodeRow}
use Rattle.witness_trees.specs.Nodes.{NodeList}
use Rattle.witness_trees.specs.NodesText.{nodes_text}
use Rattle.witness_trees.specs.Judged.{Verdict, Is, BadAt, UnknownAt, judged, then_judged}
use Rattle.certificate_lines.specs.Lines.{Piece, stands_at}
use Rattle.certificate_lines.specs.Pairs.{pairs_in, pairs_text}
use Rattle.certificate_lines.specs.Relations.{relation_in, relation_text}
use Rattle.down_entry_lines.specs.Entries.{down_entries_in, down_entries_text}
use Rattle.entry_lines.specs.Entries.{up_entries_in, up_entries_text}
use Rattle.listed_pairs.specs.DownEntries.{entries_of}
use Rattle.std.specs.declared.result.Result.{Result}
use Rattle.std.specs.Prelude.{Ok, Err}
use Rattle.certificate_kinds.specs.declared.certificate.Certificate.{Certificate}
use Rattle.certificate_kinds.specs.declared.certificate.Certificate.TheVariants.{Up, Down, Tree, UpTrail, DownTrail}
use Rattle.incl_certificate.specs.declared.reading.CertError.{CertError}
use Rattle.incl_certificate.specs.declared.reading.CertError.TheVariants.{BadText, UnknownName, Memory}

unfoldable pub answer_line : List ℕ
answer_line = codes "not included\n"

unfoldable pub kind_line : List ℕ
kind_line = codes "certificate 1 tree\n"

abbrev pub included_line : List ℕ
included_line = codes "included\n"

abbrev pub up_line : List ℕ
up_line = codes "certificate 1 up\n"

abbrev pub down_line : List ℕ
down_line = codes "certificate 1 down\n"

abbrev pub undecided_line : List ℕ
undecided_line = codes "undecided\n"

abbrev pub up_trail_line : List ℕ
up_trail_line = codes "certificate 1 up-trail\n"

abbrev pub down_trail_line : List ℕ
down_trail_line = codes "certificate 1 down-trail\n"

abbrev pub left_word : List ℕ
left_word = codes "left"

abbrev pub right_word : List ℕ
right_word = codes "right"

abbrev pub both_word : List ℕ
both_word = codes "both"

unfoldable pub up_text : Automaton → Automaton → Matrix → Matrix → List Pair → List ℕ
up_text A B left right pairs = included_line ++ up_line ++ relation_text left_word left ++ relation_text right_word right ++ pairs_text A B pairs

unfoldable pub down_text : Automaton → Automaton → Matrix → List Pair → List ℕ
down_text A B both pairs = included_line ++ down_line ++ relation_text both_word both ++ pairs_text A B pairs

unfoldable pub up_trail_text : Automaton → Automaton → Matrix → Matrix → ℕ → List UpEntry → List ℕ
up_trail_text A B left right budget entries =
    undecided_line ++ up_trail_line ++ relation_text left_word left ++ relation_text right_word right ++ up_entries_text A B budget entries

-- rules are named by their places in A's canonical form
unfoldable pub down_trail_text : Automaton → Automaton → Matrix → ℕ → List DownEntry → List ℕ
down_trail_text A B both budget entries =
    undecided_line ++ down_trail_line ++ relation_text both_word both ++ down_entries_text (canon A) B budget entries

abbrev pub tree_text : NodeList → List ℕ
tree_text nodes = answer_line ++ kind_line ++ nodes_text nodes

-- the text of a certificate
abbrev pub certificate_text : Automaton → Automaton → Certificate → List ℕ
certificate_text A B (Up left right pairs) = up_text A B left right pairs.items
certificate_text A B (Down both pairs) = down_text A B both pairs.items
certificate_text A B (Tree nodes) = tree_text nodes
certificate_text A B (UpTrail left right budget entries) = up_trail_text A B left right budget entries.items
certificate_text A B (DownTrail both budget entries) = down_trail_text A B both budget (entries_of entries.items)

-- the bytes count from a later place
abbrev pub moved : {X : Type 0} → ℕ → Verdict X → Verdict X
moved n (Is x) = Is x
moved n (BadAt at) = BadAt (n + at)
moved n (UnknownAt at) = UnknownAt (n + at)

-- this line, and then what follows
abbrev pub line_due : {X : Type 0} → List ℕ → (List ℕ → Verdict X) → List ℕ → Verdict X
line_due line next text = if bytes_eq (take (length line) text) line then moved (length line) (next (drop (length line) text)) else BadAt 0

-- what reading says of a text for a tree: its two fixed lines, and then the lines of nodes
unfoldable pub judged_tree : Automaton → Automaton → List ℕ → Verdict (List NodeRow)
judged_tree A B text = line_due answer_line (line_due kind_line (judged (joint_symbols A.symbols B.symbols))) text

-- what a text says
pub data Said : Type 0 where
  SaidUp : (left right : Matrix) (pairs : List Pair) → Said
  SaidDown : (both : Matrix) (pairs : List Pair) → Said
  SaidTree : (nodes : List NodeRow) → Said
  SaidUpTrail : (left right : Matrix) (budget : ℕ) (entries : List UpEntry) → Said
  SaidDownTrail : (both : Matrix) (budget : ℕ) (entries : List DownEntry) → Said

abbrev pub said_tree : Verdict (List NodeRow) → Verdict Said
said_tree (Is nodes) = Is (SaidTree nodes)
said_tree (BadAt at) = BadAt at
said_tree (UnknownAt at) = UnknownAt at

-- both relations were read, and pairs are due
abbrev pub behind_right : Automaton → Automaton → List ℕ → Matrix → Piece Matrix → Verdict Said
behind_right A B text left right = then_judged (pairs_in A B text right.after) (λ pairs. Is (SaidUp left right.value pairs))

-- the relation of A was read; that of B is due, and then pairs
abbrev pub behind_left : Automaton → Automaton → List ℕ → Piece Matrix → Verdict Said
behind_left A B text left = then_judged (relation_in right_word (length B.states) text left.after) (behind_right A B text left.value)

-- what stands behind the first two lines of an upward certificate: two relations, and pairs
unfoldable pub judged_up : Automaton → Automaton → List ℕ → ℕ → Verdict Said
judged_up A B text at = then_judged (relation_in left_word (length A.states) text at) (behind_left A B text)

-- the relation of both was read, and pairs are due
abbrev pub behind_both : Automaton → Automaton → List ℕ → Piece Matrix → Verdict Said
behind_both A B text both = then_judged (pairs_in A B text both.after) (λ pairs. Is (SaidDown both.value pairs))

-- what stands behind the first two lines of a downward certificate: a relation, and pairs
unfoldable pub judged_down : Automaton → Automaton → List ℕ → ℕ → Verdict Said
judged_down A B text at = then_judged (relation_in both_word (length A.states + length B.states) text at) (behind_both A B text)

-- what reading says behind the first line, which says that A is included: the line of a kind, and what is due for it
unfoldable pub judged_included : Automaton → Automaton → List ℕ → Verdict Said
judged_included A B text =
    if stands_at up_line text 9 then judged_up A B text 26
    else if stands_at down_line text 9 then judged_down A B text 28
    else BadAt 9

-- both relations of a trail were read, and a budget and entries are due
abbrev pub behind_trail_right : Automaton → Automaton → List ℕ → Matrix → Piece Matrix → Verdict Said
behind_trail_right A B text left right = then_judged (up_entries_in A B text right.after) (λ found. Is (SaidUpTrail left right.value found.budget found.entries))

-- the relation of A was read; that of B is due, and then a budget and entries
abbrev pub behind_trail_left : Automaton → Automaton → List ℕ → Piece Matrix → Verdict Said
behind_trail_left A B text left = then_judged (relation_in right_word (length B.states) text left.after) (behind_trail_right A B text left.value)

-- what stands behind the first two lines of an upward trail: two relations, a budget and entries
unfoldable pub judged_up_trail : Automaton → Automaton → List ℕ → ℕ → Verdict Said
judged_up_trail A B text at = then_judged (relation_in left_word (length A.states) text at) (behind_trail_left A B text)

-- the relation of a downward trail was read, and a budget and entries are due
abbrev pub behind_trail_both : Automaton → Automaton → List ℕ → Piece Matrix → Verdict Said
behind_trail_both A B text both = then_judged (down_entries_in (canon A) B text both.after) (λ found. Is (SaidDownTrail both.value found.budget found.entries))

-- what stands behind the first two lines of a downward trail: a relation, a budget and entries
unfoldable pub judged_down_trail : Automaton → Automaton → List ℕ → ℕ → Verdict Said
judged_down_trail A B text at = then_judged (relation_in both_word (length A.states + length B.states) text at) (behind_trail_both A B text)

-- what reading says behind the first line, which says that nothing was decided: the line of a kind, and what is due for it
unfoldable pub judged_undecided : Automaton → Automaton → List ℕ → Verdict Said
judged_undecided A B text =
    if stands_at up_trail_line text 10 then judged_up_trail A B text 33
    else if stands_at down_trail_line text 10 then judged_down_trail A B text 35
    else BadAt 10

-- what reading says of a text
unfoldable pub judged_certificate : Automaton → Automaton → List ℕ → Verdict Said
judged_certificate A B text =
    if stands_at included_line text 0 then judged_included A B text
    else if stands_at undecided_line text 0 then judged_undecided A B text
    else said_tree (judged_tree A B text)

-- the answer for a tree is the verdict, unless memory ran out
abbrev pub ReadsTree : Automaton → Automaton → Result NodeList CertError → Verdict (List NodeRow) → Type 0
ReadsTree A B (Ok nodes) verdict = (verdict ≡ Is nodes.rows) × (nodes.symbols ≡ joint_symbols A.symbols B.symbols)
ReadsTree A B (Err (BadText at)) verdict = verdict ≡ BadAt at
ReadsTree A B (Err (UnknownName at)) verdict = verdict ≡ UnknownAt at
ReadsTree A B (Err Memory) verdict = Unit {0}

-- what the text of a certificate says
abbrev pub said_of : Certificate → Said
said_of (Up left right pairs) = SaidUp left right pairs.items
said_of (Down both pairs) = SaidDown both pairs.items
said_of (Tree nodes) = SaidTree nodes.rows
said_of (UpTrail left right budget entries) = SaidUpTrail left right budget entries.items
said_of (DownTrail both budget entries) = SaidDownTrail both budget (entries_of entries.items)

-- the answer is the verdict, unless memory ran out
abbrev pub Reads : Automaton → Automaton → Result Certificate CertError → Verdict Said → Type 0
Reads A B (Ok c) verdict = verdict ≡ Is (said_of c)
Reads A B (Err (BadText at)) verdict = verdict ≡ BadAt at
Reads A B (Err (UnknownName at)) verdict = verdict ≡ UnknownAt at
Reads A B (Err Memory) verdict = Unit {0}
