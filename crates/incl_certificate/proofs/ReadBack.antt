-- The text of a certificate is judged as that certificate.
use Rattle.std.proofs.Common.{◌≡◌, ◌≤◌, ◌+◌, false, cond, List, ◌++◌, length, refl, sym, ap, ◌∙◌, subst, append_assoc}
use Rattle.std.specs.Prelude.{All, filter, not, ℕ, nat_eq, true, Ok, take, drop}
use Rattle.std.specs.List.{list_any, starts_with}
use Rattle.std.specs.Str.{bytes_eq}
use Rattle.std.proofs.Math.Seq.{take-append_seam, drop-append_seam}
use Rattle.std.proofs.lemmas.List.{take-append-drop, drop-drop}
use Rattle.std.proofs.lemmas.Slice.Eq.{bytes_eq-Decides}
use Rattle.std.proofs.lemmas.List.Elements.{All-append, All-filter}
use Rattle.tree_definitions.specs.Name.{IsName}
use Rattle.tree_definitions.specs.Tree.{Symbol}
use Rattle.tree_definitions.specs.Automaton.{Automaton}
use Rattle.tree_definitions.specs.Joint.{joint_symbols, same_symbol}
use Rattle.ta_model.specs.Listing.{IsListed}
use Rattle.witness_trees.specs.Nodes.{NodeList}
use Rattle.witness_trees.specs.NodesText.{nodes_text}
use Rattle.witness_trees.specs.Judged.{Is, BadAt, judged, then_judged}
use Rattle.certificate_lines.specs.Lines.{stands_at}
use Rattle.certificate_lines.specs.Pairs.{pairs_in, pairs_text}
use Rattle.certificate_lines.specs.Relations.{relation_in, relation_text}
use Rattle.tree_definitions.specs.Canonical.{canon}
use Rattle.tree_definitions.specs.DownTrail.{DownEntry}
use Rattle.tree_definitions.specs.UpTrail.{UpEntry}
use Rattle.listed_pairs.specs.DownEntries.{entries_of}
use Rattle.down_entry_lines.specs.Entries.{down_entries_text}
use Rattle.down_entry_lines.specs.Fitting.{AreRanksNumbers}
use Rattle.down_entry_lines.proofs.ReadBack.{down_entries_back}
use Rattle.entry_lines.specs.Entries.{up_entries_text}
use Rattle.entry_lines.proofs.ReadBack.{up_entries_back}
use Rattle.certificate_lines.proofs.PairReadBack.{pairs_back}
use Rattle.certificate_lines.proofs.RelationBack.{relation_back}
use Rattle.certificate_lines.proofs.Starts.{starts_own}
use Rattle.tree_definitions.specs.Cover.{Pair}
use Rattle.tree_definitions.specs.Relation.{Matrix, IsSquare}
use Rattle.witness_trees.proofs.ReadBack.{printed_back as nodes_back}
use Rattle.certificate_kinds.specs.Certificates.{Fits, FitsRelation, FitPairs, FitsUp, FitsDown, FitsTree, FitsUpTrail, FitsDownTrail}
use Rattle.incl_certificate.specs.Text.{Reads, SaidUp, SaidDown, SaidUpTrail, SaidDownTrail, down_trail_line, down_trail_text, behind_trail_both, judged_down_trail, answer_line, undecided_line, up_trail_line, up_trail_text, behind_trail_left, behind_trail_right, judged_undecided, judged_up_trail, kind_line, included_line, up_line, down_line, left_word, right_word, both_word, up_text, down_text, tree_text, certificate_text, said_tree, behind_right, behind_left, behind_both, judged_tree, judged_up, judged_down, judged_included, judged_certificate, moved}
use Rattle.certificate_kinds.specs.declared.certificate.Certificate.{Certificate}
use Rattle.certificate_kinds.specs.declared.certificate.Certificate.TheVariants.{Up, Down, Tree, UpTrail, DownTrail}
use Rattle.incl_certificate.proofs.CanonListed.{canon_listed}
use Rattle.incl_certificate.proofs.Lines.{behind, is_behind}

-- a text begins with its first part
begins : (line rest : List ℕ) → bytes_eq (take (length line) (line ++ rest)) line ≡ true
begins line rest = (bytes_eq-Decides (take (length line) (line ++ rest)) line).1 (take-append_seam line rest)

joint_names : (first second : List Symbol) → All (λ a. IsName a.name) first → All (λ a. IsName a.name) second → All (λ a. IsName a.name) (joint_symbols first second)
joint_names first second p q =
    All-append (λ a. IsName a.name) first (filter (λ a. not (list_any (same_symbol a) first)) second) p
    (All-filter (λ a. not (list_any (same_symbol a) first)) (λ a. IsName a.name) second q)

-- what is judged behind the two fixed lines
lines_back : (A B : Automaton) (lines : List ℕ) → judged_tree A B (answer_line ++ (kind_line ++ lines)) ≡ moved 13 (moved 19 (judged (joint_symbols A.symbols B.symbols) lines))
lines_back A B lines =
    behind A B (answer_line ++ (kind_line ++ lines)) (kind_line ++ lines) lines answer_line kind_line
    refl (begins answer_line (kind_line ++ lines)) (sym (drop-append_seam answer_line (kind_line ++ lines)))
    refl (begins kind_line lines) (sym (drop-append_seam kind_line lines))

tree_back : (A B : Automaton) (nodes : NodeList) → IsListed A → IsListed B → FitsTree A B nodes → judged_tree A B (tree_text nodes) ≡ Is nodes.rows
tree_back A B nodes a b fits =
    ap (judged_tree A B) (append_assoc answer_line kind_line (nodes_text nodes))
    ∙ lines_back A B (nodes_text nodes)
    ∙ is_behind (judged (joint_symbols A.symbols B.symbols) (nodes_text nodes)) nodes.rows
    (ap (λ l. judged l (nodes_text nodes)) (sym fits.symbols)
    ∙ nodes_back nodes fits.list (subst (All (λ a. IsName a.name)) (sym fits.symbols) (joint_names A.symbols B.symbols a.symbol_names b.symbol_names)) fits.some)

-- a text is its two fixed lines and what is behind them
pub split_text : (text rest lines answer kind : List ℕ) → answer ≡ answer_line → bytes_eq (take (length answer) text) answer ≡ true → rest ≡ drop (length answer) text
    → kind ≡ kind_line → bytes_eq (take (length kind) rest) kind ≡ true → lines ≡ drop (length kind) rest → text ≡ answer_line ++ kind_line ++ lines
split_text text rest lines answer kind a e r k f l =
    sym (take-append-drop (length answer) text)
    ∙ ap (λ x. x ++ drop (length answer) text) ((bytes_eq-Decides (take (length answer) text) answer).0 e)
    ∙ ap (λ x. answer ++ x) (sym r ∙ sym (take-append-drop (length kind) rest)
    ∙ ap (λ x. x ++ drop (length kind) rest) ((bytes_eq-Decides (take (length kind) rest) kind).0 f) ∙ ap (λ x. kind ++ x) (sym l))
    ∙ sym (append_assoc answer kind lines)
    ∙ ap (λ x. x ++ kind ++ lines) a ∙ ap (λ x. answer_line ++ x ++ lines) k

-- a tree's text begins as none of the others
not_included_first : (rest : List ℕ) → stands_at included_line (answer_line ++ rest) 0 ≡ false
unfolding answer_line
not_included_first rest = refl

not_undecided_first : (rest : List ℕ) → stands_at undecided_line (answer_line ++ rest) 0 ≡ false
unfolding answer_line
not_undecided_first rest = refl

neither_first : (A B : Automaton) (text : List ℕ) → stands_at included_line text 0 ≡ false → stands_at undecided_line text 0 ≡ false → judged_certificate A B text ≡ said_tree (judged_tree A B text)
unfolding judged_certificate
neither_first A B text e f =
    ap (λ b. cond b (judged_included A B text) (cond (stands_at undecided_line text 0) (judged_undecided A B text) (said_tree (judged_tree A B text)))) e
    ∙ ap (λ b. cond b (judged_undecided A B text) (said_tree (judged_tree A B text))) f

tree_first : (A B : Automaton) (nodes : NodeList) → judged_certificate A B (tree_text nodes) ≡ said_tree (judged_tree A B (tree_text nodes))
tree_first A B nodes =
    let e = append_assoc answer_line kind_line (nodes_text nodes) in
    neither_first A B (tree_text nodes) (ap (λ text. stands_at included_line text 0) e ∙ not_included_first (kind_line ++ nodes_text nodes))
    (ap (λ text. stands_at undecided_line text 0) e ∙ not_undecided_first (kind_line ++ nodes_text nodes))

-- the first line of a text that says that A is included, and the line of its kind
starts_there : (line rest text : List ℕ) (at : ℕ) → drop at text ≡ line ++ rest → stands_at line text at ≡ true
starts_there line rest text at here = ap (λ xs. starts_with nat_eq xs line) here ∙ starts_own line rest

included_first : (A B : Automaton) (text : List ℕ) → stands_at included_line text 0 ≡ true → judged_certificate A B text ≡ judged_included A B text
unfolding judged_certificate
included_first A B text e = ap (λ b. cond b (judged_included A B text) (cond (stands_at undecided_line text 0) (judged_undecided A B text) (said_tree (judged_tree A B text)))) e

-- what stands behind the lines of a relation
behind_relation : (word rest text : List ℕ) (at : ℕ) (m : Matrix) → drop at text ≡ relation_text word m ++ rest → drop (at + length (relation_text word m)) text ≡ rest
behind_relation word rest text at m here =
    sym (drop-drop (length (relation_text word m)) at text) ∙ ap (drop (length (relation_text word m))) here ∙ drop-append_seam (relation_text word m) rest

-- the relation of so many places is read
fitting_back : (word rest text : List ℕ) (at n : ℕ) (m : Matrix) → FitsRelation n m → drop at text ≡ relation_text word m ++ rest
    → relation_in word n text at ≡ Is (record { value = m; after = at + length (relation_text word m) })
fitting_back word rest text at n m fits here =
    let size : length m ≡ n = fits.square.rows in
    subst (λ k. relation_in word k text at ≡ Is (record { value = m; after = at + length (relation_text word m) })) size
    (relation_back word rest text at m (subst (λ k. IsSquare k m) (sym size) fits.square) (subst (λ k. k ≤ 20000) (sym size) fits.few) here)

module _ (A B : Automaton) (a : IsListed A) (b : IsListed B) (pairs : List Pair) (fits : FitPairs A B pairs) where
  listed_back : (text : List ℕ) (at : ℕ) → drop at text ≡ pairs_text A B pairs → pairs_in A B text at ≡ Is pairs
  listed_back text at here = pairs_back A B a b text at pairs (record { printed = here; fitting = fits.each; rising = fits.rising; few = fits.few })

  up_lines_back : (left right : Matrix) (text : List ℕ) (at : ℕ) → FitsRelation (length A.states) left → FitsRelation (length B.states) right
      → drop at text ≡ relation_text left_word left ++ (relation_text right_word right ++ pairs_text A B pairs) → judged_up A B text at ≡ Is (SaidUp left right pairs)
  unfolding judged_up
  up_lines_back left right text at fl fr here =
      let second = at + length (relation_text left_word left) in
      let behind = behind_relation left_word (relation_text right_word right ++ pairs_text A B pairs) text at left here in
      let third = second + length (relation_text right_word right) in
      let last = behind_relation right_word (pairs_text A B pairs) text second right behind in
      ap (λ v. then_judged v (behind_left A B text)) (fitting_back left_word (relation_text right_word right ++ pairs_text A B pairs) text at (length A.states) left fl here)
      ∙ ap (λ v. then_judged v (behind_right A B text left)) (fitting_back right_word (pairs_text A B pairs) text second (length B.states) right fr behind)
      ∙ ap (λ v. then_judged v (λ x. Is (SaidUp left right x))) (listed_back text third last)

  down_lines_back : (both : Matrix) (text : List ℕ) (at : ℕ) → FitsRelation (length A.states + length B.states) both
      → drop at text ≡ relation_text both_word both ++ pairs_text A B pairs → judged_down A B text at ≡ Is (SaidDown both pairs)
  unfolding judged_down
  down_lines_back both text at f here =
      let second = at + length (relation_text both_word both) in
      let behind = behind_relation both_word (pairs_text A B pairs) text at both here in
      ap (λ v. then_judged v (behind_both A B text)) (fitting_back both_word (pairs_text A B pairs) text at (length A.states + length B.states) both f here)
      ∙ ap (λ v. then_judged v (λ x. Is (SaidDown both x))) (listed_back text second behind)

-- the text of an upward certificate, grouped from the right
up_grouped : (A B : Automaton) (left right : Matrix) (pairs : List Pair)
    → up_text A B left right pairs ≡ included_line ++ (up_line ++ (relation_text left_word left ++ (relation_text right_word right ++ pairs_text A B pairs)))
unfolding up_text
up_grouped A B left right pairs =
    let head = included_line ++ up_line in
    let first_part = relation_text left_word left in
    let second_part = relation_text right_word right in
    let last_part = pairs_text A B pairs in
    ap (λ x. x ++ last_part) (append_assoc head first_part second_part) ∙ append_assoc head (first_part ++ second_part) last_part
    ∙ ap (λ x. head ++ x) (append_assoc first_part second_part last_part)

down_grouped : (A B : Automaton) (both : Matrix) (pairs : List Pair) → down_text A B both pairs ≡ included_line ++ (down_line ++ (relation_text both_word both ++ pairs_text A B pairs))
unfolding down_text
down_grouped A B both pairs = append_assoc (included_line ++ down_line) (relation_text both_word both) (pairs_text A B pairs)

up_judged : (A B : Automaton) (text rest : List ℕ) → text ≡ included_line ++ (up_line ++ rest) → judged_certificate A B text ≡ judged_up A B text 26
unfolding judged_included
up_judged A B text rest e =
    included_first A B text (starts_there included_line (up_line ++ rest) text 0 e)
    ∙ ap (λ t. cond t (judged_up A B text 26) (cond (stands_at down_line text 9) (judged_down A B text 28) (BadAt 9))) (starts_there up_line rest text 9 (ap (drop 9) e))

no_up : (rest : List ℕ) → stands_at up_line (included_line ++ (down_line ++ rest)) 9 ≡ false
no_up rest = refl

down_judged : (A B : Automaton) (text rest : List ℕ) → text ≡ included_line ++ (down_line ++ rest) → judged_certificate A B text ≡ judged_down A B text 28
unfolding judged_included
down_judged A B text rest e =
    included_first A B text (starts_there included_line (down_line ++ rest) text 0 e)
    ∙ ap (λ t. cond t (judged_up A B text 26) (cond (stands_at down_line text 9) (judged_down A B text 28) (BadAt 9))) (ap (λ x. stands_at up_line x 9) e ∙ no_up rest)
    ∙ ap (λ t. cond t (judged_down A B text 28) (BadAt 9)) (starts_there down_line rest text 9 (ap (drop 9) e))

up_back : (A B : Automaton) (left right : Matrix) (pairs : List Pair) → IsListed A → IsListed B → FitsUp A B left right pairs → judged_certificate A B (up_text A B left right pairs) ≡ Is (SaidUp left right pairs)
up_back A B left right pairs a b fits =
    let text = up_text A B left right pairs in
    let lines = relation_text left_word left ++ (relation_text right_word right ++ pairs_text A B pairs) in
    let e = up_grouped A B left right pairs in
    up_judged A B text lines e ∙ up_lines_back A B a b pairs fits.pairs left right text 26 fits.left fits.right (ap (drop 26) e)

down_back : (A B : Automaton) (both : Matrix) (pairs : List Pair) → IsListed A → IsListed B → FitsDown A B both pairs → judged_certificate A B (down_text A B both pairs) ≡ Is (SaidDown both pairs)
down_back A B both pairs a b fits =
    let text = down_text A B both pairs in
    let lines = relation_text both_word both ++ pairs_text A B pairs in
    let e = down_grouped A B both pairs in
    down_judged A B text lines e ∙ down_lines_back A B a b pairs fits.pairs both text 28 fits.both (ap (drop 28) e)

-- a trail's text, grouped from the right
trail_grouped : (A B : Automaton) (left right : Matrix) (budget : ℕ) (entries : List UpEntry)
    → up_trail_text A B left right budget entries ≡ undecided_line ++ (up_trail_line ++ (relation_text left_word left ++ (relation_text right_word right ++ up_entries_text A B budget entries)))
unfolding up_trail_text
trail_grouped A B left right budget entries =
    let head = undecided_line ++ up_trail_line in
    let first_part = relation_text left_word left in
    let second_part = relation_text right_word right in
    let last_part = up_entries_text A B budget entries in
    ap (λ x. x ++ last_part) (append_assoc head first_part second_part) ∙ append_assoc head (first_part ++ second_part) last_part
    ∙ ap (λ x. head ++ x) (append_assoc first_part second_part last_part)

no_included : (rest : List ℕ) → stands_at included_line (undecided_line ++ rest) 0 ≡ false
no_included rest = refl

trail_judged : (A B : Automaton) (text rest : List ℕ) → text ≡ undecided_line ++ (up_trail_line ++ rest) → judged_certificate A B text ≡ judged_up_trail A B text 33
unfolding judged_certificate judged_undecided
trail_judged A B text rest e =
    ap (λ b. cond b (judged_included A B text) (cond (stands_at undecided_line text 0) (judged_undecided A B text) (said_tree (judged_tree A B text))))
    (ap (λ x. stands_at included_line x 0) e ∙ no_included (up_trail_line ++ rest))
    ∙ ap (λ b. cond b (judged_undecided A B text) (said_tree (judged_tree A B text))) (starts_there undecided_line (up_trail_line ++ rest) text 0 e)
    ∙ ap (λ b. cond b (judged_up_trail A B text 33) (cond (stands_at down_trail_line text 10) (judged_down_trail A B text 35) (BadAt 10))) (starts_there up_trail_line rest text 10 (ap (drop 10) e))

trail_lines_back : (A B : Automaton) (left right : Matrix) (budget : ℕ) (entries : List UpEntry) → IsListed A → IsListed B → FitsUpTrail A B left right budget entries → (text : List ℕ) (at : ℕ)
    → drop at text ≡ relation_text left_word left ++ (relation_text right_word right ++ up_entries_text A B budget entries) → judged_up_trail A B text at ≡ Is (SaidUpTrail left right budget entries)
unfolding judged_up_trail
trail_lines_back A B left right budget entries a b fits text at here =
    let second = at + length (relation_text left_word left) in
    let behind = behind_relation left_word (relation_text right_word right ++ up_entries_text A B budget entries) text at left here in
    let third = second + length (relation_text right_word right) in
    let last = behind_relation right_word (up_entries_text A B budget entries) text second right behind in
    ap (λ v. then_judged v (behind_trail_left A B text)) (fitting_back left_word (relation_text right_word right ++ up_entries_text A B budget entries) text at (length A.states) left fits.left here)
    ∙ ap (λ v. then_judged v (behind_trail_right A B text left)) (fitting_back right_word (up_entries_text A B budget entries) text second (length B.states) right fits.right behind)
    ∙ ap (λ v. then_judged v (λ found. Is (SaidUpTrail left right found.budget found.entries))) (up_entries_back A B a b budget entries fits.entries text third last)

up_trail_back : (A B : Automaton) (left right : Matrix) (budget : ℕ) (entries : List UpEntry) → IsListed A → IsListed B → FitsUpTrail A B left right budget entries
    → judged_certificate A B (up_trail_text A B left right budget entries) ≡ Is (SaidUpTrail left right budget entries)
up_trail_back A B left right budget entries a b fits =
    let text = up_trail_text A B left right budget entries in
    let lines = relation_text left_word left ++ (relation_text right_word right ++ up_entries_text A B budget entries) in
    let e = trail_grouped A B left right budget entries in
    trail_judged A B text lines e ∙ trail_lines_back A B left right budget entries a b fits text 33 (ap (drop 33) e)

-- a downward trail's text, grouped from the right
down_trail_grouped : (A B : Automaton) (both : Matrix) (budget : ℕ) (entries : List DownEntry)
    → down_trail_text A B both budget entries ≡ undecided_line ++ (down_trail_line ++ (relation_text both_word both ++ down_entries_text (canon A) B budget entries))
unfolding down_trail_text
down_trail_grouped A B both budget entries = append_assoc (undecided_line ++ down_trail_line) (relation_text both_word both) (down_entries_text (canon A) B budget entries)

no_up_trail : (rest : List ℕ) → stands_at up_trail_line (undecided_line ++ (down_trail_line ++ rest)) 10 ≡ false
no_up_trail rest = refl

down_trail_judged : (A B : Automaton) (text rest : List ℕ) → text ≡ undecided_line ++ (down_trail_line ++ rest) → judged_certificate A B text ≡ judged_down_trail A B text 35
unfolding judged_certificate judged_undecided
down_trail_judged A B text rest e =
    ap (λ b. cond b (judged_included A B text) (cond (stands_at undecided_line text 0) (judged_undecided A B text) (said_tree (judged_tree A B text))))
    (ap (λ x. stands_at included_line x 0) e ∙ no_included (down_trail_line ++ rest))
    ∙ ap (λ b. cond b (judged_undecided A B text) (said_tree (judged_tree A B text))) (starts_there undecided_line (down_trail_line ++ rest) text 0 e)
    ∙ ap (λ b. cond b (judged_up_trail A B text 33) (cond (stands_at down_trail_line text 10) (judged_down_trail A B text 35) (BadAt 10))) (ap (λ x. stands_at up_trail_line x 10) e ∙ no_up_trail rest)
    ∙ ap (λ b. cond b (judged_down_trail A B text 35) (BadAt 10)) (starts_there down_trail_line rest text 10 (ap (drop 10) e))

down_trail_lines_back : (A B : Automaton) (both : Matrix) (budget : ℕ) (entries : List DownEntry) → IsListed A → IsListed B → AreRanksNumbers A → FitsDownTrail A B both budget entries → (text : List ℕ) (at : ℕ)
    → drop at text ≡ relation_text both_word both ++ down_entries_text (canon A) B budget entries → judged_down_trail A B text at ≡ Is (SaidDownTrail both budget entries)
unfolding judged_down_trail
down_trail_lines_back A B both budget entries a b ranks fits text at here =
    let second = at + length (relation_text both_word both) in
    let behind = behind_relation both_word (down_entries_text (canon A) B budget entries) text at both here in
    ap (λ v. then_judged v (behind_trail_both A B text)) (fitting_back both_word (down_entries_text (canon A) B budget entries) text at (length A.states + length B.states) both fits.both here)
    ∙ ap (λ v. then_judged v (λ found. Is (SaidDownTrail both found.budget found.entries))) (down_entries_back (canon A) B (canon_listed A a) b ranks budget entries fits.entries text second behind)

down_trail_back : (A B : Automaton) (both : Matrix) (budget : ℕ) (entries : List DownEntry) → IsListed A → IsListed B → AreRanksNumbers A → FitsDownTrail A B both budget entries
    → judged_certificate A B (down_trail_text A B both budget entries) ≡ Is (SaidDownTrail both budget entries)
down_trail_back A B both budget entries a b ranks fits =
    let text = down_trail_text A B both budget entries in
    let lines = relation_text both_word both ++ down_entries_text (canon A) B budget entries in
    let e = down_trail_grouped A B both budget entries in
    down_trail_judged A B text lines e ∙ down_trail_lines_back A B both budget entries a b ranks fits text 35 (ap (drop 35) e)

pub printed_back : (A B : Automaton) (c : Certificate) → IsListed A → IsListed B → AreRanksNumbers A → Fits A B c → Reads A B (Ok c) (judged_certificate A B (certificate_text A B c))
printed_back A B (Up left right pairs) a b ranks fits = up_back A B left right pairs.items a b fits
printed_back A B (Down both pairs) a b ranks fits = down_back A B both pairs.items a b fits
printed_back A B (Tree nodes) a b ranks fits = tree_first A B nodes ∙ ap said_tree (tree_back A B nodes a b fits)
printed_back A B (UpTrail left right budget entries) a b ranks fits = up_trail_back A B left right budget entries.items a b fits
printed_back A B (DownTrail both budget entries) a b ranks fits = down_trail_back A B both budget (entries_of entries.items) a b ranks fits
