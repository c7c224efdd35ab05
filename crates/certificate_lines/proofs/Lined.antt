-- So many lines, each judged by those read before it: what is printed is read, and what is read is printed.
use Rattle.std.proofs.Common.{◌≡◌, true, ℕ, zero, suc, ◌+◌, ◌≤◌, List, [], ◌∷◌, ◌++◌, length, length-append, drop, Option, Some, None, refl, sym, ap, ap₂, ◌∙◌, subst, append_assoc, append-nil, arith}
use Rattle.std.specs.List.{flat_map}
use Rattle.std.proofs.lemmas.List.{length-drop, drop-drop}
use Rattle.std.proofs.Math.Seq.{drop-append-add}
use Rattle.witness_trees.specs.Judged.{Verdict, Is, BadAt, UnknownAt, then_judged, cut_at}
use Rattle.witness_trees.proofs.Spelled.{IsFree, cut_free}
use Rattle.witness_trees.proofs.Inverse.{cut_joined}
use Rattle.certificate_lines.specs.Lines.{Piece, stands_at, line_then, lines_in}
use Rattle.certificate_lines.proofs.Starts.{starts_joined}

-- the lines of these, each with its line feed
abbrev pub lines_text : {X : Type 0} → (X → List ℕ) → List X → List ℕ
lines_text line_of xs = flat_map (λ x. line_of x ++ 10 ∷ []) xs

-- what stands behind the first line
pub behind_line : (text line rest : List ℕ) (at : ℕ) → drop at text ≡ line ++ 10 ∷ rest → drop (at + length line + 1) text ≡ rest
behind_line text line rest at here =
    let size : at + length line + 1 ≡ at + (length line + 1) = omega arith in
    ap (λ n. drop n text) size ∙ sym (drop-drop (length line + 1) at text) ∙ ap (drop (length line + 1)) here ∙ drop-append-add line (10 ∷ rest) 1

-- what stands behind a word that stands here, and that it ends within the text
pub behind_word : (word text : List ℕ) (at : ℕ) → at ≤ length text → stands_at word text at ≡ true → (drop at text ≡ word ++ drop (at + length word) text) × (at + length word ≤ length text)
behind_word word text at within h =
    let begins = starts_joined word (drop at text) h in
    let whole = length-drop at text in
    let long = ap length begins in
    let parts = length-append word (drop (length word) (drop at text)) in
    (begins ∙ ap (λ xs. word ++ xs) (drop-drop (length word) at text), omega (arith, whole, long, parts, within))

module _ {X : Type 0} (judge : List X → ℕ → List ℕ → Verdict X) (line_of : X → List ℕ) where
  -- each is judged right by its line, behind those before it
  abbrev pub AreJudged : List X → List X → Type 0
  AreJudged read [] = Unit {0}
  AreJudged read (x ∷ xs) = ((at : ℕ) → judge read at (line_of x) ≡ Is x) × IsFree 10 (line_of x) × AreJudged (read ++ x ∷ []) xs

  -- lines that are judged right are read
  pub lines_back : (text rest : List ℕ) (at : ℕ) (read xs : List X) → drop at text ≡ lines_text line_of xs ++ rest → AreJudged read xs
      → lines_in judge text (length xs) at read ≡ Is (record { value = read ++ xs; after = at + length (lines_text line_of xs) })
  unfolding lines_in
  lines_back text rest at read [] here right =
      let e : at ≡ at + 0 = omega arith in
      ap₂ (λ v n. Is (record { value = v; after = n })) (sym (append-nil read)) e
  lines_back text rest at read (x ∷ xs) here right =
      let line = line_of x in
      let more = lines_text line_of xs in
      let begins : drop at text ≡ line ++ 10 ∷ (more ++ rest) = here ∙ append_assoc (line ++ 10 ∷ []) more rest ∙ append_assoc line (10 ∷ []) (more ++ rest) in
      let behind = behind_line text line (more ++ rest) at begins in
      let long = length-append (line ++ 10 ∷ []) more in
      let one = length-append line (10 ∷ []) in
      let e : at + length line + 1 + length more ≡ at + length ((line ++ 10 ∷ []) ++ more) = omega (arith, long, one) in
      ap (line_then at (next xs)) (ap (cut_at 10) begins ∙ cut_free 10 line (more ++ rest) right.1)
      ∙ ap (λ v. then_judged v (λ y. lines_in judge text (length xs) (at + length line + 1) (read ++ y ∷ []))) (right.0 at)
      ∙ lines_back text rest (at + length line + 1) (read ++ x ∷ []) xs behind right.2
      ∙ ap₂ (λ v n. Is (record { value = v; after = n })) (append_assoc read (x ∷ []) xs) e
    where
      next : List X → List ℕ → Verdict (Piece (List X))
      next xs line = then_judged (judge read at line) (λ y. lines_in judge text (length xs) (at + length line + 1) (read ++ y ∷ []))

module _ {X : Type 0} (P : List X → X → Type 0) where
  -- each has what a judged line says of it, behind those before it
  abbrev pub AreFound : List X → List X → Type 0
  AreFound read [] = Unit {0}
  AreFound read (x ∷ xs) = P read x × AreFound (read ++ x ∷ []) xs

module _ {X : Type 0} (judge : List X → ℕ → List ℕ → Verdict X) (line_of : X → List ℕ) (P : List X → X → Type 0) (text : List ℕ) where
  -- what was read is so many more, and their lines stand there
  pub record Continues (due at : ℕ) (read : List X) (piece : Piece (List X)) : Type 0 where
    pub more : List X
    pub all : piece.value ≡ read ++ more
    pub as_many : length more ≡ due
    pub within_text : piece.after ≤ length text
    pub printed : drop at text ≡ lines_text line_of more ++ drop piece.after text
    pub found : AreFound P read more

  -- what is read is lines that are judged right
  pub lines_inverse : ((read : List X) (at : ℕ) (line : List ℕ) (x : X) → judge read at line ≡ Is x → (line ≡ line_of x) × P read x)
      → (due at : ℕ) (read : List X) (piece : Piece (List X)) → at ≤ length text → lines_in judge text due at read ≡ Is piece → Continues due at read piece
  unfolding lines_in
  lines_inverse means zero at read piece within h =
      let made : Piece (List X) = record { value = read; after = at } in
      let same : made ≡ piece = cc in
      subst (Continues zero at read) same (record {
        more = [];
        all = sym (append-nil read);
        as_many = refl;
        within_text = within;
        printed = refl;
        found = tt;
      })
  lines_inverse means (suc due) at read piece within h = cut (cut_at 10 (drop at text)) refl h (λ after new le k. lines_inverse means due after new piece le k)
    where
      Later : Type 0
      Later = (after : ℕ) (new : List X) → after ≤ length text → lines_in judge text due after new ≡ Is piece → Continues due after new piece

      judged : (p : List ℕ × List ℕ) → cut_at 10 (drop at text) ≡ Some p → (v : Verdict X) → judge read at p.0 ≡ v
          → then_judged v (λ x. lines_in judge text due (at + length p.0 + 1) (read ++ x ∷ [])) ≡ Is piece → Later → Continues (suc due) at read piece
      judged p e (BadAt byte) s k later = absurd cc
      judged p e (UnknownAt byte) s k later = absurd cc
      judged p e (Is x) s k later =
          let line = p.0 in
          let m = means read at line x s in
          let begins : drop at text ≡ line ++ 10 ∷ p.1 = cut_joined 10 (drop at text) p e in
          let behind = behind_line text line p.1 at begins in
          let whole = length-drop at text in
          let long = ap length begins in
          let parts = length-append line (10 ∷ p.1) in
          let le : at + length line + 1 ≤ length text = omega (arith, whole, long, parts, within) in
          let rest = later (at + length line + 1) (read ++ x ∷ []) le k in
          let others = lines_text line_of rest.more in
          let end = drop piece.after text in
          record {
            more = x ∷ rest.more;
            all = rest.all ∙ append_assoc read (x ∷ []) rest.more;
            as_many = ap suc rest.as_many;
            within_text = rest.within_text;
            printed = begins ∙ ap₂ (λ a b. a ++ 10 ∷ b) m.0 (sym behind ∙ rest.printed)
                ∙ sym (append_assoc (line_of x) (10 ∷ []) (others ++ end)) ∙ sym (append_assoc (line_of x ++ 10 ∷ []) others end);
            found = (m.1, rest.found);
          }

      cut : (o : Option (List ℕ × List ℕ)) → cut_at 10 (drop at text) ≡ o
          → line_then at (λ line. then_judged (judge read at line) (λ x. lines_in judge text due (at + length line + 1) (read ++ x ∷ []))) o ≡ Is piece → Later → Continues (suc due) at read piece
      cut None e k later = absurd cc
      cut (Some p) e k later = judged p e (judge read at p.0) refl k later
