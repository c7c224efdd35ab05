-- So many lines that are printed and read back, whatever each of them stands for.
use Rattle.std.proofs.Common.{◌≡◌, ℕ, zero, suc, ◌+◌, ◌≤◌, List, [], ◌∷◌, ◌++◌, length, length-append, drop, Option, Some, None, refl, sym, ap, ap₂, ◌∙◌, subst, append_assoc, append-nil, arith}
use Rattle.std.specs.List.{flat_map}
use Rattle.std.proofs.Math.Seq.{drop-append-add}
use Rattle.std.proofs.lemmas.List.{drop-drop, length-drop}
use Rattle.witness_trees.specs.Judged.{Verdict, Is, BadAt, UnknownAt, then_judged, cut_at}
use Rattle.witness_trees.proofs.Spelled.{IsFree, cut_free}
use Rattle.witness_trees.proofs.Inverse.{cut_joined}
use Rattle.certificate_lines.specs.Lines.{Piece, line_then, lines_in}

-- the lines of these, each with its line feed
abbrev pub lines_of : {X : Type 0} → (X → List ℕ) → List X → List ℕ
lines_of write xs = flat_map (λ x. write x ++ 10 ∷ []) xs

-- the bytes behind a line
pub behind_line : (at : ℕ) (text line rest : List ℕ) → drop at text ≡ line ++ 10 ∷ rest → drop (at + length line + 1) text ≡ rest
behind_line at text line rest e =
    let same : at + length line + 1 ≡ at + (length line + 1) = omega arith in
    ap (λ n. drop n text) same ∙ sym (drop-drop (length line + 1) at text) ∙ ap (drop (length line + 1)) e ∙ drop-append-add line (10 ∷ rest) 1

-- a line ends within the text
pub line_within : (at : ℕ) (text line rest : List ℕ) → at ≤ length text → drop at text ≡ line ++ 10 ∷ rest → at + length line + 1 ≤ length text
line_within at text line rest le e =
    let size = length-drop at text in
    let same : length (drop at text) ≡ length (line ++ 10 ∷ rest) = ap length e in
    let long = length-append line (10 ∷ rest) in
    omega (arith, le, size, same, long)

module _ {X : Type 0} (judge : List X → ℕ → List ℕ → Verdict X) (write : X → List ℕ) where
  -- the line of each of these is judged to be it, behind those before it
  abbrev pub AreJudged : List X → List X → Type 0
  AreJudged read [] = Unit {0}
  AreJudged read (x ∷ xs) = IsFree 10 (write x) × ((at : ℕ) → judge read at (write x) ≡ Is x) × AreJudged (read ++ x ∷ []) xs

  -- printed lines are read back
  pub lines_back : (text rest : List ℕ) (at : ℕ) (read xs : List X) → AreJudged read xs → drop at text ≡ lines_of write xs ++ rest
      → lines_in judge text (length xs) at read ≡ Is (record { value = read ++ xs; after = at + length (lines_of write xs) })
  unfolding lines_in
  lines_back text rest at read [] h e =
      let same : at ≡ at + 0 = omega arith in
      ap₂ found (sym (append-nil read)) same
    where
      found : List X → ℕ → Verdict (Piece (List X))
      found value after = Is (record { value = value; after = after })
  lines_back text rest at read (x ∷ xs) h e =
      let behind = lines_of write xs ++ rest in
      let whole : drop at text ≡ write x ++ 10 ∷ behind = e ∙ append_assoc (write x ++ 10 ∷ []) (lines_of write xs) rest ∙ append_assoc (write x) (10 ∷ []) (lines_of write xs ++ rest) in
      let first = length-append (write x) (10 ∷ []) in
      let both = length-append (write x ++ 10 ∷ []) (lines_of write xs) in
      let size : at + length (write x) + 1 + length (lines_of write xs) ≡ at + length (lines_of write (x ∷ xs)) = omega (arith, first, both) in
      ap (λ bytes. line_then at next (cut_at 10 bytes)) whole
      ∙ ap (line_then at next) (cut_free 10 (write x) behind h.0)
      ∙ ap (λ v. then_judged v (λ y. lines_in judge text (length xs) (at + length (write x) + 1) (read ++ y ∷ []))) (h.1 at)
      ∙ lines_back text rest (at + length (write x) + 1) (read ++ x ∷ []) xs h.2 (behind_line at text (write x) behind whole)
      ∙ ap₂ found (append_assoc read (x ∷ []) xs) size
    where
      next : List ℕ → Verdict (Piece (List X))
      next line = then_judged (judge read at line) (λ y. lines_in judge text (length xs) (at + length line + 1) (read ++ y ∷ []))

      found : List X → ℕ → Verdict (Piece (List X))
      found value after = Is (record { value = value; after = after })

-- what so many lines that were read stand for, and that their text is printed
pub record IsContinued {X : Type 0} (write : X → List ℕ) (text : List ℕ) (due at : ℕ) (read : List X) (piece : Piece (List X)) : Type 0 where
  pub more : List X
  pub all : piece.value ≡ read ++ more
  pub as_many : length more ≡ due
  pub printed : drop at text ≡ lines_of write more ++ drop piece.after text
  pub within_text : piece.after ≤ length text

module _ {X : Type 0} (judge : List X → ℕ → List ℕ → Verdict X) (write : X → List ℕ) (Right : List X → Type 0)
    (judged : (read : List X) (at : ℕ) (line : List ℕ) (x : X) → Right read → judge read at line ≡ Is x → (line ≡ write x) × Right (read ++ x ∷ [])) where
  -- only printed lines are read, and what each line keeps holds of all that were read
  pub lines_read : (text : List ℕ) (due at : ℕ) (read : List X) (piece : Piece (List X)) → at ≤ length text → Right read → lines_in judge text due at read ≡ Is piece → IsContinued write text due at read piece × Right piece.value
  unfolding lines_in
  lines_read text zero at read piece le right h =
      let made : Piece (List X) = record { value = read; after = at } in
      let same : made ≡ piece = cc in
      let value : read ≡ piece.value = ap (λ (p : Piece (List X)). p.value) same in
      let after : at ≡ piece.after = ap (λ (p : Piece (List X)). p.after) same in (
        record {
          more = [];
          all = sym value ∙ sym (append-nil read);
          as_many = refl;
          printed = ap (λ n. drop n text) after;
          within_text = omega (arith, le, after);
        },
        subst Right value right,
      )
  lines_read text (suc due) at read piece le right h =
      cut (cut_at 10 (drop at text)) refl h (λ after ys l r k. lines_read text due after ys piece l r k)
    where
      Later : Type 0
      Later = (after : ℕ) (ys : List X) → after ≤ length text → Right ys → lines_in judge text due after ys ≡ Is piece → IsContinued write text due after ys piece × Right piece.value

      line : (p : List ℕ × List ℕ) → cut_at 10 (drop at text) ≡ Some p → (v : Verdict X) → judge read at p.0 ≡ v → then_judged v (λ x. lines_in judge text due (at + length p.0 + 1) (read ++ x ∷ [])) ≡ Is piece → Later
          → IsContinued write text (suc due) at read piece × Right piece.value
      line p e (BadAt byte) s k later = absurd cc
      line p e (UnknownAt byte) s k later = absurd cc
      line p e (Is x) s k later =
          let whole = cut_joined 10 (drop at text) p e in
          let one = judged read at p.0 x right s in
          let rest = later (at + length p.0 + 1) (read ++ x ∷ []) (line_within at text p.0 p.1 le whole) one.1 k in
          let others = rest.0 in
          let tail : p.1 ≡ lines_of write others.more ++ drop piece.after text = sym (behind_line at text p.0 p.1 whole) ∙ others.printed in (
            record {
              more = x ∷ others.more;
              all = others.all ∙ append_assoc read (x ∷ []) others.more;
              as_many = ap suc others.as_many;
              printed = whole ∙ ap₂ (λ a b. a ++ 10 ∷ b) one.0 tail
                  ∙ sym (append_assoc (write x) (10 ∷ []) (lines_of write others.more ++ drop piece.after text))
                  ∙ sym (append_assoc (write x ++ 10 ∷ []) (lines_of write others.more) (drop piece.after text));
              within_text = others.within_text;
            },
            rest.1,
          )

      cut : (o : Option (List ℕ × List ℕ)) → cut_at 10 (drop at text) ≡ o → line_then at (λ l. then_judged (judge read at l) (λ x. lines_in judge text due (at + length l + 1) (read ++ x ∷ []))) o ≡ Is piece → Later
          → IsContinued write text (suc due) at read piece × Right piece.value
      cut None e k later = absurd cc
      cut (Some p) e k later = line p e (judge read at p.0) refl k later
