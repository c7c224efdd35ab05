-- Judging so many lines, one at a time.
use Rattle.std.proofs.Common.{◌≡◌, ℕ, suc, ◌+◌, ◌-◌, ◌<◌, ◌≤◌, List, [], ◌∷◌, ◌++◌, length, take, drop, Some, None, Err, refl, sym, ap, ◌∙◌, subst, arith}
use Rattle.std.proofs.lemmas.List.{length-take-le, length-drop, length_push, take_rest}
use Rattle.witness_trees.specs.Judged.{Verdict, Is, BadAt, UnknownAt, then_judged, cut_at}
use Rattle.witness_trees.specs.Answers.{Answers}
use Rattle.witness_trees.specs.declared.reader.NodesTextError.{NodesTextError}
use Rattle.witness_trees.specs.declared.reader.NodesTextError.TheVariants as errors
use Rattle.certificate_lines.specs.Lines.{Piece, line_then, lines_in}

module _ {X : Type 0} (judge : List X → ℕ → List ℕ → Verdict X) (text : List ℕ) (due from : ℕ) where
  -- the first i of so many lines were read, and what is said of the rest is said of all
  pub record IsReadTo (i at : ℕ) (read : List X) : Type 0 where
    pub count : length read ≡ i
    pub within_text : at ≤ length text
    pub same : lines_in judge text (due - i) at read ≡ lines_in judge text due from []

  pub read_none : (read : List X) → read ≡ [] → from ≤ length text → IsReadTo 0 from read
  read_none read e le = subst (IsReadTo 0 from) (sym e) (record {
    count = refl;
    within_text = le;
    same = let d : due - 0 ≡ due = omega arith in ap (λ n. lines_in judge text n from []) d;
  })

  abbrev next_of : (i at : ℕ) (read : List X) (line : List ℕ) → Verdict (Piece (List X))
  next_of i at read line = then_judged (judge read at line) (λ x. lines_in judge text (due - (i + 1)) (at + length line + 1) (read ++ x ∷ []))

  turn : (i at : ℕ) (read : List X) → i < due → IsReadTo i at read → line_then at (next_of i at read) (cut_at 10 (drop at text)) ≡ lines_in judge text due from []
  unfolding lines_in
  turn i at read lt r =
      let d : suc (due - (i + 1)) ≡ due - i = omega (arith, lt) in
      ap (λ n. lines_in judge text n at read) d ∙ r.same

  pub read_cut : (i at : ℕ) (read : List X) → i < due → IsReadTo i at read → cut_at 10 (take (length text - at) (drop at text)) ≡ None → lines_in judge text due from [] ≡ BadAt at
  read_cut i at read lt r none =
      sym (turn i at read lt r) ∙ ap (line_then at (next_of i at read)) (ap (cut_at 10) (sym (take_rest text at)) ∙ none)

  module _ (i at end : ℕ) (read : List X) (line : List ℕ) (lt : i < due) (r : IsReadTo i at read) (inside : end < length (take (length text - at) (drop at text)))
      (cut : cut_at 10 (take (length text - at) (drop at text)) ≡ Some (take end (take (length text - at) (drop at text)), drop (end + 1) (take (length text - at) (drop at text))))
      (is : line ≡ take (at + end - at) (drop at text)) where
    whole : take (length text - at) (drop at text) ≡ drop at text
    whole = take_rest text at

    in_drop : end < length (drop at text)
    in_drop = subst (λ xs. end < length xs) whole inside

    is_line : take end (take (length text - at) (drop at text)) ≡ line
    is_line =
        let size : end ≡ at + end - at = omega arith in
        ap (take end) whole ∙ ap (λ n. take n (drop at text)) size ∙ sym is

    long : length line ≡ end
    long =
        let size : at + end - at ≡ end = omega arith in
        ap length is ∙ ap (λ n. length (take n (drop at text))) size ∙ length-take-le end (drop at text) (omega (arith, in_drop))

    judged_line : (verdict : Verdict X) → judge read at line ≡ verdict → then_judged verdict (λ x. lines_in judge text (due - (i + 1)) (at + length line + 1) (read ++ x ∷ [])) ≡ lines_in judge text due from []
    judged_line verdict said =
        ap (λ v. then_judged v (λ x. lines_in judge text (due - (i + 1)) (at + length line + 1) (read ++ x ∷ []))) (sym said)
        ∙ ap (next_of i at read) (sym is_line)
        ∙ sym (ap (line_then at (next_of i at read)) (ap (cut_at 10) (sym whole) ∙ cut))
        ∙ turn i at read lt r

    pub read_more : (x : X) (new : List X) → judge read at line ≡ Is x → new ≡ read ++ x ∷ [] → IsReadTo (i + 1) (at + (end + 1)) new
    read_more x new said grown =
        let after : at + length line + 1 ≡ at + (end + 1) = omega (arith, long) in
        let size = length-drop at text in
        let le = r.within_text in
        subst (IsReadTo (i + 1) (at + (end + 1))) (sym grown) (record {
          count = length_push read x ∙ ap (λ n. n + 1) r.count;
          within_text = omega (arith, size, in_drop, le);
          same = ap (λ n. lines_in judge text (due - (i + 1)) n (read ++ x ∷ [])) (sym after) ∙ judged_line (Is x) said;
        })

    pub read_fails : {Y : Type 0} (view : Y → Piece (List X)) (error : NodesTextError) → Answers {X = X} (λ x. x) (Err error) (judge read at line) → Answers view (Err error) (lines_in judge text due from [])
    read_fails view (errors.BadText byte) said = sym (judged_line (BadAt byte) said)
    read_fails view (errors.UnknownName byte) said = sym (judged_line (UnknownAt byte) said)
    read_fails view errors.Memory said = tt

  pub read_all : (i at : ℕ) (read : List X) → due ≤ i → IsReadTo i at read → lines_in judge text due from [] ≡ Is (record { value = read; after = at })
  unfolding lines_in
  read_all i at read le r =
      let d : due - i ≡ 0 = omega (arith, le) in
      sym r.same ∙ ap (λ n. lines_in judge text n at read) d
