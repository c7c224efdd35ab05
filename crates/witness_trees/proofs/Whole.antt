-- Judging a whole text.
use Rattle.std.proofs.Common.{◌≡◌, ℕ, zero, suc, ◌+◌, ◌<◌, ◌≤◌, inl, inr, Bool, true, false, cond, List, [], ◌∷◌, ◌++◌, length, take, drop, Option, Some, None, Err, refl, sym, ap, ◌∙◌, subst, arith}
use Rattle.std.specs.Prelude.{option_map, ◌==◌}
use Rattle.std.proofs.lemmas.Bool.{cases_lt}
use Rattle.std.proofs.lemmas.List.{length-take-le, length-drop}
use Rattle.tree_definitions.specs.Tree.{Symbol}
use Rattle.tree_definitions.specs.Witness.{NodeRow}
use Rattle.witness_trees.specs.declared.reader.NodesTextError.{NodesTextError}
use Rattle.witness_trees.specs.declared.reader.NodesTextError.TheVariants as errors
use Rattle.witness_trees.specs.Judged.{Verdict, Is, BadAt, UnknownAt, then_judged, cut_at, node_in, line_then, lines_in, count_in, counted, first_then, judged}
use Rattle.witness_trees.specs.Answers.{Answers, capped}

-- what stands behind a mark is shorter
pub cut_shorter : (mark : ℕ) (bytes : List ℕ) (p : List ℕ × List ℕ) → cut_at mark bytes ≡ Some p → length p.1 < length bytes
cut_shorter mark [] p h = absurd cc
cut_shorter mark (b ∷ bs) p h = go (b == mark) h (λ q e. cut_shorter mark bs q e)
  where
    here : (q : List ℕ × List ℕ) → Some q ≡ Some p → length q.1 ≤ length bs → length p.1 < length (b ∷ bs)
    here q e le = let same : q ≡ p = cc in subst (λ (x : List ℕ × List ℕ). length x.1 < length (b ∷ bs)) same (omega arith)

    later : (o : Option (List ℕ × List ℕ)) → cut_at mark bs ≡ o → option_map (λ q. (b ∷ q.0, q.1)) o ≡ Some p → ((q : List ℕ × List ℕ) → cut_at mark bs ≡ Some q → length q.1 < length bs) → length p.1 < length (b ∷ bs)
    later None e k more = absurd cc
    later (Some q) e k more = let lt : length q.1 < length bs = more q e in here (b ∷ q.0, q.1) k (omega arith)

    go : (t : Bool) → cond t (Some ([], bs)) (option_map (λ q. (b ∷ q.0, q.1)) (cut_at mark bs)) ≡ Some p → ((q : List ℕ × List ℕ) → cut_at mark bs ≡ Some q → length q.1 < length bs) → length p.1 < length (b ∷ bs)
    go true k more = here ([], bs) k (omega arith)
    go false k more = later (cut_at mark bs) refl k more

-- more nodes may be due than there can be lines, and then the number doesn't matter
pub lines_long : (symbols : List Symbol) (m n at : ℕ) (nodes : List NodeRow) (bytes : List ℕ) → length bytes < m → length bytes < n → lines_in symbols m at nodes bytes ≡ lines_in symbols n at nodes bytes
unfolding lines_in
lines_long symbols zero n at nodes bytes p q = absurd (omega arith)
lines_long symbols (suc m) zero at nodes bytes p q = absurd (omega arith)
lines_long symbols (suc m) (suc n) at nodes bytes p q =
    cut (cut_at 10 bytes) refl (λ after ns rest lt. lines_long symbols m n after ns rest (omega arith) (omega arith))
  where
    next : ℕ → NodeRow → ℕ → List ℕ → Verdict (List NodeRow)
    next k node after rest = lines_in symbols k after (nodes ++ node ∷ []) rest

    line : (v : Verdict NodeRow) (after : ℕ) (rest : List ℕ) → length rest < length bytes → ((after : ℕ) (ns : List NodeRow) (rest : List ℕ) → length rest < length bytes → lines_in symbols m after ns rest ≡ lines_in symbols n after ns rest) → then_judged v (λ node. next m node after rest) ≡ then_judged v (λ node. next n node after rest)
    line (Is node) after rest lt same = same after (nodes ++ node ∷ []) rest lt
    line (BadAt byte) after rest lt same = refl
    line (UnknownAt byte) after rest lt same = refl

    cut : (o : Option (List ℕ × List ℕ)) → cut_at 10 bytes ≡ o → ((after : ℕ) (ns : List NodeRow) (rest : List ℕ) → length rest < length bytes → lines_in symbols m after ns rest ≡ lines_in symbols n after ns rest) → line_then symbols (length nodes) at (next m) o ≡ line_then symbols (length nodes) at (next n) o
    cut None e same = refl
    cut (Some c) e same = line (node_in symbols (length nodes) at c.0) (at + length c.0 + 1) c.1 (cut_shorter 10 bytes c e) same

pub lines_capped : (symbols : List Symbol) (n at : ℕ) (nodes : List NodeRow) (bytes : List ℕ) → length bytes < 4294967296 → lines_in symbols n at nodes bytes ≡ lines_in symbols (capped n) at nodes bytes
lines_capped symbols n at nodes bytes short = elim (cases_lt 4294967296 n) [
  | inl above ↦ let e : capped n ≡ 4294967296 = omega arith in lines_long symbols n (capped n) at nodes bytes (omega arith) (omega arith)
  | inr low ↦ let e : n ≡ capped n = omega arith in ap (λ k. lines_in symbols k at nodes bytes) e
]

pub judged_cut : (symbols : List Symbol) (text : List ℕ) → cut_at 10 text ≡ None → judged symbols text ≡ BadAt 0
unfolding judged
judged_cut symbols text e = ap (first_then symbols) e

module _ (symbols : List Symbol) (text line : List ℕ) (end : ℕ) (cut : cut_at 10 text ≡ Some (take end text, drop (end + 1) text)) (is : line ≡ take end text) where
  pub judged_uncounted : option_map capped (count_in line) ≡ None → judged symbols text ≡ BadAt 0
  unfolding judged
  judged_uncounted h =
      ap (first_then symbols) cut ∙ ap (λ l. counted symbols (length (take end text) + 1) (drop (end + 1) text) (count_in l)) (sym is) ∙ go (count_in line) h
    where
      go : (o : Option ℕ) → option_map capped o ≡ None → counted symbols (length (take end text) + 1) (drop (end + 1) text) o ≡ BadAt 0
      go None e = refl
      go (Some n) e = absurd cc

  pub judged_counted : (due : ℕ) → end < length text → length text < 4294967295 → option_map capped (count_in line) ≡ Some due → judged symbols text ≡ lines_in symbols due (end + 1) [] (drop (end + 1) text)
  unfolding judged
  judged_counted due inside few h =
      ap (first_then symbols) cut ∙ ap (λ l. counted symbols (length (take end text) + 1) (drop (end + 1) text) (count_in l)) (sym is) ∙ go (count_in line) h
    where
      go : (o : Option ℕ) → option_map capped o ≡ Some due → counted symbols (length (take end text) + 1) (drop (end + 1) text) o ≡ lines_in symbols due (end + 1) [] (drop (end + 1) text)
      go None e = absurd cc
      go (Some n) e =
          let same : capped n ≡ due = cc in
          let long : length (take end text) + 1 ≡ end + 1 = ap (λ k. k + 1) (length-take-le end text (omega arith)) in
          ap (λ k. lines_in symbols n k [] (drop (end + 1) text)) long
          ∙ lines_capped symbols n (end + 1) [] (drop (end + 1) text) (omega (arith, length-drop (end + 1) text))
          ∙ ap (λ k. lines_in symbols k (end + 1) [] (drop (end + 1) text)) same

-- an answer on the lines is one on the text
pub answers_along : {X Y Z : Type 0} (view : X → Y) (also : Z → Y) (error : NodesTextError) (v w : Verdict Y) → v ≡ w → Answers view (Err error) w → Answers also (Err error) v
answers_along view also (errors.BadText byte) v w e h = e ∙ h
answers_along view also (errors.UnknownName byte) v w e h = e ∙ h
answers_along view also errors.Memory v w e h = tt
