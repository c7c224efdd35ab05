-- A place that reading refuses stands in the text or at its end.
use Rattle.std.proofs.Common.{◌≡◌, ◌≤◌, ◌+◌, ◌-◌, ℕ, zero, suc, Bool, true, false, cond, List, [], ◌∷◌, ◌++◌, length, map, Some, None, subst, arith}
use Rattle.std.specs.Prelude.{IfSome, ◌==◌, option_map, option_and_then}
use Rattle.std.specs.declared.option.Option.{Option}
use Rattle.tree_definitions.specs.Tree.{Symbol}
use Rattle.tree_definitions.specs.Witness.{NodeRow}
use Rattle.witness_trees.specs.Judged.{Verdict, Is, BadAt, UnknownAt, Written, then_judged, cut_at, call_in, is_number, written_in, number_of, place_in, is_in_order, named_node, written_node, node_in, line_then, lines_in, count_in, counted, first_then, judged}

-- the verdict refuses no place past the end
abbrev pub IsWithin : {X : Type 0} → ℕ → Verdict X → Type 0
IsWithin end (Is x) = Unit {0}
IsWithin end (BadAt at) = at ≤ end
IsWithin end (UnknownAt at) = at ≤ end

-- the two parts of a cut and its mark make up the bytes
abbrev IsCutOf : List ℕ → List ℕ × List ℕ → Type 0
IsCutOf bytes p = length p.0 + 1 + length p.1 ≡ length bytes

cut_parts : (mark : ℕ) (bytes : List ℕ) → IfSome (cut_at mark bytes) (IsCutOf bytes)
cut_parts mark [] = tt
cut_parts mark (b ∷ bs) =
    elim (b == mark) as (λ t. IfSome (cond t (Some ([], bs)) (option_map (λ p. (b ∷ p.0, p.1)) (cut_at mark bs))) (IsCutOf (b ∷ bs))) [
      | true ↦ omega arith
      | false ↦ later (cut_at mark bs) (cut_parts mark bs)
    ]
  where
    later : (o : Option (List ℕ × List ℕ)) → IfSome o (IsCutOf bs) → IfSome (option_map (λ p. (b ∷ p.0, p.1)) o) (IsCutOf (b ∷ bs))
    later None h = tt
    later (Some p) h = omega (arith, h)

-- the name of a line stands in it
written_place : (line : List ℕ) → IfSome (written_in line) (λ w. w.place ≤ length line)
unfolding written_in
written_place line = parts (cut_at 32 line) (cut_parts 32 line)
  where
    made : List ℕ × List ℕ → List ℕ × List ℕ → Written
    made p c = record { number = number_of p.0; place = length p.0 + 1; name = c.0; kids = c.1 }

    called : (p : List ℕ × List ℕ) → IsCutOf line p → (o : Option (List ℕ × List ℕ)) → IfSome (option_and_then (λ c. Some (made p c)) o) (λ w. w.place ≤ length line)
    called p h None = tt
    called p h (Some c) = omega (arith, h)

    parts : (o : Option (List ℕ × List ℕ)) → IfSome o (IsCutOf line)
        → IfSome (option_and_then (λ p. cond (is_number p.0) (option_and_then (λ c. Some (made p c)) (call_in p.1)) None) o) (λ w. w.place ≤ length line)
    parts None h = tt
    parts (Some p) h =
        elim (is_number p.0) as (λ t. IfSome (cond t (option_and_then (λ c. Some (made p c)) (call_in p.1)) None) (λ w. w.place ≤ length line)) [
          | true ↦ called p h (call_in p.1)
          | false ↦ tt
        ]

node_within : (symbols : List Symbol) (k at : ℕ) (line : List ℕ) → IsWithin (at + length line) (node_in symbols k at line)
unfolding node_in
node_within symbols k at line = judge (written_in line) (written_place line)
  where
    ordered : (w : Written) (i : ℕ) (t : Bool) → IsWithin {X = NodeRow} (at + length line) (cond t (Is (record { symbol = i; kids = map (λ n. n - 1) w.kids })) (BadAt at))
    ordered w i true = tt
    ordered w i false = omega arith

    named : (w : Written) → w.place ≤ length line → (o : Option ℕ) → IsWithin (at + length line) (named_node k at w o)
    named w h None = omega arith
    named w h (Some i) = ordered w i (is_in_order k w)

    judge : (o : Option Written) → IfSome o (λ w. w.place ≤ length line) → IsWithin (at + length line) (written_node symbols k at o)
    judge None h = omega arith
    judge (Some w) h = named w h (place_in symbols w.name (length w.kids))

-- what stands behind a line is within the text
abbrev Rest : List Symbol → ℕ → Type 0
Rest symbols due = (at : ℕ) (nodes : List NodeRow) (bytes : List ℕ) → IsWithin (at + length bytes) (lines_in symbols due at nodes bytes)

one_line : (symbols : List Symbol) (due at : ℕ) (nodes : List NodeRow) (bytes : List ℕ) → Rest symbols due → (o : Option (List ℕ × List ℕ)) → IfSome o (IsCutOf bytes)
    → IsWithin (at + length bytes) (line_then symbols (length nodes) at (λ node after rest. lines_in symbols due after (nodes ++ node ∷ []) rest) o)
one_line symbols due at nodes bytes rest None h = omega arith
one_line symbols due at nodes bytes rest (Some p) h = goes_on (node_in symbols (length nodes) at p.0) (node_within symbols (length nodes) at p.0)
  where
    goes_on : (v : Verdict NodeRow) → IsWithin (at + length p.0) v
        → IsWithin (at + length bytes) (then_judged v (λ node. lines_in symbols due (at + length p.0 + 1) (nodes ++ node ∷ []) p.1))
    goes_on (Is node) w =
        let same : at + length p.0 + 1 + length p.1 ≡ at + length bytes = omega (arith, h) in
        subst (λ end. IsWithin end (lines_in symbols due (at + length p.0 + 1) (nodes ++ node ∷ []) p.1)) same (rest (at + length p.0 + 1) (nodes ++ node ∷ []) p.1)
    goes_on (BadAt n) w = omega (arith, h, w)
    goes_on (UnknownAt n) w = omega (arith, h, w)

lines_within : (symbols : List Symbol) (due : ℕ) → Rest symbols due
unfolding lines_in
lines_within symbols zero at nodes [] = tt
lines_within symbols zero at nodes (b ∷ bs) = omega arith
lines_within symbols (suc due) at nodes bytes = one_line symbols due at nodes bytes (lines_within symbols due) (cut_at 10 bytes) (cut_parts 10 bytes)

pub judged_within : (symbols : List Symbol) (text : List ℕ) → IsWithin (length text) (judged symbols text)
unfolding judged
judged_within symbols text = first (cut_at 10 text) (cut_parts 10 text)
  where
    counts : (p : List ℕ × List ℕ) → IsCutOf text p → (o : Option ℕ) → IsWithin (length text) (counted symbols (length p.0 + 1) p.1 o)
    counts p h None = omega arith
    counts p h (Some due) = subst (λ end. IsWithin end (lines_in symbols due (length p.0 + 1) [] p.1)) h (lines_within symbols due (length p.0 + 1) [] p.1)

    first : (o : Option (List ℕ × List ℕ)) → IfSome o (IsCutOf text) → IsWithin (length text) (first_then symbols o)
    first None h = omega arith
    first (Some p) h = counts p h (count_in p.0)
