-- The lines of a relation, one digit and one row at a time.
use Rattle.std.proofs.Common.{◌≡◌, ℕ, ◌+◌, ◌<◌, Bool, List, [], ◌∷◌, ◌++◌, length, map, take, Some, sym, ap, ◌∙◌, append_assoc, append-nil, arith}
use Rattle.std.specs.Prelude.{slice_get}
use Rattle.std.proofs.lemmas.List.{take_more, map-append, length-take-le}
use Rattle.std.proofs.lemmas.Option.{get_or_from_slice_get, slice_get_within}
use Rattle.tree_definitions.specs.Relation.{Matrix, Row}
use Rattle.vata_core.specs.RelationText.{digit_of, row_text, rows_text}

-- the list up to a place and with it
one_more : {X : Type 0} (xs : List X) (i : ℕ) (x : X) → slice_get xs i ≡ Some x → take (i + 1) xs ≡ take i xs ++ x ∷ []
one_more xs i x at = take_more xs i x (slice_get_within xs i x at) ∙ ap (λ y. take i xs ++ y ∷ []) (get_or_from_slice_get xs i x x at)

-- one more digit is written
pub digit_more : (row : Row) (j : ℕ) (b : Bool) (start out new : List ℕ) (d : ℕ) → slice_get row j ≡ Some b → d ≡ digit_of b → out ≡ start ++ map digit_of (take j row) → new ≡ out ++ d ∷ []
    → new ≡ start ++ map digit_of (take (j + 1) row)
digit_more row j b start out new d at e o n =
    n ∙ ap (λ xs. xs ++ d ∷ []) o ∙ append_assoc start (map digit_of (take j row)) (d ∷ [])
    ∙ ap (λ x. start ++ (map digit_of (take j row) ++ x ∷ [])) e
    ∙ ap (λ xs. start ++ xs) (sym (map-append digit_of (take j row) (b ∷ [])) ∙ ap (map digit_of) (sym (one_more row j b at)))

rows_push : (states : List (List ℕ)) (rows : Matrix) (state : List ℕ) (row : Row) → length states ≡ length rows
    → rows_text (states ++ state ∷ []) (rows ++ row ∷ []) ≡ rows_text states rows ++ row_text state row
rows_push [] [] state row same = append-nil (row_text state row)
rows_push [] (r ∷ rows) state row same = absurd (omega (arith, same))
rows_push (s ∷ states) [] state row same = absurd (omega (arith, same))
rows_push (s ∷ states) (r ∷ rows) state row same =
    ap (λ t. row_text s r ++ t) (rows_push states rows state row (omega (arith, same)))
    ∙ sym (append_assoc (row_text s r) (rows_text states rows) (row_text state row))

-- one more row is written
pub row_more : (states : List (List ℕ)) (rows : Matrix) (i : ℕ) (state : List ℕ) (row : Row) (start out new : List ℕ) → slice_get states i ≡ Some state → slice_get rows i ≡ Some row
    → out ≡ start ++ rows_text (take i states) (take i rows) → new ≡ out ++ row_text state row → new ≡ start ++ rows_text (take (i + 1) states) (take (i + 1) rows)
row_more states rows i state row start out new s r o n =
    let inside : i < length states = slice_get_within states i state s in
    let below : i < length rows = slice_get_within rows i row r in
    let same : length (take i states) ≡ length (take i rows) = length-take-le i states (omega (arith, inside)) ∙ sym (length-take-le i rows (omega (arith, below))) in
    n ∙ ap (λ xs. xs ++ row_text state row) o ∙ append_assoc start (rows_text (take i states) (take i rows)) (row_text state row)
    ∙ ap (λ t. start ++ t) (
    sym (rows_push (take i states) (take i rows) state row same)
    ∙ ap (λ xs. rows_text xs (take i rows ++ row ∷ [])) (sym (one_more states i state s))
    ∙ ap (λ xs. rows_text (take (i + 1) states) xs) (sym (one_more rows i row r))
    )
