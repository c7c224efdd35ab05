use Rattle.std.proofs.Common.{◌≡◌, ◌++◌, true, false, length, sym, ap, ◌∙◌, subst, ⊎_elim}
use Rattle.std.specs.Prelude.{codes}
use Rattle.std.specs.List.{flat_map}
use Rattle.std.proofs.lemmas.Bool.{cases_Bool}
use Rattle.std.proofs.lemmas.List.{append_assoc}
use Rattle.bit_matrix.specs.Matrices.{IsSquare}
use Rattle.certificate_lines.specs.Relations.{row_text, is_identity, rows_line}
use Rattle.certificate_lines.proofs.Identity.{identity_test, identity_tested}
use Rattle.certificate_lines.proofs.Judging.{identity_text, rows_text}
use Rattle.certificate_lines.proofs.relations.put_relation.Goals as goal

pub returns-then-is_identity : goal.returns-then-is_identity
returns-then-is_identity c =
    let m = c.args.relation.now in
    let word = c.args.word.now in
    let old = c.args.out.now.items in
    let square : IsSquare (length m) m = subst (λ n. IsSquare n m) c.size-places.ensures.value c.size-places.ensures.square in
    let t = identity_tested m square (c.is_identity.ensures.0 c.if-is_identity.true) in
    c.in_ok-extend_from_slice-2.ensures.items ∙ ap (λ xs. xs ++ codes " identity\n") c.in_ok-extend_from_slice.ensures.items
    ∙ append_assoc old word (codes " identity\n") ∙ ap (λ xs. old ++ xs) (sym (identity_text word m t))

pub returns : goal.returns
returns c =
    let m = c.args.relation.now in
    let word = c.args.word.now in
    let old = c.args.out.now.items in
    let other : is_identity m ≡ false = ⊎_elim
    (λ (t : is_identity m ≡ true). let q : false ≡ true = sym c.if-is_identity.false ∙ c.is_identity.ensures.1 (identity_test m t) in absurd cc)
    (λ (f : is_identity m ≡ false). f) (cases_Bool (is_identity m)) in
    c.in_ok-put_rows.ensures ∙ ap (λ xs. xs ++ flat_map row_text m) (c.in_ok-extend_from_slice-3.ensures.items ∙ ap (λ xs. xs ++ codes " rows\n") c.in_ok-extend_from_slice.ensures.items ∙ append_assoc old word (codes " rows\n"))
    ∙ append_assoc old (rows_line word) (flat_map row_text m) ∙ ap (λ xs. old ++ xs) (sym (rows_text word m other))
