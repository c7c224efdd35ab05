use Rattle.std.proofs.Common.{◌≡◌, true, false, length, sym, ap, ◌∙◌, subst, ⊎_elim}
use Rattle.std.proofs.lemmas.Bool.{cases_Bool}
use Rattle.witness_trees.specs.Judged.{then_judged}
use Rattle.bit_matrix.specs.Matrices.{IsSquare}
use Rattle.tree_definitions.specs.Relation.{Matrix}
use Rattle.certificate_lines.specs.Relations.{is_identity, but_identity}
use Rattle.certificate_lines.proofs.Identity.{identity_test, identity_tested}
use Rattle.certificate_lines.proofs.Judging.{but_right, but_wrong}
use Rattle.certificate_lines.proofs.relations.read_rows_below.Goals as goal

pub returns-then-is_identity-clause-judged : goal.returns-then-is_identity-clause-judged
returns-then-is_identity-clause-judged c =
    let m = c.of_rows-relation.result in
    let rows = c.in-Ok.rows.items in
    let head = c.args.head in
    let after = c.in-Ok.after in
    let sq = c.in-Ok.ensures.square in
    let square : IsSquare (length m) m = subst (λ (x : Matrix). IsSquare (length x) x) (sym c.of_rows-relation.ensures) (subst (λ k. IsSquare k rows) (sym sq.rows) sq) in
    let t = identity_tested m square (c.is_identity.ensures.0 c.if-is_identity.true) in
    ap (λ v. then_judged v (but_identity head)) c.in-Ok.ensures.judged ∙ ap (λ (x : Matrix). but_identity head (record { value = x; after = after })) (sym c.of_rows-relation.ensures) ∙ but_wrong head after m t

pub returns-else-is_identity-clause-judged : goal.returns-else-is_identity-clause-judged
returns-else-is_identity-clause-judged c =
    let m = c.of_rows-relation.result in
    let head = c.args.head in
    let after = c.in-Ok.after in
    let other : is_identity m ≡ false = ⊎_elim
    (λ (t : is_identity m ≡ true). let q : false ≡ true = sym c.if-is_identity.false ∙ c.is_identity.ensures.1 (identity_test m t) in absurd cc)
    (λ (f : is_identity m ≡ false). f) (cases_Bool (is_identity m)) in
    ap (λ v. then_judged v (but_identity head)) c.in-Ok.ensures.judged ∙ ap (λ (x : Matrix). but_identity head (record { value = x; after = after })) (sym c.of_rows-relation.ensures) ∙ but_right head after m other
