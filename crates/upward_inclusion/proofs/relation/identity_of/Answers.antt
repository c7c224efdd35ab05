use Rattle.std.proofs.Common.{ℕ, List, length, subst}
use Rattle.bit_matrix.specs.Matrices.{IsIdentity}
use Rattle.bit_matrix.specs.Matrices as words
use Rattle.upward_inclusion.proofs.Identity.{identity_order}
use Rattle.upward_inclusion.proofs.relation.identity_of.Goals as goal

pub returns-in-Ok-clause-searched : goal.returns-in-Ok-clause-searched
returns-in-Ok-clause-searched c =
    let m = c.in-Ok.relation in
    let square = subst (λ (xs : List (List ℕ)). words.IsSquare (length xs) m) c.states.ensures.value c.in-Ok.ensures.square in
    record {
      square = record { rows = square.rows; columns = square.columns };
      pairs = subst (λ (xs : List (List ℕ)). IsIdentity (length xs) m) c.states.ensures.value c.in-Ok.ensures.pairs;
    }

pub returns-in-Ok-clause-order : goal.returns-in-Ok-clause-order
returns-in-Ok-clause-order c =
    let m = c.in-Ok.relation in
    let square = subst (λ (xs : List (List ℕ)). words.IsSquare (length xs) m) c.states.ensures.value c.in-Ok.ensures.square in
    identity_order c.args.a.now c.states.ensures.listed.automaton m (record { rows = square.rows; columns = square.columns })
    (subst (λ (xs : List (List ℕ)). IsIdentity (length xs) m) c.states.ensures.value c.in-Ok.ensures.pairs)
