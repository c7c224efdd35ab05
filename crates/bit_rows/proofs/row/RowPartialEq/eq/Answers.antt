use Rattle.std.proofs.Common.{◌≡◌, Bool, true, false, length, eqb, eqb-true, eq-eqb, refl, sym, ap, ◌∙◌}
use Rattle.std.specs.Bool.{Decides, beq}
use Rattle.std.specs.Cmp.{booleans_Decides}
use Rattle.std.specs.Cmp.Lexicographic.{pointwise, pointwise_decides}
use Rattle.bit_rows.proofs.BitLemmas.{length-bits}
use Rattle.bit_rows.proofs.row.RowPartialEq.eq.Goals as goal

-- two tests that decide the same are equal
same_test : {P : Type 0} (a b : Bool) → Decides a P → Decides b P → a ≡ b
same_test true true p q = refl
same_test true false p q = sym (q.1 (p.0 refl))
same_test false true p q = p.1 (q.0 refl)
same_test false false p q = refl

pub equals-requires : goal.equals-requires
equals-requires c =
    ap length (sym c.self.view_is) ∙ length-bits c.self.inside.len c.self.inside.words.items
    ∙ c.if-self-other.true
    ∙ sym (length-bits c.other.inside.len c.other.inside.words.items) ∙ ap length c.other.view_is

pub returns-then-self-other : goal.returns-then-self-other
returns-then-self-other c =
    same_test c.equals.result (pointwise beq c.args.self.now c.args.other.now) c.equals.ensures (pointwise_decides booleans_Decides c.args.self.now c.args.other.now)

pub returns-else-self-other : goal.returns-else-self-other
returns-else-self-other c =
    let n = c.self.inside.len in
    let m = c.other.inside.len in
    let apart : Decides (eqb n m) (c.args.self.now ≡ c.args.other.now) = (
      λ t. absurd (c.if-self-other.false (eqb-true n m t)),
      λ e. eq-eqb n m (sym (length-bits n c.self.inside.words.items) ∙ ap length (c.self.view_is ∙ e ∙ sym c.other.view_is) ∙ length-bits m c.other.inside.words.items),
    ) in
    same_test (eqb n m) (pointwise beq c.args.self.now c.args.other.now) apart (pointwise_decides booleans_Decides c.args.self.now c.args.other.now)
