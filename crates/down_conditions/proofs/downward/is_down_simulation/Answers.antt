use Rattle.std.proofs.Common.{◌<◌, ◌+◌, ◌↔◌, ℕ, List, length, sym, ap, ◌∙◌, subst, arith}
use Rattle.std.specs.Prelude.{IsTrue}
use Rattle.std.proofs.lemmas.Result.{IfOk-weaker}
use Rattle.tree_definitions.specs.Joint.{JointRule}
use Rattle.tree_definitions.specs.Relation.{Holds}
use Rattle.tree_definitions.specs.Simulation.{IsDown}
use Rattle.tree_definitions.proofs.Matrices.{holds_within}
use Rattle.down_conditions.specs.Between.{IsDownBetween}
use Rattle.down_conditions.proofs.Blocks.{block_aa, block_ab, block_ba, block_bb, down_from_blocks}
use Rattle.down_conditions.proofs.downward.is_down_simulation.Goals as goal

pub returns-then-not-branch : goal.returns-then-not-branch
returns-then-not-branch c = (
  λ t. absurd cc,
  λ down. sym c.if-not-branch.true ∙ c.in_ok-is_down_between.ensures.1 (block_aa c.args.a.now c.args.b.now c.states-m.ensures.listed.automaton (Holds c.args.both.now) down),
)

pub returns-then-not-branch-2 : goal.returns-then-not-branch-2
returns-then-not-branch-2 c =
    let A = c.args.a.now in
    let B = c.args.b.now in
    let R = Holds c.args.both.now in
    let long = ap (λ (xs : List (List ℕ)). length xs) c.states-m.ensures.value in (
      λ t. absurd cc,
      λ down. sym c.if-not-branch-2.true ∙ c.in_ok-is_down_between-2.ensures.1 (subst (IsDownBetween A B R 0) (sym long) (block_ab A B c.states-m.ensures.listed.automaton R down)),
    )

pub returns-then-not-branch-3 : goal.returns-then-not-branch-3
returns-then-not-branch-3 c =
    let A = c.args.a.now in
    let B = c.args.b.now in
    let R = Holds c.args.both.now in
    let long = ap (λ (xs : List (List ℕ)). length xs) c.states-m.ensures.value in (
      λ t. absurd cc,
      λ down. sym c.if-not-branch-3.true ∙ c.in_ok-is_down_between-3.ensures.1 (subst (λ n. IsDownBetween B A R n 0) (sym long) (block_ba A B c.states-m.ensures.listed.automaton R down)),
    )

pub returns : goal.returns
returns c =
    let A = c.args.a.now in
    let B = c.args.b.now in
    let both = c.args.both.now in
    let R = Holds both in
    let fits = c.states-m.ensures.listed.automaton in
    let m = length c.states-m.result.now in
    let long = ap (λ (xs : List (List ℕ)). length xs) c.states-m.ensures.value in
    let square = c.size-places.ensures.square in
    let size = c.requires in
    let value = c.size-places.ensures.value in
    let within : (q r : ℕ) → R q r → r < length A.states + length B.states =
    λ q r h. let w = (holds_within c.size-places.result both (record { rows = square.rows; columns = square.columns }) q r h).1 in omega (arith, w, size, value) in
    let aa = c.in_ok-is_down_between.ensures.0 c.if-not-branch.false in
    let ab = subst (IsDownBetween A B R 0) long (c.in_ok-is_down_between-2.ensures.0 c.if-not-branch-2.false) in
    let ba = subst (λ n. IsDownBetween B A R n 0) long (c.in_ok-is_down_between-3.ensures.0 c.if-not-branch-3.false) in
    IfOk-weaker c.is_down_between-4.result (λ yes. IsTrue yes ↔ IsDownBetween B B R m m) (λ yes. IsTrue yes ↔ IsDown (JointRule A B) R)
    (λ yes iff. (
      λ t. down_from_blocks A B fits R within aa ab ba (subst (λ n. IsDownBetween B B R n n) long (iff.0 t)),
      λ down. iff.1 (subst (λ n. IsDownBetween B B R n n) (sym long) (block_bb A B fits R down)),
    ))
    c.is_down_between-4.ensures
