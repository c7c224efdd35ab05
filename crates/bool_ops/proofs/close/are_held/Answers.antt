use Rattle.std.proofs.Common.{◌≡◌, ◌≢◌, ◌<◌, ◌+◌, refl, ℕ, List, length, get_or, sym, ◌∙◌, subst, arith, ⊎_elim, Contains}
use Rattle.std.proofs.lemmas.Bool.{cases_eq, false≢true}
use Rattle.std.proofs.lemmas.Option.{slice_get-get_or, slice_get_within}
use Rattle.tree_definitions.specs.Product.{Both}
use Rattle.tree_definitions.specs.Relation.{IsAt}
use Rattle.tree_definitions.proofs.Members.{at_unique}
use Rattle.bool_ops.specs.Closing.{both}
use Rattle.bool_ops.proofs.close.are_held.Goals as goal

-- one more place is held
one_more : (pairs : List Both) (left right : List ℕ) (i : ℕ) → i < length left → length left ≡ length right
    → Contains pairs (both (get_or left i 0) (get_or right i 0)) → ((j p q : ℕ) → j < i → IsAt left j p → IsAt right j q → Contains pairs (both p q))
    → (j p q : ℕ) → j < i + 1 → IsAt left j p → IsAt right j q → Contains pairs (both p q)
one_more pairs left right i l e here before j p q m pat qat = ⊎_elim
    (λ (f : j ≡ i).
    let a : get_or left i 0 ≡ p = at_unique left i (get_or left i 0) p (slice_get-get_or left i 0 l) (subst (λ k. IsAt left k p) f pat) in
    let b : get_or right i 0 ≡ q = at_unique right i (get_or right i 0) q (slice_get-get_or right i 0 (omega arith)) (subst (λ k. IsAt right k q) f qat) in
    subst (λ z. Contains pairs (both p z)) b (subst (λ z. Contains pairs (both z (get_or right i 0))) a here))
    (λ (f : j ≢ i). before j p q (omega arith) pat qat)
    (cases_eq j i)

pub returns-then-not-holds : goal.returns-then-not-holds
returns-then-not-holds c = (
  λ h. absurd (false≢true h),
  λ held.
      let i = c.loop-i.i in
      let l : i < length c.args.left.now = c.loop-i-test.true in
      let e : length c.args.left.now ≡ length c.args.right.now = c.requires in
      sym c.if-not-holds.true ∙ c.holds.ensures.1
      (held i (get_or c.args.left.now i 0) (get_or c.args.right.now i 0) (slice_get-get_or c.args.left.now i 0 l) (slice_get-get_or c.args.right.now i 0 (omega arith))),
)

pub loop-i-preserved : goal.loop-i-preserved
loop-i-preserved c =
    one_more c.args.pairs.now c.args.left.now c.args.right.now c.loop-i.i c.loop-i-test.true c.requires (c.holds.ensures.0 c.if-not-holds.false) c.loop-i.invariant

pub returns : goal.returns
returns c = (
  λ h i p q pat qat. let w = slice_get_within c.args.left.now i p pat in c.loop-i.invariant i p q (omega (arith, w, c.loop-i-test.false)) pat qat,
  λ h. refl,
)
