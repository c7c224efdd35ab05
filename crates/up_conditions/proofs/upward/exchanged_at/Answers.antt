use Rattle.std.proofs.Common.{◌≡◌, ◌≢◌, ◌<◌, ◌≤◌, ℕ, List, true, length, get_or, refl, sym, ap, ◌∙◌, subst, arith, ⊎_elim}
use Rattle.std.proofs.lemmas.Bool.{cases_eq, cases_lt}
use Rattle.std.proofs.lemmas.List.Elements.{All-weaker}
use Rattle.std.proofs.lemmas.Option.{slice_get-get_or, slice_get_within}
use Rattle.tree_definitions.specs.Automaton.{Rule}
use Rattle.tree_definitions.specs.Relation.{Holds, IsAt}
use Rattle.tree_definitions.proofs.Members.{at_unique}
use Rattle.trim_ops.specs.Marking.{IsWithin}
use Rattle.child_exchange.specs.Exchanging.{IsExchanged}
use Rattle.up_conditions.proofs.upward.exchanged_at.Goals as goal

-- the child at the place
kid_at : (list : List ℕ) (rule : Rule) (p : ℕ) → list ≡ rule.kids → p < length rule.kids → IsAt rule.kids p (get_or list p 0)
kid_at list rule p e l = subst (λ (xs : List ℕ). IsAt xs p (get_or list p 0)) e (slice_get-get_or list p 0 (subst (λ (xs : List ℕ). p < length xs) (sym e) l))

pub returns-then-not-exchanged : goal.returns-then-not-exchanged
returns-then-not-exchanged c = (
  λ t. absurd cc,
  λ h.
      let kids : c.as_slice.result.now ≡ c.args.rule.now.kids = c.as_slice.ensures ∙ ap (λ (o : Rule). o.kids) c.rule.view_is in
      let kat = kid_at c.as_slice.result.now c.args.rule.now c.args.p kids c.requires.place in
      let r = c.in-Some.r in
      let q = get_or c.as_slice.result.now c.args.p 0 in
      let ex = h q r kat ((c.row.ensures.members r).0 c.in-Some.ensures.least.set) in
      sym c.if-not-exchanged.true ∙ c.exchanged.ensures.1 ex,
)

pub exchanged-requires-clause-parents : goal.exchanged-requires-clause-parents
exchanged-requires-clause-parents c =
    let n = length c.args.sim.now in
    All-weaker (IsWithin n) (λ (over : Rule). over.parent < n) (λ x w. w.parent) c.args.rules.now c.requires.within

pub exchanged-requires-clause-whole : goal.exchanged-requires-clause-whole
exchanged-requires-clause-whole c s over at kat = c.requires.by_child.whole c.in-Some.r c.at.result.now s over c.args.p c.at.ensures at kat

pub overflow_add-from : goal.overflow_add-from
overflow_add-from c =
    let w = slice_get_within c.row.result.now c.in-Some.r true c.in-Some.ensures.least.set in
    let long = c.row.ensures.long in
    let value = c.size-states.ensures.value in
    let limit = c.size-states.ensures.limit in
    omega (arith, w, long, value, limit)

pub loop-r-smaller : goal.loop-r-smaller
loop-r-smaller c =
    let w = slice_get_within c.row.result.now c.in-Some.r true c.in-Some.ensures.least.set in
    let long = c.row.ensures.long in
    let on = c.in-Some.ensures.least.from_on in
    omega (arith, w, long, on)

pub loop-r-preserved : goal.loop-r-preserved
loop-r-preserved c =
    let r = c.in-Some.r in
    let w = slice_get_within c.row.result.now r true c.in-Some.ensures.least.set in
    let long = c.row.ensures.long in
    let Can : ℕ → Type 0 = λ k. IsExchanged c.args.rules.now (Holds c.args.sim.now) c.args.rule.now c.args.p k in
    record {
      up = omega (arith, w, long);
      done = λ k l h. ⊎_elim
          (λ (e : k ≡ r). subst Can (sym e) (c.exchanged.ensures.0 c.if-not-exchanged.false))
          (λ (d : k ≢ r). ⊎_elim
          (λ (early : k < c.loop-r.from). c.loop-r.invariant.done k early h)
          (λ (late : c.loop-r.from ≤ k). let least = c.in-Some.ensures.least.least k late ((c.row.ensures.members k).1 h) in absurd (omega (arith, least, l, d)))
          (cases_lt k c.loop-r.from))
          (cases_eq k r);
    }

pub returns : goal.returns
returns c = (
  λ t x r at h.
      let kids : c.as_slice.result.now ≡ c.args.rule.now.kids = c.as_slice.ensures ∙ ap (λ (o : Rule). o.kids) c.rule.view_is in
      let kat = kid_at c.as_slice.result.now c.args.rule.now c.args.p kids c.requires.place in
      let q = get_or c.as_slice.result.now c.args.p 0 in
      let same : x ≡ q = at_unique c.args.rule.now.kids c.args.p x q at kat in
      let on = subst (λ z. Holds c.args.sim.now z r) same h in
      ⊎_elim
      (λ (early : r < c.loop-r.from). c.loop-r.invariant.done r early on)
      (λ (late : c.loop-r.from ≤ r). absurd (c.in_default.ensures.none.0 refl r late ((c.row.ensures.members r).1 on)))
      (cases_lt r c.loop-r.from),
  λ h. refl,
)
