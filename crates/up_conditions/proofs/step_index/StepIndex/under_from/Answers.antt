use Rattle.std.proofs.Common.{◌↔◌, ◌⊎◌, ℕ, List, inl, inr, true, length, get_or, refl, ap, subst, arith}
use Rattle.std.specs.Prelude.{Contains}
use Rattle.std.proofs.lemmas.Bool.{cases_lt}
use Rattle.std.proofs.lemmas.List.Elements.{Contains-get_or}
use Rattle.std.proofs.lemmas.Option.{slice_get_within}
use Rattle.tree_definitions.specs.Automaton.{Rule}
use Rattle.tree_definitions.specs.Relation.{IsAt}
use Rattle.up_conditions.specs.Stepping.{IsUnder, StepLists}
use Rattle.up_conditions.proofs.Looked.{from_next}
use Rattle.up_conditions.proofs.step_index.StepIndex.under_from.Goals as goal

pub with_more-requires : goal.with_more-requires
with_more-requires c k d l =
    let list = c.at.result.now in
    let r = get_or list k d in
    let at = subst (λ (ls : List (List ℕ)). IsAt ls c.in-Some.q list) (ap (λ (o : StepLists). o.by_first) c.self.view_is) c.at.ensures in
    let m = c.requires.lists.by_first.within c.in-Some.q list at r (Contains-get_or list k d l) in
    let w = slice_get_within c.args.b.now.rules r m.0 m.1 in
    let e = ap (λ (rs : List Rule). length rs) c.rules.ensures.value in
    omega (arith, w, e)

pub overflow_add-from : goal.overflow_add-from
overflow_add-from c =
    let w = slice_get_within c.args.set.now c.in-Some.q true c.in-Some.ensures.least.set in
    let long = c.requires.set in
    let few = c.rules.ensures.listed.few_states in
    omega (arith, w, long, few)

pub loop-q-smaller : goal.loop-q-smaller
loop-q-smaller c =
    let w = slice_get_within c.args.set.now c.in-Some.q true c.in-Some.ensures.least.set in
    let on = c.in-Some.ensures.least.from_on in
    omega (arith, w, on)

pub loop-q-preserved : goal.loop-q-preserved
loop-q-preserved c =
    let B = c.args.b.now in
    let q = c.in-Some.q in
    let set = c.args.set.now in
    let list = c.at.result.now in
    let w = slice_get_within set q true c.in-Some.ensures.least.set in
    let long = c.requires.set in
    let found = c.loop-q.found.items in
    let more = c.in_ok-found.found.items in
    let at = subst (λ (ls : List (List ℕ)). IsAt ls q list) (ap (λ (o : StepLists). o.by_first) c.self.view_is) c.at.ensures in
    let added = subst (λ (rs : List Rule). (r : ℕ) → Contains more r ↔ (Contains found r ⊎ (Contains list r × IsUnder rs c.args.symbol r))) c.rules.ensures.value c.in_ok-found.ensures in
    record {
      up = omega (arith, w);
      members = from_next B c.args.self.now c.requires.lists c.args.symbol q c.loop-q.from set list at (omega (arith, w, long)) c.in-Some.ensures.least.from_on c.in-Some.ensures.least.set
          c.in-Some.ensures.least.least found more c.loop-q.invariant.members added;
    }

pub returns : goal.returns
returns c r =
    let inv = c.loop-q.invariant in (
      λ m. let h = (inv.members r).0 m in (h.0, h.2, h.3),
      λ h. elim (cases_lt h.0 c.loop-q.from) [
        | inl early ↦ (inv.members r).1 (h.0, early, h.1, h.2)
        | inr late ↦ absurd (c.in_default.ensures.none.0 refl h.0 late h.1)
      ],
    )
