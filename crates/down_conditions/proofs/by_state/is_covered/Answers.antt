use Rattle.std.proofs.Common.{◌≡◌, ◌≢◌, ◌<◌, ◌≤◌, ℕ, List, true, false, get_or, refl, sym, ◌∙◌, subst, arith, ⊎_elim}
use Rattle.std.proofs.lemmas.Bool.{cases_eq, cases_lt}
use Rattle.std.proofs.lemmas.List.Elements.{Contains-get_or}
use Rattle.std.proofs.lemmas.Option.{slice_get_within}
use Rattle.tree_definitions.specs.Cover.{Pair}
use Rattle.tree_definitions.specs.Relation.{Has, Holds, IsAt}
use Rattle.tree_definitions.proofs.Matrices.{holds_within}
use Rattle.tree_definitions.proofs.Members.{at_unique, at_within}
use Rattle.down_conditions.specs.Covering.{IsCoveredIn}
use Rattle.down_conditions.proofs.by_state.is_covered.Goals as goal

pub covers_in-requires-clause-list : goal.covers_in-requires-clause-list
covers_in-requires-clause-list c k d l =
    let list = c.at.result.now in
    let x = get_or list k d in
    let m = c.requires.by_state.within c.in-Some.r list c.at.ensures x (Contains-get_or list k d l) in
    slice_get_within c.args.pairs.now x m.0 m.1

pub returns-then-covers_in : goal.returns-then-covers_in
returns-then-covers_in c = (
  λ t.
      let pairs = c.args.pairs.now in
      let h = c.covers_in.ensures.0 c.if-covers_in.true in
      let m = c.requires.by_state.within c.in-Some.r c.at.result.now c.at.ensures h.0 h.2 in
      let which : m.0 ≡ h.1 = at_unique pairs h.0 m.0 h.1 m.1 h.4 in
      let state : c.in-Some.r ≡ h.1.state = sym (subst (λ (p : Pair). p.state ≡ c.in-Some.r) which m.2) in
      let up : Holds c.args.both.now c.args.state c.in-Some.r = (c.row.ensures.members c.in-Some.r).0 c.in-Some.ensures.least.set in
      (h.0, h.1, h.3, h.4, subst (Holds c.args.both.now c.args.state) state up, h.5),
  λ h. refl,
)

pub overflow_add-from : goal.overflow_add-from
overflow_add-from c =
    let w = slice_get_within c.row.result.now c.in-Some.r true c.in-Some.ensures.least.set in
    let long = c.row.ensures.long in
    let value = c.size-places.ensures.value in
    let limit = c.size-places.ensures.limit in
    omega (arith, w, long, value, limit)

pub loop-r-smaller : goal.loop-r-smaller
loop-r-smaller c =
    let w = slice_get_within c.row.result.now c.in-Some.r true c.in-Some.ensures.least.set in
    let long = c.row.ensures.long in
    let on = c.in-Some.ensures.least.from_on in
    omega (arith, w, long, on)

pub loop-r-preserved : goal.loop-r-preserved
loop-r-preserved c =
    let r = c.in-Some.r in
    let w = slice_get_within c.row.result.now r true c.in-Some.ensures.least.set in
    let long = c.row.ensures.long in
    record {
      up = omega (arith, w, long);
      none = λ k l h list at cov. ⊎_elim
          (λ (e : k ≡ r).
          let same : list ≡ c.at.result.now = at_unique c.args.by_state.now k list c.at.result.now at (subst (λ j. IsAt c.args.by_state.now j c.at.result.now) (sym e) c.at.ensures) in
          let so = subst (λ (xs : List ℕ). IsCoveredIn (Holds c.args.both.now) c.args.pairs.now xs c.args.skip (Has c.args.set.now)) same cov in
          let b : true ≡ false = sym (c.covers_in.ensures.1 so) ∙ c.if-covers_in.false in
          cc)
          (λ (d : k ≢ r). ⊎_elim
          (λ (early : k < c.loop-r.from). c.loop-r.invariant.none k early h list at cov)
          (λ (late : c.loop-r.from ≤ k). let least = c.in-Some.ensures.least.least k late ((c.row.ensures.members k).1 h) in omega (arith, least, l, d))
          (cases_lt k c.loop-r.from))
          (cases_eq k r);
    }

pub returns : goal.returns
returns c = (
  λ t. absurd cc,
  λ h.
      let left = c.args.both.now in
      let lists = c.args.by_state.now in
      let q = h.1.state in
      let on = h.4 in
      let within = (holds_within c.size-places.result left (record { rows = c.size-places.ensures.square.rows; columns = c.size-places.ensures.square.columns }) c.args.state q on).1 in
      let size = c.requires.index in
      let value = c.size-places.ensures.value in
      let list = at_within lists q (omega (arith, within, size, value)) in
      let there = c.requires.by_state.whole h.0 h.1 list.0 h.3 list.1 in
      ⊎_elim
      (λ (early : q < c.loop-r.from). absurd (c.loop-r.invariant.none q early on list.0 list.1 (h.0, h.1, there, h.2, h.3, h.5)))
      (λ (late : c.loop-r.from ≤ q). absurd (c.in_default.ensures.none.0 refl q late ((c.row.ensures.members q).1 on)))
      (cases_lt q c.loop-r.from),
)
