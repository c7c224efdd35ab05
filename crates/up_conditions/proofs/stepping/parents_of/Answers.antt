use Rattle.std.proofs.Common.{◌≡◌, ◌≢◌, inl, inr, length, get_or, refl, ◌∙◌, subst, arith, ⊎_elim}
use Rattle.std.proofs.lemmas.Bool.{cases_eq}
use Rattle.std.proofs.lemmas.Option.{slice_get-get_or, slice_get_read, slice_get_within}
use Rattle.tree_definitions.specs.Automaton.{Rule}
use Rattle.tree_definitions.specs.Relation.{IsAt}
use Rattle.tree_definitions.proofs.Members.{at_unique}
use Rattle.up_conditions.specs.Stepping.{AreInSets}
use Rattle.up_conditions.proofs.stepping.parents_of.Goals as goal

pub loop-r-preserved : goal.loop-r-preserved
loop-r-preserved c =
    let rules = c.args.rules.now in
    let list = c.args.list.now in
    let i = c.loop-r.r-index in
    let x = get_or list i 0 in
    let lat : IsAt list i x = slice_get-get_or list i 0 c.loop-r-test.true in
    let rule = c.index-rules-r.result in
    let rat : IsAt rules x rule = slice_get_read rules (length rules) x rule refl (c.requires.list i 0 c.loop-r-test.true) c.index-rules-r.is in
    let inv = c.loop-r.invariant in
    let added = c.add_parent.ensures.members in
    record {
      long = c.add_parent.ensures.long ∙ inv.long;
      members = λ s. (
        λ h. elim ((added s).0 h) [
          | inl old ↦ let k = (inv.members s).0 old in (k.0, (let l = k.1 in omega (arith, l)), k.2)
          | inr new ↦ (i, omega arith, (x, rule, lat, rat, new.0, new.1))
        ],
        λ k. ⊎_elim
            (λ (e : k.0 ≡ i).
            let p = k.2 in
            let which : p.0 ≡ x = at_unique list i p.0 x (subst (λ z. IsAt list z p.0) e p.2) lat in
            let same : p.1 ≡ rule = at_unique rules x p.1 rule (subst (λ z. IsAt rules z p.1) which p.3) rat in
            (added s).1 (inr (subst (λ (o : Rule). o.parent ≡ s) same p.4, subst (λ (o : Rule). AreInSets c.args.pairs.now c.args.chosen.now o.kids) same p.5)))
            (λ (d : k.0 ≢ i). (added s).1 (inl ((inv.members s).1 (k.0, (let l = k.1 in omega (arith, l, d)), k.2))))
            (cases_eq k.0 i),
      );
    }

pub returns-clause-members : goal.returns-clause-members
returns-clause-members c s = (
  λ h. let k = (c.loop-r.invariant.members s).0 h in (k.0, k.2),
  λ k.
      let p = k.1 in
      let w = slice_get_within c.args.list.now k.0 p.0 p.2 in
      (c.loop-r.invariant.members s).1 (k.0, omega (arith, w, c.loop-r-test.false), p),
)
