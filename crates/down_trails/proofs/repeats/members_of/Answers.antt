use Rattle.std.proofs.Common.{◌≡◌, ◌≢◌, ◌<◌, ◌≤◌, ◌++◌, ◌∷◌, [], inl, inr, get_or, true, sym, subst, arith, ⊎_elim}
use Rattle.std.specs.Prelude.{AllPairs, Contains}
use Rattle.std.proofs.lemmas.Bool.{cases_eq, cases_lt}
use Rattle.std.proofs.lemmas.List.Elements.{Contains-get_or, Contains-push, Contains-push_cases, Contains-append_left}
use Rattle.std.proofs.lemmas.List.Quantifiers.{all_pairs_push}
use Rattle.std.proofs.lemmas.Option.{slice_get_within}
use Rattle.tree_definitions.specs.Relation.{Has}
use Rattle.down_trails.proofs.repeats.members_of.Goals as goal

pub loop-t-preserved : goal.loop-t-preserved
loop-t-preserved c =
    let set = c.args.set.now in
    let t = c.in-Some.t in
    let on = c.in-Some.ensures.least.set in
    let from_on = c.in-Some.ensures.least.from_on in
    let w = slice_get_within set t true on in
    let inv = c.loop-t.invariant in
    let old = c.loop-t.members.items in
    let items : c.push.new.self.items ≡ old ++ t ∷ [] = c.in_ok-push.ensures.items in
    record {
      up = omega (arith, w);
      rising = subst (AllPairs ◌<◌) (sym items) (all_pairs_push ◌<◌ old t inv.rising (λ k d l. let m = ((inv.same (get_or old k d)).0 (Contains-get_or old k d l)).0 in omega (arith, m, from_on)));
      same = λ s. (
        λ h. elim (Contains-push_cases old t s (subst (λ xs. Contains xs s) items h)) [
          | inl m ↦ let k = (inv.same s).0 m in ((let l = k.0 in omega (arith, l, from_on)), k.1)
          | inr e ↦ (omega (arith, e), subst (Has set) e on)
        ],
        λ k. subst (λ xs. Contains xs s) (sym items)
            (⊎_elim
            (λ (e : s ≡ t). subst (Contains (old ++ t ∷ [])) (sym e) (Contains-push old t))
            (λ (d : s ≢ t). ⊎_elim
            (λ (early : s < c.loop-t.from). Contains-append_left old (t ∷ []) s ((inv.same s).1 (early, k.1)))
            (λ (late : c.loop-t.from ≤ s). let least = c.in-Some.ensures.least.least s late k.1 in let l = k.0 in absurd (omega (arith, least, l, d)))
            (cases_lt s c.loop-t.from))
            (cases_eq s t)),
      );
    }
