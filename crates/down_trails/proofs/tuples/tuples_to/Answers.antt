use Rattle.std.proofs.Common.{◌≡◌, ◌↔◌, ℕ, List, subst}
use Rattle.std.specs.Prelude.{AllPairs, Contains}
use Rattle.std.proofs.lemmas.Result.{IfOk-weaker}
use Rattle.tree_definitions.specs.Automaton.{Rule}
use Rattle.tree_definitions.specs.DownTrail.{ListsDowns, Precedes}
use Rattle.tree_definitions.specs.Relation.{IsAt}
use Rattle.ta_model.specs.Tuples.{kids_of}
use Rattle.down_trails.proofs.Splitting.{if_ok_both}
use Rattle.down_trails.proofs.tuples.tuples_to.Goals as goal

pub returns : goal.returns
returns c =
    let B = c.args.b.now in
    let all = c.in_ok-all.all.items in
    let list = c.in_ok-list.list.items in
    let made : (t : List ℕ) → Contains (kids_of all) t ↔ ((r : ℕ) × (rule : Rule) × Contains list r × IsAt B.rules r rule × (rule.kids ≡ t)) =
    subst (λ (rs : List Rule). (t : List ℕ) → Contains (kids_of all) t ↔ ((r : ℕ) × (rule : Rule) × Contains list r × IsAt rs r rule × (rule.kids ≡ t))) c.rules.ensures.value
    (subst (λ (xs : List ℕ). (t : List ℕ) → Contains (kids_of all) t ↔ ((r : ℕ) × (rule : Rule) × Contains xs r × IsAt c.rules.result.now r rule × (rule.kids ≡ t))) c.deref.ensures.value c.in_ok-all.ensures) in
    let downs = c.in_ok-list.ensures.downs in
    IfOk-weaker c.rising.result (λ v. AllPairs Precedes (kids_of v.items) × ((t : List ℕ) → Contains (kids_of v.items) t ↔ Contains (kids_of all) t)) (λ v. ListsDowns B c.args.symbol.now c.args.set.now (kids_of v.items))
    (λ v p. record { rising = p.0; all = λ t. (λ m. (downs t).0 ((made t).0 ((p.1 t).0 m)), λ d. (p.1 t).1 ((made t).1 ((downs t).1 d))) })
    (if_ok_both c.rising.result (λ v. AllPairs Precedes (kids_of v.items)) (λ v. (t : List ℕ) → Contains (kids_of v.items) t ↔ Contains (kids_of all) t) c.rising.ensures.rising c.rising.ensures.members)
