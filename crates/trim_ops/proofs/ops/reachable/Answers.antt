use Rattle.std.proofs.Common.{◌↔◌, ℕ, subst}
use Rattle.std.proofs.lemmas.Result.{IfOk-weaker}
use Rattle.tree_definitions.specs.Automaton.{Automaton}
use Rattle.tree_definitions.specs.Canonical.{canon}
use Rattle.tree_definitions.specs.Relation.{Has}
use Rattle.tree_definitions.specs.Trim.{IsReachable}
use Rattle.tree_definitions.proofs.SameRules.{canon_reachable}
use Rattle.trim_ops.proofs.ops.reachable.Goals as goal

pub returns-clause-exact : goal.returns-clause-exact
returns-clause-exact g c =
    let A = g.T.Table.automaton c.args.t.now in
    IfOk-weaker c.reachable_of.result _ (λ row. (q : ℕ) → Has row q ↔ IsReachable A q)
    (λ row h q.
    let same = canon_reachable A q in
    let h2 : Has row q ↔ IsReachable (canon A) q = subst (λ (B : Automaton). Has row q ↔ IsReachable B q) c.in_ok-a.ensures.value (h q) in
    (λ s. same.0 (h2.0 s), λ r. h2.1 (same.1 r)))
    c.reachable_of.ensures.exact
