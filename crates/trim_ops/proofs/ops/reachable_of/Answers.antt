use Rattle.std.proofs.Common.{◌↔◌, ℕ, List, subst}
use Rattle.std.proofs.lemmas.Result.{IfOk-weaker}
use Rattle.tree_definitions.specs.Automaton.{Rule}
use Rattle.tree_definitions.specs.Relation.{Has}
use Rattle.tree_definitions.specs.Trim.{IsReachable}
use Rattle.trim_ops.specs.Marking.{Derived}
use Rattle.trim_ops.proofs.Bridge.{derived_is_reachable}
use Rattle.trim_ops.proofs.ops.reachable_of.Goals as goal

pub returns-clause-exact : goal.returns-clause-exact
returns-clause-exact c =
    let A = c.args.a.now in
    IfOk-weaker c.derived.result _ (λ row. (q : ℕ) → Has row q ↔ IsReachable A q)
    (λ row h q.
    let d = derived_is_reachable A c.rules-rules.ensures.listed.automaton q in
    let h2 : Has row q ↔ Derived A.rules q = subst (λ (rs : List Rule). Has row q ↔ Derived rs q) c.rules-rules.ensures.value (h.1 q) in
    (λ s. d.0 (h2.0 s), λ r. h2.1 (d.1 r)))
    c.derived.ensures.exact
