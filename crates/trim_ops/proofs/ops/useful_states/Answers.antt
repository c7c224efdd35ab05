use Rattle.std.proofs.Common.{◌↔◌, ℕ, List, subst}
use Rattle.std.proofs.lemmas.Result.{IfOk-weaker}
use Rattle.tree_definitions.specs.Automaton.{Rule}
use Rattle.tree_definitions.specs.Relation.{Has}
use Rattle.tree_definitions.specs.Trim.{IsUseful}
use Rattle.trim_ops.specs.Usefulness.{Useful}
use Rattle.trim_ops.proofs.UsefulSteps.{useful_exactly}
use Rattle.trim_ops.proofs.ops.useful_states.Goals as goal

pub returns-clause-exact : goal.returns-clause-exact
returns-clause-exact c =
    let A = c.args.a.now in
    let reached = c.in_ok-reached.reached in
    IfOk-weaker c.useful_of.result _ (λ row. (q : ℕ) → Has row q ↔ IsUseful A q)
    (λ row h q.
    let d = useful_exactly A c.rules-rules.ensures.listed.automaton reached c.in_ok-reached.ensures.exact q in
    let h2 : Has row q ↔ Useful A.rules A.finals reached q =
    subst (λ (fs : List ℕ). Has row q ↔ Useful A.rules fs reached q) c.finals.ensures.value
    (subst (λ (rs : List Rule). Has row q ↔ Useful rs c.finals.result.now reached q) c.rules-rules.ensures.value (h q)) in
    (λ s. d.0 (h2.0 s), λ r. h2.1 (d.1 r)))
    c.useful_of.ensures.exact
