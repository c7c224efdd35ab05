use Rattle.std.proofs.Common.{◌↔◌, ℕ, subst}
use Rattle.std.proofs.lemmas.Result.{IfOk-weaker}
use Rattle.tree_definitions.specs.Automaton.{Automaton}
use Rattle.tree_definitions.specs.Canonical.{canon}
use Rattle.tree_definitions.specs.Relation.{Has}
use Rattle.tree_definitions.specs.Trim.{IsUseful}
use Rattle.tree_definitions.proofs.SameRules.{canon_useful}
use Rattle.trim_ops.proofs.ops.useful.Goals as goal

pub returns-clause-exact : goal.returns-clause-exact
returns-clause-exact g c =
    let A = g.T.Table.automaton c.args.t.now in
    IfOk-weaker c.useful_states.result _ (λ row. (q : ℕ) → Has row q ↔ IsUseful A q)
    (λ row h q.
    let same = canon_useful A q in
    let h2 : Has row q ↔ IsUseful (canon A) q = subst (λ (B : Automaton). Has row q ↔ IsUseful B q) c.in_ok-a.ensures.value (h q) in
    (λ s. same.0 (h2.0 s), λ r. h2.1 (same.1 r)))
    c.useful_states.ensures.exact
