use Rattle.std.proofs.Common.{◌≡◌, ◌↔◌, ◌⊎◌, subst, sym}
use Rattle.std.proofs.lemmas.Result.{IfOk-weaker}
use Rattle.tree_definitions.specs.Automaton.{Automaton, IsAutomaton}
use Rattle.tree_definitions.specs.Canonical.{canon}
use Rattle.tree_definitions.specs.Language.{Accepts}
use Rattle.tree_definitions.specs.Tree.{Tree}
use Rattle.tree_definitions.specs.Union.{IsUnion}
use Rattle.tree_definitions.proofs.InOrder.{canon_language}
use Rattle.tree_definitions.proofs.United.{union_accepts}
use Rattle.bool_ops.specs.Results.{IsCanonicalUnion}
use Rattle.bool_ops.proofs.unite.union.Goals as goal

either : (A B U C : Automaton) → IsAutomaton A → IsUnion A B U → C ≡ canon U → (t : Tree) → Accepts C t ↔ (Accepts A t ⊎ Accepts B t)
either A B U C fits h e t = subst (λ (c : Automaton). Accepts c t ↔ (Accepts A t ⊎ Accepts B t)) (sym e) through
  where
    through : Accepts (canon U) t ↔ (Accepts A t ⊎ Accepts B t)
    through =
        let a = union_accepts A B U fits h t in
        let b = canon_language U t in
        (λ x. a.0 (b.1 x), λ x. b.0 (a.1 x))

pub returns-clause-automaton : goal.returns-clause-automaton
returns-clause-automaton g c =
    let A = g.J.Joint.left c.args.j.now in
    let B = g.J.Joint.right c.args.j.now in
    let U = g.J.One.Table.automaton c.in_ok-joined.field-0 in
    IfOk-weaker c.listed.result _ (IsCanonicalUnion A B) (λ C e. (U, c.in_ok-joined.ensures, e)) c.listed.ensures.value

pub returns-clause-language : goal.returns-clause-language
returns-clause-language g c =
    let A = g.J.Joint.left c.args.j.now in
    let B = g.J.Joint.right c.args.j.now in
    let U = g.J.One.Table.automaton c.in_ok-joined.field-0 in
    IfOk-weaker c.listed.result _ (λ u. (t : Tree) → Accepts u t ↔ (Accepts A t ⊎ Accepts B t))
    (λ C e. either A B U C c.symbols-symbols.ensures.paired.left.automaton c.in_ok-joined.ensures e) c.listed.ensures.value
