use Rattle.std.proofs.Common.{◌≡◌, ◌↔◌, subst}
use Rattle.std.proofs.lemmas.Result.{IfOk-weaker}
use Rattle.tree_definitions.specs.Automaton.{Automaton}
use Rattle.tree_definitions.specs.Canonical.{canon}
use Rattle.tree_definitions.specs.Language.{Accepts}
use Rattle.tree_definitions.specs.Tree.{Tree}
use Rattle.bool_ops.specs.Results.{IsCanonicalProduct, HasMoreStates, HasMoreRules}
use Rattle.bool_ops.proofs.CanonicalProduct.{canonical_out, accepts_both, more_states_in, more_states_out, more_rules_in, more_rules_out}
use Rattle.bool_ops.proofs.intersect.isect.Goals as goal

-- the product of two automata that are canonical forms
from_canons : (A B L R C : Automaton) → L ≡ canon A → R ≡ canon B → IsCanonicalProduct L R C → IsCanonicalProduct A B C
from_canons A B L R C e f h =
    canonical_out A B C (subst (λ (r : Automaton). IsCanonicalProduct (canon A) r C) f (subst (λ (l : Automaton). IsCanonicalProduct l R C) e h))

pub returns-clause-automaton : goal.returns-clause-automaton
returns-clause-automaton g c =
    let A = g.J.Joint.left c.args.j.now in
    let B = g.J.Joint.right c.args.j.now in
    IfOk-weaker c.product_of.result _ (IsCanonicalProduct A B)
    (λ C h. from_canons A B c.in_ok-left.left c.in_ok-left.right C c.in_ok-left.ensures.left c.in_ok-left.ensures.right h) c.product_of.ensures.product

pub returns-clause-language : goal.returns-clause-language
returns-clause-language g c =
    let A = g.J.Joint.left c.args.j.now in
    let B = g.J.Joint.right c.args.j.now in
    IfOk-weaker c.product_of.result _ (λ p. (t : Tree) → Accepts p t ↔ (Accepts A t × Accepts B t))
    (λ C h. accepts_both A B C (from_canons A B c.in_ok-left.left c.in_ok-left.right C c.in_ok-left.ensures.left c.in_ok-left.ensures.right h)) c.product_of.ensures.product

pub returns-clause-states : goal.returns-clause-states
returns-clause-states g c e =
    more_states_out (g.J.Joint.left c.args.j.now) (g.J.Joint.right c.args.j.now) c.in_ok-left.left c.in_ok-left.right 1000000 c.in_ok-left.ensures.left c.in_ok-left.ensures.right
    (c.product_of.ensures.states e)

pub returns-clause-rules : goal.returns-clause-rules
returns-clause-rules g c e =
    more_rules_out (g.J.Joint.left c.args.j.now) (g.J.Joint.right c.args.j.now) c.in_ok-left.left c.in_ok-left.right 2000000 c.in_ok-left.ensures.left c.in_ok-left.ensures.right
    (c.product_of.ensures.rules e)

pub returns-clause-states_first : goal.returns-clause-states_first
returns-clause-states_first g c e h =
    c.product_of.ensures.states_first e
    (more_states_in (g.J.Joint.left c.args.j.now) (g.J.Joint.right c.args.j.now) c.in_ok-left.left c.in_ok-left.right 1000000 c.in_ok-left.ensures.left c.in_ok-left.ensures.right h)

pub returns-clause-fewer_states : goal.returns-clause-fewer_states
returns-clause-fewer_states g c =
    let A = g.J.Joint.left c.args.j.now in
    let B = g.J.Joint.right c.args.j.now in
    IfOk-weaker c.product_of.result _ (λ _. HasMoreStates A B 1000000 → ⊥)
    (λ C few h. few (more_states_in A B c.in_ok-left.left c.in_ok-left.right 1000000 c.in_ok-left.ensures.left c.in_ok-left.ensures.right h)) c.product_of.ensures.fewer_states

pub returns-clause-fewer_rules : goal.returns-clause-fewer_rules
returns-clause-fewer_rules g c =
    let A = g.J.Joint.left c.args.j.now in
    let B = g.J.Joint.right c.args.j.now in
    IfOk-weaker c.product_of.result _ (λ _. HasMoreRules A B 2000000 → ⊥)
    (λ C few h. few (more_rules_in A B c.in_ok-left.left c.in_ok-left.right 2000000 c.in_ok-left.ensures.left c.in_ok-left.ensures.right h)) c.product_of.ensures.fewer_rules
