use Rattle.std.proofs.Common.{◌<◌, ◌+◌, ℕ, [], ◌∷◌, Contains, sym, subst, arith}
use Rattle.std.proofs.lemmas.List.Elements.{Contains-append_left}
use Rattle.std.proofs.lemmas.Option.{slice_get_within}
use Rattle.tree_definitions.specs.Relation.{IsAt}
use Rattle.tree_definitions.proofs.Members.{place_of}
use Rattle.bool_ops.proofs.Paths.{step_found}
use Rattle.bool_ops.proofs.by_kids.ByKids.add_steps.Goals as goal

pub loop-q-preserved : goal.loop-q-preserved
loop-q-preserved c =
    let nodes = c.args.self.now.nodes in
    let level = c.loop-q.level.items in
    let next = c.in-Some.next in
    record {
      kept = λ n h. subst (λ xs. Contains xs n) (sym c.in_ok-push.ensures.items) (Contains-append_left level (next ∷ []) n (c.loop-q.invariant.kept n h));
      steps = λ k q n m kat nat. subst (λ xs. Contains xs n) (sym c.in_ok-push.ensures.items)
          (step_found nodes c.args.node c.args.states.now level c.loop-q.q-index next c.loop-q-test.true c.find.ensures.distinct
          (subst (IsAt nodes next) c.step.ensures c.in-Some.ensures.found) c.loop-q.invariant.steps k q n m kat nat);
    }

pub returns-clause-steps : goal.returns-clause-steps
returns-clause-steps c q n h nat =
    let at = place_of c.args.states.now q h in
    let w = slice_get_within c.args.states.now at.0 q at.1 in
    c.loop-q.invariant.steps at.0 q n (omega (arith, w, c.loop-q-test.false)) at.1 nat
