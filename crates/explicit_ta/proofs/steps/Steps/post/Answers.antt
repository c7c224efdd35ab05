use Rattle.std.proofs.Common.{◌↔◌, ◌<◌, ℕ, map}
use Rattle.std.specs.Prelude.{All}
use Rattle.std.proofs.lemmas.Result.{IfOk-weaker}
use Rattle.tree_definitions.specs.Automaton.{Rule}
use Rattle.tree_definitions.specs.Relation.{Has}
use Rattle.ta_model.specs.Macrostates.{row_at}
use Rattle.explicit_ta.specs.Steps.{IsReached, IsReachedUnder}
use Rattle.explicit_ta.proofs.Stepping.{all_here, reached_under}
use Rattle.explicit_ta.proofs.steps.Steps.post.Goals as goal

pub reached-requires-clause-kids : goal.reached-requires-clause-kids
reached-requires-clause-kids c =
    all_here (λ (r : Rule). All (λ q. q < c.args.store.now.states) r.kids) c.args.self.now c.under-here.result.now (λ r m. ((c.under-here.ensures.members r).0 m).0) c.requires.kids

pub reached-requires-clause-parents : goal.reached-requires-clause-parents
reached-requires-clause-parents c =
    all_here (λ (r : Rule). r.parent < c.args.store.now.states) c.args.self.now c.under-here.result.now (λ r m. ((c.under-here.ensures.members r).0 m).0) c.requires.parents

pub returns-then-is_empty-clause-members : goal.returns-then-is_empty-clause-members
returns-then-is_empty-clause-members c =
    let rows = map (row_at c.args.store.now) c.args.sets.now in
    IfOk-weaker c.reached.result (λ row. (s : ℕ) → Has row s ↔ IsReached c.under-here.result.now rows s) (λ row. (s : ℕ) → Has row s ↔ IsReachedUnder c.args.self.now c.args.symbol rows s)
    (λ row h. reached_under c.args.self.now c.under-here.result.now c.args.symbol rows row c.under-here.ensures.members h) c.reached.ensures.members

pub reached_by_first-requires-clause-kids : goal.reached_by_first-requires-clause-kids
reached_by_first-requires-clause-kids c =
    all_here (λ (r : Rule). All (λ q. q < c.args.store.now.states) r.kids) c.args.self.now c.under-here.result.now (λ r m. ((c.under-here.ensures.members r).0 m).0) c.requires.kids

pub reached_by_first-requires-clause-parents : goal.reached_by_first-requires-clause-parents
reached_by_first-requires-clause-parents c =
    all_here (λ (r : Rule). r.parent < c.args.store.now.states) c.args.self.now c.under-here.result.now (λ r m. ((c.under-here.ensures.members r).0 m).0) c.requires.parents

pub returns-clause-members : goal.returns-clause-members
returns-clause-members c =
    let rows = map (row_at c.args.store.now) c.args.sets.now in
    IfOk-weaker c.reached_by_first.result (λ row. (s : ℕ) → Has row s ↔ IsReached c.under-here.result.now rows s) (λ row. (s : ℕ) → Has row s ↔ IsReachedUnder c.args.self.now c.args.symbol rows s)
    (λ row h. reached_under c.args.self.now c.under-here.result.now c.args.symbol rows row c.under-here.ensures.members h) c.reached_by_first.ensures.members
