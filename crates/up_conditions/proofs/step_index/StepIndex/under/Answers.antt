use Rattle.std.proofs.Common.{List, get_or, ap, subst, ℕ}
use Rattle.std.proofs.lemmas.List.Elements.{Contains-get_or}
use Rattle.std.proofs.lemmas.Option.{slice_get_within}
use Rattle.tree_definitions.specs.Relation.{IsAt}
use Rattle.up_conditions.specs.Stepping.{StepLists}
use Rattle.up_conditions.proofs.Looked.{lists_under}
use Rattle.up_conditions.proofs.step_index.StepIndex.under.Goals as goal

pub returns-clause-under : goal.returns-clause-under
returns-clause-under c =
    let list = c.at.result.now in
    lists_under c.args.b.now c.args.self.now c.requires.lists c.args.symbol list
    (subst (λ (ls : List (List ℕ)). IsAt ls c.args.symbol list) (ap (λ (o : StepLists). o.by_symbol) c.self.view_is) c.at.ensures)

pub returns-clause-within : goal.returns-clause-within
returns-clause-within c k d l =
    let list = c.at.result.now in
    let at = subst (λ (ls : List (List ℕ)). IsAt ls c.args.symbol list) (ap (λ (o : StepLists). o.by_symbol) c.self.view_is) c.at.ensures in
    let r = get_or list k d in
    let m = c.requires.lists.by_symbol.within c.args.symbol list at r (Contains-get_or list k d l) in
    slice_get_within c.args.b.now.rules r m.0 m.1
