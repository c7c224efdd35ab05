use Rattle.std.proofs.Common.{◌≡◌, ◌∙◌, List, refl, sym, subst}
use Rattle.std.specs.Prelude.{Contains}
use Rattle.std.specs.List.Sorted.{IsSorted}
use Rattle.tree_definitions.specs.Automaton.{Rule}
use Rattle.tree_definitions.specs.Canonical.{rule_cmp}
use Rattle.up_conditions.proofs.Searched.{searched_is, searched_lacks}
use Rattle.up_conditions.proofs.sorted_rules.SortedRules.has.Goals as goal

pub returns-in-Ok : goal.returns-in-Ok
returns-in-Ok c =
    let rule = c.args.rule.now in
    let items : c.deref.result.now ≡ c.args.self.now = c.deref.ensures.value ∙ c.self.view_is in (
      λ t. subst (λ (xs : List Rule). Contains xs rule) items (searched_is c.deref.result.now rule c.in-Ok.field-0 c.in-Ok.ensures.bound c.in-Ok.ensures.position),
      λ m. refl,
    )

pub returns-in-Err : goal.returns-in-Err
returns-in-Err c =
    let rule = c.args.rule.now in
    let items : c.deref.result.now ≡ c.args.self.now = c.deref.ensures.value ∙ c.self.view_is in
    let sorted = subst (λ (xs : List Rule). IsSorted rule_cmp xs) (sym c.deref.ensures.value) c.self.invariant in (
      λ t. absurd cc,
      λ m. absurd (searched_lacks c.deref.result.now rule c.in-Err.field-0 sorted c.in-Err.ensures.position (subst (λ (xs : List Rule). Contains xs rule) (sym items) m)),
    )
