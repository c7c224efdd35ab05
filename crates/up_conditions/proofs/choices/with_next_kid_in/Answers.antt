use Rattle.std.proofs.Common.{◌≡◌, ◌↔◌, ◌<◌, ℕ, List, length, get_or, subst}
use Rattle.std.specs.Prelude.{All, Contains, IfOk}
use Rattle.std.proofs.lemmas.List.Elements.{Contains-get_or}
use Rattle.std.proofs.lemmas.Option.{slice_get_within}
use Rattle.std.proofs.lemmas.Result.{IfOk-weaker}
use Rattle.tree_definitions.specs.Automaton.{Rule}
use Rattle.tree_definitions.specs.Relation.{Has}
use Rattle.up_conditions.specs.Choosing.{HasKidIn}
use Rattle.up_conditions.specs.Stepping.{IsUnderFrom}
use Rattle.up_conditions.proofs.Looked.{from_under}
use Rattle.up_conditions.proofs.choices.with_next_kid_in.Goals as goal

pub returns-then-count-eq0-clause-within : goal.returns-then-count-eq0-clause-within
returns-then-count-eq0-clause-within c =
    let rules = c.args.b.now.rules in
    IfOk-weaker c.under_from.result (λ v. (r : ℕ) → Contains v.items r ↔ ((q : ℕ) × Has c.args.set.now q × IsUnderFrom rules c.args.symbol q r)) (λ v. All (λ r. r < length rules) v.items)
    (λ v members k d l.
    let r = get_or v.items k d in
    let h = (members r).0 (Contains-get_or v.items k d l) in
    slice_get_within rules r h.2.0 h.2.1)
    c.under_from.ensures

pub returns-then-count-eq0-clause-members : goal.returns-then-count-eq0-clause-members
returns-then-count-eq0-clause-members c =
    let rules = c.args.b.now.rules in
    let set = c.args.set.now in
    let places = c.args.places.now in
    let none : c.args.count ≡ 0 = c.if-count-eq0.true in
    IfOk-weaker c.under_from.result (λ v. (r : ℕ) → Contains v.items r ↔ ((q : ℕ) × Has set q × IsUnderFrom rules c.args.symbol q r))
    (λ v. (r : ℕ) → Contains v.items r ↔ (Contains places r × HasKidIn rules c.args.count set r))
    (λ v members. from_under rules c.args.symbol c.args.count set places v.items (c.requires.start none) none members)
    c.under_from.ensures

pub returns-clause-members : goal.returns-clause-members
returns-clause-members c =
    let places = c.args.places.now in
    let HaveKids : List Rule → Type 0 = λ rules. IfOk c.with_kid_in.result (λ v. (r : ℕ) → Contains v.items r ↔ (Contains places r × HasKidIn rules c.args.count c.args.set.now r)) in
    subst HaveKids c.rules.ensures.value c.with_kid_in.ensures.members
