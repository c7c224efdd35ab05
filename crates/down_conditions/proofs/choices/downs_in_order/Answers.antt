use Rattle.std.proofs.Common.{◌≡◌, ◌↔◌, ◌<◌, ℕ, List, length, get_or, sym, ◌∙◌, subst}
use Rattle.std.specs.Prelude.{All, Contains}
use Rattle.std.proofs.lemmas.List.Elements.{All-contains, Contains-get_or}
use Rattle.std.proofs.lemmas.Result.{IfOk-weaker}
use Rattle.tree_definitions.specs.Automaton.{Rule}
use Rattle.tree_definitions.proofs.Listing.{rank_of}
use Rattle.down_conditions.specs.Choosing.{tuple_at}
use Rattle.down_conditions.specs.Refuting.{AreDowns}
use Rattle.down_conditions.proofs.Chosen.{tuple_down}
use Rattle.down_conditions.proofs.choices.downs_in_order.Goals as goal

pub forced_first-requires-clause-list : goal.forced_first-requires-clause-list
forced_first-requires-clause-list c =
    let B = c.args.b.now in
    let listed : All (λ r. r < length B.rules) c.deref.result.now = subst (All (λ r. r < length B.rules)) (sym c.deref.ensures.value) c.in_ok-list.ensures.within in
    subst (λ (xs : List Rule). All (λ r. r < length xs) c.deref.result.now) (sym c.rules.ensures.value) listed

pub forced_first-requires-clause-tuples : goal.forced_first-requires-clause-tuples
forced_first-requires-clause-tuples c k l =
    let B = c.args.b.now in
    let a = c.args.symbol.now in
    let set = c.args.set.now in
    let items = c.in_ok-list.list.items in
    let list = c.deref.result.now in
    let e = c.deref.ensures.value in
    let d = tuple_down B a set items c.in_ok-list.ensures.within c.in_ok-list.ensures.downs k (subst (λ (xs : List ℕ). k < length xs) e l) in
    let rank = rank_of B c.rules.ensures.listed.automaton a (tuple_at B.rules items k) d.0 d.2 ∙ sym c.requires.rank in
    subst (λ (xs : List Rule). length (tuple_at xs list k) ≡ length c.args.kids.now) (sym c.rules.ensures.value)
    (subst (λ (xs : List ℕ). length (tuple_at B.rules xs k) ≡ length c.args.kids.now) (sym e) rank)

pub returns-clause-within : goal.returns-clause-within
returns-clause-within c =
    let B = c.args.b.now in
    let list = c.deref.result.now in
    let items = c.in_ok-list.list.items in
    IfOk-weaker c.forced_first.result (λ v. (x : ℕ) → Contains v.items x ↔ Contains list x) (λ v. All (λ r. r < length B.rules) v.items)
    (λ v same i d l.
    let r = get_or v.items i d in
    All-contains (λ r. r < length B.rules) items r c.in_ok-list.ensures.within (subst (λ (xs : List ℕ). Contains xs r) c.deref.ensures.value ((same r).0 (Contains-get_or v.items i d l))))
    c.forced_first.ensures

pub returns-clause-downs : goal.returns-clause-downs
returns-clause-downs c =
    let B = c.args.b.now in
    let a = c.args.symbol.now in
    let set = c.args.set.now in
    let list = c.deref.result.now in
    IfOk-weaker c.forced_first.result (λ v. (x : ℕ) → Contains v.items x ↔ Contains list x) (λ v. AreDowns B a set v.items)
    (λ v same tuple.
    let downs = c.in_ok-list.ensures.downs tuple in
    let e = c.deref.ensures.value in (
      λ h. downs.0 (h.0, h.1, subst (λ (xs : List ℕ). Contains xs h.0) e ((same h.0).0 h.2), h.3, h.4),
      λ d. let h = downs.1 d in (h.0, h.1, (same h.0).1 (subst (λ (xs : List ℕ). Contains xs h.0) (sym e) h.2), h.3, h.4),
    ))
    c.forced_first.ensures
