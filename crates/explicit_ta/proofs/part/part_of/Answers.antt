use Rattle.std.proofs.Common.{◌≡◌, ◌<◌, All, length, sym, ◌∙◌, subst, refl}
use Rattle.std.specs.List.{AllZip}
use Rattle.tree_definitions.specs.Automaton.{Automaton, Rule}
use Rattle.tree_definitions.specs.Relation.{IsAt}
use Rattle.ta_model.specs.Listing.{IsListed}
use Rattle.ta_model.specs.Restriction.{RestrictsTo}
use Rattle.explicit_ta.specs.Moves.{IsNumbering}
use Rattle.explicit_ta.proofs.Parts.{left_kids, left_parents, part_listed, part_restricts, part_with, same_lists}
use Rattle.explicit_ta.proofs.part.part_of.Goals as goal

pub rules_between-requires-clause-kids : goal.rules_between-requires-clause-kids
rules_between-requires-clause-kids c =
    subst (λ n. All (λ (r : Rule). All (λ q. q < n) r.kids) c.args.left.now) (sym c.requires.width)
    (left_kids c.args.a.now c.states-states.ensures.listed.automaton c.args.left.now (λ r m. ((c.requires.rules r).0 m).0))

pub rules_between-requires-clause-parents : goal.rules_between-requires-clause-parents
rules_between-requires-clause-parents c =
    subst (λ n. All (λ (r : Rule). r.parent < n) c.args.left.now) (sym c.requires.width)
    (left_parents c.args.a.now c.states-states.ensures.listed.automaton c.args.left.now (λ r m. ((c.requires.rules r).0 m).0))

pub new-requires : goal.new-requires
new-requires c =
    let A = c.args.a.now in
    let row = c.args.keep.now in
    let numbers = c.in_ok-kept.numbers.items in
    let names = c.in_ok-names.names.items in
    let listed = c.states-states.ensures.listed in
    let nb : IsNumbering row c.in_ok-kept.kept.items numbers (length A.states) = rw c.requires.width at c.in_ok-kept.ensures in
    let named : AllZip (IsAt A.states) c.in_ok-kept.kept.items names = rw (c.states-states.ensures.value, c.deref.ensures.value) at c.in_ok-names.ensures in
    let is : ◌≡◌ {A = Automaton} (record { bits = 0; name = c.in_ok-name.name; symbols = c.in_ok-symbols.symbols.items; states = names; finals = c.in_ok-finals.finals.items; rules = c.in_ok-rules.rules.items }) (part_with A c.args.left.now row numbers names) =
    same_lists (record { bits = 0; name = c.in_ok-name.name; symbols = c.in_ok-symbols.symbols.items; states = names; finals = c.in_ok-finals.finals.items; rules = c.in_ok-rules.rules.items }) (part_with A c.args.left.now row numbers names)
    refl (c.in_ok-name.ensures.cases ∙ c.name.ensures.value) (c.in_ok-symbols.ensures.items_if_clones_equal (λ x y same. same) ∙ c.symbols.ensures.value) refl
    (rw (c.deref-2.ensures.value, c.finals.ensures.value) at c.in_ok-finals.ensures) (rw c.deref-3.ensures.value at c.in_ok-rules.ensures) in
    subst IsListed (sym is) (part_listed A listed c.args.left.now row c.in_ok-kept.kept.items numbers names c.requires.distinct c.requires.rules c.requires.width nb named)

pub returns : goal.returns
returns c =
    let A = c.args.a.now in
    let row = c.args.keep.now in
    let numbers = c.in_ok-kept.numbers.items in
    let names = c.in_ok-names.names.items in
    let listed = c.states-states.ensures.listed in
    let nb : IsNumbering row c.in_ok-kept.kept.items numbers (length A.states) = rw c.requires.width at c.in_ok-kept.ensures in
    let named : AllZip (IsAt A.states) c.in_ok-kept.kept.items names = rw (c.states-states.ensures.value, c.deref.ensures.value) at c.in_ok-names.ensures in
    let is : ◌≡◌ {A = Automaton} (record { bits = 0; name = c.in_ok-name.name; symbols = c.in_ok-symbols.symbols.items; states = names; finals = c.in_ok-finals.finals.items; rules = c.in_ok-rules.rules.items }) (part_with A c.args.left.now row numbers names) =
    same_lists (record { bits = 0; name = c.in_ok-name.name; symbols = c.in_ok-symbols.symbols.items; states = names; finals = c.in_ok-finals.finals.items; rules = c.in_ok-rules.rules.items }) (part_with A c.args.left.now row numbers names)
    refl (c.in_ok-name.ensures.cases ∙ c.name.ensures.value) (c.in_ok-symbols.ensures.items_if_clones_equal (λ x y same. same) ∙ c.symbols.ensures.value) refl
    (rw (c.deref-2.ensures.value, c.finals.ensures.value) at c.in_ok-finals.ensures) (rw c.deref-3.ensures.value at c.in_ok-rules.ensures) in
    (c.in_ok-kept.kept.items, subst (λ T. RestrictsTo A T row c.in_ok-kept.kept.items) (sym (c.new.ensures ∙ is)) (part_restricts A listed c.args.left.now row c.in_ok-kept.kept.items numbers names c.requires.distinct c.requires.rules c.requires.width nb named))
