use Rattle.std.proofs.Common.{◌≡◌, ◌+◌, length, get_or, refl, sym, ◌∙◌}
use Rattle.std.proofs.lemmas.Option.{slice_get-get_or, slice_get_read}
use Rattle.tree_definitions.specs.Relation.{IsAt}
use Rattle.witness_trees.specs.Marking.{group_number, group_of}
use Rattle.witness_trees.specs.declared.states.Entry.{Entry}
use Rattle.witness_trees.proofs.Marks.{IsPassed, gains_for, gains_rule, passed_by, passed_all, passed_more}
use Rattle.witness_trees.proofs.states.mark_group.Goals as goal

pub returns-then-entry-group : goal.returns-then-entry-group
returns-then-entry-group c =
    let index = c.args.index.now in
    let group = c.number_of-group.result in
    let i = c.loop-i.i in
    let none : Entry = record { group = 0; rule = 0 } in
    let here : IsAt index i (get_or index i none) = slice_get-get_or index i none c.loop-i-test.true in
    gains_for c.args.rules.now c.args.reached.now c.args.label c.args.kids.now (IsPassed index group i) (λ r rule. group_of rule ≡ group_number c.args.label c.args.first) c.args.row.now c.loop-i.row c.loop-i.invariant
    (λ r rule at joins e. passed_by c.args.rules.now index group c.requires.indexed c.requires.sorted i (get_or index i none) here c.if-entry-group.true (c.start_of-i.ensures.after i none c.loop-i.auto.i c.loop-i-test.true) r rule at (e ∙ sym c.number_of-group.ensures))

pub loop-i-preserved : goal.loop-i-preserved
loop-i-preserved c =
    let index = c.args.index.now in
    let group = c.number_of-group.result in
    let i = c.loop-i.i in
    let none : Entry = record { group = 0; rule = 0 } in
    let r = (get_or index i none).rule in
    let one = c.index-rules-entry.result in
    let here : IsAt c.args.rules.now r one = slice_get_read c.args.rules.now (length c.args.rules.now) r one refl (c.requires.indexed.named i none c.loop-i-test.true) c.index-rules-entry.is in
    gains_rule c.args.rules.now c.args.reached.now c.args.label c.args.kids.now (IsPassed index group i) (IsPassed index group (i + 1)) c.args.row.now c.loop-i.row c.mark_rule.new.row r one here c.loop-i.invariant c.mark_rule.ensures
    (λ r rule h. passed_more index group i none r rule h)

pub returns : goal.returns
returns c =
    let index = c.args.index.now in
    let group = c.number_of-group.result in
    gains_for c.args.rules.now c.args.reached.now c.args.label c.args.kids.now (IsPassed index group c.loop-i.i) (λ r rule. group_of rule ≡ group_number c.args.label c.args.first) c.args.row.now c.loop-i.row c.loop-i.invariant
    (λ r rule at joins e. passed_all c.args.rules.now index group c.requires.indexed c.loop-i.i c.loop-i-test.false r rule at (e ∙ sym c.number_of-group.ensures))
