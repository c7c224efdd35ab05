use Rattle.std.proofs.lemmas.Result.{IfOk-weaker}
use Rattle.ta_model.specs.Classes.{AreUpClasses}
use Rattle.explicit_ta.proofs.Bridges.{up_classes_are, leads_within}
use Rattle.explicit_ta.proofs.Indexing.{leads_moved}
use Rattle.explicit_ta.specs.Index.{AreLeads}
use Rattle.explicit_ta.proofs.explicit.ExplicitTable.up_classes.Goals as goal

pub up_classes_at-requires-clause-first_within : goal.up_classes_at-requires-clause-first_within
up_classes_at-requires-clause-first_within c =
    let A = c.self.inside.list in
    rw (c.deref.ensures.value, c.states.ensures.value) (leads_within A c.rules-listed.ensures.listed.automaton c.args.first.now c.in_ok-first.first.items
    (leads_moved c.self.inside.by_kids A.rules c.args.first.now c.in_ok-first.first.items c.self.invariant.by_kids_of c.in_ok-first.ensures.members))

pub up_classes_at-requires-clause-second_within : goal.up_classes_at-requires-clause-second_within
up_classes_at-requires-clause-second_within c =
    let A = c.self.inside.list in
    rw (c.deref-2.ensures.value, c.states.ensures.value) (leads_within A c.rules-listed.ensures.listed.automaton c.args.second.now c.in_ok-second.second.items
    (leads_moved c.self.inside.by_kids A.rules c.args.second.now c.in_ok-second.second.items c.self.invariant.by_kids_of c.in_ok-second.ensures.members))

pub returns : goal.returns
returns c =
    let A = c.self.inside.list in
    let one : AreLeads A.rules c.args.first.now c.deref.result.now =
    rw c.deref.ensures.value (leads_moved c.self.inside.by_kids A.rules c.args.first.now c.in_ok-first.first.items c.self.invariant.by_kids_of c.in_ok-first.ensures.members) in
    let two : AreLeads A.rules c.args.second.now c.deref-2.result.now =
    rw c.deref-2.ensures.value (leads_moved c.self.inside.by_kids A.rules c.args.second.now c.in_ok-second.second.items c.self.invariant.by_kids_of c.in_ok-second.ensures.members) in
    rw (← c.self.view_is) (IfOk-weaker c.up_classes_at.result _ (λ v. AreUpClasses A c.args.first.now c.args.second.now v.items)
    (λ v h. up_classes_are A c.rules-listed.ensures.listed.automaton c.rules-listed.ensures.listed.narrow c.args.first.now c.args.second.now c.deref.result.now c.deref-2.result.now v.items one two h)
    (rw c.states.ensures.value at c.up_classes_at.ensures))
