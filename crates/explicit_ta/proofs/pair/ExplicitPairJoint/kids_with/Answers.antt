use Rattle.std.proofs.Common.{length}
use Rattle.std.proofs.lemmas.Result.{IfOk-weaker}
use Rattle.tree_definitions.specs.Automaton.{HasRule}
use Rattle.ta_model.specs.UpGroups.{HasKidsWith}
use Rattle.ta_model.specs.Tuples.{kids_of}
use Rattle.explicit_ta.proofs.Bridges.{automaton_ties, stand_with}
use Rattle.explicit_ta.proofs.Indexing.{uses_are}
use Rattle.explicit_ta.proofs.pair.ExplicitPairJoint.kids_with.Goals as goal

pub returns : goal.returns
returns c =
    let A = c.self.inside.left in
    let ties = automaton_ties A c.rules-listed.ensures.listed.automaton c.rules-listed.ensures.listed.narrow in
    rw (← c.self.view_is) (IfOk-weaker c.tuples_from.result _ (λ v. HasKidsWith A c.args.q (kids_of v.items))
    (λ v h. stand_with A.symbols (HasRule A) A.rules ties c.args.q (kids_of v.items) (uses_are c.self.inside.uses (length A.states) A.rules c.args.q (kids_of v.items) c.self.invariant.up.uses_of h)) c.tuples_from.ensures)
