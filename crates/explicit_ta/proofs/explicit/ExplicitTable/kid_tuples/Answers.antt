use Rattle.std.proofs.Common.{length}
use Rattle.std.proofs.lemmas.Result.{IfOk-weaker}
use Rattle.tree_definitions.specs.Automaton.{HasRule}
use Rattle.ta_model.specs.Classes.{AreAll, LeadTo}
use Rattle.ta_model.specs.Tuples.{kids_of}
use Rattle.explicit_ta.proofs.Bridges.{automaton_ties, lead_to}
use Rattle.explicit_ta.proofs.explicit.ExplicitTable.kid_tuples.Goals as goal

pub returns : goal.returns
returns c =
    let A = c.self.inside.list in
    let ties = automaton_ties A c.rules-listed.ensures.listed.automaton c.rules-listed.ensures.listed.narrow in
    rw (← c.self.view_is) (IfOk-weaker c.tuples_to.result _ (λ v. AreAll (LeadTo (HasRule A) c.args.q) (kids_of v.items))
    (λ v h. lead_to A.symbols (HasRule A) A.rules ties c.self.inside.clusters (length A.states) c.self.invariant.rules_of c.args.q (kids_of v.items) h) c.tuples_to.ensures)
