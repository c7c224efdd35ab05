use Rattle.std.proofs.Common.{length}
use Rattle.std.proofs.lemmas.Result.{IfOk-weaker}
use Rattle.tree_definitions.specs.Automaton.{HasRule}
use Rattle.ta_model.specs.Classes.{AreClasses}
use Rattle.shared_clusters.specs.Clusters.{symbols_of, AreSymbolsOf}
use Rattle.explicit_ta.specs.Index.{AreClassesAt}
use Rattle.explicit_ta.proofs.Lists.{if_ok_both}
use Rattle.explicit_ta.proofs.Bridges.{automaton_ties, classes_are}
use Rattle.explicit_ta.proofs.explicit.ExplicitTable.classes.Goals as goal

pub returns : goal.returns
returns c =
    let A = c.self.inside.list in
    let ties = automaton_ties A c.rules-listed.ensures.listed.automaton c.rules-listed.ensures.listed.narrow in
    let C = c.self.inside.clusters in
    let found = symbols_of C c.args.q in
    rw (← c.self.view_is) (IfOk-weaker c.classes_at.result (λ v. AreClassesAt C c.args.q c.args.r found v.items × AreSymbolsOf C c.args.q found) (λ v. AreClasses A.bits A.symbols (HasRule A) c.args.q c.args.r v.items)
    (λ v h. classes_are A.symbols (HasRule A) A.rules ties C (length A.states) c.self.invariant.rules_of A.bits c.rules-listed.ensures.listed.narrow c.args.q c.args.r found v.items h.1 h.0)
    (if_ok_both c.classes_at.result (λ v. AreClassesAt C c.args.q c.args.r found v.items) (λ v. AreSymbolsOf C c.args.q found) c.classes_at.ensures.classes c.classes_at.ensures.symbols))
