use Rattle.std.proofs.Common.{◌+◌, length}
use Rattle.std.proofs.lemmas.Result.{IfOk-weaker}
use Rattle.tree_definitions.specs.Joint.{JointRule}
use Rattle.ta_model.specs.Classes.{AreClasses}
use Rattle.shared_clusters.specs.Clusters.{symbols_of, AreSymbolsOf}
use Rattle.explicit_ta.specs.Index.{AreClassesAt}
use Rattle.explicit_ta.specs.Pair.{joint_rules}
use Rattle.explicit_ta.proofs.Lists.{if_ok_both}
use Rattle.explicit_ta.proofs.Bridges.{classes_are}
use Rattle.explicit_ta.proofs.Unions.{joint_ties}
use Rattle.explicit_ta.proofs.pair.ExplicitPairJoint.classes.Goals as goal

pub returns : goal.returns
returns c =
    let A = c.self.inside.left in
    let B = c.self.inside.right in
    let symbols = c.self.inside.symbols in
    let places = c.self.inside.places.items in
    let C = c.self.inside.clusters in
    let found = symbols_of C c.args.x in
    let ties = joint_ties A B c.self.invariant.paired symbols places c.self.invariant.symbols_are c.symbols-distinct.ensures.alphabet.distinct c.self.invariant.placed in
    rw (← c.self.view_is, ← c.self.invariant.symbols_are) (IfOk-weaker c.classes_at.result (λ v. AreClassesAt C c.args.x c.args.y found v.items × AreSymbolsOf C c.args.x found) (λ v. AreClasses A.bits symbols (JointRule A B) c.args.x c.args.y v.items)
    (λ v h. classes_are symbols (JointRule A B) (joint_rules A B places) ties C (length A.states + length B.states) c.self.invariant.rules_of A.bits c.self.invariant.paired.left.narrow c.args.x c.args.y found v.items h.1 h.0)
    (if_ok_both c.classes_at.result (λ v. AreClassesAt C c.args.x c.args.y found v.items) (λ v. AreSymbolsOf C c.args.x found) c.classes_at.ensures.classes c.classes_at.ensures.symbols))
