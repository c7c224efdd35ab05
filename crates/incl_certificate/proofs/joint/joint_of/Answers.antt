use Rattle.std.proofs.Common.{◌∙◌, ap}
use Rattle.tree_definitions.specs.Joint.{joint_symbols}
use Rattle.incl_certificate.proofs.Merging.{joint_none}
use Rattle.incl_certificate.proofs.joint.joint_of.Goals as goal

pub returns : goal.returns
returns c =
    c.in_ok-add_each-2.ensures
    ∙ ap (λ xs. joint_symbols xs c.args.second.now) (c.in_ok-add_each.ensures ∙ ap (λ xs. joint_symbols xs c.args.first.now) c.with_hasher-joint.ensures.empty ∙ joint_none c.args.first.now)
