use Rattle.std.proofs.Common.{Contains, sym, subst, ◌∙◌}
use Rattle.bool_ops.proofs.Numbers.{any_member, member_any}
use Rattle.bool_ops.proofs.pairs.Pairs.holds.Goals as goal

pub returns : goal.returns
returns c =
    let x = c.args.x in
    let keys = c.self.inside.pairs.keys in (
      λ h. subst (λ xs. Contains xs x) c.self.view_is (member_any keys x (sym c.contains.ensures ∙ h)),
      λ h. c.contains.ensures ∙ any_member keys x (subst (λ xs. Contains xs x) (sym c.self.view_is) h),
    )
