use Rattle.std.proofs.Common.{ℕ, [], map, get_or, Contains, Vec, Global, sym, subst}
use Rattle.bool_ops.proofs.Partnered.{push_kept}
use Rattle.bool_ops.proofs.partners.Partners.widen.Goals as goal

pub loop-alloc-preserved : goal.loop-alloc-preserved
loop-alloc-preserved c p q h =
    subst (λ xs. Contains (get_or (map (λ (v : Vec ℕ Global). v.items) xs) p []) q) (sym c.in_ok-push.ensures.items)
    (push_kept (λ (v : Vec ℕ Global). v.items) c.loop-alloc.self-inside.lists.items c.new.result p q (c.loop-alloc.invariant p q h))

pub returns-in_err-push-clause-kept : goal.returns-in_err-push-clause-kept
returns-in_err-push-clause-kept c p q h =
    subst (λ xs. Contains (get_or (map (λ (v : Vec ℕ Global). v.items) xs) p []) q) (sym c.in_err-push.ensures.items) (c.loop-alloc.invariant p q h)
