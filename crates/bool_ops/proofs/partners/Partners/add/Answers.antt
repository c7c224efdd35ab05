use Rattle.std.proofs.Common.{◌<◌, ℕ, [], ◌∷◌, length, get_or, Contains, Vec, Global, sym, subst}
use Rattle.std.proofs.lemmas.List.{length-map}
use Rattle.std.proofs.lemmas.List.Elements.{Contains-append_left, Contains-push}
use Rattle.bool_ops.proofs.Partnered.{set_kept, set_here}
use Rattle.bool_ops.proofs.partners.Partners.add.Goals as goal

pub returns-in_err-push-clause-kept : goal.returns-in_err-push-clause-kept
returns-in_err-push-clause-kept c p q h =
    let lists = c.self.inside.lists.items in
    let l : c.args.left < length lists =
    subst (λ k. c.args.left < k) (length-map lists (λ (v : Vec ℕ Global). v.items)) (subst (λ s. c.args.left < length s) (sym c.self.view_is) c.in_ok-widen.ensures.wide) in
    set_kept (λ (v : Vec ℕ Global). v.items) lists c.args.left c.push.new.self c.index_mut-list.result.now l c.index_mut-list.ensures.value
    (λ z m. subst (λ xs. Contains xs z) (sym c.in_err-push.ensures.items) m) p q
    (subst (λ s. Contains (get_or s p []) q) (sym c.self.view_is) (c.in_ok-widen.ensures.kept p q h))

pub returns-clause-kept : goal.returns-clause-kept
returns-clause-kept c p q h =
    let lists = c.self.inside.lists.items in
    let l : c.args.left < length lists =
    subst (λ k. c.args.left < k) (length-map lists (λ (v : Vec ℕ Global). v.items)) (subst (λ s. c.args.left < length s) (sym c.self.view_is) c.in_ok-widen.ensures.wide) in
    let list = c.index_mut-list.result.now.items in
    set_kept (λ (v : Vec ℕ Global). v.items) lists c.args.left c.push.new.self c.index_mut-list.result.now l c.index_mut-list.ensures.value
    (λ z m. subst (λ xs. Contains xs z) (sym c.in_ok-push.ensures.items) (Contains-append_left list (c.args.right ∷ []) z m)) p q
    (subst (λ s. Contains (get_or s p []) q) (sym c.self.view_is) (c.in_ok-widen.ensures.kept p q h))

pub returns-clause-here : goal.returns-clause-here
returns-clause-here c =
    let lists = c.self.inside.lists.items in
    let l : c.args.left < length lists =
    subst (λ k. c.args.left < k) (length-map lists (λ (v : Vec ℕ Global). v.items)) (subst (λ s. c.args.left < length s) (sym c.self.view_is) c.in_ok-widen.ensures.wide) in
    set_here (λ (v : Vec ℕ Global). v.items) lists c.args.left c.push.new.self c.args.right l
    (subst (λ xs. Contains xs c.args.right) (sym c.in_ok-push.ensures.items) (Contains-push c.index_mut-list.result.now.items c.args.right))
