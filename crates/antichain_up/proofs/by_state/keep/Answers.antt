use Rattle.std.proofs.Common.{◌≡◌, ℕ, true, false, get_or, rules, sym, subst}
use Rattle.std.specs.Prelude.{Contains}
use Rattle.std.specs.List.{filter}
use Rattle.std.proofs.lemmas.Fn.{filter_same}
use Rattle.std.proofs.lemmas.Option.{get_or_from_slice_get}
use Rattle.antichain_up.proofs.Marks.{filtered, passes, flag_has}
use Rattle.antichain_up.proofs.by_state.keep.Goals as goal

pub returns : goal.returns
returns c k =
    let kept = c.args.kept.now in
    let old = c.args.numbers.now.items in
    let test = λ (n : ℕ). get_or kept n false in
    let same : c.retain.new.self.items ≡ filter test old = filter_same _ test _ (λ x b f' called. search rules) old c.retain.new.self.items c.retain.ensures.filtered in (
      λ h. let f = filtered test old k (subst (λ xs. Contains xs k) same h) in (f.0, flag_has kept k f.1),
      λ h. subst (λ xs. Contains xs k) (sym same) (passes test old k h.0 (get_or_from_slice_get kept k true false h.1)),
    )
