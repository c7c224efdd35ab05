use Rattle.std.proofs.Common.{inl, inr, List, subst, arith}
use Rattle.std.specs.Prelude.{Contains}
use Rattle.std.proofs.lemmas.Option.{slice_get_within}
use Rattle.tree_definitions.proofs.Members.{contains_at, contains_none, place_of}
use Rattle.down_conditions.proofs.Marks.{by_mark}
use Rattle.down_conditions.proofs.order.forced_first.Goals as goal

pub returns : goal.returns
returns c x =
    let list = c.args.list.now in
    let marks = c.in_ok-marks.marks in (
      λ h. elim ((c.in_ok-add_marked-2.ensures x).0 h) [
        | inl first ↦ elim ((c.in_ok-add_marked.ensures x).0 first) [
          | inl none ↦ absurd (contains_none x (subst (λ (xs : List _). Contains xs x) c.in_ok-order.ensures.items none))
          | inr k ↦ contains_at list k.0 x k.1
        ]
        | inr k ↦ contains_at list k.0 x k.1
      ],
      λ h.
          let k = place_of list x h in
          let w = slice_get_within list k.0 x k.1 in
          elim (by_mark marks k.0 (let e = c.in_ok-marks.ensures in omega (arith, w, e))) [
            | inl yes_mark ↦ (c.in_ok-add_marked-2.ensures x).1 (inl ((c.in_ok-add_marked.ensures x).1 (inr (k.0, k.1, yes_mark))))
            | inr no_mark ↦ (c.in_ok-add_marked-2.ensures x).1 (inr (k.0, k.1, no_mark))
          ],
    )
