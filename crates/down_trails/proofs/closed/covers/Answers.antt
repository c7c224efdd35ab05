use Rattle.std.proofs.Common.{◌↔◌, ◌+◌, ℕ, List, length, refl, ap, subst, arith}
use Rattle.tree_definitions.specs.Relation.{Has, Holds}
use Rattle.down_conditions.specs.Covering.{Shifted}
use Rattle.down_trails.proofs.closed.covers.Goals as goal

pub shifted_row-requires : goal.shifted_row-requires
shifted_row-requires c =
    let long = ap (λ (xs : List (List ℕ)). length xs) c.states.ensures.value in
    let both = c.requires.both in
    let size = c.size.ensures.value in
    omega (arith, long, both, size)

pub returns : goal.returns
returns c =
    let m = length c.args.a.now.states in
    let long = ap (λ (xs : List (List ℕ)). length xs) c.states.ensures.value in
    let wide = c.in_ok-wide.wide in
    let set = c.args.set.now in
    let q = c.args.state in
    let members : (s : ℕ) → Has wide s ↔ Shifted m (Has set) s = subst (λ n. (s : ℕ) → Has wide s ↔ Shifted n (Has set) s) long c.in_ok-wide.ensures.members in (
      λ t.
          let h = c.row_meets.ensures.0 t in
          let k = (members h.0).0 h.1 in
          (k.0, k.2, subst (Holds c.args.both.now q) k.1 h.2),
      λ h. c.row_meets.ensures.1 (m + h.0, (members (m + h.0)).1 (h.0, refl, h.1), h.2),
    )
