use Rattle.std.proofs.Common.{◌≡◌, sym, ap, ◌∙◌, subst}
use Rattle.tree_definitions.specs.Cover.{Pair}
use Rattle.tree_definitions.specs.Relation.{Has, Row}
use Rattle.down_trails.proofs.Splitting.{same_row}
use Rattle.down_trails.proofs.steps.is_root.Goals as goal

pub returns-then-get : goal.returns-then-get
returns-then-get c =
    let pair = c.args.pair.now in
    let right = c.args.right.now in
    let state : c.pair.inside.state ≡ pair.state = ap (λ (x : Pair). x.state) c.pair.view_is in
    let set : c.pair.inside.set ≡ pair.set = ap (λ (x : Pair). x.set) c.pair.view_is in (
      λ t.
          let e : pair.set ≡ right = sym set ∙ c.equals.ensures.0 t in
          let there : Has c.args.left.now pair.state = subst (Has c.args.left.now) state (c.get.ensures.set.0 c.if-get.true) in
          (there, λ s. (λ h. subst (λ (x : Row). Has x s) e h, λ h. subst (λ (x : Row). Has x s) (sym e) h)),
      λ h. c.equals.ensures.1 (set ∙ same_row pair.set right c.requires.set h.1),
    )
