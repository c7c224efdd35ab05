use Rattle.std.proofs.Common.{◌≡◌, ◌+◌, inl, inr, List, [], ◌∷◌, ◌++◌, length, refl, sym, ap, ◌∙◌, subst}
use Rattle.std.proofs.lemmas.Option.{slice_get_read}
use Rattle.tree_definitions.specs.Cover.{Pair}
use Rattle.tree_definitions.specs.Relation.{IsAt}
use Rattle.tree_definitions.proofs.Members.{at_unique}
use Rattle.down_conditions.specs.Covering.{IsShifted}
use Rattle.listed_pairs.specs.Within.{AreWithin, IsWithin}
use Rattle.down_conditions.proofs.Pushed.{all_push, at_push, length_push}
use Rattle.down_conditions.proofs.shift.shifted_pairs.Goals as goal

pub loop-at-preserved : goal.loop-at-preserved
loop-at-preserved c =
    let pairs = c.args.pairs.now in
    let i = c.loop-at.at in
    let this = c.index-pairs-at.result in
    let at : IsAt pairs i this = slice_get_read pairs (length pairs) i this refl c.loop-at-test.true c.index-pairs-at.is in
    let old = c.loop-at.wides.items in
    let new = c.in_ok-wide.wide in
    let inv = c.loop-at.invariant in
    let items : c.push.new.self.items ≡ old ++ new ∷ [] = c.in_ok-push.ensures.items in
    record {
      long = ap (λ (xs : List Pair). length xs) items ∙ length_push old new ∙ ap (λ z. z + 1) inv.long;
      within = subst (AreWithin c.args.n c.args.n) (sym items) (all_push (IsWithin c.args.n c.args.n) old new inv.within c.in_ok-wide.ensures.within);
      each = λ k pair wide kat wat. elim (at_push old new k wide (subst (λ (xs : List Pair). IsAt xs k wide) items wat)) [
        | inl before ↦ inv.each k pair wide kat before
        | inr here ↦
            let e : k ≡ i = here.0 ∙ inv.long in
            let same : pair ≡ this = at_unique pairs i pair this (subst (λ j. IsAt pairs j pair) e kat) at in
            subst (λ (x : Pair). IsShifted c.args.m x wide) (sym same) (subst (IsShifted c.args.m this) (sym here.1) c.in_ok-wide.ensures.shifted)
      ];
    }
