use Rattle.std.proofs.Common.{take, ◌∷◌, [], ◌++◌, refl, sym, ap, ◌∙◌, subst}
use Rattle.std.specs.Prelude.{All}
use Rattle.std.proofs.lemmas.List.{take_more, take_all}
use Rattle.std.proofs.lemmas.List.Elements.{All-push}
use Rattle.tree_definitions.specs.Cover.{FitsPair}
use Rattle.incl_certificate.proofs.certificate.each_fits.Goals as goal

pub loop-pair-preserved : goal.loop-pair-preserved
loop-pair-preserved c =
    subst (All (FitsPair c.args.a.now c.args.b.now))
    (sym (take_more c.args.pairs.now c.loop-pair.pair-index c.pair-item.result c.loop-pair-test.true
    ∙ ap (λ x. take c.loop-pair.pair-index c.args.pairs.now ++ x ∷ []) (sym c.pair-item.is)))
    (All-push (FitsPair c.args.a.now c.args.b.now) (take c.loop-pair.pair-index c.args.pairs.now) c.pair-item.result c.loop-pair.invariant
    (c.pair_fits.ensures.0 c.if-not-pair_fits.false))

pub returns : goal.returns
returns c = (
  λ yes. subst (All (FitsPair c.args.a.now c.args.b.now)) (take_all c.loop-pair.pair-index c.args.pairs.now c.loop-pair-test.false) c.loop-pair.invariant,
  λ fits. refl,
)
