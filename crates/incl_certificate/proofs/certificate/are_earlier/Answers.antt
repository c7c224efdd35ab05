use Rattle.std.proofs.Common.{◌<◌, get_or, take, refl, sym, subst, arith}
use Rattle.std.specs.Prelude.{All}
use Rattle.std.proofs.lemmas.List.{take_more, take_all}
use Rattle.std.proofs.lemmas.List.Elements.{All-push}
use Rattle.incl_certificate.proofs.certificate.are_earlier.Goals as goal

pub loop-kid-preserved : goal.loop-kid-preserved
loop-kid-preserved c =
    let i = c.loop-kid.kid-index in
    let here : get_or c.args.kids.now i 0 < c.args.place = omega (arith, c.if-kid-place.false) in
    subst (All (λ k. k < c.args.place)) (sym (take_more c.args.kids.now i 0 c.loop-kid-test.true))
    (All-push (λ k. k < c.args.place) (take i c.args.kids.now) (get_or c.args.kids.now i 0) c.loop-kid.invariant here)

pub returns : goal.returns
returns c = (
  λ yes. subst (All (λ k. k < c.args.place)) (take_all c.loop-kid.kid-index c.args.kids.now c.loop-kid-test.false) c.loop-kid.invariant,
  λ all. refl,
)
