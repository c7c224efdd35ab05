use Rattle.std.proofs.Common.{◌∙◌, ◌++◌, subst, refl}
use Rattle.vata_outside.specs.Outside.{AppendsPrefix}
use Rattle.vata_core.proofs.Pieces.{cut_later, rose_before}
use Rattle.vata_core.proofs.telling.put_number.Goals as goal

pub returns-clause-cut : goal.returns-clause-cut
returns-clause-cut g c = λ no.
    let cut = c.put-2.ensures.cut no in (
      subst (λ d. AppendsPrefix (g.E.Sink.written c.args.diag.now) (g.E.Sink.written c.put-2.new.diag) (c.args.front.now ++ d)) (c.as_bytes.ensures.value ∙ c.format.ensures.text)
          (cut_later _ (g.E.Sink.written c.put.new.diag) _ c.args.front.now c.as_bytes.result.now (c.if-not-put.ensures.whole refl) cut.0),
      rose_before _ (g.E.Sink.faults c.put.new.diag) _ c.put.ensures.later cut.1,
    )
