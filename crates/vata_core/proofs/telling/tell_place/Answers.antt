use Rattle.std.proofs.Common.{◌∙◌, ◌++◌, ap, sym, subst, refl, append_assoc}
use Rattle.std.specs.Fmt.{decimal}
use Rattle.vata_core.specs.Lines.{Tells}
use Rattle.vata_core.proofs.Pieces.{told_more}
use Rattle.vata_core.proofs.telling.tell_place.Goals as goal

pub returns : goal.returns
returns g c =
    subst (Tells (g.E.Sink.written c.args.diag.now) (g.E.Sink.written c.tell_number.new.diag) (g.E.Sink.faults c.args.diag.now) (g.E.Sink.faults c.tell_number.new.diag))
    (sym (append_assoc (c.args.front.now ++ decimal c.args.number) (c.args.middle.now ++ decimal c.args.at) c.args.back.now)
    ∙ ap (λ l. l ++ c.args.back.now) (sym (append_assoc (c.args.front.now ++ decimal c.args.number) c.args.middle.now (decimal c.args.at))))
    (told_more _ (g.E.Sink.written c.put_number.new.diag) _ _ (g.E.Sink.faults c.put_number.new.diag) _ (c.args.front.now ++ decimal c.args.number) (c.args.middle.now ++ decimal c.args.at ++ c.args.back.now)
    (c.if-not-put_number.ensures.whole refl) c.put_number.ensures.later c.tell_number.ensures)
