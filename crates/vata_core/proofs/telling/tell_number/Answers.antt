use Rattle.std.proofs.Common.{◌++◌, refl}
use Rattle.std.specs.Fmt.{decimal}
use Rattle.vata_core.proofs.Pieces.{told_more}
use Rattle.vata_core.proofs.telling.tell_number.Goals as goal

pub returns-then-put_number : goal.returns-then-put_number
returns-then-put_number g c =
    told_more _ (g.E.Sink.written c.put_number.new.diag) _ _ (g.E.Sink.faults c.put_number.new.diag) _ (c.args.front.now ++ decimal c.args.number) c.args.back.now
    (c.if-put_number.ensures.whole refl) c.put_number.ensures.later c.tell.ensures
