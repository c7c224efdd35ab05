use Rattle.std.proofs.Common.{sym, subst}
use Rattle.vata_core.specs.Lines.{Tells}
use Rattle.vata_core.specs.Usage.{fault_line}
use Rattle.vata_core.proofs.telling.tell_fault.Goals as goal

pub returns-in-NoCommand : goal.returns-in-NoCommand
unfolding fault_line
returns-in-NoCommand g c =
    subst (λ f. Tells (g.E.Sink.written c.args.diag.now) (g.E.Sink.written c.tell.new.diag) (g.E.Sink.faults c.args.diag.now) (g.E.Sink.faults c.tell.new.diag) (fault_line f))
    (sym c.in-NoCommand.is) c.tell.ensures

pub returns-in-UnknownWord : goal.returns-in-UnknownWord
unfolding fault_line
returns-in-UnknownWord g c =
    subst (λ f. Tells (g.E.Sink.written c.args.diag.now) (g.E.Sink.written c.tell_number.new.diag) (g.E.Sink.faults c.args.diag.now) (g.E.Sink.faults c.tell_number.new.diag) (fault_line f))
    (sym c.in-UnknownWord.is) c.tell_number.ensures

pub returns-in-Repeated : goal.returns-in-Repeated
unfolding fault_line
returns-in-Repeated g c =
    subst (λ f. Tells (g.E.Sink.written c.args.diag.now) (g.E.Sink.written c.tell_number-in-Repeated.new.diag) (g.E.Sink.faults c.args.diag.now) (g.E.Sink.faults c.tell_number-in-Repeated.new.diag) (fault_line f))
    (sym c.in-Repeated.is) c.tell_number-in-Repeated.ensures

pub returns-in-MissingValue : goal.returns-in-MissingValue
unfolding fault_line
returns-in-MissingValue g c =
    subst (λ f. Tells (g.E.Sink.written c.args.diag.now) (g.E.Sink.written c.tell_number-in-MissingValue.new.diag) (g.E.Sink.faults c.args.diag.now) (g.E.Sink.faults c.tell_number-in-MissingValue.new.diag) (fault_line f))
    (sym c.in-MissingValue.is) c.tell_number-in-MissingValue.ensures

pub returns-in-BadSetting : goal.returns-in-BadSetting
unfolding fault_line
returns-in-BadSetting g c =
    subst (λ f. Tells (g.E.Sink.written c.args.diag.now) (g.E.Sink.written c.tell_number-in-BadSetting.new.diag) (g.E.Sink.faults c.args.diag.now) (g.E.Sink.faults c.tell_number-in-BadSetting.new.diag) (fault_line f))
    (sym c.in-BadSetting.is) c.tell_number-in-BadSetting.ensures

pub returns-in-NotForThis : goal.returns-in-NotForThis
unfolding fault_line
returns-in-NotForThis g c =
    subst (λ f. Tells (g.E.Sink.written c.args.diag.now) (g.E.Sink.written c.tell_number-in-NotForThis.new.diag) (g.E.Sink.faults c.args.diag.now) (g.E.Sink.faults c.tell_number-in-NotForThis.new.diag) (fault_line f))
    (sym c.in-NotForThis.is) c.tell_number-in-NotForThis.ensures

pub returns-in-FileCount : goal.returns-in-FileCount
unfolding fault_line
returns-in-FileCount g c =
    subst (λ f. Tells (g.E.Sink.written c.args.diag.now) (g.E.Sink.written c.tell_number-in-FileCount.new.diag) (g.E.Sink.faults c.args.diag.now) (g.E.Sink.faults c.tell_number-in-FileCount.new.diag) (fault_line f))
    (sym c.in-FileCount.is) c.tell_number-in-FileCount.ensures
