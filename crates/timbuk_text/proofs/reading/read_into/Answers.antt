use Rattle.std.proofs.Common.{◌≡◌, true, false, length, sym, ◌∙◌, subst, arith}
use Rattle.timbuk_definitions.specs.Machine.{IsEnd}
use Rattle.timbuk_definitions.specs.Place.{IsBadPlace, PassesNoLimit}
use Rattle.timbuk_text.specs.declared.error.TextError.{TextError}
use Rattle.timbuk_text.specs.declared.table.Stand.{Stand}
use Rattle.timbuk_text.specs.Store.{store_of}
use Rattle.timbuk_text.specs.Table.{IsEnding}
use Rattle.timbuk_text.specs.Reading.{IsReading}
use Rattle.timbuk_text.proofs.Stopped.{error_passed}
use Rattle.timbuk_text.proofs.Turned.{begins_reading, end_bad, end_spells, end_listed, ending_from, ending_to}
use Rattle.timbuk_text.proofs.reading.read_into.Goals as goal

pub loop-at-init : goal.loop-at-init
loop-at-init c = record {
  within = omega arith;
  reading = subst (IsReading c.args.text.now c.gap_end-at.result Stand.Start) (sym c.requires) (begins_reading c.args.text.now c.gap_end-at.result c.gap_end-at.ensures.gap c.gap_end-at.ensures.solid);
}

pub returns-in_err-at-clause-syntax : goal.returns-in_err-at-clause-syntax
returns-in_err-at-clause-syntax c p e = c.in_err-at.ensures.syntax p (error_passed c.from_residual.result c.in_err-at.field-0.0 (TextError.Syntax p) c.from_residual.ensures e)

pub returns-then-not-may_end-clause-syntax : goal.returns-then-not-may_end-clause-syntax
returns-then-not-may_end-clause-syntax c p e =
    let r = c.loop-at.invariant.reading in
    let none : ¬ IsEnd r.spot = λ h.
    let may : c.may_end.result ≡ true = c.may_end.ensures.1 (subst IsEnding (sym r.stands) (ending_from r.spot h)) in
    let both : true ≡ false = sym may ∙ c.if-not-may_end.true in
    cc in
    let here : length c.args.text.now ≡ p = cc e in
    subst (λ q. IsBadPlace c.args.text.now q × PassesNoLimit c.args.text.now) here (end_bad c.args.text.now c.loop-at.at c.loop-at.stand (store_of c.loop-at.tables) r c.loop-at-test.false none)

pub returns-clause-listed : goal.returns-clause-listed
returns-clause-listed c =
    let r = c.loop-at.invariant.reading in
    end_listed c.args.text.now c.loop-at.at c.loop-at.stand (store_of c.loop-at.tables) r c.loop-at-test.false
    (ending_to r.spot (subst IsEnding r.stands (c.may_end.ensures.0 c.if-not-may_end.false)))

pub returns-clause-ok : goal.returns-clause-ok
returns-clause-ok c =
    let r = c.loop-at.invariant.reading in
    end_spells c.args.text.now c.loop-at.at c.loop-at.stand (store_of c.loop-at.tables) r c.loop-at-test.false
    (ending_to r.spot (subst IsEnding r.stands (c.may_end.ensures.0 c.if-not-may_end.false)))
