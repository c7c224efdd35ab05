use Rattle.std.proofs.Common.{refl}
use Rattle.incl_certificate.proofs.Trailing.{fits_all, fits_next}
use Rattle.incl_certificate.proofs.certificate.each_entry_fits.Goals as goal

pub loop-place-preserved : goal.loop-place-preserved
loop-place-preserved c =
    fits_next c.args.a.now c.args.b.now c.args.entries.now c.loop-place.place c.index-entries-place.result c.loop-place-test.true c.index-entries-place.is c.loop-place.invariant
    (c.entry_fits.ensures.0 c.if-not-entry_fits.false)

pub returns : goal.returns
returns c = (λ yes. fits_all c.args.a.now c.args.b.now c.args.entries.now c.loop-place.place c.loop-place-test.false c.loop-place.invariant, λ all. refl)
