use Rattle.std.proofs.Common.{length}
use Rattle.vata_words.proofs.Fits.{request_fits}
use Rattle.vata_words.proofs.reading.request_of.Goals as goal

pub returns-clause-fits : goal.returns-clause-fits
returns-clause-fits c =
    rw c.asked_by.ensures (request_fits c.in_ok-given_of.field-0.command c.in_ok-given_of.field-0 (length c.args.words.now) c.in_ok-given_of.ensures.within)
