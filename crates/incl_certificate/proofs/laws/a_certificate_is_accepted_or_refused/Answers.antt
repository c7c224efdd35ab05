use Rattle.incl_certificate.proofs.Decided.{fails_nowhere, one_verdict}
use Rattle.incl_certificate.proofs.laws.a_certificate_is_accepted_or_refused.Goals as goal

pub returns : goal.returns
returns c = record { never_both = fails_nowhere; one_verdict = one_verdict }
