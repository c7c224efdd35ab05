use Rattle.incl_certificate.proofs.ReadBack.{printed_back}
use Rattle.incl_certificate.proofs.laws.printed_certificates_are_read_back.Goals as goal

pub returns : goal.returns
returns c = printed_back
