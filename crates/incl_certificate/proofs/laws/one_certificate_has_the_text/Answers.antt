use Rattle.incl_certificate.proofs.Decided.{one_text, said_fails, said_holds}
use Rattle.incl_certificate.proofs.laws.one_certificate_has_the_text.Goals as goal

pub returns : goal.returns
returns c = record { said = one_text; holds = said_holds; fails = said_fails }
