use Rattle.certificate_lines.proofs.PairReadBack.{printed_pairs_back}
use Rattle.certificate_lines.proofs.pair_laws.printed_pairs_are_read_back.Goals as goal

pub returns : goal.returns
returns c = printed_pairs_back
