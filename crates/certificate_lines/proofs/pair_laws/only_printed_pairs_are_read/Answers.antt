use Rattle.certificate_lines.proofs.PairInverse.{pairs_inverse}
use Rattle.certificate_lines.proofs.pair_laws.only_printed_pairs_are_read.Goals as goal

pub returns : goal.returns
returns c = pairs_inverse
