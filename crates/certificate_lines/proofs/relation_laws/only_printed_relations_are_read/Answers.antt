use Rattle.certificate_lines.proofs.RelationInverse.{relation_inverse}
use Rattle.certificate_lines.proofs.relation_laws.only_printed_relations_are_read.Goals as goal

pub returns : goal.returns
returns c = relation_inverse
