use Rattle.certificate_lines.proofs.RelationBack.{relation_read_back}
use Rattle.certificate_lines.proofs.relation_laws.printed_relations_are_read_back.Goals as goal

pub returns : goal.returns
returns c = relation_read_back
