use Rattle.certificate_lines.proofs.Identity.{identity_is}
use Rattle.certificate_lines.proofs.Judging.{said_identity}
use Rattle.certificate_lines.proofs.relations.read_relation.Goals as goal

pub returns-in-Ok-clause-judged : goal.returns-in-Ok-clause-judged
returns-in-Ok-clause-judged c =
    said_identity c.args.word.now c.args.n c.args.text.now c.args.at c.in-Ok.relation c.if-n-gt20000.false c.if-stands.ensures (identity_is c.in-Ok.relation c.args.n c.in-Ok.ensures.square c.in-Ok.ensures.pairs)
