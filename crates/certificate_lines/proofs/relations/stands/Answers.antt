use Rattle.certificate_lines.proofs.Starts.{begins_with_both, begins_otherwise}
use Rattle.certificate_lines.proofs.relations.stands.Goals as goal

pub returns : goal.returns
returns c = begins_with_both c.args.word.now c.args.end.now c.args.text.now c.args.at c.starts_with.result c.starts_with-2.result c.starts_with.ensures.value c.if-not-starts_with.false c.starts_with-2.ensures.value

pub returns-then-not-starts_with : goal.returns-then-not-starts_with
returns-then-not-starts_with c = begins_otherwise c.args.word.now c.args.end.now c.args.text.now c.args.at c.starts_with.result c.starts_with.ensures.value c.if-not-starts_with.true
