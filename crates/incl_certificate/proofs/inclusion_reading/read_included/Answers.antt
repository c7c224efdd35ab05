use Rattle.std.proofs.Common.{sym, ◌∙◌}
use Rattle.incl_certificate.specs.Text.{up_line, down_line}
use Rattle.incl_certificate.proofs.Included.{down_whole, first_within, line_within, up_whole}
use Rattle.incl_certificate.proofs.inclusion_reading.read_included.Goals as goal

pub stands-requires : goal.stands-requires
stands-requires c = first_within c.args.text.now c.requires.line

pub read_up-requires-clause-from : goal.read_up-requires-clause-from
read_up-requires-clause-from c = line_within c.args.text.now up_line c.requires.line (sym c.stands.ensures ∙ c.if-stands.true)

pub returns-then-stands-clause-text : goal.returns-then-stands-clause-text
returns-then-stands-clause-text c = up_whole c.args.a.now c.args.b.now c.args.text.now c.requires.line c.read_up.result (sym c.stands.ensures ∙ c.if-stands.true) c.read_up.ensures.text

pub stands-requires-2 : goal.stands-requires-2
stands-requires-2 c = first_within c.args.text.now c.requires.line

pub read_down-requires-clause-from : goal.read_down-requires-clause-from
read_down-requires-clause-from c = line_within c.args.text.now down_line c.requires.line (sym c.stands-2.ensures ∙ c.if-stands-2.true)

pub returns-then-stands-2-clause-text : goal.returns-then-stands-2-clause-text
returns-then-stands-2-clause-text c = down_whole c.args.a.now c.args.b.now c.args.text.now c.requires.line c.read_down.result (sym c.stands-2.ensures ∙ c.if-stands-2.true) c.read_down.ensures.text
