use Rattle.std.proofs.Common.{sym, ◌∙◌}
use Rattle.incl_certificate.proofs.Undecided.{down_trail_whole, down_trail_within, trail_whole, trail_within, undecided_within}
use Rattle.incl_certificate.proofs.undecided_reading.read_undecided.Goals as goal

pub stands-requires : goal.stands-requires
stands-requires c = undecided_within c.args.text.now c.requires.line

pub read_up_trail-requires-clause-from : goal.read_up_trail-requires-clause-from
read_up_trail-requires-clause-from c = trail_within c.args.text.now c.requires.line (sym c.stands.ensures ∙ c.if-stands.true)

pub returns-then-stands-clause-text : goal.returns-then-stands-clause-text
returns-then-stands-clause-text c =
    trail_whole c.args.a.now c.args.b.now c.args.text.now c.read_up_trail.result c.requires.line (sym c.stands.ensures ∙ c.if-stands.true) c.read_up_trail.ensures.text

pub stands-requires-2 : goal.stands-requires-2
stands-requires-2 c = undecided_within c.args.text.now c.requires.line

pub read_down_trail-requires-clause-from : goal.read_down_trail-requires-clause-from
read_down_trail-requires-clause-from c = down_trail_within c.args.text.now c.requires.line (sym c.stands-2.ensures ∙ c.if-stands-2.true)

pub returns-then-stands-2-clause-text : goal.returns-then-stands-2-clause-text
returns-then-stands-2-clause-text c =
    down_trail_whole c.args.a.now c.args.b.now c.args.text.now c.read_down_trail.result c.requires.line (sym c.stands-2.ensures ∙ c.if-stands-2.true) c.read_down_trail.ensures.text
