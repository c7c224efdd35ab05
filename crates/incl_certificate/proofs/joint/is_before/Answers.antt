use Rattle.incl_certificate.proofs.Merging.{before_found, before_none}
use Rattle.incl_certificate.proofs.joint.is_before.Goals as goal

pub returns-in-Some : goal.returns-in-Some
returns-in-Some c = before_found c.args.nodes.now.symbols c.args.count c.in-Some.i c.args.symbol.now c.in-Some.ensures.list.distinct c.in-Some.ensures.found

pub returns-in-None : goal.returns-in-None
returns-in-None c = before_none c.args.nodes.now.symbols c.args.count c.args.symbol.now c.in-None.ensures.none
