use Rattle.vata_core.proofs.Answered.{product_reply}
use Rattle.vata_core.proofs.answering.intersected.Goals as goal

pub returns-clause-ok : goal.returns-clause-ok
returns-clause-ok c =
    let p = c.in_ok-p.ensures.ok in
    let h = c.in_ok-text.ensures in
    product_reply c.args.trim c.args.a.now c.args.b.now p.0 c.in_ok-p.p h.0 c.in_ok-text.text p.1 p.2 c.in_ok-p.ensures.within h.1 h.2 h.3
