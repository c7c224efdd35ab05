use Rattle.vata_core.proofs.Answered.{union_reply}
use Rattle.vata_core.proofs.answering.united.Goals as goal

pub returns-clause-ok : goal.returns-clause-ok
returns-clause-ok c =
    let u = c.in_ok-u.ensures.ok in
    let h = c.in_ok-text.ensures in
    union_reply c.args.trim c.args.a.now c.args.b.now u.0 c.in_ok-u.u h.0 c.in_ok-text.text u.1 u.2 c.in_ok-u.ensures.within h.1 h.2 h.3
