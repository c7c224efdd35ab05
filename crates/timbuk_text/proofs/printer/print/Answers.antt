use Rattle.std.proofs.Common.{Vec, Global, ℕ}
use Rattle.timbuk_text.proofs.Printed.{spells_as}
use Rattle.timbuk_text.proofs.printer.print.Goals as goal

pub returns-clause-spells : goal.returns-clause-spells
returns-clause-spells c = spells_as (λ (v : Vec ℕ Global). v.items) c.args.a.now c.canonical_text.result c.canonical_text.ensures.text c.canonical_text.ensures.small c.canonical_text.ensures.listed
