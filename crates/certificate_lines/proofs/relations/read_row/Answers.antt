use Rattle.std.proofs.Common.{◌≡◌, true, false, [], length, sym, ap, ◌∙◌, arith}
use Rattle.certificate_lines.proofs.Judging.{row_from_length, row_right, row_wrong}
use Rattle.certificate_lines.proofs.relations.read_row.Goals as goal

pub spells-requires : goal.spells-requires
spells-requires c =
    let e = ap length c.in-Ok.ensures in
    let long = row_from_length c.args.n c.args.line.now in
    let few = c.requires in
    omega (arith, e, long, few)

pub returns-then-not-spells : goal.returns-then-not-spells
returns-then-not-spells c =
    row_wrong c.args.n [] c.args.at c.args.line.now c.in-Ok.row c.in-Ok.ensures (λ e. let t : false ≡ true = sym c.if-not-spells.true ∙ c.spells.ensures.1 e in absurd cc)

pub returns : goal.returns
returns c = row_right c.args.n [] c.args.at c.args.line.now c.in-Ok.row c.in-Ok.ensures (c.spells.ensures.0 c.if-not-spells.false)
