use Rattle.std.proofs.Common.{◌<◌, ◌*◌, suc, refl, ap, sym, ◌∙◌, arith}
use Rattle.std.proofs.Math.Nat.{pow-succ'}
use Rattle.word_table.proofs.index.more_than.Goals as goal

pub returns-then-buckets-eq0-clause-power : goal.returns-then-buckets-eq0-clause-power
returns-then-buckets-eq0-clause-power c = (4, refl)

pub returns-else-buckets-eq0-clause-power : goal.returns-else-buckets-eq0-clause-power
returns-else-buckets-eq0-clause-power c =
    let some : 0 < c.args.buckets = omega (arith, c.if-buckets-eq0.false) in
    let power = c.requires.power some in
    (suc power.0, ap (λ n. 2 * n) power.1 ∙ sym (pow-succ' 2 power.0))
