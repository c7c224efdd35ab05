use Rattle.std.proofs.Common.{arith}
use Rattle.down_trails.proofs.Splitting.{length_entries}
use Rattle.incl_certificate.proofs.down_fitting.down_entries_fit.Goals as goal

pub returns-then-entries-budget : goal.returns-then-entries-budget
returns-then-entries-budget c = (
  λ yes. record {
    some = let l = c.if-budget-lt1.false in omega (arith, l);
    few = let l = c.if-budget-gt1000000.false in omega (arith, l);
    count = let n = length_entries c.args.entries.now in let e = c.if-entries-budget.true in omega (arith, n, e);
    fitting = c.each_fits.ensures.0 yes;
  },
  λ fits. c.each_fits.ensures.1 fits.fitting,
)
