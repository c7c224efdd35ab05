use Rattle.std.proofs.Common.{arith}
use Rattle.incl_certificate.proofs.certificate.entries_fit.Goals as goal

pub returns-then-entries-budget : goal.returns-then-entries-budget
returns-then-entries-budget c = (
  λ yes. record {
    some = omega (arith, c.if-budget-lt1.false);
    few = omega (arith, c.if-budget-gt1000000.false);
    count = c.if-entries-budget.true;
    fitting = c.each_entry_fits.ensures.0 yes;
  },
  λ all. c.each_entry_fits.ensures.1 all.fitting,
)
