use Rattle.std.proofs.Common.{◌≡◌, length}
use Rattle.std.specs.Prelude.{All}
use Rattle.simulations.proofs.symbols.empty_rows.Given as goal

abbrev pub invariant-loop : goal.invariant-loop
invariant-loop l = record {
  count : length l.rows.items ≡ l.counter;
  long : All (λ row. length row ≡ l.n) l.rows.items;
}
