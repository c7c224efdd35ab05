use Rattle.std.proofs.Common.{◌≡◌, ◌++◌, ◌<◌, take}
use Rattle.std.specs.Prelude.{codes, All}
use Rattle.std.specs.List.{flat_map}
use Rattle.timbuk_definitions.specs.Printed.{blank, op_text}
use Rattle.timbuk_text.proofs.printer.put_ops.Given as goal

abbrev pub invariant-loop-symbol : goal.invariant-loop-symbol
invariant-loop-symbol l = record {
  text : l.out.items ≡ l.fn.out.items ++ (codes "Ops" ++ flat_map (λ s. blank (op_text s)) (take l.symbol-index l.symbols));
  small : All (λ s. s.rank < 256) (take l.symbol-index l.symbols);
}
