-- The exit status of each way to end.
use Rattle.std.specs.Prelude.{ℕ}
use Rattle.vata_core.specs.declared.status.Status.{Status}
use Rattle.vata_core.specs.declared.status.Status.TheVariants.{Done, No, Usage, Undecided, Syntax, Limit, ReadFault, WriteFault, Memory}

abbrev pub number_of : Status → ℕ
number_of Done = 0
number_of No = 1
number_of Usage = 2
number_of Undecided = 3
number_of Syntax = 4
number_of Limit = 5
number_of ReadFault = 6
number_of WriteFault = 7
number_of Memory = 8
