-- The lines that tell why a run has no answer.
use Rattle.std.specs.Prelude.{◌⊎◌, ℕ, ◌+◌, List, ◌++◌, codes}
use Rattle.std.specs.declared.option.Option.{Option}
use Rattle.std.specs.Fmt.{decimal}
use Rattle.std.specs.Io.KnownBytes.{Appends}
use Rattle.vata_outside.specs.Outside.{AppendsPrefix, Rose}
use Rattle.vata_core.specs.declared.measure.Measure.{Measure}
use Rattle.vata_core.specs.declared.measure.Measure.TheVariants as measure
use Rattle.timbuk_definitions.specs.Place.{Limit, Names, Rank, Symbols, States, Rules}

-- files are numbered from 1 in a line
abbrev pub file_number : ℕ → List ℕ
file_number place = decimal (place + 1)

unfoldable pub syntax_line : ℕ → ℕ → List ℕ
syntax_line place at = codes "syntax: file " ++ file_number place ++ codes " at " ++ decimal at ++ codes "\n"

-- the third file is the certificate
unfoldable pub name_line : ℕ → List ℕ
name_line at = codes "name: file 3 at " ++ decimal at ++ codes "\n"

unfoldable pub bytes_line : ℕ → List ℕ
bytes_line place = codes "limit: file " ++ file_number place ++ codes " bytes\n"

unfoldable pub limit_words : Limit → List ℕ
limit_words Names = codes " names at "
limit_words Rank = codes " rank at "
limit_words Symbols = codes " symbols at "
limit_words States = codes " states at "
limit_words Rules = codes " rules at "

unfoldable pub limit_line : ℕ → Limit → ℕ → List ℕ
limit_line place what at = codes "limit: file " ++ file_number place ++ limit_words what ++ decimal at ++ codes "\n"

-- the line for each measure of a command
unfoldable pub measure_line : Measure → List ℕ
measure_line measure.Symbols = codes "limit: symbols\n"
measure_line measure.Pairs = codes "limit: pairs\n"
measure_line measure.Rules = codes "limit: rules\n"
measure_line measure.Relation = codes "limit: relation\n"

unfoldable pub read_line : ℕ → List ℕ
read_line place = codes "read fault: file " ++ file_number place ++ codes "\n"

unfoldable pub write_line : List ℕ
write_line = codes "write fault\n"

unfoldable pub memory_line : List ℕ
memory_line = codes "memory\n"

-- the line was written whole, or after a fault a prefix of it
pub record Tells (old new : Option (List ℕ)) (before now : ℕ) (line : List ℕ) : Type 0 where
  pub whole : Appends old new line ⊎ Rose before now
  pub part : AppendsPrefix old new line
