-- The lines for words that ask for nothing that can be done. Places of words are printed from 1.
use Rattle.std.specs.Prelude.{ℕ, List, ◌++◌, codes}
use Rattle.std.specs.Fmt.{decimal}
use Rattle.vata_words.specs.declared.request.WordFault.{WordFault}
use Rattle.vata_words.specs.declared.request.WordFault.TheVariants.{NoCommand, UnknownWord, Repeated, MissingValue, BadSetting, NotForThis, FileCount}

unfoldable pub not_built_line : List ℕ
not_built_line = codes "usage: not built yet\n"

unfoldable pub fault_line : WordFault → List ℕ
fault_line NoCommand = codes "usage: no command\n"
fault_line (UnknownWord at) = codes "usage: unknown word " ++ decimal at ++ codes "\n"
fault_line (Repeated at) = codes "usage: repeated " ++ decimal at ++ codes "\n"
fault_line (MissingValue at) = codes "usage: missing value " ++ decimal at ++ codes "\n"
fault_line (BadSetting at) = codes "usage: bad setting " ++ decimal at ++ codes "\n"
fault_line (NotForThis at) = codes "usage: not for this command " ++ decimal at ++ codes "\n"
fault_line (FileCount found) = codes "usage: wrong number of files " ++ decimal found ++ codes "\n"
