-- What the parts of a line give, and the first fault among them.
use Rattle.std.specs.Prelude.{ℕ, ◌+◌, ◌≤◌, ◌<◌, ⊤, Bool, ◌==◌, List, [], ◌∷◌, codes, bytes_eq, Option, None, Some, is_some, if◌then◌else◌, Result, Ok, Err}
use Rattle.vata_words.specs.Numbers.{number_up_to, IsFrom1To}
use Rattle.vata_words.specs.Settings.{settings_of}
use Rattle.vata_words.specs.Commands.{command_of}
use Rattle.vata_words.specs.Parts.{Word, Part, flag, other, begins_with_dash}
use Rattle.vata_words.specs.declared.request.Encoding.{Encoding}
use Rattle.vata_words.specs.declared.request.Encoding.TheVariants.{Expl, Bdd}
use Rattle.vata_words.specs.declared.request.WordFault.{WordFault}
use Rattle.vata_words.specs.declared.request.WordFault.TheVariants.{UnknownWord, Repeated, MissingValue, BadSetting}
use Rattle.vata_words.specs.declared.command.Command.{Command}
use Rattle.vata_words.specs.declared.settings.Settings.{Settings}
use Rattle.vata_words.specs.declared.given.Flag.{Flag}
use Rattle.vata_words.specs.declared.given.Flag.TheVariants as flag_is
use Rattle.vata_words.specs.declared.given.Given.{Given}

-- before the first word
abbrev pub nothing_given : Given
nothing_given = record { trim = None; encoding = None; settings = None; command = None; arguments = 0; first = 0; second = 0; number = None }

-- the flag stood before
abbrev pub stood : Given → Flag → Bool
stood given flag_is.Trim = is_some given.trim
stood given flag_is.Encoding = is_some given.encoding
stood given flag_is.Settings = is_some given.settings

-- the encoding that a word names
abbrev pub encoding_of : Word → Option Encoding
encoding_of word = if bytes_eq word (codes "expl") then Some Expl else if bytes_eq word (codes "bdd") then Some Bdd else None

-- the encoding that the word after this place is to name
abbrev pub with_encoding : Given → ℕ → Option Encoding → Result Given WordFault
with_encoding given at None = Err (BadSetting (at + 2))
with_encoding given at (Some encoding) = Ok (record given { encoding = Some encoding })

-- the settings that the word after this place is to hold
abbrev pub with_settings : Given → ℕ → Option Settings → Result Given WordFault
with_settings given at None = Err (BadSetting (at + 2))
with_settings given at (Some settings) = Ok (record given { settings = Some (at + 1, settings) })

-- a flag that stands at a place for the first time, with its value
abbrev pub with_flag : Given → ℕ → Flag → Option Word → Result Given WordFault
with_flag given at flag_is.Trim value = Ok (record given { trim = Some (at + 1) })
with_flag given at flag_is.Encoding None = Err (MissingValue (at + 1))
with_flag given at flag_is.Encoding (Some value) = with_encoding given at (encoding_of value)
with_flag given at flag_is.Settings None = Err (MissingValue (at + 1))
with_flag given at flag_is.Settings (Some value) = with_settings given at (settings_of value)

-- the command that the word at this place is to name
abbrev pub with_command : Given → ℕ → Option Command → Result Given WordFault
with_command given at None = Err (UnknownWord (at + 1))
with_command given at (Some command) = Ok (record given { command = Some command })

-- one more argument. Of the first two the places are kept, and of the first the number that it spells
abbrev pub with_argument : Given → ℕ → Word → Given
with_argument given at word =
    if given.arguments == 0 then record given { arguments = given.arguments + 1; first = at; number = number_up_to 10000 word }
    else if given.arguments == 1 then record given { arguments = given.arguments + 1; second = at }
    else record given { arguments = given.arguments + 1 }

-- a word that is no flag and no value: the first is the command, the later ones are its arguments
abbrev pub with_other : Given → ℕ → Word → Result Given WordFault
with_other given at word =
    if begins_with_dash word then Err (UnknownWord (at + 1))
    else if is_some given.command then Ok (with_argument given at word)
    else with_command given at (command_of word)

-- what is given once this part is read too
abbrev pub with_part : Given → Part → Result Given WordFault
with_part given (flag at which value) = if stood given which then Err (Repeated (at + 1)) else with_flag given at which value
with_part given (other at word) = with_other given at word

-- what follows from a value, unless there is a fault
abbrev pub unless_fault : {X Y : Type 0} → (X → Result Y WordFault) → Result X WordFault → Result Y WordFault
unless_fault next (Err fault) = Err fault
unless_fault next (Ok x) = next x

-- what is given once these parts are read too, or the first fault among them
abbrev pub with_parts : Given → List Part → Result Given WordFault
with_parts given [] = Ok given
with_parts given (part ∷ rest) = unless_fault (λ now. with_parts now rest) (with_part given part)

-- the budget of the settings, if there are any, is within its limit
abbrev pub HasGoodBudget : Option (ℕ × Settings) → Type 0
HasGoodBudget None = ⊤
HasGoodBudget (Some placed) = IsFrom1To 1000000 placed.1.budget

-- so many words give this: the arguments are among them, and the numbers keep within their limits
abbrev pub IsWithin : Given → ℕ → Type 0
IsWithin given read =
    (given.arguments ≤ read)
    × (given.first ≤ read)
    × (1 ≤ given.arguments → given.first < read)
    × (2 ≤ given.arguments → given.second < read)
    × IsFrom1To 10000 given.number
    × HasGoodBudget given.settings
