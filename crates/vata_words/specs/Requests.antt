-- What a whole line asks for.
use Rattle.std.specs.Prelude.{ℕ, ◌+◌, ◌≤◌, ◌<◌, Bool, false, ◌==◌, List, [], ◌∷◌, Option, None, Some, is_some, if◌then◌else◌, Result, Ok, Err, unwrap_or, min, length}
use Rattle.vata_words.specs.Commands.{arguments_of, takes_trim, takes_settings}
use Rattle.vata_words.specs.Parts.{Word, parts, begins_with_dash}
use Rattle.vata_words.specs.Reading.{nothing_given, with_parts, unless_fault}
use Rattle.vata_words.specs.declared.request.Dir.{Dir}
use Rattle.vata_words.specs.declared.request.Dir.TheVariants.{Up, Down}
use Rattle.vata_words.specs.declared.request.Encoding.{Encoding}
use Rattle.vata_words.specs.declared.request.Encoding.TheVariants.{Expl}
use Rattle.vata_words.specs.declared.request.Request.{Request}
use Rattle.vata_words.specs.declared.request.Request.TheVariants as asks
use Rattle.vata_words.specs.declared.request.CheckRequest.{CheckRequest}
use Rattle.vata_words.specs.declared.request.WordFault.{WordFault}
use Rattle.vata_words.specs.declared.request.WordFault.TheVariants.{NoCommand, UnknownWord, BadSetting, NotForThis, FileCount}
use Rattle.vata_words.specs.declared.command.Command.{Command}
use Rattle.vata_words.specs.declared.command.Command.TheVariants.{Load, Union, Isect, Sim, Red, Incl, Bench}
use Rattle.vata_words.specs.declared.settings.Settings.{Settings}
use Rattle.vata_words.specs.declared.given.Given.{Given}

-- the place of the trim flag, where the command has none
abbrev pub misplaced_trim : Command → Option ℕ → Option ℕ
misplaced_trim command trim = if takes_trim command then None else trim

-- the place of the settings flag, where one of its settings isn't for the command
abbrev pub misplaced_settings : Command → Option (ℕ × Settings) → Option ℕ
misplaced_settings command None = None
misplaced_settings command (Some placed) = if takes_settings command placed.1 then None else Some placed.0

-- the lesser of the places that there are
abbrev pub least : Option ℕ → Option ℕ → Option ℕ
least None other = other
least (Some place) None = Some place
least (Some place) (Some other) = Some (min place other)

-- the least place of a flag that isn't for the command
abbrev pub misplaced : Command → Given → Option ℕ
misplaced command given = least (misplaced_trim command given.trim) (misplaced_settings command given.settings)

-- `expl` unless `-r` says otherwise
abbrev pub encoding_in : Given → Encoding
encoding_in given = unwrap_or given.encoding Expl

-- the direction of the settings, or else the usual one
abbrev pub dir_in : Dir → Option (ℕ × Settings) → Dir
dir_in usual None = usual
dir_in usual (Some placed) = unwrap_or placed.1.dir usual

-- `sim=yes` stands in the settings
abbrev pub sim_in : Option (ℕ × Settings) → Bool
sim_in None = false
sim_in (Some placed) = unwrap_or placed.1.sim false

-- the budget of the settings, or else 100,000
abbrev pub budget_in : Option (ℕ × Settings) → ℕ
budget_in None = 100000
budget_in (Some placed) = unwrap_or placed.1.budget 100000

-- the bench over the number of its argument
abbrev pub bench_of : Given → Option ℕ → Result Request WordFault
bench_of given None = Err (BadSetting (given.first + 1))
bench_of given (Some n) = Ok (asks.Bench (encoding_in given) n)

-- what the command asks for, with its flags and as many arguments as it takes
abbrev pub asked : Command → Given → Result Request WordFault
asked Load given = Ok (asks.Load (encoding_in given) (is_some given.trim) given.first)
asked Union given = Ok (asks.Union (encoding_in given) (is_some given.trim) given.first given.second)
asked Isect given = Ok (asks.Isect (encoding_in given) (is_some given.trim) given.first given.second)
asked Sim given = Ok (asks.Sim (encoding_in given) (dir_in Down given.settings) given.first)
asked Red given = Ok (asks.Red (encoding_in given) given.first)
asked Incl given = Ok (asks.Incl (encoding_in given) (dir_in Up given.settings) (sim_in given.settings) (budget_in given.settings) given.first given.second)
asked Bench given = bench_of given given.number

-- the request, unless a flag at this place isn't for the command or the arguments are of another number
abbrev pub asked_unless : Option ℕ → Command → Given → Result Request WordFault
asked_unless (Some at) command given = Err (NotForThis at)
asked_unless None command given = if given.arguments == arguments_of command then asked command given else Err (FileCount given.arguments)

-- the request of the command, if there is one
abbrev pub asked_by : Option Command → Given → Result Request WordFault
asked_by None given = Err NoCommand
asked_by (Some command) given = asked_unless (misplaced command given) command given

-- the request of a line, or its fault
abbrev pub request_in : List Word → Result Request WordFault
request_in words = unless_fault (λ given. asked_by given.command given) (with_parts nothing_given (parts 0 words))

-- each file is one of so many words, a budget is from 1 to 1,000,000, and the number of a bench from 1 to 10,000
abbrev pub FitsLine : ℕ → Request → Type 0
FitsLine count (asks.Load encoding trim file) = file < count
FitsLine count (asks.Union encoding trim first second) = (first < count) × (second < count)
FitsLine count (asks.Isect encoding trim first second) = (first < count) × (second < count)
FitsLine count (asks.Sim encoding dir file) = file < count
FitsLine count (asks.Red encoding file) = file < count
FitsLine count (asks.Incl encoding dir sim budget first second) = (1 ≤ budget) × (budget ≤ 1000000) × (first < count) × (second < count)
FitsLine count (asks.Bench encoding n) = (1 ≤ n) × (n ≤ 10000)

-- the first place from this one on of a word that begins with a dash
abbrev pub dash_from : ℕ → List Word → Option ℕ
dash_from at [] = None
dash_from at (word ∷ rest) = if begins_with_dash word then Some at else dash_from (at + 1) rest

-- the check of three words, unless a word at this place is unknown
abbrev pub check_unless : Option ℕ → ℕ → Result CheckRequest WordFault
check_unless (Some at) count = Err (UnknownWord at)
check_unless None count = if count == 3 then Ok (record { first = 0; second = 1; certificate = 2 }) else Err (FileCount count)

-- the check that a line asks for, or its fault
abbrev pub check_request_in : List Word → Result CheckRequest WordFault
check_request_in words = check_unless (dash_from 1 words) (length words)
