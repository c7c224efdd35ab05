-- What the words of a command line ask for.
use Rattle.std.specs.Prelude.{ℕ, List, [], ◌∷◌, Option, None, Some, Result, Ok, Err, unwrap_or, slice_get}
use Rattle.vata_words.specs.Requests.{request_in}
use Rattle.vata_words.specs.declared.request.Encoding.{Encoding}
use Rattle.vata_words.specs.declared.request.Encoding.TheVariants.{Expl, Bdd}
use Rattle.vata_words.specs.declared.request.Dir.{Dir}
use Rattle.vata_words.specs.declared.request.Dir.TheVariants.{Up, Down}
use Rattle.vata_words.specs.declared.request.Request.TheVariants as asks
use Rattle.vata_words.specs.declared.request.Request.{Request as Asked}
use Rattle.vata_words.specs.declared.request.WordFault.{WordFault}
use Rattle.vata_core.specs.declared.words.UnaryCommand.{UnaryCommand}
use Rattle.vata_core.specs.declared.words.UnaryCommand.TheVariants.{Load, Sim, Red}
use Rattle.vata_core.specs.declared.words.BinaryCommand.{BinaryCommand}
use Rattle.vata_core.specs.declared.words.BinaryCommand.TheVariants.{Union, Isect, Incl}
use Rattle.vata_core.specs.Usage.{fault_line, not_built_line}

-- a command, and the names of the one or two files whose automata it is about
pub data Request : Type 0 where
  Unary : (command : UnaryCommand) (file : List ℕ) → Request
  Binary : (command : BinaryCommand) (first second : List ℕ) → Request

-- the names of the files that are read, in order
abbrev pub files_of : Request → List (List ℕ)
files_of (Unary command file) = file ∷ []
files_of (Binary command first second) = first ∷ second ∷ []

-- the word at a place
abbrev pub word_at : List (List ℕ) → ℕ → List ℕ
word_at words place = unwrap_or (slice_get words place) []

-- requests are built for rules that are kept explicitly
abbrev pub when_explicit : Encoding → Request → Option Request
when_explicit Expl request = Some request
when_explicit Bdd request = None

-- inclusion is built for a search upward
abbrev pub when_upward : Dir → Option Request → Option Request
when_upward Up request = request
when_upward Down request = None

-- what is built of what may be asked for
abbrev pub built : List (List ℕ) → Asked → Option Request
built words (asks.Load encoding trim file) = when_explicit encoding (Unary (Load trim) (word_at words file))
built words (asks.Union encoding trim first second) = when_explicit encoding (Binary (Union trim) (word_at words first) (word_at words second))
built words (asks.Isect encoding trim first second) = when_explicit encoding (Binary (Isect trim) (word_at words first) (word_at words second))
built words (asks.Sim encoding dir file) = when_explicit encoding (Unary (Sim dir) (word_at words file))
built words (asks.Red encoding file) = when_explicit encoding (Unary Red (word_at words file))
built words (asks.Incl encoding dir sim budget first second) =
    when_upward dir (when_explicit encoding (Binary (Incl dir sim budget) (word_at words first) (word_at words second)))
built words (asks.Bench encoding n) = None

abbrev pub granted : List (List ℕ) → Result Asked WordFault → Option Request
granted words (Ok asked) = built words asked
granted words (Err fault) = None

-- what the words ask for, if it is built
unfoldable pub request_of : List (List ℕ) → Option Request
request_of words = granted words (request_in words)

abbrev pub refusal_of : Result Asked WordFault → List ℕ
refusal_of (Ok asked) = not_built_line
refusal_of (Err fault) = fault_line fault

-- the line for words that ask for nothing that is built
unfoldable pub usage_line : List (List ℕ) → List ℕ
usage_line words = refusal_of (request_in words)
