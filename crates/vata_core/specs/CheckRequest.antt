-- What the words of a command line ask of the checker.
use Rattle.std.specs.Prelude.{ℕ, List, [], ◌∷◌, Option, None, Some, Result, Ok, Err}
use Rattle.vata_words.specs.Requests.{check_request_in}
use Rattle.vata_words.specs.declared.request.CheckRequest.{CheckRequest as Asked}
use Rattle.vata_words.specs.declared.request.WordFault.{WordFault}
use Rattle.vata_core.specs.Request.{word_at}
use Rattle.vata_core.specs.Usage.{fault_line}

-- check a certificate against two automata, each read from the file of this name
pub record CheckRequest : Type 0 where
  pub first : List ℕ
  pub second : List ℕ
  pub certificate : List ℕ

-- the names of the files that hold automata
abbrev pub automata_of : CheckRequest → List (List ℕ)
automata_of r = r.first ∷ r.second ∷ []

-- the names of the files that are read, in order
abbrev pub all_of : CheckRequest → List (List ℕ)
all_of r = r.first ∷ r.second ∷ r.certificate ∷ []

abbrev pub named : List (List ℕ) → Result Asked WordFault → Option CheckRequest
named words (Ok asked) = Some (record { first = word_at words asked.first; second = word_at words asked.second; certificate = word_at words asked.certificate })
named words (Err fault) = None

-- the check that the words ask for, if they ask for one
unfoldable pub check_request_of : List (List ℕ) → Option CheckRequest
check_request_of words = named words (check_request_in words)

abbrev pub check_refusal_of : Result Asked WordFault → List ℕ
check_refusal_of (Ok asked) = []
check_refusal_of (Err fault) = fault_line fault

-- the line for words that ask for no check
unfoldable pub check_usage_line : List (List ℕ) → List ℕ
check_usage_line words = check_refusal_of (check_request_in words)
