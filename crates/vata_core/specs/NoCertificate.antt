-- What the files of the checker say where there is nothing to judge.
use Rattle.std.specs.Prelude.{◌≡◌, ℕ, ◌<◌, ◌≤◌, List, [], ◌∷◌, length}
use Rattle.std.specs.declared.option.Option.{Option}
use Rattle.vata_outside.specs.Outside.{File}
use Rattle.tree_definitions.specs.Automaton.{Automaton}
use Rattle.witness_trees.specs.Judged.{Verdict, BadAt, UnknownAt}
use Rattle.incl_certificate.specs.Text.{Said, judged_certificate}
use Rattle.vata_core.specs.CheckRequest.{CheckRequest, all_of, automata_of}
use Rattle.timbuk_definitions.specs.Place.{Limit}
use Rattle.vata_core.specs.Files.{AreSpelled, IsBadAt, IsOverAt, IsRefused, Told, most_bytes}
use Rattle.vata_core.specs.Lines.{bytes_line, limit_line, name_line, syntax_line}

abbrev pub IsTooLongAt : ℕ → List ℕ → Type 0
IsTooLongAt place bytes = most_bytes place < length bytes

-- reading the text for A and B comes to this end
pub record IsReadAs (A B : Automaton) (verdict : Verdict Said) (text : List ℕ) : Type 0 where
  pub short : length text ≤ 134217728
  pub judged : judged_certificate A B text ≡ verdict

-- the first two files spell automata, and reading the third for them comes to this end
pub record IsNoCertificate (files : Option (List File)) (request : CheckRequest) (verdict : Verdict Said) : Type 0 where
  pub first : Automaton
  pub second : Automaton
  pub spelled : AreSpelled files (automata_of request) (first ∷ second ∷ [])
  pub read : Told files request.certificate (IsReadAs first second verdict)

-- a file was read whole and gives no automaton, or no certificate; and the line that says so
pub data IsFaulty (files : Option (List File)) (request : CheckRequest) : List ℕ → Type 0 where
  NoAutomaton : (place at : ℕ) → IsRefused files (automata_of request) (IsBadAt at) place → IsFaulty files request (syntax_line place at)
  BadText : (at : ℕ) → IsNoCertificate files request (BadAt at) → IsFaulty files request (syntax_line 2 at)
  UnknownName : (at : ℕ) → IsNoCertificate files request (UnknownAt at) → IsFaulty files request (name_line at)

-- a file is too long, or an automaton's passes a limit; and the line that says so
pub data IsBeyond (files : Option (List File)) (request : CheckRequest) : List ℕ → Type 0 where
  TooLong : (place : ℕ) → IsRefused files (all_of request) (IsTooLongAt place) place → IsBeyond files request (bytes_line place)
  Over : (place : ℕ) (what : Limit) (at : ℕ) → IsRefused files (automata_of request) (IsOverAt what at) place → IsBeyond files request (limit_line place what at)
