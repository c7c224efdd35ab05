-- What a call of the reader answers, beside what the definitions say.
use Rattle.std.specs.Prelude.{◌≡◌, ℕ, List, ◌++◌}
use Rattle.tree_definitions.specs.Automaton.{Automaton}
use Rattle.tree_definitions.specs.Canonical.{canon}
use Rattle.certificate_lines.specs.Pairs.{pairs_text}
use Rattle.certificate_lines.specs.Relations.{relation_text}
use Rattle.down_entry_lines.specs.Entries.{down_entries_text}
use Rattle.entry_lines.specs.Entries.{up_entries_text}
use Rattle.listed_pairs.specs.DownEntries.{entries_of}
use Rattle.witness_trees.specs.declared.reader.NodesTextError.{NodesTextError}
use Rattle.witness_trees.specs.declared.reader.NodesTextError.TheVariants as lines
use Rattle.incl_certificate.specs.Text.{left_word, right_word, both_word}
use Rattle.certificate_kinds.specs.declared.certificate.Certificate.{Certificate}
use Rattle.certificate_kinds.specs.declared.certificate.Certificate.TheVariants.{Up, Down, Tree, UpTrail, DownTrail}
use Rattle.incl_certificate.specs.declared.reading.CertError.{CertError}
use Rattle.incl_certificate.specs.declared.reading.CertError.TheVariants.{BadText, UnknownName, Memory}

-- a refusal of lines, as one of the certificate
abbrev pub cert_error : NodesTextError → CertError
cert_error (lines.BadText at) = BadText at
cert_error (lines.UnknownName at) = UnknownName at
cert_error lines.Memory = Memory

-- the text behind the first two lines, and that the certificate is of the kind
abbrev pub IsUpBehind : Automaton → Automaton → List ℕ → Certificate → Type 0
IsUpBehind A B text (Up left right pairs) = text ≡ relation_text left_word left ++ relation_text right_word right ++ pairs_text A B pairs.items
IsUpBehind A B text (Down both pairs) = ⊥
IsUpBehind A B text (Tree nodes) = ⊥
IsUpBehind A B text (UpTrail left right budget entries) = ⊥
IsUpBehind A B text (DownTrail both budget entries) = ⊥

abbrev pub IsDownBehind : Automaton → Automaton → List ℕ → Certificate → Type 0
IsDownBehind A B text (Up left right pairs) = ⊥
IsDownBehind A B text (Down both pairs) = text ≡ relation_text both_word both ++ pairs_text A B pairs.items
IsDownBehind A B text (Tree nodes) = ⊥
IsDownBehind A B text (UpTrail left right budget entries) = ⊥
IsDownBehind A B text (DownTrail both budget entries) = ⊥

abbrev pub IsUpTrailBehind : Automaton → Automaton → List ℕ → Certificate → Type 0
IsUpTrailBehind A B text (Up left right pairs) = ⊥
IsUpTrailBehind A B text (Down both pairs) = ⊥
IsUpTrailBehind A B text (Tree nodes) = ⊥
IsUpTrailBehind A B text (UpTrail left right budget entries) =
    text ≡ relation_text left_word left ++ relation_text right_word right ++ up_entries_text A B budget entries.items
IsUpTrailBehind A B text (DownTrail both budget entries) = ⊥

abbrev pub IsDownTrailBehind : Automaton → Automaton → List ℕ → Certificate → Type 0
IsDownTrailBehind A B text (Up left right pairs) = ⊥
IsDownTrailBehind A B text (Down both pairs) = ⊥
IsDownTrailBehind A B text (Tree nodes) = ⊥
IsDownTrailBehind A B text (UpTrail left right budget entries) = ⊥
IsDownTrailBehind A B text (DownTrail both budget entries) =
    text ≡ relation_text both_word both ++ down_entries_text (canon A) B budget (entries_of entries.items)
