-- Entries of a downward trail that fit can be printed.
use Rattle.std.proofs.Common.{ℕ, List, get_or}
use Rattle.std.specs.Prelude.{All}
use Rattle.std.proofs.lemmas.Option.{slice_get-get_or, slice_get_within}
use Rattle.tree_definitions.specs.Automaton.{Automaton}
use Rattle.tree_definitions.specs.DownTrail.{DownEntry, Root, Child, Split}
use Rattle.listed_pairs.specs.DownEntries.{AreDownEntries, FitsDownEntry}
use Rattle.down_entry_lines.specs.Fitting.{IsPrintable}

printable : (A B : Automaton) (entries : List DownEntry) (i : ℕ) (entry : DownEntry) → FitsDownEntry A B entries i entry → IsPrintable A B entry
printable A B entries i (Root pair) fits = fits
printable A B entries i (Child pair split place) fits = fits.0
printable A B entries i (Split e r choice) fits = let d = fits.1 in slice_get_within A.rules r d.1 d.3

pub all_printable : (A B : Automaton) (budget : ℕ) (entries : List DownEntry) → AreDownEntries A B budget entries → All (IsPrintable A B) entries
all_printable A B budget entries fits k d l = printable A B entries k (get_or entries k d) (fits.fitting k (get_or entries k d) (slice_get-get_or entries k d l))
