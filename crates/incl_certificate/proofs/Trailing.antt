-- What the conditions of a trail ask of entries that fit.
use Rattle.std.proofs.Common.{◌≡◌, ◌<◌, ◌≤◌, ℕ, ◌+◌, List, length, get_or, inl, inr, subst, sym, arith}
use Rattle.std.specs.Prelude.{All}
use Rattle.std.proofs.lemmas.Bool.{cases_lt}
use Rattle.std.proofs.lemmas.Option.{slice_get-get_or, slice_get_within}
use Rattle.tree_definitions.specs.Automaton.{Automaton, IsNarrow}
use Rattle.tree_definitions.specs.Relation.{Matrix, IsAt}
use Rattle.tree_definitions.specs.UpTrail.{UpEntry}
use Rattle.tree_definitions.proofs.Listing.{at_number}
use Rattle.certificate_kinds.specs.Fitting.{AreUpEntries, FitsUpEntry}
use Rattle.tree_definitions.specs.Cover.{FitsPair}
use Rattle.listed_pairs.specs.Within.{IsWithin}
use Rattle.up_conditions.specs.Trailing.{AreEntriesWithin, FitEntries, NameEarlier}
use Rattle.certificate_kinds.specs.Certificates.{FitsUpTrail}

-- what holds of each item at its place holds of each
each : {X : Type 0} (P : X → Type 0) (xs : List X) → ((k : ℕ) (x : X) → IsAt xs k x → P x) → All P xs
each P xs h k d l = h k (get_or xs k d) (slice_get-get_or xs k d l)

-- in a narrow automaton the symbol of an entry that fits is one of its list
pub symbol_within : (A B : Automaton) → IsNarrow A → (k : ℕ) (entry : UpEntry) → FitsUpEntry A B k entry → entry.symbol < length A.symbols
symbol_within A B narrow k entry fits = slice_get_within A.symbols entry.symbol fits.symbol.0 (at_number A.bits A.symbols entry.symbol fits.symbol.0 narrow fits.symbol.1)

module _ (A B : Automaton) (budget : ℕ) (entries : List UpEntry) (fits : AreUpEntries A B budget entries) where
  pub entries_fit : FitEntries A B entries
  entries_fit = each (λ e. FitsPair A B e.pair) entries (λ k entry at. (fits.fitting k entry at).pair)

  pub entries_labelled : IsNarrow A → All (λ e. e.symbol < length A.symbols) entries
  entries_labelled narrow = each (λ e. e.symbol < length A.symbols) entries (λ k entry at. symbol_within A B narrow k entry (fits.fitting k entry at))

  pub entries_named : NameEarlier entries
  entries_named k entry at = (fits.fitting k entry at).earlier

  pub entries_few : length entries < 4294967295
  entries_few = let n = fits.count in let m = fits.few in omega (arith, n, m)

pub entries_within : (A B : Automaton) (RA RB : Matrix) (budget : ℕ) (entries : List UpEntry) → FitsUpTrail A B RA RB budget entries → AreEntriesWithin (length RA) (length RB) entries
entries_within A B RA RB budget entries fits = each (λ e. IsWithin (length RA) (length RB) e.pair) entries (λ k entry at.
    let f = (fits.entries.fitting k entry at).pair in
    record {
      state = subst (λ n. entry.pair.state < n) (sym fits.left.square.rows) f.state;
      set = let s = f.set in let r = fits.right.square.rows in omega (arith, s, r);
    })

-- one entry more fits
pub fits_next : (A B : Automaton) (entries : List UpEntry) (i : ℕ) (x : UpEntry) → i < length entries → x ≡ get_or entries i x
    → ((k : ℕ) (entry : UpEntry) → k < i → IsAt entries k entry → FitsUpEntry A B k entry) → FitsUpEntry A B i x
    → (k : ℕ) (entry : UpEntry) → k < i + 1 → IsAt entries k entry → FitsUpEntry A B k entry
fits_next A B entries i x l is before here k entry lt at = elim (cases_lt k i) [
  | inl early ↦ before k entry early at
  | inr late ↦
      let same : i ≡ k = omega (arith, lt, late) in
      let there : IsAt entries i entry = subst (λ n. IsAt entries n entry) (sym same) at in
      let found = slice_get-get_or entries i x l in
      let e : x ≡ entry = cc (is, there, found) in
      subst (λ n. FitsUpEntry A B n entry) same (subst (FitsUpEntry A B i) e here)
]

-- all fit once the last was looked at
pub fits_all : (A B : Automaton) (entries : List UpEntry) (n : ℕ) → length entries ≤ n → ((k : ℕ) (entry : UpEntry) → k < n → IsAt entries k entry → FitsUpEntry A B k entry)
    → (k : ℕ) (entry : UpEntry) → IsAt entries k entry → FitsUpEntry A B k entry
fits_all A B entries n past before k entry at = before k entry (let w = slice_get_within entries k entry at in omega (arith, w, past)) at
