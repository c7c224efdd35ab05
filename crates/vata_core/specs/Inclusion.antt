-- Right answers to whether one automaton is included in another, for a search of either direction.
use Rattle.std.specs.Prelude.{◌≡◌, ◌↔◌, ℕ, ◌+◌, Bool, true, false, length}
use Rattle.tree_definitions.specs.Automaton.{Automaton}
use Rattle.tree_definitions.specs.Canonical.{canon}
use Rattle.tree_definitions.specs.DownCert.{DownCert}
use Rattle.tree_definitions.specs.DownTrail.{DownTrail as IsDownTrail}
use Rattle.tree_definitions.specs.Joint.{JointRule}
use Rattle.tree_definitions.specs.Relation.{Matrix, Holds, IsSquare}
use Rattle.tree_definitions.specs.Simulation.{GreatestDown}
use Rattle.tree_definitions.specs.Witness.{NoCert}
use Rattle.bit_matrix.specs.Matrices.{IsIdentity}
use Rattle.listed_pairs.specs.DownEntries.{entries_of}
use Rattle.certificate_kinds.specs.Certificates.{FitsDown, FitsTree, FitsDownTrail}
use Rattle.certificate_kinds.specs.declared.certificate.Certificate.{Certificate}
use Rattle.certificate_kinds.specs.declared.certificate.Certificate.TheVariants.{Up, Down, Tree, UpTrail, DownTrail}
use Rattle.upward_inclusion.specs.Inclusion.{IsInclusionAnswer as IsUpwardAnswer}
use Rattle.vata_words.specs.declared.request.Dir.{Dir}
use Rattle.vata_words.specs.declared.request.Dir.TheVariants as dir

-- the relation on the states of A and then those of B that is searched over: with simulations the greatest downward one of both
-- together, and else the identity
pub record IsSearched (sim : Bool) (A B : Automaton) (R : Matrix) : Type 0 where
  pub square : IsSquare (length A.states + length B.states) R
  pub greatest : sim ≡ true → (q r : ℕ) → Holds R q r ↔ GreatestDown (length A.states + length B.states) (JointRule A B) q r
  pub identity : sim ≡ false → IsIdentity (length A.states + length B.states) R

-- a right answer of a downward search over this relation and with this budget. It can be written for A and B, and is
-- pairs that show inclusion; a tree that A accepts and B doesn't; or one entry more than the budget. All its conditions hold
abbrev pub IsDownAnswer : Automaton → Automaton → Matrix → ℕ → Certificate → Type 0
IsDownAnswer A B R K (Up left right pairs) = ⊥
IsDownAnswer A B R K (Down both pairs) = (both ≡ R) × FitsDown A B both pairs.items × DownCert A B (Holds both) pairs.items
IsDownAnswer A B R K (Tree nodes) = FitsTree A B nodes × NoCert A B nodes.symbols nodes.rows
IsDownAnswer A B R K (UpTrail left right budget entries) = ⊥
IsDownAnswer A B R K (DownTrail both budget entries) =
    (both ≡ R) × (budget ≡ K)
    × FitsDownTrail A B both budget (entries_of entries.items) × IsDownTrail (canon A) B (Holds both) budget (entries_of entries.items)

-- a right answer of a downward search with this budget
pub record IsDownwardAnswer (sim : Bool) (budget : ℕ) (A B : Automaton) (c : Certificate) : Type 0 where
  pub both : Matrix
  pub both_is : IsSearched sim A B both
  pub answer : IsDownAnswer A B both budget c

-- a right answer of a search of this direction
abbrev pub IsInclusionAnswer : Dir → Bool → ℕ → Automaton → Automaton → Certificate → Type 0
IsInclusionAnswer dir.Up sim budget A B c = IsUpwardAnswer sim budget A B c
IsInclusionAnswer dir.Down sim budget A B c = IsDownwardAnswer sim budget A B c
