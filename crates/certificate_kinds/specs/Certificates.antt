-- Certificates, and which of them can be written for two automata.
use Rattle.std.specs.Prelude.{◌≡◌, ◌<◌, ◌≤◌, ◌+◌, ℕ, List, All, length}
use Rattle.tree_definitions.specs.Automaton.{Automaton}
use Rattle.tree_definitions.specs.Canonical.{canon}
use Rattle.tree_definitions.specs.Cover.{Pair, FitsPair}
use Rattle.tree_definitions.specs.DownTrail.{DownEntry}
use Rattle.tree_definitions.specs.Joint.{joint_symbols}
use Rattle.tree_definitions.specs.Relation.{Matrix, IsSquare}
use Rattle.tree_definitions.specs.UpTrail.{UpEntry}
use Rattle.listed_pairs.specs.DownEntries.{AreDownEntries, entries_of}
use Rattle.listed_pairs.specs.Order.{AreRising}
use Rattle.certificate_kinds.specs.Fitting.{AreUpEntries}
use Rattle.witness_trees.specs.Nodes.{IsNodeList, NodeList}
use Rattle.certificate_kinds.specs.declared.certificate.Certificate.{Certificate}
use Rattle.certificate_kinds.specs.declared.certificate.Certificate.TheVariants.{Up, Down, Tree, UpTrail, DownTrail}

-- a relation between n states, of which there are at most 20,000
pub record FitsRelation (n : ℕ) (m : Matrix) : Type 0 where
  pub square : IsSquare n m
  pub few : n ≤ 20000

-- pairs of a state of A and a set of states of B, which rise
pub record FitPairs (A B : Automaton) (pairs : List Pair) : Type 0 where
  pub each : All (FitsPair A B) pairs
  pub rising : AreRising pairs
  pub few : length pairs < 4294967295

-- a relation of A, one of B, and pairs
pub record FitsUp (A B : Automaton) (RA RB : Matrix) (X : List Pair) : Type 0 where
  pub left : FitsRelation (length A.states) RA
  pub right : FitsRelation (length B.states) RB
  pub pairs : FitPairs A B X

-- a relation on the states of A and then those of B, and pairs
pub record FitsDown (A B : Automaton) (R : Matrix) (X : List Pair) : Type 0 where
  pub both : FitsRelation (length A.states + length B.states) R
  pub pairs : FitPairs A B X

-- a relation of A, one of B, a budget from 1 to 1,000,000, and one entry more, each of which fits at its place
pub record FitsUpTrail (A B : Automaton) (RA RB : Matrix) (K : ℕ) (E : List UpEntry) : Type 0 where
  pub left : FitsRelation (length A.states) RA
  pub right : FitsRelation (length B.states) RB
  pub entries : AreUpEntries A B K E

-- a relation on the states of A and then those of B, a budget from 1 to 1,000,000, and one entry more, each of which fits at its place. Rules are those of A's canonical form
pub record FitsDownTrail (A B : Automaton) (R : Matrix) (K : ℕ) (E : List DownEntry) : Type 0 where
  pub both : FitsRelation (length A.states + length B.states) R
  pub entries : AreDownEntries (canon A) B K E

-- the nodes are over the symbols of A and then those of B that A lacks, and there is one at least
pub record FitsTree (A B : Automaton) (nodes : NodeList) : Type 0 where
  pub list : IsNodeList nodes
  pub symbols : nodes.symbols ≡ joint_symbols A.symbols B.symbols
  pub some : 0 < length nodes.rows

-- the certificate can be written for A and B
abbrev pub Fits : Automaton → Automaton → Certificate → Type 0
Fits A B (Up left right pairs) = FitsUp A B left right pairs.items
Fits A B (Down both pairs) = FitsDown A B both pairs.items
Fits A B (Tree nodes) = FitsTree A B nodes
Fits A B (UpTrail left right budget entries) = FitsUpTrail A B left right budget entries.items
Fits A B (DownTrail both budget entries) = FitsDownTrail A B both budget (entries_of entries.items)
