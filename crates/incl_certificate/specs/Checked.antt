-- What the checker answers.
use Rattle.std.specs.Prelude.{◌≡◌, ℕ, List, [], ◌∷◌, Contains, length}
use Rattle.tree_definitions.specs.Tree.{Symbol}
use Rattle.tree_definitions.specs.Automaton.{Automaton, HasRule, IsFinal}
use Rattle.tree_definitions.specs.Canonical.{canon}
use Rattle.tree_definitions.specs.Cover.{Pair, Post, Rejects}
use Rattle.tree_definitions.specs.DownCert.{DownCert, IsCoveredDown}
use Rattle.tree_definitions.specs.DownTrail.{DownEntry, IsDownStep, IsOpen, DownTrail as IsDownTrail}
use Rattle.tree_definitions.specs.Joint.{JointRule}
use Rattle.tree_definitions.specs.Language.{Included as IsIncluded}
use Rattle.tree_definitions.specs.Relation.{Matrix, Row, IsAt, Holds as Relates}
use Rattle.tree_definitions.specs.Simulation.{IsUp, IsDown}
use Rattle.tree_definitions.specs.UpCert.{UpCert, AreListed, IsCoveredUp as IsStepCovered}
use Rattle.tree_definitions.specs.UpTrail.{UpEntry, IsUpStep, UpTrail as IsUpTrail}
use Rattle.tree_definitions.specs.Witness.{NoCert}
use Rattle.listed_pairs.specs.DownEntries.{entries_of}
use Rattle.listed_pairs.specs.Places.{IsFirst, IsNth, IsNthAt}
use Rattle.up_conditions.specs.Covering.{IsUncoveredLeaf, IsUncoveredStep}
use Rattle.up_conditions.specs.Listed.{IsCovered as IsCoveredUp}
use Rattle.up_conditions.specs.Trailing.{RejectsEntry, IsCoveredEntry}
use Rattle.down_conditions.specs.Covering.{IsCovered as IsCoveredPair}
use Rattle.down_conditions.specs.Refuting.{IsRefuted, IsSplitCovered}
use Rattle.down_trails.specs.Keys.{RepeatsEntry}
use Rattle.witness_trees.specs.Nodes.{NodeList}
use Rattle.incl_certificate.specs.Trees.{IsAccepted}
use Rattle.certificate_kinds.specs.declared.certificate.Certificate.{Certificate}
use Rattle.certificate_kinds.specs.declared.certificate.Certificate.TheVariants.{Up, Down, Tree, UpTrail, DownTrail}
use Rattle.incl_certificate.specs.declared.checking.Verdict.{Verdict}
use Rattle.incl_certificate.specs.declared.checking.Verdict.TheVariants.{Included, NotIncluded, Undecided}
use Rattle.incl_certificate.specs.declared.checking.CheckError.{CheckError}
use Rattle.incl_certificate.specs.declared.checking.CheckError.TheVariants.{Fails, Memory}

-- where the verdict is `Included`, each tree that A accepts is accepted by B
abbrev pub MeansInclusion : Automaton → Automaton → Verdict → Type 0
MeansInclusion A B verdict = verdict ≡ Included → IsIncluded A B

-- all conditions of the certificate hold, and this is what it shows
abbrev pub Holds : Automaton → Automaton → Certificate → Verdict → Type 0
Holds A B (Up left right pairs) verdict = (verdict ≡ Included) × UpCert A B (Relates left) (Relates right) pairs.items
Holds A B (Down both pairs) verdict = (verdict ≡ Included) × DownCert A B (Relates both) pairs.items
Holds A B (Tree nodes) verdict = (verdict ≡ NotIncluded) × NoCert A B nodes.symbols nodes.rows
Holds A B (UpTrail left right budget entries) verdict = (verdict ≡ Undecided) × IsUpTrail A B (Relates left) (Relates right) budget entries.items
Holds A B (DownTrail both budget entries) verdict = (verdict ≡ Undecided) × IsDownTrail (canon A) B (Relates both) budget (entries_of entries.items)

-- the relations are upward simulations
pub record AreUp (A B : Automaton) (RA RB : Matrix) : Type 0 where
  pub left : IsUp A (Relates RA)
  pub right : IsUp B (Relates RB)

-- no listed pair rejects
abbrev pub NoneRejects : Automaton → Automaton → List Pair → Type 0
NoneRejects A B pairs = (pair : Pair) → Contains pairs pair → Rejects A B pair → ⊥

-- the step of each rule of A without children is covered by a listed pair
abbrev pub AreLeavesCovered : Automaton → Automaton → Matrix → Matrix → List Pair → Type 0
AreLeavesCovered A B left right pairs =
    (a : Symbol) (p : ℕ) → HasRule A a [] p → IsStepCovered (Relates left) (Relates right) pairs p (Post B a [])

-- so is each step of each other rule from listed pairs for its children
abbrev pub AreStepsCovered : Automaton → Automaton → Matrix → Matrix → List Pair → Type 0
AreStepsCovered A B left right pairs =
    (a : Symbol) (q : ℕ) (qs : List ℕ) (p : ℕ) → HasRule A a (q ∷ qs) p
    → (sets : List Row) → AreListed pairs (q ∷ qs) sets → IsStepCovered (Relates left) (Relates right) pairs p (Post B a sets)

-- the condition with this number is the least of an upward certificate that fails, at this place. Rules are those of A's canonical form.
-- 1: both relations are upward simulations; 2: no pair rejects; 3: the step of each rule without children is covered; 4: so is each step of each other rule; 5: no pair is covered by the pair at another place
pub data FailsUp (A B : Automaton) (left right : Matrix) (pairs : List Pair) : ℕ → ℕ → Type 0 where
  LeftFails : ¬ IsUp A (Relates left) → FailsUp A B left right pairs 1 1
  RightFails : IsUp A (Relates left) → ¬ IsUp B (Relates right) → FailsUp A B left right pairs 1 2
  Rejecting : (n : ℕ) → AreUp A B left right → IsFirst (IsNth pairs (Rejects A B)) n → FailsUp A B left right pairs 2 n
  LeafFails : (n : ℕ) → AreUp A B left right → NoneRejects A B pairs
      → IsFirst (IsNth (canon A).rules (IsUncoveredLeaf (canon A) B (Relates left) (Relates right) pairs)) n → FailsUp A B left right pairs 3 n
  StepFails : (n : ℕ) → AreUp A B left right → NoneRejects A B pairs → AreLeavesCovered A B left right pairs
      → IsFirst (IsNth (canon A).rules (IsUncoveredStep (canon A) B (Relates left) (Relates right) pairs)) n → FailsUp A B left right pairs 4 n
  CoveredUp : (n : ℕ) → AreUp A B left right → NoneRejects A B pairs → AreLeavesCovered A B left right pairs → AreStepsCovered A B left right pairs
      → IsFirst (IsNthAt pairs (IsCoveredUp (Relates left) (Relates right) pairs)) n → FailsUp A B left right pairs 5 n

-- the final state of A is covered with the final states of B
abbrev pub IsFinalCovered : Automaton → Automaton → Matrix → List Pair → ℕ → Type 0
IsFinalCovered A B both pairs f = IsCoveredDown A (Relates both) pairs f (IsFinal B)

abbrev pub AreFinalsCovered : Automaton → Automaton → Matrix → List Pair → Type 0
AreFinalsCovered A B both pairs = (f : ℕ) → IsFinal A f → IsFinalCovered A B both pairs f

-- whatever the choice of places, each listed pair has a covered child
abbrev pub AreChoicesCovered : Automaton → Automaton → Matrix → List Pair → Type 0
AreChoicesCovered A B both pairs = (pair : Pair) → Contains pairs pair → IsSplitCovered A B (Relates both) pairs pair

-- the same for a downward certificate. Final states are those of A in order of place.
-- 1: the relation is a downward simulation of both together; 2: each final state is covered with those of B; 3: no choice of places refutes a pair; 5: no pair is covered by the pair at another place
pub data FailsDown (A B : Automaton) (both : Matrix) (pairs : List Pair) : ℕ → ℕ → Type 0 where
  BothFails : ¬ IsDown (JointRule A B) (Relates both) → FailsDown A B both pairs 1 1
  FinalFails : (n : ℕ) → IsDown (JointRule A B) (Relates both)
      → IsFirst (IsNth (canon A).finals (λ f. ¬ IsFinalCovered A B both pairs f)) n → FailsDown A B both pairs 2 n
  ChoiceFails : (n : ℕ) → IsDown (JointRule A B) (Relates both) → AreFinalsCovered A B both pairs
      → IsFirst (IsNth pairs (IsRefuted A B (Relates both) pairs)) n → FailsDown A B both pairs 3 n
  CoveredDown : (n : ℕ) → IsDown (JointRule A B) (Relates both) → AreFinalsCovered A B both pairs → AreChoicesCovered A B both pairs
      → IsFirst (IsNthAt pairs (IsCoveredPair A (Relates both) pairs)) n → FailsDown A B both pairs 5 n

-- each entry's pair is a step from those of earlier entries
abbrev pub AreUpSteps : Automaton → Automaton → List UpEntry → Type 0
AreUpSteps A B entries = (i : ℕ) (entry : UpEntry) → IsAt entries i entry → IsUpStep A B entries i entry

-- the pair of no entry rejects
abbrev pub NoEntryRejects : Automaton → Automaton → List UpEntry → Type 0
NoEntryRejects A B entries = (i : ℕ) (entry : UpEntry) → IsAt entries i entry → Rejects A B entry.pair → ⊥

-- the same for an upward trail.
-- 1: both relations are upward simulations; 8: each entry's pair is a step from those of earlier entries; 9: none rejects; 10: none is covered by the pair of an earlier entry
pub data FailsUpTrail (A B : Automaton) (left right : Matrix) (entries : List UpEntry) : ℕ → ℕ → Type 0 where
  LeftTrailFails : ¬ IsUp A (Relates left) → FailsUpTrail A B left right entries 1 1
  RightTrailFails : IsUp A (Relates left) → ¬ IsUp B (Relates right) → FailsUpTrail A B left right entries 1 2
  NoStep : (n : ℕ) → AreUp A B left right → IsFirst (IsNthAt entries (λ i entry. ¬ IsUpStep A B entries i entry)) n → FailsUpTrail A B left right entries 8 n
  RejectingEntry : (n : ℕ) → AreUp A B left right → AreUpSteps A B entries → IsFirst (IsNth entries (RejectsEntry A B)) n → FailsUpTrail A B left right entries 9 n
  CoveredEntry : (n : ℕ) → AreUp A B left right → AreUpSteps A B entries → NoEntryRejects A B entries
      → IsFirst (IsNthAt entries (IsCoveredEntry (Relates left) (Relates right) entries)) n → FailsUpTrail A B left right entries 10 n

-- each entry is one to begin with, a child of an earlier split, or a split of an earlier pair
abbrev pub AreDownSteps : Automaton → Automaton → List DownEntry → Type 0
AreDownSteps A B entries = (i : ℕ) (entry : DownEntry) → IsAt entries i entry → IsDownStep A B entries i entry

-- the relation alone covers no entry
abbrev pub AreOpen : Automaton → Automaton → Matrix → List DownEntry → Type 0
AreOpen A B both entries = (i : ℕ) (entry : DownEntry) → IsAt entries i entry → IsOpen A B (Relates both) entries entry

-- the same for a downward trail, where A is in canonical form.
-- 1: the relation is a downward simulation of both together; 8: each entry is a step; 9: the relation alone covers none; 10: none is like an earlier one
pub data FailsDownTrail (A B : Automaton) (both : Matrix) (entries : List DownEntry) : ℕ → ℕ → Type 0 where
  BothTrailFails : ¬ IsDown (JointRule A B) (Relates both) → FailsDownTrail A B both entries 1 1
  NoDownStep : (n : ℕ) → IsDown (JointRule A B) (Relates both) → IsFirst (IsNthAt entries (λ i entry. ¬ IsDownStep A B entries i entry)) n → FailsDownTrail A B both entries 8 n
  CoveredAlone : (n : ℕ) → IsDown (JointRule A B) (Relates both) → AreDownSteps A B entries
      → IsFirst (IsNthAt entries (λ i entry. ¬ IsOpen A B (Relates both) entries entry)) n → FailsDownTrail A B both entries 9 n
  RepeatedEntry : (n : ℕ) → IsDown (JointRule A B) (Relates both) → AreDownSteps A B entries → AreOpen A B both entries
      → IsFirst (IsNthAt entries (RepeatsEntry A B entries)) n → FailsDownTrail A B both entries 10 n

-- condition 6: the tree is accepted by A. Condition 7: it isn't accepted by B. Both stand at the number of nodes
pub data FailsTree (A B : Automaton) (nodes : NodeList) : ℕ → ℕ → Type 0 where
  Refused : ¬ IsAccepted A nodes → FailsTree A B nodes 6 (length nodes.rows)
  Accepted : IsAccepted A nodes → IsAccepted B nodes → FailsTree A B nodes 7 (length nodes.rows)

-- the condition of the certificate with this number is the least that fails, at this place
abbrev pub FailsAt : Automaton → Automaton → Certificate → ℕ → ℕ → Type 0
FailsAt A B (Up left right pairs) condition place = FailsUp A B left right pairs.items condition place
FailsAt A B (Down both pairs) condition place = FailsDown A B both pairs.items condition place
FailsAt A B (Tree nodes) condition place = FailsTree A B nodes condition place
FailsAt A B (UpTrail left right budget entries) condition place = FailsUpTrail A B left right entries.items condition place
FailsAt A B (DownTrail both budget entries) condition place = FailsDownTrail (canon A) B both (entries_of entries.items) condition place

-- what is answered where a condition fails, unless memory ran out
abbrev pub FailsFirst : Automaton → Automaton → Certificate → CheckError → Type 0
FailsFirst A B c (Fails condition place) = FailsAt A B c condition place
FailsFirst A B c Memory = Unit {0}
