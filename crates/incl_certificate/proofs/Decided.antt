-- A certificate that holds has no condition that fails; and what is said of a certificate is said of its text.
use Rattle.std.proofs.Common.{◌≡◌, ℕ, List, [], ◌∷◌, sym, ap, ◌∙◌, subst, arith}
use Rattle.tree_definitions.specs.Tree.{Symbol, Tree}
use Rattle.tree_definitions.specs.Automaton.{Automaton, HasRule}
use Rattle.tree_definitions.specs.Canonical.{canon}
use Rattle.tree_definitions.specs.Cover.{Pair, Post}
use Rattle.tree_definitions.specs.DownCert.{DownCert}
use Rattle.tree_definitions.specs.DownTrail.{DownEntry, DownTrail as IsDownTrail}
use Rattle.tree_definitions.specs.Joint.{joint_symbols}
use Rattle.tree_definitions.specs.Language.{Accepts}
use Rattle.tree_definitions.specs.Relation.{Matrix, Row, Holds as Relates}
use Rattle.tree_definitions.specs.UpCert.{UpCert, AreListed, IsCoveredUp as IsStepCovered}
use Rattle.tree_definitions.specs.UpTrail.{UpEntry, UpTrail as IsUpTrail}
use Rattle.tree_definitions.specs.Witness.{NoCert, IsTreeOf}
use Rattle.tree_definitions.proofs.InOrder.{canon_finals, rule_out}
use Rattle.tree_definitions.proofs.Listing.{rule_of_line}
use Rattle.tree_definitions.proofs.Members.{contains_at}
use Rattle.tree_definitions.proofs.Nodes.{one_tree}
use Rattle.ta_model.specs.Listing.{IsListed}
use Rattle.listed_pairs.specs.DownEntries.{entries_of}
use Rattle.witness_trees.specs.Judged.{Verdict as TextVerdict, Is}
use Rattle.witness_trees.specs.Nodes.{NodeList}
use Rattle.down_entry_lines.specs.Fitting.{AreRanksNumbers}
use Rattle.certificate_kinds.specs.Certificates.{Fits}
use Rattle.certificate_kinds.specs.declared.certificate.Certificate.{Certificate}
use Rattle.certificate_kinds.specs.declared.certificate.Certificate.TheVariants.{Up, Down, Tree as TreeKind, UpTrail, DownTrail}
use Rattle.incl_certificate.specs.Checked.{Holds, FailsAt, FailsUp, LeftFails, RightFails, Rejecting, LeafFails, StepFails, CoveredUp, FailsDown, BothFails, FinalFails, ChoiceFails, CoveredDown, FailsTree, Refused, Accepted, FailsUpTrail, LeftTrailFails, RightTrailFails, NoStep, RejectingEntry, CoveredEntry, FailsDownTrail, BothTrailFails, NoDownStep, CoveredAlone, RepeatedEntry}
use Rattle.incl_certificate.specs.Text.{Said, SaidUp, SaidDown, SaidTree, SaidUpTrail, SaidDownTrail, said_of, certificate_text, judged_certificate}
use Rattle.incl_certificate.specs.declared.checking.Verdict.{Verdict}
use Rattle.incl_certificate.specs.declared.checking.Verdict.TheVariants.{Included, NotIncluded, Undecided}
use Rattle.incl_certificate.proofs.ReadBack.{printed_back}

module _ (A B : Automaton) where
  module _ (left right : Matrix) (pairs : List Pair) (cert : UpCert A B (Relates left) (Relates right) pairs) where
    step_covered : (a : Symbol) (kids : List ℕ) (p : ℕ) → HasRule A a kids p → (sets : List Row) → AreListed pairs kids sets → IsStepCovered (Relates left) (Relates right) pairs p (Post B a sets)
    step_covered a [] p has [] listed = cert.leaves a p has
    step_covered a [] p has (P ∷ Ps) listed = absurd listed
    step_covered a (q ∷ qs) p has sets listed = cert.steps a q qs p has sets listed

    up_fails_nowhere : {condition place : ℕ} → FailsUp A B left right pairs condition place → ⊥
    up_fails_nowhere (LeftFails n) = n cert.left
    up_fails_nowhere (RightFails ours n) = n cert.right
    up_fails_nowhere (Rejecting place up first) = let h = first.here in cert.accepting h.1 (contains_at pairs h.0 h.1 h.3) h.4
    up_fails_nowhere (LeafFails place up none first) =
        let h = first.here in
        h.4.1 (λ a label sets listed. step_covered a h.1.kids h.1.parent (rule_out A a h.1.kids h.1.parent (h.0, rule_of_line (canon A) h.0 h.1 a h.3 label)) sets listed)
    up_fails_nowhere (StepFails place up none leaves first) =
        let h = first.here in
        h.4.1 (λ a label sets listed. step_covered a h.1.kids h.1.parent (rule_out A a h.1.kids h.1.parent (h.0, rule_of_line (canon A) h.0 h.1 a h.3 label)) sets listed)
    up_fails_nowhere (CoveredUp place up none leaves steps first) =
        let h = first.here in
        let other = h.4 in
        cert.apart other.0 h.0 other.1 h.1 other.2 other.3 h.3 other.4

  down_fails_nowhere : (both : Matrix) (pairs : List Pair) → DownCert A B (Relates both) pairs → {condition place : ℕ} → FailsDown A B both pairs condition place → ⊥
  down_fails_nowhere both pairs cert (BothFails n) = n cert.simulation
  down_fails_nowhere both pairs cert (FinalFails place down first) =
      let h = first.here in h.4 (cert.finals h.1 ((canon_finals A h.1).0 (contains_at (canon A).finals h.0 h.1 h.3)))
  down_fails_nowhere both pairs cert (ChoiceFails place down finals first) =
      let h = first.here in
      let split = h.4 in
      let child = cert.choices h.1 (contains_at pairs h.0 h.1 h.3) split.0 split.1 split.2 split.3 split.4.within in
      split.4.uncovered child.0 child.1 child.2 child.3
  down_fails_nowhere both pairs cert (CoveredDown place down finals choices first) =
      let h = first.here in
      let other = h.4 in
      cert.apart other.0 h.0 other.1 h.1 other.2 other.3 h.3 other.4

  tree_fails_nowhere : (nodes : NodeList) → NoCert A B nodes.symbols nodes.rows → {condition place : ℕ} → FailsTree A B nodes condition place → ⊥
  tree_fails_nowhere nodes cert (Refused n) = n (cert.tree, cert.last, cert.accepted)
  tree_fails_nowhere nodes cert (Accepted ours theirs) =
      let one : theirs.1.0 ≡ cert.last.0 = let n = theirs.1.1 in let m = cert.last.1 in omega (arith, n, m) in
      let same : theirs.0 ≡ cert.tree =
      one_tree nodes.symbols nodes.rows theirs.0 cert.tree cert.last.0 (subst (λ k. IsTreeOf nodes.symbols nodes.rows k theirs.0) one theirs.1.2) cert.last.2 in
      cert.refused (subst (λ (t : Tree). Accepts B t) same theirs.2)

  up_trail_fails_nowhere : (left right : Matrix) (budget : ℕ) (entries : List UpEntry) → IsUpTrail A B (Relates left) (Relates right) budget entries
      → {condition place : ℕ} → FailsUpTrail A B left right entries condition place → ⊥
  up_trail_fails_nowhere left right budget entries cert (LeftTrailFails n) = n cert.left
  up_trail_fails_nowhere left right budget entries cert (RightTrailFails ours n) = n cert.right
  up_trail_fails_nowhere left right budget entries cert (NoStep place up first) = let h = first.here in h.4 (cert.steps h.0 h.1 h.3)
  up_trail_fails_nowhere left right budget entries cert (RejectingEntry place up steps first) = let h = first.here in cert.accepting h.0 h.1 h.3 h.4
  up_trail_fails_nowhere left right budget entries cert (CoveredEntry place up steps none first) =
      let h = first.here in
      let other = h.4 in
      cert.fresh h.0 other.0 h.1 other.1 other.2 h.3 other.3 other.4

  down_trail_fails_nowhere : (both : Matrix) (budget : ℕ) (entries : List DownEntry) → IsDownTrail A B (Relates both) budget entries
      → {condition place : ℕ} → FailsDownTrail A B both entries condition place → ⊥
  down_trail_fails_nowhere both budget entries cert (BothTrailFails n) = n cert.simulation
  down_trail_fails_nowhere both budget entries cert (NoDownStep place down first) = let h = first.here in h.4 (cert.steps h.0 h.1 h.3)
  down_trail_fails_nowhere both budget entries cert (CoveredAlone place down steps first) = let h = first.here in h.4 (cert.uncovered h.0 h.1 h.3)
  down_trail_fails_nowhere both budget entries cert (RepeatedEntry place down steps none first) =
      let h = first.here in
      let other = h.4 in
      cert.fresh h.0 other.0 h.1 other.1 other.2 h.3 other.3 other.4

pub fails_nowhere : (A B : Automaton) (c : Certificate) (verdict : Verdict) (condition place : ℕ) → Holds A B c verdict → FailsAt A B c condition place → ⊥
fails_nowhere A B (Up left right pairs) verdict condition place h fails = up_fails_nowhere A B left right pairs.items h.1 fails
fails_nowhere A B (Down both pairs) verdict condition place h fails = down_fails_nowhere A B both pairs.items h.1 fails
fails_nowhere A B (TreeKind nodes) verdict condition place h fails = tree_fails_nowhere A B nodes h.1 fails
fails_nowhere A B (UpTrail left right budget entries) verdict condition place h fails = up_trail_fails_nowhere A B left right budget entries.items h.1 fails
fails_nowhere A B (DownTrail both budget entries) verdict condition place h fails = down_trail_fails_nowhere (canon A) B both budget (entries_of entries.items) h.1 fails

-- it shows one thing
pub one_verdict : (A B : Automaton) (c : Certificate) (v w : Verdict) → Holds A B c v → Holds A B c w → v ≡ w
one_verdict A B (Up left right pairs) v w h g = h.0 ∙ sym g.0
one_verdict A B (Down both pairs) v w h g = h.0 ∙ sym g.0
one_verdict A B (TreeKind nodes) v w h g = h.0 ∙ sym g.0
one_verdict A B (UpTrail left right budget entries) v w h g = h.0 ∙ sym g.0
one_verdict A B (DownTrail both budget entries) v w h g = h.0 ∙ sym g.0

same_said : (s t : Said) (v w : TextVerdict Said) → v ≡ Is s → w ≡ Is t → v ≡ w → s ≡ t
same_said s t v w p q e = let both : Is s ≡ Is t = sym p ∙ e ∙ q in cc

-- certificates with one text say the same
pub one_text : (A B : Automaton) (c d : Certificate) → IsListed A → IsListed B → AreRanksNumbers A → Fits A B c → Fits A B d
    → certificate_text A B c ≡ certificate_text A B d → said_of c ≡ said_of d
one_text A B c d a b ranks ours theirs e =
    same_said (said_of c) (said_of d) (judged_certificate A B (certificate_text A B c)) (judged_certificate A B (certificate_text A B d))
    (printed_back A B c a b ranks ours) (printed_back A B d a b ranks theirs) (ap (judged_certificate A B) e)

module _ (A B : Automaton) where
  -- the conditions of what is said, with the symbols of both for a tree
  abbrev HoldsSaid : Said → Verdict → Type 0
  HoldsSaid (SaidUp left right pairs) v = (v ≡ Included) × UpCert A B (Relates left) (Relates right) pairs
  HoldsSaid (SaidDown both pairs) v = (v ≡ Included) × DownCert A B (Relates both) pairs
  HoldsSaid (SaidTree rows) v = (v ≡ NotIncluded) × NoCert A B (joint_symbols A.symbols B.symbols) rows
  HoldsSaid (SaidUpTrail left right budget entries) v = (v ≡ Undecided) × IsUpTrail A B (Relates left) (Relates right) budget entries
  HoldsSaid (SaidDownTrail both budget entries) v = (v ≡ Undecided) × IsDownTrail (canon A) B (Relates both) budget entries

  holds_in : (c : Certificate) (v : Verdict) → Fits A B c → Holds A B c v → HoldsSaid (said_of c) v
  holds_in (Up left right pairs) v fits h = h
  holds_in (Down both pairs) v fits h = h
  holds_in (TreeKind nodes) v fits h = (h.0, subst (λ (ss : List Symbol). NoCert A B ss nodes.rows) fits.symbols h.1)
  holds_in (UpTrail left right budget entries) v fits h = h
  holds_in (DownTrail both budget entries) v fits h = h

  holds_out : (c : Certificate) (v : Verdict) → Fits A B c → HoldsSaid (said_of c) v → Holds A B c v
  holds_out (Up left right pairs) v fits h = h
  holds_out (Down both pairs) v fits h = h
  holds_out (TreeKind nodes) v fits h = (h.0, subst (λ (ss : List Symbol). NoCert A B ss nodes.rows) (sym fits.symbols) h.1)
  holds_out (UpTrail left right budget entries) v fits h = h
  holds_out (DownTrail both budget entries) v fits h = h

  abbrev FailsSaid : Said → ℕ → ℕ → Type 0
  FailsSaid (SaidUp left right pairs) condition place = FailsUp A B left right pairs condition place
  FailsSaid (SaidDown both pairs) condition place = FailsDown A B both pairs condition place
  FailsSaid (SaidTree rows) condition place = FailsTree A B (record { symbols = joint_symbols A.symbols B.symbols; rows = rows }) condition place
  FailsSaid (SaidUpTrail left right budget entries) condition place = FailsUpTrail A B left right entries condition place
  FailsSaid (SaidDownTrail both budget entries) condition place = FailsDownTrail (canon A) B both entries condition place

  fails_in : (c : Certificate) (condition place : ℕ) → Fits A B c → FailsAt A B c condition place → FailsSaid (said_of c) condition place
  fails_in (Up left right pairs) condition place fits h = h
  fails_in (Down both pairs) condition place fits h = h
  fails_in (TreeKind nodes) condition place fits h = subst (λ (ss : List Symbol). FailsTree A B (record { symbols = ss; rows = nodes.rows }) condition place) fits.symbols h
  fails_in (UpTrail left right budget entries) condition place fits h = h
  fails_in (DownTrail both budget entries) condition place fits h = h

  fails_out : (c : Certificate) (condition place : ℕ) → Fits A B c → FailsSaid (said_of c) condition place → FailsAt A B c condition place
  fails_out (Up left right pairs) condition place fits h = h
  fails_out (Down both pairs) condition place fits h = h
  fails_out (TreeKind nodes) condition place fits h = subst (λ (ss : List Symbol). FailsTree A B (record { symbols = ss; rows = nodes.rows }) condition place) (sym fits.symbols) h
  fails_out (UpTrail left right budget entries) condition place fits h = h
  fails_out (DownTrail both budget entries) condition place fits h = h

  pub said_holds : (c d : Certificate) (v : Verdict) → Fits A B c → Fits A B d → said_of c ≡ said_of d → Holds A B c v → Holds A B d v
  said_holds c d v ours theirs e h = holds_out d v theirs (subst (λ (s : Said). HoldsSaid s v) e (holds_in c v ours h))

  pub said_fails : (c d : Certificate) (condition place : ℕ) → Fits A B c → Fits A B d → said_of c ≡ said_of d → FailsAt A B c condition place → FailsAt A B d condition place
  said_fails c d condition place ours theirs e h = fails_out d condition place theirs (subst (λ (s : Said). FailsSaid s condition place) e (fails_in c condition place ours h))
