-- What the end of a run that asks for inclusion means.
use Rattle.std.proofs.Common.{◌<◌, ◌≤◌, ◌+◌, ◌*◌, ◌^◌, ℕ, Bool, List, [], ◌∷◌, length, Some, sym, subst, arith}
use Rattle.std.proofs.Math.Nat.{mul-le-mul_left, mul-le-mul_right}
use Rattle.std.proofs.lemmas.List.Elements.{All-contains}
use Rattle.tree_definitions.specs.Automaton.{Automaton, IsState, Rule}
use Rattle.tree_definitions.specs.Canonical.{canon}
use Rattle.tree_definitions.specs.Cover.{Pair, FitsPair}
use Rattle.tree_definitions.specs.DownTrail.{DownEntry, DownTrail as IsDownTrail, IsPairOf, Root, Child, Split}
use Rattle.tree_definitions.specs.Relation.{Matrix, Holds}
use Rattle.tree_definitions.proofs.Downward.{down_included}
use Rattle.tree_definitions.proofs.DownTrails.{down_trail_bound}
use Rattle.tree_definitions.proofs.InOrder.{canon_rules}
use Rattle.vata_outside.specs.Outside.{File}
use Rattle.ta_model.specs.Listing.{IsListed}
use Rattle.listed_pairs.specs.DownEntries.{AreDownEntries, FitsDownEntry, entries_of}
use Rattle.quotient.proofs.Lists.{all_from, no_more}
use Rattle.certificate_kinds.specs.declared.certificate.Certificate.{Certificate}
use Rattle.certificate_kinds.specs.declared.certificate.Certificate.TheVariants.{Up, Down, Tree, UpTrail, DownTrail}
use Rattle.incl_certificate.proofs.CanonListed.{canon_listed}
use Rattle.upward_inclusion.specs.Inclusion.{IsInclusionAnswer as IsUpwardAnswer, IsSearched}
use Rattle.upward_inclusion.proofs.Meaning.{pairs_mean, trail_means, tree_means}
use Rattle.vata_words.specs.declared.request.Dir.{Dir}
use Rattle.vata_words.specs.declared.request.Dir.TheVariants as dir
use Rattle.vata_core.specs.Answer.{Answer, IsBinaryRight, IsRight, Listing, Related, Shown, certificate_status, status_of}
use Rattle.vata_core.specs.Files.{AreSpelled, IsSpelled}
use Rattle.vata_core.specs.Inclusion.{IsDownwardAnswer, IsInclusionAnswer}
use Rattle.vata_core.specs.Outcome.{IsSmallBudget, MeansOfInclusion}
use Rattle.vata_core.specs.Refusals.{HasReply, halt_status}
use Rattle.vata_core.specs.Request.{Binary}
use Rattle.vata_core.specs.declared.halting.Halt.{Halt}
use Rattle.vata_core.specs.declared.halting.Halt.TheVariants as halt
use Rattle.vata_core.specs.declared.halting.Reply.{Reply}
use Rattle.vata_core.specs.declared.loading.Refusal.TheVariants as refusal
use Rattle.vata_core.specs.declared.words.BinaryCommand.TheVariants.{Incl}
use Rattle.vata_core.proofs.Halts.{same_automata}
use Rattle.vata_core.proofs.Walk.{listed}

-- a bound with fewer rules
fewer_rules : (pairs m n k budget : ℕ) → m ≤ n → budget < pairs * (1 + m * k) → budget < pairs * (1 + n * k)
fewer_rules pairs m n k budget l h =
    let one : m * k ≤ n * k = mul-le-mul_right k l in
    let more : 1 + m * k ≤ 1 + n * k = omega (arith, one) in
    let all : pairs * (1 + m * k) ≤ pairs * (1 + n * k) = mul-le-mul_left pairs more in
    omega (arith, h, all)

-- what a right certificate means
module _ (sim : Bool) (K : ℕ) (A B : Automaton) (left : IsListed A) (right : IsListed B) where
  upward_means : (c : Certificate) → IsUpwardAnswer sim K A B c → MeansOfInclusion dir.Up A B K (certificate_status c)
  upward_means (Up l r pairs) h = let a = h.answer in pairs_mean A B l r pairs.items a.3
  upward_means (Down both pairs) h = absurd h.answer
  upward_means (DownTrail both budget entries) h = absurd h.answer
  upward_means (Tree nodes) h = tree_means A B h.left h.right nodes.symbols nodes.rows h.answer.1
  upward_means (UpTrail l r budget entries) h =
      let a = h.answer in
      let is = a.2 in
      subst (λ k. k < length A.states * 2 ^ length B.states) is
      (trail_means A B l r sim budget entries.items left.automaton right.automaton (subst (IsSearched sim A) (sym a.0) h.left_is) (subst (IsSearched sim B) (sym a.1) h.right_is) a.3.entries a.4)

  -- the pair of an entry that fits
  pair_fits : (entries : List DownEntry) (i : ℕ) (entry : DownEntry) (pair : Pair) → FitsDownEntry (canon A) B entries i entry → IsPairOf entry pair → FitsPair (canon A) B pair
  pair_fits entries i (Root p) pair fits is = subst (FitsPair (canon A) B) is fits
  pair_fits entries i (Child p split place) pair fits is = subst (FitsPair (canon A) B) is fits.0
  pair_fits entries i (Split e rule choice) pair fits is = absurd is

  trail_is_small : (both : Matrix) (budget : ℕ) (entries : List DownEntry) → AreDownEntries (canon A) B budget entries → IsDownTrail (canon A) B (Holds both) budget entries → IsSmallBudget dir.Down A B budget
  trail_is_small both budget entries fits trail m ranks =
      fewer_rules (length A.states * 2 ^ length B.states) (length (canon A).rules) (length A.rules) (2 ^ (m * length B.states)) budget
      (no_more (canon A).rules A.rules (canon_listed A left).automaton.rules (λ r k. (canon_rules A r).0 k))
      (down_trail_bound (canon A) B (Holds both) budget m entries right.automaton
      (all_from (λ (rule : Rule). length rule.kids ≤ m) (canon A).rules (λ r k. All-contains (λ (rule : Rule). length rule.kids ≤ m) A.rules r ranks ((canon_rules A r).0 k)))
      (λ i entry pair at is. pair_fits entries i entry pair (fits.fitting i entry at) is) trail)

  downward_means : (c : Certificate) → IsDownwardAnswer sim K A B c → MeansOfInclusion dir.Down A B K (certificate_status c)
  downward_means (Up l r pairs) h = absurd h.answer
  downward_means (Down both pairs) h =
      let a = h.answer in
      down_included A B (Holds both) pairs.items left.automaton right.automaton
      (all_from (λ (pair : Pair). IsState A pair.state) pairs.items (λ pair k. (All-contains (FitsPair A B) pairs.items pair a.1.pairs.each k).state)) a.2
  downward_means (Tree nodes) h = tree_means A B h.both h.both nodes.symbols nodes.rows h.answer.1
  downward_means (UpTrail l r budget entries) h = absurd h.answer
  downward_means (DownTrail both budget entries) h =
      let a = h.answer in
      let is = a.1 in
      subst (IsSmallBudget dir.Down A B) is (trail_is_small both budget (entries_of entries.items) a.2.entries a.3)

  certificate_means : (way : Dir) (c : Certificate) → IsInclusionAnswer way sim K A B c → MeansOfInclusion way A B K (certificate_status c)
  certificate_means dir.Up c h = upward_means c h
  certificate_means dir.Down c h = downward_means c h

  answer_means : (way : Dir) (answer : Answer) → IsBinaryRight (Incl way sim K) A B answer → MeansOfInclusion way A B K (status_of answer)
  answer_means way (Listing L) h = absurd h
  answer_means way (Related found states pairs) h = absurd h
  answer_means way (Shown C D c) h = certificate_means way c h.2

-- a run without an answer means nothing
pub halt_means : (way : Dir) (A B : Automaton) (K : ℕ) (h : Halt) → MeansOfInclusion way A B K (halt_status h)
halt_means way A B K (halt.File place refusal.ReadFault) = tt
halt_means way A B K (halt.File place refusal.TooLong) = tt
halt_means way A B K (halt.File place (refusal.Syntax at)) = tt
halt_means way A B K (halt.File place (refusal.Limit what at)) = tt
halt_means way A B K (halt.File place refusal.Memory) = tt
halt_means way A B K (halt.Past what) = tt
halt_means way A B K halt.Memory = tt

-- a told file spells a listed automaton
pub spelled_listed : (fs : List File) (name : List ℕ) (A : Automaton) → IsSpelled (Some fs) name A → IsListed A
spelled_listed fs name A s = listed s.0 A s.2

pub reply_means : (fs : List File) (way : Dir) (sim : Bool) (K : ℕ) (first second : List ℕ) (A B : Automaton) (reply : Reply) → HasReply (Some fs) (Binary (Incl way sim K) first second) reply
    → AreSpelled (Some fs) (first ∷ second ∷ []) (A ∷ B ∷ []) → MeansOfInclusion way A B K reply.status
reply_means fs way sim K first second A B reply h s =
    let request = Binary (Incl way sim K) first second in
    let same = same_automata fs request (first ∷ second ∷ []) h.right.automata (A ∷ B ∷ []) h.right.spelled s in
    let right = subst (λ As. IsRight request As h.answer) same h.right.right in
    subst (MeansOfInclusion way A B K) (sym h.status_is)
    (answer_means sim K A B (spelled_listed fs first A s.0) (spelled_listed fs second B s.1.0) way h.answer right)
