-- What the parts of a product say of its states and rules.
use Rattle.std.proofs.Common.{◌≢◌, inl, inr, ℕ, ◌<◌, ◌^◌, List, length, get_or, ap, ◌∙◌, subst, arith}
use Rattle.std.specs.Prelude.{All, Contains, AllPairs, ◌↔◌}
use Rattle.std.proofs.lemmas.List.Elements.{Contains-get_or}
use Rattle.std.proofs.lemmas.Option.{slice_get_within}
use Rattle.tree_definitions.specs.Tree.{Symbol, Tree, Node}
use Rattle.tree_definitions.specs.Automaton.{Automaton, Rule, HasRule, IsAutomaton, IsState}
use Rattle.tree_definitions.specs.Language.{ReachesBy}
use Rattle.tree_definitions.specs.Product.{Both, Precedes}
use Rattle.tree_definitions.specs.Relation.{IsAt}
use Rattle.tree_definitions.proofs.Listing.{parent_state}
use Rattle.tree_definitions.proofs.Members.{at_unique}
use Rattle.bool_ops.specs.Closing.{both, Together, by_rules, Fits, IsClosed}
use Rattle.bool_ops.specs.Joined.{StandFor, FitTogether}
use Rattle.bool_ops.proofs.Bridge.{together_exactly}

reach_state : (A : Automaton) → IsAutomaton A → (t : Tree) (q : ℕ) → ReachesBy (HasRule A) t q → IsState A q
reach_state A fits (Node a ts) q h = parent_state A fits a h.0 q h.1

pub rising_apart : (Z : List Both) → AllPairs Precedes Z → AllPairs ◌≢◌ Z
rising_apart Z h i j d l m e = elim (h i j d l m) [
  | inl k ↦ let a = ap (λ (x : Both). x.left) e in omega (arith, k, a)
  | inr k ↦ let a = ap (λ (x : Both). x.right) e in let b = k.1 in omega (arith, a, b)
]

module _ (A B : Automaton) (S : List Symbol) (theirs : List Rule) (pairs found Z : List Both) (fitsA : IsAutomaton A) (fitsB : IsAutomaton B)
    (f : StandFor S (HasRule A) (HasRule B) A.rules theirs) (c : IsClosed A.rules theirs pairs found) (members : (x : Both) → Contains Z x ↔ Contains pairs x) where
  states_at : (x : Both) → Contains Z x → IsState A x.left × IsState B x.right
  states_at x h =
      let t = (together_exactly S (HasRule A) (HasRule B) A.rules theirs f x).0 ((c.exact x).0 ((members x).0 h)) in
      (reach_state A fitsA t.0 x.left t.1, reach_state B fitsB t.0 x.right t.2)

  pub left_states : All (λ x. x.left < length A.states) Z
  left_states k d l = (states_at (get_or Z k d) (Contains-get_or Z k d l)).0

  pub right_states : All (λ x. x.right < length B.states) Z
  right_states k d l = (states_at (get_or Z k d) (Contains-get_or Z k d l)).1

  pub small_states : length A.states < 4294967295 → length B.states < 4294967295 → All (λ x. (x.left < 2 ^ 64) × (x.right < 2 ^ 64)) Z
  small_states a b k d l =
      let h = states_at (get_or Z k d) (Contains-get_or Z k d l) in
      let left : (get_or Z k d).left < length A.states = h.0 in
      let right : (get_or Z k d).right < length B.states = h.1 in
      (omega arith, omega arith)

  parent_in : (y : Both) (h : Fits A.rules theirs pairs y) → Contains Z (both h.left.parent h.right.parent)
  parent_in y h =
      let kids : (i p q : ℕ) → IsAt h.left.kids i p → IsAt h.right.kids i q → Together A.rules theirs (both p q) = λ i p q pat qat. (c.exact (both p q)).0 (h.held i p q pat qat) in
      (members (both h.left.parent h.right.parent)).1
      ((c.exact (both h.left.parent h.right.parent)).1 (by_rules y.left y.right h.left h.right h.left_at h.right_at h.alike kids))

  pub all_fit : All (FitTogether A.rules theirs Z) found
  all_fit k d l =
      let y = get_or found k d in
      let h = c.fits y (Contains-get_or found k d l) in
      record {
        left = slice_get_within A.rules y.left h.left h.left_at;
        right = slice_get_within theirs y.right h.right h.right_at;
        kids = λ p q pat qat.
            ap (λ (o : Rule). length o.kids) (at_unique A.rules y.left p h.left pat h.left_at) ∙ h.alike.kids
            ∙ ap (λ (o : Rule). length o.kids) (at_unique theirs y.right h.right q h.right_at qat);
        held = λ p q pat qat i a b aat bat.
            let left : IsAt h.left.kids i a = subst (λ (o : Rule). IsAt o.kids i a) (at_unique A.rules y.left p h.left pat h.left_at) aat in
            let right : IsAt h.right.kids i b = subst (λ (o : Rule). IsAt o.kids i b) (at_unique theirs y.right q h.right qat h.right_at) bat in
            (members (both a b)).1 (h.held i a b left right);
        parent = λ p q pat qat.
            subst (λ (o : Rule). Contains Z (both o.parent q.parent)) (at_unique A.rules y.left h.left p h.left_at pat)
            (subst (λ (o : Rule). Contains Z (both h.left.parent o.parent)) (at_unique theirs y.right h.right q h.right_at qat) (parent_in y h));
      }
