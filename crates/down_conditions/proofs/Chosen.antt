-- A choice as a function of the tuples, and as one of the places where they stand in a list.
use Rattle.std.proofs.Common.{◌≡◌, ℕ, ◌<◌, List, length, get_or, refl, sym, ◌∙◌, subst}
use Rattle.std.specs.Prelude.{All}
use Rattle.std.proofs.lemmas.List.Elements.{Contains-get_or}
use Rattle.std.proofs.lemmas.Option.{slice_get_within, get_or_from_slice_get}
use Rattle.tree_definitions.specs.Tree.{Symbol}
use Rattle.tree_definitions.specs.Automaton.{Automaton}
use Rattle.tree_definitions.specs.Cover.{Pair}
use Rattle.tree_definitions.specs.DownCert.{Downs, SentTo}
use Rattle.tree_definitions.specs.Relation.{Relation, Row, IsAt}
use Rattle.tree_definitions.proofs.Choices.{tuple_discrete}
use Rattle.tree_definitions.proofs.Matrices.{dec_below}
use Rattle.tree_definitions.proofs.Members.{at_within, place_of}
use Rattle.down_conditions.specs.Covering.{AreShifted, Shifted}
use Rattle.down_conditions.specs.Choosing.{Assigns, Covers, Hits, Misses, Sent, tuple_at}
use Rattle.down_conditions.specs.Refuting.{AreDowns, IsRuleCovered, Refutes}
use Rattle.down_conditions.proofs.Shifting.{covered_held, held_covered}
use Rattle.down_conditions.proofs.Stepping.{tuple_is}

module _ (B : Automaton) (a : Symbol) (set : Row) (list : List ℕ) (within : All (λ r. r < length B.rules) list) (are : AreDowns B a set list) where
  -- each place of the list has a tuple, and each tuple a place
  pub tuple_down : (k : ℕ) → k < length list → Downs B a set (tuple_at B.rules list k)
  tuple_down k l =
      let r = get_or list k 0 in
      let rule = at_within B.rules r (within k 0 l) in
      (are (tuple_at B.rules list k)).0 (r, rule.0, Contains-get_or list k 0 l, rule.1, sym (tuple_is B.rules list k rule.0 rule.1))

  down_place : (tuple : List ℕ) → Downs B a set tuple → (k : ℕ) × (k < length list) × (tuple_at B.rules list k ≡ tuple)
  down_place tuple d =
      let h = (are tuple).1 d in
      let k = place_of list h.0 h.2 in
      let e : get_or list k.0 0 ≡ h.0 = get_or_from_slice_get list k.0 h.0 0 k.1 in
      (k.0, slice_get_within list k.0 h.0 k.1, tuple_is B.rules list k.0 h.1 (subst (λ r. IsAt B.rules r h.1) (sym e) h.3) ∙ h.4)

  Place : List ℕ → Type 0
  Place tuple = (k : ℕ) × (k < length list) × (tuple_at B.rules list k ≡ tuple)

  placed : (tuple : List ℕ) → Dec (Place tuple)
  unfolding Place
  placed tuple = dec_below (λ k. tuple_at B.rules list k ≡ tuple) (λ k. tuple_discrete (tuple_at B.rules list k) tuple) (length list)

  by_place : (to : ℕ → ℕ) (tuple : List ℕ) → Dec (Place tuple) → ℕ
  unfolding Place
  by_place to tuple (yes h) = to h.0
  by_place to tuple (no n) = 0

  pub choice_of : (ℕ → ℕ) → List ℕ → ℕ
  choice_of to tuple = by_place to tuple (placed tuple)

  choice_at : (to : ℕ → ℕ) (tuple : List ℕ) → Downs B a set tuple → (k : ℕ) × (k < length list) × (tuple_at B.rules list k ≡ tuple) × (choice_of to tuple ≡ to k)
  unfolding choice_of by_place Place
  choice_at to tuple d = go (placed tuple)
    where
      go : (p : Dec (Place tuple)) → (k : ℕ) × (k < length list) × (tuple_at B.rules list k ≡ tuple) × (by_place to tuple p ≡ to k)
      go (yes h) = (h.0, h.1, h.2, refl)
      go (no n) = absurd (n (down_place tuple d))

  module _ (A : Automaton) (R : Relation) (pairs wides : List Pair) (shifted : AreShifted (length A.states) pairs wides) (kids : List ℕ) where
    pub refuted_by : (to : ℕ → ℕ) → Assigns (length list) (length kids) to → Misses (Covers R wides (length A.states) kids) (tuple_at B.rules list) (length list) to
        → (choice : List ℕ → ℕ) × Refutes A B R pairs set a kids choice
    refuted_by to all misses = (
      choice_of to,
      record {
        within = λ tuple d. let k = choice_at to tuple d in subst (λ z. z < length kids) (sym k.3) (all k.0 k.1);
        uncovered = λ i q kat covered. misses i (
          q,
          kat,
          covered_held A R pairs wides shifted (SentTo B a set (choice_of to) i) (Shifted (length A.states) (Sent (tuple_at B.rules list) (length list) to i))
              (λ s h.
              let sent = h.2 in
              let k = choice_at to sent.0 sent.1 in
              (h.0, h.1, (k.0, k.1, sym k.3 ∙ sent.2, subst (λ (xs : List ℕ). IsAt xs i h.0) (sym k.2) sent.3)))
              q covered,
        );
      },
    )

    pub covered_by : ((to : ℕ → ℕ) → Assigns (length list) (length kids) to → Hits (Covers R wides (length A.states) kids) (tuple_at B.rules list) (length list) to)
        → IsRuleCovered A B R pairs set a kids
    covered_by hits choice is_choice =
        let to : ℕ → ℕ = λ k. choice (tuple_at B.rules list k) in
        let h = hits to (λ k l. is_choice (tuple_at B.rules list k) (tuple_down k l)) in
        let i = h.0 in
        let q = h.1.0 in (
          i,
          q,
          h.1.1,
          held_covered A R pairs wides shifted (SentTo B a set choice i) (Shifted (length A.states) (Sent (tuple_at B.rules list) (length list) to i))
              (λ s m. let sent = m.2 in (m.0, m.1, (tuple_at B.rules list sent.0, tuple_down sent.0 sent.1, sent.2, sent.3))) q h.1.2,
        )
