-- Downward simulations of two automata together, from those between each two of them.
use Rattle.std.proofs.Common.{◌≡◌, inl, inr, ℕ, ◌<◌, ◌≤◌, ◌+◌, ◌-◌, List, length, map, Option, Some, None, refl, sym, subst, arith, ⊎_elim}
use Rattle.std.specs.List.{AllZip}
use Rattle.std.specs.Prelude.{Contains, IfNone, IfSome}
use Rattle.std.proofs.lemmas.Bool.{cases_lt}
use Rattle.tree_definitions.specs.Tree.{Symbol}
use Rattle.tree_definitions.specs.Automaton.{Automaton, Rule, IsLabel, IsNarrow, HasRule, IsAutomaton}
use Rattle.tree_definitions.specs.Joint.{JointRule, right}
use Rattle.tree_definitions.specs.Relation.{Relation, IsAt}
use Rattle.tree_definitions.specs.Simulation.{IsDown}
use Rattle.tree_definitions.proofs.Listing.{at_label, label_at, parent_state, rule_of_line, rule_parts}
use Rattle.tree_definitions.proofs.Members.{contains_at}
use Rattle.tree_definitions.proofs.Standing.{label_once}
use Rattle.down_conditions.specs.Between.{IsAnswered, IsDownBetween, IsRuleDown, IsSought}
use Rattle.down_conditions.proofs.Zips.{zip_mapped, zip_unmapped, map_same}

-- a line answers with a rule, and a rule is a line
module _ (H : Automaton) (R : Relation) (l h : ℕ) (a : Symbol) (k : ℕ) (label : IsLabel H k a) (kids : List ℕ) (r : ℕ) where
  -- a line to r with the number k has children above these
  abbrev pub LineAnswers : Type 0
  LineAnswers = (j : ℕ) × (line : Rule) × IsAt H.rules j line × (line.symbol ≡ k) × (line.parent ≡ r) × AllZip (λ x y. R (l + x) (h + y)) kids line.kids

  pub rule_answers : LineAnswers → IsAnswered H R l h a kids r
  rule_answers (j, line, at, e, p, z) = (line.kids, subst (HasRule H a line.kids) p (j, rule_of_line H j line a at (subst (λ i. IsLabel H i a) (sym e) label)), z)

  pub line_answers : IsAutomaton H → IsNarrow H → IsAnswered H R l h a kids r → LineAnswers
  line_answers fits narrow (above, (j, rule), z) =
      let parts = rule_parts H j a above r rule in
      (j, record { symbol = parts.0; kids = above; parent = r }, parts.2, label_once H fits narrow parts.0 k a parts.1 label, refl, z)

-- without a number no rule answers
pub none_answers : (H : Automaton) (R : Relation) (l h : ℕ) (a : Symbol) (kids : List ℕ) (r : ℕ) → ((k : ℕ) → ¬ IsLabel H k a) → ¬ IsAnswered H R l h a kids r
none_answers H R l h a kids r none (above, (j, rule), z) = let parts = rule_parts H j a above r rule in none parts.0 parts.1

-- a number that stands no places further on stands where it did
nought : (x : ℕ) → 0 + x ≡ x
nought x = omega arith

near : (R : Relation) (kids : List ℕ) (f : ℕ → ℕ) (above : List ℕ) → AllZip (λ x y. R (0 + x) (f y)) kids above → AllZip R kids (map f above)
near R kids f above z = subst (λ ks. AllZip R ks (map f above)) (map_same (λ x. 0 + x) kids nought) (zip_mapped R (λ x. 0 + x) f kids above z)

far : (R : Relation) (kids : List ℕ) (f : ℕ → ℕ) (above : List ℕ) → AllZip R kids (map f above) → AllZip (λ x y. R (0 + x) (f y)) kids above
far R kids f above z = zip_unmapped R (λ x. 0 + x) f kids above (subst (λ ks. AllZip R ks (map f above)) (sym (map_same (λ x. 0 + x) kids nought)) z)

same_above : (R : Relation) (kids above : List ℕ) → AllZip R kids (map (λ y. 0 + y) above) → AllZip R kids above
same_above R kids above z = subst (AllZip R kids) (map_same (λ y. 0 + y) above nought) z

above_same : (R : Relation) (kids above : List ℕ) → AllZip R kids above → AllZip R kids (map (λ y. 0 + y) above)
above_same R kids above z = subst (AllZip R kids) (sym (map_same (λ y. 0 + y) above nought)) z

module _ (A B : Automaton) (fits : IsAutomaton A) (R : Relation) where
  pub down_from_blocks : ((q r : ℕ) → R q r → r < length A.states + length B.states)
      → IsDownBetween A A R 0 0 → IsDownBetween A B R 0 (length A.states) → IsDownBetween B A R (length A.states) 0 → IsDownBetween B B R (length A.states) (length A.states)
      → IsDown (JointRule A B) R
  down_from_blocks within aa ab ba bb q r h a kids (inl rule) =
      let h0 : R (0 + q) r = subst (λ z. R z r) (sym (nought q)) h in
      ⊎_elim
      (λ (low : r < length A.states).
      let k = aa a kids q rule r low (subst (R (0 + q)) (sym (nought r)) h0) in
      (k.0, inl k.1, same_above R kids k.0 (near R kids (λ y. 0 + y) k.0 k.2)))
      (λ (high : length A.states ≤ r).
      let w = within q r h in
      let s = r - length A.states in
      let e : r ≡ right A s = omega (arith, high) in
      let k = ab a kids q rule s (omega (arith, w, high)) (subst (R (0 + q)) e h0) in
      (map (right A) k.0, inr (k.0, s, refl, e, k.1), near R kids (right A) k.0 k.2))
      (cases_lt r (length A.states))
  down_from_blocks within aa ab ba bb q r h a kids (inr (ks, s, ek, eq, rule)) =
      let hs : R (right A s) r = subst (λ z. R z r) eq h in
      ⊎_elim
      (λ (low : r < length A.states).
      let k = ba a ks s rule r low (subst (R (right A s)) (sym (nought r)) hs) in
      (k.0, inl k.1, subst (λ xs. AllZip R xs k.0) (sym ek) (same_above R (map (right A) ks) k.0 (zip_mapped R (right A) (λ y. 0 + y) ks k.0 k.2))))
      (λ (high : length A.states ≤ r).
      let w = within q r h in
      let t = r - length A.states in
      let e : r ≡ right A t = omega (arith, high) in
      let k = bb a ks s rule t (omega (arith, w, high)) (subst (R (right A s)) e hs) in
      (map (right A) k.0, inr (k.0, t, refl, e, k.1), subst (λ xs. AllZip R xs (map (right A) k.0)) (sym ek) (zip_mapped R (right A) (right A) ks k.0 k.2)))
      (cases_lt r (length A.states))

  -- what answers at a place of A, or at one of B
  at_left : (a : Symbol) (above : List ℕ) (r : ℕ) → r < length A.states → JointRule A B a above r → HasRule A a above r
  at_left a above r l (inl rule) = rule
  at_left a above r l (inr (ks, s, ek, eq, rule)) = absurd (omega (arith, l, eq))

  at_right : (a : Symbol) (above : List ℕ) (s : ℕ) → JointRule A B a above (right A s) → (ks : List ℕ) × (above ≡ map (right A) ks) × HasRule B a ks s
  at_right a above s (inl rule) = let l = parent_state A fits a above (right A s) rule in absurd (omega (arith, l))
  at_right a above s (inr (ks, t, ek, eq, rule)) = let e : t ≡ s = omega (arith, eq) in (ks, ek, subst (HasRule B a ks) e rule)

  module _ (down : IsDown (JointRule A B) R) where
    pub block_aa : IsDownBetween A A R 0 0
    block_aa a kids q rule r l h =
        let k = down q r (subst (R q) (nought r) (subst (λ z. R z (0 + r)) (nought q) h)) a kids (inl rule) in
        (k.0, at_left a k.0 r l k.1, far R kids (λ y. 0 + y) k.0 (above_same R kids k.0 k.2))

    pub block_ab : IsDownBetween A B R 0 (length A.states)
    block_ab a kids q rule s l h =
        let k = down q (right A s) (subst (λ z. R z (right A s)) (nought q) h) a kids (inl rule) in
        let t = at_right a k.0 s k.1 in
        (t.0, t.2, far R kids (right A) t.0 (subst (AllZip R kids) t.1 k.2))

    pub block_ba : IsDownBetween B A R (length A.states) 0
    block_ba a kids q rule r l h =
        let k = down (right A q) r (subst (R (right A q)) (nought r) h) a (map (right A) kids) (inr (kids, q, refl, refl, rule)) in
        (k.0, at_left a k.0 r l k.1, zip_unmapped R (right A) (λ y. 0 + y) kids k.0 (above_same R (map (right A) kids) k.0 k.2))

    pub block_bb : IsDownBetween B B R (length A.states) (length A.states)
    block_bb a kids q rule s l h =
        let k = down (right A q) (right A s) h a (map (right A) kids) (inr (kids, q, refl, refl, rule)) in
        let t = at_right a k.0 s k.1 in
        (t.0, t.2, zip_unmapped R (right A) (right A) kids t.0 (subst (AllZip R (map (right A) kids)) t.1 k.2))

-- what a search for a symbol gives
pub sought : (H : Automaton) → IsNarrow H → (list : List Symbol) (a : Symbol) (o : Option ℕ) → list ≡ H.symbols
    → IfSome o (λ i. IsAt list i a) → IfNone o (Contains list a → ⊥) → IsSought H a o
sought H narrow list a None e found none = λ k label. none (subst (λ (xs : List Symbol). Contains xs a) (sym e) (contains_at H.symbols k a (at_label H k a narrow label)))
sought H narrow list a (Some k) e found none = label_at H k a narrow (subst (λ (xs : List Symbol). IsAt xs k a) e found)

-- rule by rule, and line by line
module _ (L H : Automaton) (R : Relation) (l h : ℕ) where
  pub between_from_lines : ((i : ℕ) (rule : Rule) → IsAt L.rules i rule → IsRuleDown L H R l h rule) → IsDownBetween L H R l h
  between_from_lines each a kids q (i, rule) =
      let parts = rule_parts L i a kids q rule in
      each i (record { symbol = parts.0; kids = kids; parent = q }) parts.2 a parts.1

  pub line_from_between : IsDownBetween L H R l h → (i : ℕ) (rule : Rule) → IsAt L.rules i rule → IsRuleDown L H R l h rule
  line_from_between down i rule at a label = down a rule.kids rule.parent (i, rule_of_line L i rule a at label)
