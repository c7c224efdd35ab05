-- The greatest downward simulation is one, and is reflexive and transitive.
use Rattle.std.proofs.Common.{◌≡◌, ℕ, ◌<◌, List, [], ◌∷◌, ◌++◌, length, refl, subst}
use Rattle.std.specs.Prelude.{All}
use Rattle.std.specs.List.{AllZip}
use Rattle.std.proofs.Math.Decide.{ℕ_discrete}
use Rattle.std.proofs.lemmas.List.Elements.{All-head, All-tail}
use Rattle.tree_definitions.specs.Tree.{Symbol}
use Rattle.tree_definitions.specs.Automaton.{Rules, Automaton, HasRule, IsFinal, IsState, IsAutomaton}
use Rattle.tree_definitions.specs.Relation.{Relation, Holds}
use Rattle.tree_definitions.specs.Simulation.{IsDown, IsUp, GreatestDown, GreatestUp}
use Rattle.tree_definitions.proofs.Matrices.{rows_of, rows_hold, rows_say, rows_square, holds_within, dec_holds, dec_below}
use Rattle.tree_definitions.proofs.Listing.{parent_state}

dec_both : {P Q : Type 0} → Dec P → Dec Q → Dec (P × Q)
dec_both (yes p) (yes q) = yes (p, q)
dec_both (yes p) (no m) = no (λ h. m h.1)
dec_both (no m) d = no (λ h. m h.0)

pub AllZip-weaker : (R S : Relation) → ((q r : ℕ) → R q r → S q r) → (qs rs : List ℕ) → AllZip R qs rs → AllZip S qs rs
AllZip-weaker R S h [] [] z = tt
AllZip-weaker R S h [] (r ∷ rs) z = absurd z
AllZip-weaker R S h (q ∷ qs) [] z = absurd z
AllZip-weaker R S h (q ∷ qs) (r ∷ rs) z = (h q r z.0, AllZip-weaker R S h qs rs z.1)

AllZip-joined : (R S V : Relation) → ((q r s : ℕ) → R q r → S r s → V q s) → (qs rs ss : List ℕ) → AllZip R qs rs → AllZip S rs ss → AllZip V qs ss
AllZip-joined R S V h [] [] [] z y = tt
AllZip-joined R S V h [] [] (s ∷ ss) z y = absurd y
AllZip-joined R S V h [] (r ∷ rs) ss z y = absurd z
AllZip-joined R S V h (q ∷ qs) [] ss z y = absurd z
AllZip-joined R S V h (q ∷ qs) (r ∷ rs) [] z y = absurd y
AllZip-joined R S V h (q ∷ qs) (r ∷ rs) (s ∷ ss) z y = (h q r s z.0 y.0, AllZip-joined R S V h qs rs ss z.1 y.1)

pub AllZip-itself : (R : Relation) (P : ℕ → Type 0) → ((q : ℕ) → P q → R q q) → (qs : List ℕ) → All P qs → AllZip R qs qs
AllZip-itself R P h [] a = tt
AllZip-itself R P h (q ∷ qs) a = (h q (All-head P q qs a), AllZip-itself R P h qs (All-tail P q qs a))

module _ (n : ℕ) (H : Rules) where
  pub greatest_is_down : IsDown H (GreatestDown n H)
  greatest_is_down q r h a kids rule =
      let m = h.2 q r h.3 a kids rule in
      (m.0, m.1, AllZip-weaker (Holds h.0) (GreatestDown n H) (λ x y k. (h.0, h.1, h.2, k)) kids m.0 m.2)

  pub greatest_transitive : (q r s : ℕ) → GreatestDown n H q r → GreatestDown n H r s → GreatestDown n H q s
  greatest_transitive q r s h g =
      (rows_of n Over dec_over, rows_square n Over dec_over, down, joined q r s h.3 g.3)
    where
      -- over some middle place
      Over : ℕ → ℕ → Type 0
      Over x z = (y : ℕ) × (y < n) × ((Holds h.0 x y) × Holds g.0 y z)

      dec_over : (x z : ℕ) → Dec (Over x z)
      dec_over x z = dec_below (λ y. Holds h.0 x y × Holds g.0 y z) (λ y. dec_both (dec_holds h.0 x y) (dec_holds g.0 y z)) n

      joined : (x y z : ℕ) → Holds h.0 x y → Holds g.0 y z → Holds (rows_of n Over dec_over) x z
      joined x y z k l =
          let a = holds_within n h.0 h.1 x y k in
          let b = holds_within n g.0 g.1 y z l in
          rows_hold n Over dec_over x z a.0 b.1 (y, a.1, (k, l))

      down : IsDown H (Holds (rows_of n Over dec_over))
      down x z k a kids rule =
          let o = (rows_say n Over dec_over x z k).2 in
          let one = h.2 x o.0 o.2.0 a kids rule in
          let two = g.2 o.0 z o.2.1 a one.0 one.1 in
          (two.0, two.1, AllZip-joined (Holds h.0) (Holds g.0) (Holds (rows_of n Over dec_over)) joined kids one.0 two.0 one.2 two.2)

  -- the children of each rule are in range
  module _ (within : (a : Symbol) (kids : List ℕ) (q : ℕ) → H a kids q → All (λ k. k < n) kids) where
    pub greatest_reflexive : (q : ℕ) → q < n → GreatestDown n H q q
    greatest_reflexive q l = (rows_of n ◌≡◌ ℕ_discrete, rows_square n ◌≡◌ ℕ_discrete, down, itself q l)
      where
        itself : (q : ℕ) → q < n → Holds (rows_of n ◌≡◌ ℕ_discrete) q q
        itself q l = rows_hold n ◌≡◌ ℕ_discrete q q l l refl

        down : IsDown H (Holds (rows_of n ◌≡◌ ℕ_discrete))
        down x y k a kids rule =
            let e = (rows_say n ◌≡◌ ℕ_discrete x y k).2 in
            (kids, subst (H a kids) e rule, AllZip-itself (Holds (rows_of n ◌≡◌ ℕ_discrete)) (λ k. k < n) itself kids (within a kids x rule))

-- The greatest upward simulation is one, and is reflexive and transitive.
module _ (A : Automaton) where
  pub greatest_is_up : IsUp A (GreatestUp A)
  greatest_is_up = record {
    finals = λ q r h f. h.2.finals q r h.3 f;
    rules = λ q r h a front back p rule. let m = h.2.rules q r h.3 a front back p rule in (m.0, m.1, (h.0, h.1, h.2, m.2));
  }

  pub greatest_up_transitive : (q r s : ℕ) → GreatestUp A q r → GreatestUp A r s → GreatestUp A q s
  greatest_up_transitive q r s h g =
      (rows_of n Over dec_over, rows_square n Over dec_over, up, joined q r s h.3 g.3)
    where
      n : ℕ
      n = length A.states

      Over : ℕ → ℕ → Type 0
      Over x z = (y : ℕ) × (y < n) × ((Holds h.0 x y) × Holds g.0 y z)

      dec_over : (x z : ℕ) → Dec (Over x z)
      dec_over x z = dec_below (λ y. Holds h.0 x y × Holds g.0 y z) (λ y. dec_both (dec_holds h.0 x y) (dec_holds g.0 y z)) n

      joined : (x y z : ℕ) → Holds h.0 x y → Holds g.0 y z → Holds (rows_of n Over dec_over) x z
      joined x y z k l =
          let a = holds_within n h.0 h.1 x y k in
          let b = holds_within n g.0 g.1 y z l in
          rows_hold n Over dec_over x z a.0 b.1 (y, a.1, (k, l))

      up : IsUp A (Holds (rows_of n Over dec_over))
      up = record {
        finals = λ x z k f. let o = (rows_say n Over dec_over x z k).2 in g.2.finals o.0 z o.2.1 (h.2.finals x o.0 o.2.0 f);
        rules = λ x z k a front back p rule.
            let o = (rows_say n Over dec_over x z k).2 in
            let one = h.2.rules x o.0 o.2.0 a front back p rule in
            let two = g.2.rules o.0 z o.2.1 a front back one.0 one.1 in
            (two.0, two.1, joined p one.0 two.0 one.2 two.2);
      }

  pub greatest_up_reflexive : IsAutomaton A → (q : ℕ) → IsState A q → GreatestUp A q q
  greatest_up_reflexive fits q l = (rows_of n ◌≡◌ ℕ_discrete, rows_square n ◌≡◌ ℕ_discrete, up, rows_hold n ◌≡◌ ℕ_discrete q q l l refl)
    where
      n : ℕ
      n = length A.states

      up : IsUp A (Holds (rows_of n ◌≡◌ ℕ_discrete))
      up = record {
        finals = λ x y k f. let e = (rows_say n ◌≡◌ ℕ_discrete x y k).2 in subst (IsFinal A) e f;
        rules = λ x y k a front back p rule.
            let e = (rows_say n ◌≡◌ ℕ_discrete x y k).2 in
            let l = parent_state A fits a (front ++ x ∷ back) p rule in
            (p, subst (λ z. HasRule A a (front ++ z ∷ back) p) e rule, rows_hold n ◌≡◌ ℕ_discrete p p l l refl);
      }
