-- From lists of rules to automata.
use Rattle.std.proofs.Common.{◌↔◌, ℕ, ◌++◌, ◌∷◌, List, length, set, refl, sym, subst}
use Rattle.tree_definitions.specs.Tree.{Symbol}
use Rattle.tree_definitions.specs.Automaton.{Automaton, Rules, IsLabel, IsRule, IsNarrow, HasRule, IsFinal, IsAutomaton}
use Rattle.tree_definitions.specs.Canonical.{canon}
use Rattle.tree_definitions.specs.Quotient.{IsGreatestDown}
use Rattle.tree_definitions.specs.Relation.{Relation, Matrix, IsAt, Holds}
use Rattle.tree_definitions.specs.Simulation.{IsDown, IsUp, GreatestDown, GreatestUp}
use Rattle.tree_definitions.proofs.Greatest.{greatest_is_down, greatest_transitive, greatest_is_up, greatest_up_transitive, AllZip-weaker}
use Rattle.tree_definitions.proofs.InOrder.{canon_finals, rule_in, rule_out}
use Rattle.tree_definitions.proofs.Places.{exchanges_by_place, places_by_exchange}
use Rattle.tree_definitions.proofs.Standing.{label_once}
use Rattle.trim_ops.proofs.Bridge.{has_line}
use Rattle.simulations.specs.DownCases.{IsDownBy, GreatestBy}
use Rattle.simulations.specs.Relations.{IsGreatestUp}
use Rattle.child_exchange.specs.Exchanging.{IsUpBy}
use Rattle.simulations.specs.UpCases.{KeepsFinals, GreatestUpBy}

down_from_lines : (A : Automaton) (R : Relation) → IsDownBy A.rules R → IsDown (HasRule A) R
unfolding IsRule
down_from_lines A R d q r h a kids (i, (k, label, at)) =
    let m = d i (record { symbol = k; kids = kids; parent = q }) r at h in
    let over = m.1 in
    let place : IsAt A.rules m.0 (record { symbol = over.symbol; kids = over.kids; parent = r }) =
    subst (λ p. IsAt A.rules m.0 (record { symbol = over.symbol; kids = over.kids; parent = p })) m.4 m.2 in
    (over.kids, (m.0, (over.symbol, subst (λ s. IsLabel A s a) (sym m.3) label, place)), m.5)

lines_from_down : (A : Automaton) → IsAutomaton A → IsNarrow A → (R : Relation) → IsDown (HasRule A) R → IsDownBy A.rules R
unfolding IsRule
lines_from_down A fits narrow R d i rule r at h =
    let has = has_line A fits i rule at in
    let m = d rule.parent r h has.0 rule.kids has.2 in
    let line = m.1.1 in
    (m.1.0, record { symbol = line.0; kids = m.0; parent = r }, line.2, label_once A fits narrow line.0 rule.symbol has.0 line.1 has.1, refl, m.2)

-- the greatest downward simulation by lines is that by symbols
pub greatest_by_lines : (A : Automaton) → IsAutomaton A → IsNarrow A → (q r : ℕ) → GreatestBy (length A.states) A.rules q r ↔ GreatestDown (length A.states) (HasRule A) q r
greatest_by_lines A fits narrow q r = (
  λ g. (g.0, g.1, down_from_lines A (Holds g.0) g.2, g.3),
  λ g. (g.0, g.1, lines_from_down A fits narrow (Holds g.0) g.2, g.3),
)

-- the rules of the two are the same
down_same : (H K : Rules) → ((a : Symbol) (kids : List ℕ) (p : ℕ) → H a kids p → K a kids p) → ((a : Symbol) (kids : List ℕ) (p : ℕ) → K a kids p → H a kids p)
    → (R : Relation) → IsDown H R → IsDown K R
down_same H K out in_too R d q r h a kids rule = let m = d q r h a kids (in_too a kids q rule) in (m.0, out a m.0 r m.1, m.2)

-- that of a canonical form is that of the automaton
pub greatest_of_canon : (A : Automaton) (m : Matrix) → IsGreatestDown (canon A) m → IsGreatestDown A m
greatest_of_canon A m g = record {
  square = record { rows = g.square.rows; columns = g.square.columns };
  pairs = λ q r. (
    λ h. let k = (g.pairs q r).0 h in (k.0, k.1, down_same (HasRule (canon A)) (HasRule A) (rule_out A) (rule_in A) (Holds k.0) k.2, k.3),
    λ k. (g.pairs q r).1 (k.0, k.1, down_same (HasRule A) (HasRule (canon A)) (rule_in A) (rule_out A) (Holds k.0) k.2, k.3),
  );
}

module _ (A : Automaton) (m : Matrix) (g : IsGreatestDown A m) where
  pub down_is_simulation : IsDown (HasRule A) (Holds m)
  down_is_simulation q r h a kids rule =
      let k = greatest_is_down (length A.states) (HasRule A) q r ((g.pairs q r).0 h) a kids rule in
      (k.0, k.1, AllZip-weaker (GreatestDown (length A.states) (HasRule A)) (Holds m) (λ x y z. (g.pairs x y).1 z) kids k.0 k.2)

  pub down_is_transitive : (q r s : ℕ) → Holds m q r → Holds m r s → Holds m q s
  down_is_transitive q r s h k = (g.pairs q s).1 (greatest_transitive (length A.states) (HasRule A) q r s ((g.pairs q r).0 h) ((g.pairs r s).0 k))

exchange_of_line : (A : Automaton) (R : Relation) → IsUpBy A.rules R → (a : Symbol) (kids : List ℕ) (parent p q r : ℕ) → HasRule A a kids parent → IsAt kids p q → R q r
    → (above : ℕ) × HasRule A a (set kids p r) above × R parent above
unfolding IsRule
exchange_of_line A R up a kids parent p q r (i, (k, label, at)) kat h =
    let x = up i (record { symbol = k; kids = kids; parent = parent }) p q r at kat h in
    let over = x.1 in
    let place : IsAt A.rules x.0 (record { symbol = over.symbol; kids = set kids p r; parent = over.parent }) =
    subst (λ ks. IsAt A.rules x.0 (record { symbol = over.symbol; kids = ks; parent = over.parent })) x.4 x.2 in
    (over.parent, (x.0, (over.symbol, subst (λ s. IsLabel A s a) (sym x.3) label, place)), x.5)

up_from_lines : (A : Automaton) (m : Matrix) → KeepsFinals A.finals m → IsUpBy A.rules (Holds m) → IsUp A (Holds m)
up_from_lines A m keeps up = record {
  finals = keeps;
  rules = λ q r h. exchanges_by_place A (Holds m) q r (λ a kids parent p rule kat. exchange_of_line A (Holds m) up a kids parent p q r rule kat h);
}

lines_from_up : (A : Automaton) → IsAutomaton A → IsNarrow A → (R : Relation) → IsUp A R → IsUpBy A.rules R
unfolding IsRule
lines_from_up A fits narrow R up i rule p q r at kat h =
    let has = has_line A fits i rule at in
    let m = places_by_exchange A R q r (up.rules q r h) has.0 rule.kids rule.parent p has.2 kat in
    let line = m.1.1 in
    (m.1.0, record { symbol = line.0; kids = set rule.kids p r; parent = m.0 }, line.2, label_once A fits narrow line.0 rule.symbol has.0 line.1 has.1, refl, m.2)

-- the greatest upward simulation by lines is that by symbols
pub greatest_up_by_lines : (A : Automaton) → IsAutomaton A → IsNarrow A → (q r : ℕ) → GreatestUpBy (length A.states) A.finals A.rules q r ↔ GreatestUp A q r
greatest_up_by_lines A fits narrow q r = (
  λ g. (g.0, g.1, up_from_lines A g.0 g.2 g.3, g.4),
  λ g. (g.0, g.1, g.2.finals, lines_from_up A fits narrow (Holds g.0) g.2, g.3),
)

-- the rules and the final states of the two are the same
up_same : (A B : Automaton) → ((a : Symbol) (kids : List ℕ) (p : ℕ) → HasRule A a kids p → HasRule B a kids p) → ((a : Symbol) (kids : List ℕ) (p : ℕ) → HasRule B a kids p → HasRule A a kids p)
    → ((q : ℕ) → IsFinal A q → IsFinal B q) → ((q : ℕ) → IsFinal B q → IsFinal A q) → (R : Relation) → IsUp A R → IsUp B R
up_same A B out in_too fout fin R u = record {
  finals = λ q r h f. fout r (u.finals q r h (fin q f));
  rules = λ q r h a front back p rule. let m = u.rules q r h a front back p (in_too a (front ++ q ∷ back) p rule) in (m.0, out a (front ++ r ∷ back) m.0 m.1, m.2);
}

-- that of a canonical form is that of the automaton
pub greatest_up_of_canon : (A : Automaton) (m : Matrix) → IsGreatestUp (canon A) m → IsGreatestUp A m
greatest_up_of_canon A m g = record {
  square = record { rows = g.square.rows; columns = g.square.columns };
  pairs = λ q r. (
    λ h. let k = (g.pairs q r).0 h in (k.0, k.1, up_same (canon A) A (rule_out A) (rule_in A) (λ x f. (canon_finals A x).0 f) (λ x f. (canon_finals A x).1 f) (Holds k.0) k.2, k.3),
    λ k. (g.pairs q r).1 (k.0, k.1, up_same A (canon A) (rule_in A) (rule_out A) (λ x f. (canon_finals A x).1 f) (λ x f. (canon_finals A x).0 f) (Holds k.0) k.2, k.3),
  );
}

module _ (A : Automaton) (m : Matrix) (g : IsGreatestUp A m) where
  pub up_is_simulation : IsUp A (Holds m)
  up_is_simulation = record {
    finals = λ q r h f. (greatest_is_up A).finals q r ((g.pairs q r).0 h) f;
    rules = λ q r h a front back p rule. let k = (greatest_is_up A).rules q r ((g.pairs q r).0 h) a front back p rule in (k.0, k.1, (g.pairs p k.0).1 k.2);
  }

  pub up_is_transitive : (q r s : ℕ) → Holds m q r → Holds m r s → Holds m q s
  up_is_transitive q r s h k = (g.pairs q s).1 (greatest_up_transitive A q r s ((g.pairs q r).0 h) ((g.pairs r s).0 k))
