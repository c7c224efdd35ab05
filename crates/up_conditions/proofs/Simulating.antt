-- From exchanges in a list of rules to upward simulations of an automaton, and back.
use Rattle.std.proofs.Common.{ℕ, List, set, refl, sym, subst}
use Rattle.tree_definitions.specs.Tree.{Symbol}
use Rattle.tree_definitions.specs.Automaton.{Automaton, IsLabel, IsRule, HasRule, IsFinal, IsNarrow, IsAutomaton}
use Rattle.tree_definitions.specs.Relation.{Relation, IsAt}
use Rattle.tree_definitions.specs.Simulation.{IsUp}
use Rattle.tree_definitions.proofs.Places.{exchanges_by_place, places_by_exchange}
use Rattle.tree_definitions.proofs.Standing.{label_once}
use Rattle.trim_ops.proofs.Bridge.{has_line}
use Rattle.child_exchange.specs.Exchanging.{IsUpBy}

exchange_of_line : (A : Automaton) (R : Relation) → IsUpBy A.rules R → (a : Symbol) (kids : List ℕ) (parent p q r : ℕ) → HasRule A a kids parent → IsAt kids p q → R q r
    → (above : ℕ) × HasRule A a (set kids p r) above × R parent above
unfolding IsRule
exchange_of_line A R up a kids parent p q r (i, (k, label, at)) kat h =
    let x = up i (record { symbol = k; kids = kids; parent = parent }) p q r at kat h in
    let over = x.1 in
    let place : IsAt A.rules x.0 (record { symbol = over.symbol; kids = set kids p r; parent = over.parent }) =
    subst (λ ks. IsAt A.rules x.0 (record { symbol = over.symbol; kids = ks; parent = over.parent })) x.4 x.2 in
    (over.parent, (x.0, (over.symbol, subst (λ s. IsLabel A s a) (sym x.3) label, place)), x.5)

pub up_from_lines : (A : Automaton) (R : Relation) → ((q r : ℕ) → R q r → IsFinal A q → IsFinal A r) → IsUpBy A.rules R → IsUp A R
up_from_lines A R keeps up = record {
  finals = keeps;
  rules = λ q r h. exchanges_by_place A R q r (λ a kids parent p rule kat. exchange_of_line A R up a kids parent p q r rule kat h);
}

pub lines_from_up : (A : Automaton) → IsAutomaton A → IsNarrow A → (R : Relation) → IsUp A R → IsUpBy A.rules R
unfolding IsRule
lines_from_up A fits narrow R up i rule p q r at kat h =
    let has = has_line A fits i rule at in
    let m = places_by_exchange A R q r (up.rules q r h) has.0 rule.kids rule.parent p has.2 kat in
    let line = m.1.1 in
    (m.1.0, record { symbol = line.0; kids = set rule.kids p r; parent = m.0 }, line.2, label_once A fits narrow line.0 rule.symbol has.0 line.1 has.1, refl, m.2)
