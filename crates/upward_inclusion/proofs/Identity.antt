-- The identity is an upward simulation, reflexive and transitive.
use Rattle.std.proofs.Common.{ℕ, ◌++◌, ◌∷◌, length, refl, subst}
use Rattle.tree_definitions.specs.Automaton.{Automaton, HasRule, IsFinal, IsAutomaton}
use Rattle.tree_definitions.specs.Canonical.{canon}
use Rattle.tree_definitions.specs.Relation.{Matrix, Holds, IsSquare}
use Rattle.tree_definitions.specs.Simulation.{IsUp}
use Rattle.tree_definitions.proofs.InOrder.{canon_finals, rule_in, rule_out}
use Rattle.tree_definitions.proofs.Listing.{parent_state}
use Rattle.bit_matrix.specs.Matrices.{IsIdentity}
use Rattle.antichain_up.specs.Orders.{IsUpOrder}

-- the identity between the states of A
module _ (A : Automaton) (fits : IsAutomaton A) (m : Matrix) (square : IsSquare (length A.states) m) (pairs : IsIdentity (length A.states) m) where
  identity_is_up : IsUp A (Holds m)
  identity_is_up = record {
    finals = λ q r h f. subst (IsFinal A) ((pairs q r).0 h).0 f;
    rules = λ q r h a front back p rule.
        let e = ((pairs q r).0 h).0 in
        (p, subst (λ z. HasRule A a (front ++ z ∷ back) p) e rule, (pairs p p).1 (refl, parent_state A fits a (front ++ q ∷ back) p rule));
  }

  identity_transitive : (q r s : ℕ) → Holds m q r → Holds m r s → Holds m q s
  identity_transitive q r s h k = subst (λ z. Holds m q z) ((pairs r s).0 k).0 h

  -- it is one of the canonical form too
  pub identity_order : IsUpOrder (canon A) m
  identity_order = record {
    square = record { rows = square.rows; columns = square.columns };
    simulation = record {
      finals = λ q r h f. (canon_finals A r).1 (identity_is_up.finals q r h ((canon_finals A q).0 f));
      rules = λ q r h a front back p rule. let k = identity_is_up.rules q r h a front back p (rule_out A a (front ++ q ∷ back) p rule) in (k.0, rule_in A a (front ++ r ∷ back) k.0 k.1, k.2);
    };
    order = record {
      reflexive = λ q l. (pairs q q).1 (refl, l);
      transitive = identity_transitive;
    };
  }
