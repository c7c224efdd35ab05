-- Which measures of a command are over their numbers.
use Rattle.std.proofs.Common.{◌≡◌, ◌<◌, ◌≤◌, length, ap, arith, subst}
use Rattle.explicit_ta.specs.Pair.{Two}
use Rattle.tree_definitions.specs.Automaton.{Automaton}
use Rattle.tree_definitions.specs.Canonical.{canon}
use Rattle.bool_ops.specs.Results.{HasMoreRules, HasMoreStates}
use Rattle.quotient.specs.Merged.{HasMoreUseful}
use Rattle.vata_core.specs.Limits.{ExceedsProduct, ExceedsQuotient, ExceedsSimulation, ExceedsUnion, HasManySymbols, IsFirstOver, turn}
use Rattle.vata_core.specs.Refusals.{IsOperationHalt}
use Rattle.vata_core.specs.declared.halting.Halt.{Halt}
use Rattle.vata_core.specs.declared.halting.Halt.TheVariants as halt
use Rattle.vata_core.specs.declared.measure.Measure.{Measure}
use Rattle.vata_core.specs.declared.measure.Measure.TheVariants.{Symbols, Pairs, Rules, Relation}
use Rattle.bool_ops.proofs.CanonicalProduct.{more_rules_in, more_rules_out, more_states_in, more_states_out}

module _ (A B : Automaton) (pair : Two) (is : pair ≡ record { left = canon A; right = canon B }) (few : ExceedsUnion Symbols A B → ⊥) where
  left_is : pair.left ≡ canon A
  left_is = ap (λ (p : Two). p.left) is

  right_is : pair.right ≡ canon B
  right_is = ap (λ (p : Two). p.right) is

  fewer_states : (HasMoreStates pair.left pair.right 1000000 → ⊥) → HasMoreStates A B 1000000 → ⊥
  fewer_states f h = f (more_states_in A B pair.left pair.right 1000000 left_is right_is h)

  fewer_rules : (HasMoreRules pair.left pair.right 2000000 → ⊥) → HasMoreRules A B 2000000 → ⊥
  fewer_rules f h = f (more_rules_in A B pair.left pair.right 2000000 left_is right_is h)

  pub product_within : (HasMoreStates pair.left pair.right 1000000 → ⊥) → (HasMoreRules pair.left pair.right 2000000 → ⊥) → (what : Measure) → ExceedsProduct what A B → ⊥
  product_within states rules Symbols e = few e
  product_within states rules Pairs e = fewer_states states e
  product_within states rules Rules e = fewer_rules rules e
  product_within states rules Relation e = e

  pub past_pairs : HasMoreStates pair.left pair.right 1000000 → IsFirstOver (λ what. ExceedsProduct what A B) Pairs
  past_pairs h = record { over = more_states_out A B pair.left pair.right 1000000 left_is right_is h; first = earlier_none }
    where
      earlier_none : (earlier : Measure) → turn earlier < 1 → ExceedsProduct earlier A B → ⊥
      earlier_none Symbols lt e = few e
      earlier_none Pairs lt e = omega (arith, lt)
      earlier_none Rules lt e = omega (arith, lt)
      earlier_none Relation lt e = e

  pub past_rules : (HasMoreStates pair.left pair.right 1000000 → ⊥) → HasMoreRules pair.left pair.right 2000000 → IsFirstOver (λ what. ExceedsProduct what A B) Rules
  past_rules states h = record { over = more_rules_out A B pair.left pair.right 2000000 left_is right_is h; first = earlier_none }
    where
      earlier_none : (earlier : Measure) → turn earlier < 2 → ExceedsProduct earlier A B → ⊥
      earlier_none Symbols lt e = few e
      earlier_none Pairs lt e = fewer_states states e
      earlier_none Rules lt e = omega (arith, lt)
      earlier_none Relation lt e = e

module _ (A T : Automaton) (is : T ≡ A) where
  pub quotient_within : (HasMoreUseful T 20000 → ⊥) → (what : Measure) → ExceedsQuotient what A → ⊥
  quotient_within few Symbols e = e
  quotient_within few Pairs e = e
  quotient_within few Rules e = e
  quotient_within few Relation e = subst (λ X. HasMoreUseful X 20000 → ⊥) is few e

  pub past_useful : HasMoreUseful T 20000 → IsFirstOver (λ what. ExceedsQuotient what A) Relation
  past_useful h = record { over = subst (λ X. HasMoreUseful X 20000) is h; first = earlier_none }
    where
      earlier_none : (earlier : Measure) → turn earlier < 3 → ExceedsQuotient earlier A → ⊥
      earlier_none Symbols lt e = e
      earlier_none Pairs lt e = e
      earlier_none Rules lt e = e
      earlier_none Relation lt e = omega (arith, lt)

-- too many symbols of both
pub past_symbols : (A B : Automaton) → HasManySymbols A B → IsFirstOver (λ what. ExceedsUnion what A B) Symbols
past_symbols A B h = record { over = h; first = λ earlier lt over. omega (arith, lt) }

-- what has no pair has no product
pub pair_halt : (A B : Automaton) (h : Halt) → IsOperationHalt (λ what. ExceedsUnion what A B) h → IsOperationHalt (λ what. ExceedsProduct what A B) h
pair_halt A B (halt.File place r) e = e
pair_halt A B (halt.Past Symbols) e = record { over = e.over; first = λ earlier lt over. omega (arith, lt) }
pair_halt A B (halt.Past Pairs) e = absurd e.over
pair_halt A B (halt.Past Rules) e = absurd e.over
pair_halt A B (halt.Past Relation) e = absurd e.over
pair_halt A B halt.Memory e = tt

-- too many states of a relation
pub past_states : (A : Automaton) → 20000 < length A.states → IsFirstOver (λ what. ExceedsSimulation what A) Relation
past_states A h = record { over = h; first = earlier_none }
  where
    earlier_none : (earlier : Measure) → turn earlier < 3 → ExceedsSimulation earlier A → ⊥
    earlier_none Symbols lt e = e
    earlier_none Pairs lt e = e
    earlier_none Rules lt e = e
    earlier_none Relation lt e = omega (arith, lt)

-- a relation of few states
pub simulation_within : (A : Automaton) → length A.states ≤ 20000 → (what : Measure) → ExceedsSimulation what A → ⊥
simulation_within A few Symbols e = e
simulation_within A few Pairs e = e
simulation_within A few Rules e = e
simulation_within A few Relation e = omega (arith, few, e)
