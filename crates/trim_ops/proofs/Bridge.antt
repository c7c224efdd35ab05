-- From lists of rules to automata.
use Rattle.std.proofs.Common.{◌↔◌, ℕ, List, length}
use Rattle.std.specs.Prelude.{All}
use Rattle.std.proofs.lemmas.List.Elements.{All-contains, All-weaker}
use Rattle.std.proofs.lemmas.Option.{slice_get-get_or}
use Rattle.tree_definitions.specs.Tree.{Symbol}
use Rattle.tree_definitions.specs.Automaton.{Automaton, Rule, IsLabel, IsRule, HasRule, FitsRule, IsAutomaton}
use Rattle.tree_definitions.specs.Relation.{IsAt}
use Rattle.tree_definitions.specs.Trim.{IsReachable}
use Rattle.tree_definitions.proofs.Standing.{some_rule}
use Rattle.tree_definitions.proofs.Members.{contains_at}
use Rattle.tree_definitions.proofs.Marked.{reachable_parent, reachable_within}
use Rattle.trim_ops.specs.Marking.{Derived, by_rule, IsWithin, AreWithin}

all_at : (P : ℕ → Type 0) (xs : List ℕ) → ((i k : ℕ) → IsAt xs i k → P k) → All P xs
all_at P xs h i d l = h i _ (slice_get-get_or xs i d l)

pub within_states : (A : Automaton) → IsAutomaton A → AreWithin (length A.states) A.rules
within_states A fits = All-weaker (FitsRule A) (IsWithin (length A.states)) (λ r f. record { kids = f.kids; parent = f.parent }) A.rules fits.fitting

pub has_line : (A : Automaton) (fits : IsAutomaton A) (r : ℕ) (rule : Rule) → IsAt A.rules r rule → (a : Symbol) × IsLabel A rule.symbol a × HasRule A a rule.kids rule.parent
has_line A fits r rule at = some_rule A fits r rule at

derived_reachable : (A : Automaton) → IsAutomaton A → (q : ℕ) → Derived A.rules q → IsReachable A q
derived_reachable A fits q (by_rule r rule at kids) =
    let has = has_line A fits r rule at in
    reachable_parent A has.0 rule.kids rule.parent has.2 (all_at (IsReachable A) rule.kids (λ i k ik. derived_reachable A fits k (kids i k ik)))

reachable_derived : (A : Automaton) (q : ℕ) → IsReachable A q → Derived A.rules q
unfolding IsRule
reachable_derived A q h = reachable_within A (Derived A.rules)
    (λ a kids p rule all. by_rule rule.0 (record { symbol = rule.1.0; kids = kids; parent = p }) rule.1.2 (λ i k ik. All-contains (Derived A.rules) kids k all (contains_at kids i k ik)))
    h.0 q h.1

pub derived_is_reachable : (A : Automaton) → IsAutomaton A → (q : ℕ) → Derived A.rules q ↔ IsReachable A q
derived_is_reachable A fits q = (derived_reachable A fits q, reachable_derived A q)
