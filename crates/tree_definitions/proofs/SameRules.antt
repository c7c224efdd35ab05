-- Automata with the same rules and final states, as an automaton and its canonical form.
use Rattle.std.proofs.Common.{◌≡◌, ◌↔◌, ℕ, List, [], ◌∷◌, subst}
use Rattle.std.proofs.lemmas.List.Elements.{All-weaker}
use Rattle.tree_definitions.specs.Tree.{Symbol}
use Rattle.tree_definitions.specs.Automaton.{Automaton, HasRule, IsFinal}
use Rattle.tree_definitions.specs.Canonical.{canon}
use Rattle.tree_definitions.specs.Trim.{IsReachable, Leads, Climbs, IsUseful, IsTrim}
use Rattle.tree_definitions.proofs.InOrder.{canon_finals, rule_in, rule_out}
use Rattle.tree_definitions.proofs.Joins.{reaches_more}
use Rattle.tree_definitions.proofs.Results.{one_trim}

module _ (A B : Automaton) (rules : (a : Symbol) (kids : List ℕ) (p : ℕ) → HasRule A a kids p → HasRule B a kids p) where
  pub still_reachable : (q : ℕ) → IsReachable A q → IsReachable B q
  still_reachable q h = (h.0, reaches_more (HasRule A) (HasRule B) rules h.0 q h.1)

  still_leads : (q p : ℕ) → Leads A q p → Leads B q p
  still_leads q p l = (l.0, l.1, rules l.0 l.1 p l.2, l.3, All-weaker (IsReachable A) (IsReachable B) still_reachable l.1 l.4)

  module _ (finals : (q : ℕ) → IsFinal A q → IsFinal B q) where
    still_climbs : (q : ℕ) (path : List ℕ) → Climbs A q path → Climbs B q path
    still_climbs q [] h = (still_reachable q h.0, finals q h.1)
    still_climbs q (p ∷ path) h = (still_reachable q h.0, still_leads q p h.1, still_climbs p path h.2)

    pub still_useful : (q : ℕ) → IsUseful A q → IsUseful B q
    still_useful q u = (u.0, still_climbs q u.0 u.1)

pub canon_reachable : (A : Automaton) (q : ℕ) → IsReachable (canon A) q ↔ IsReachable A q
canon_reachable A q = (still_reachable (canon A) A (rule_out A) q, still_reachable A (canon A) (rule_in A) q)

pub canon_useful : (A : Automaton) (q : ℕ) → IsUseful (canon A) q ↔ IsUseful A q
canon_useful A q = (
  still_useful (canon A) A (rule_out A) (λ x f. (canon_finals A x).0 f) q,
  still_useful A (canon A) (rule_in A) (λ x f. (canon_finals A x).1 f) q,
)

-- a trim of an automaton is one of its canonical form
pub trim_of_canon : (A T : Automaton) → IsTrim A T → IsTrim (canon A) T
trim_of_canon A T t = (
  t.0,
  record {
    bits = t.1.bits;
    name = t.1.name;
    symbols = t.1.symbols;
    rising = t.1.rising;
    useful = λ q. (λ m. (canon_useful A q).1 ((t.1.useful q).0 m), λ u. (t.1.useful q).1 ((canon_useful A q).0 u));
    states = t.1.states;
    finals = λ i. (
      λ f. let h = (t.1.finals i).0 f in (h.0, h.1, (canon_finals A h.0).1 h.2),
      λ h. (t.1.finals i).1 (h.0, h.1, (canon_finals A h.0).0 h.2),
    );
    rules = λ a kids i. (
      λ r. let h = (t.1.rules a kids i).0 r in (h.0, h.1, h.2, h.3, rule_in A a h.0 h.1 h.4),
      λ h. (t.1.rules a kids i).1 (h.0, h.1, h.2, h.3, rule_out A a h.0 h.1 h.4),
    );
    fitting = t.1.fitting;
  },
)

pub one_trim_of_form : (A B T U : Automaton) → canon A ≡ canon B → IsTrim A T → IsTrim B U → canon T ≡ canon U
one_trim_of_form A B T U same t u =
    one_trim (canon B) T U (subst (λ C. IsTrim C T) same (trim_of_canon A T t)) (trim_of_canon B U u)
