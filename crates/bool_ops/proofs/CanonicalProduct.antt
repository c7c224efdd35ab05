-- The product of two canonical forms is the product of the automata.
use Rattle.std.proofs.Common.{◌≡◌, ◌↔◌, ℕ, map, subst, sym}
use Rattle.tree_definitions.specs.Tree.{Tree}
use Rattle.tree_definitions.specs.Automaton.{Automaton, HasRule}
use Rattle.tree_definitions.specs.Canonical.{canon}
use Rattle.tree_definitions.specs.Language.{Reaches, Accepts}
use Rattle.tree_definitions.specs.Product.{Both, IsProduct, AreReachedTogether}
use Rattle.tree_definitions.proofs.InOrder.{canon_finals, canon_language, rule_in, rule_out}
use Rattle.tree_definitions.proofs.Joins.{reaches_more}
use Rattle.tree_definitions.proofs.Multiplied.{product_accepts}
use Rattle.bool_ops.specs.Results.{IsCanonicalProduct, HasMoreStates, HasMoreRules, PairRule, IsProductRule}

reach_out : (A : Automaton) (t : Tree) (q : ℕ) → Reaches (canon A) t q → Reaches A t q
reach_out A t q h = reaches_more (HasRule (canon A)) (HasRule A) (rule_out A) t q h

reach_in : (A : Automaton) (t : Tree) (q : ℕ) → Reaches A t q → Reaches (canon A) t q
reach_in A t q h = reaches_more (HasRule A) (HasRule (canon A)) (rule_in A) t q h

pub together_out : (A B : Automaton) (x : Both) → AreReachedTogether (canon A) (canon B) x → AreReachedTogether A B x
together_out A B x h = (h.0, reach_out A h.0 x.left h.1, reach_out B h.0 x.right h.2)

together_in : (A B : Automaton) (x : Both) → AreReachedTogether A B x → AreReachedTogether (canon A) (canon B) x
together_in A B x h = (h.0, reach_in A h.0 x.left h.1, reach_in B h.0 x.right h.2)

product_rule_out : (A B : Automaton) (rule : PairRule) → IsProductRule (canon A) (canon B) rule → IsProductRule A B rule
product_rule_out A B rule h = record {
  left = rule_out A rule.symbol (map (λ x. x.left) rule.kids) rule.parent.left h.left;
  right = rule_out B rule.symbol (map (λ x. x.right) rule.kids) rule.parent.right h.right;
  together = λ x k. together_out A B x (h.together x k);
}

product_rule_in : (A B : Automaton) (rule : PairRule) → IsProductRule A B rule → IsProductRule (canon A) (canon B) rule
product_rule_in A B rule h = record {
  left = rule_in A rule.symbol (map (λ x. x.left) rule.kids) rule.parent.left h.left;
  right = rule_in B rule.symbol (map (λ x. x.right) rule.kids) rule.parent.right h.right;
  together = λ x k. together_in A B x (h.together x k);
}

-- two automata that are canonical forms of A and B have as many states and rules together as A and B
module _ (A B L R : Automaton) (n : ℕ) (e : L ≡ canon A) (f : R ≡ canon B) where
  pub more_states_out : HasMoreStates L R n → HasMoreStates A B n
  more_states_out h =
      let m = subst (λ (r : Automaton). HasMoreStates (canon A) r n) f (subst (λ (l : Automaton). HasMoreStates l R n) e h) in
      (m.0, m.1, λ x k. together_out A B x (m.2 x k), m.3)

  pub more_states_in : HasMoreStates A B n → HasMoreStates L R n
  more_states_in h =
      let m : HasMoreStates (canon A) (canon B) n = (h.0, h.1, λ x k. together_in A B x (h.2 x k), h.3) in
      subst (λ (l : Automaton). HasMoreStates l R n) (sym e) (subst (λ (r : Automaton). HasMoreStates (canon A) r n) (sym f) m)

  pub more_rules_out : HasMoreRules L R n → HasMoreRules A B n
  more_rules_out h =
      let m = subst (λ (r : Automaton). HasMoreRules (canon A) r n) f (subst (λ (l : Automaton). HasMoreRules l R n) e h) in
      (m.0, m.1, λ x k. product_rule_out A B x (m.2 x k), m.3)

  pub more_rules_in : HasMoreRules A B n → HasMoreRules L R n
  more_rules_in h =
      let m : HasMoreRules (canon A) (canon B) n = (h.0, h.1, λ x k. product_rule_in A B x (h.2 x k), h.3) in
      subst (λ (l : Automaton). HasMoreRules l R n) (sym e) (subst (λ (r : Automaton). HasMoreRules (canon A) r n) (sym f) m)

pub product_out : (A B P : Automaton) → IsProduct (canon A) (canon B) P → IsProduct A B P
product_out A B P (pairs, m) = (
  pairs,
  record {
    bits = m.bits;
    name = m.name;
    symbols = m.symbols;
    rising = m.rising;
    reached = λ x. (
      λ h. together_out A B x ((m.reached x).0 h),
      λ h. (m.reached x).1 (h.0, reach_in A h.0 x.left h.1, reach_in B h.0 x.right h.2),
    );
    states = m.states;
    finals = λ k. (
      λ h. let g = (m.finals k).0 h in (g.0, g.1, (canon_finals A g.0.left).0 g.2, (canon_finals B g.0.right).0 g.3),
      λ h. (m.finals k).1 (h.0, h.1, (canon_finals A h.0.left).1 h.2, (canon_finals B h.0.right).1 h.3),
    );
    rules = λ a kids k. (
      λ h.
          let g = (m.rules a kids k).0 h in
          (g.0, g.1, g.2, g.3, rule_out A a (map (λ x. x.left) g.0) g.1.left g.4, rule_out B a (map (λ x. x.right) g.0) g.1.right g.5),
      λ h. (m.rules a kids k).1 (h.0, h.1, h.2, h.3, rule_in A a (map (λ x. x.left) h.0) h.1.left h.4, rule_in B a (map (λ x. x.right) h.0) h.1.right h.5),
    );
    fitting = m.fitting;
  },
)

pub canonical_out : (A B C : Automaton) → IsCanonicalProduct (canon A) (canon B) C → IsCanonicalProduct A B C
canonical_out A B C (P, h, e) = (P, product_out A B P h, e)

pub accepts_both : (A B C : Automaton) → IsCanonicalProduct A B C → (t : Tree) → Accepts C t ↔ (Accepts A t × Accepts B t)
accepts_both A B C (P, h, e) t = subst (λ (c : Automaton). Accepts c t ↔ (Accepts A t × Accepts B t)) (sym e) through
  where
    through : Accepts (canon P) t ↔ (Accepts A t × Accepts B t)
    through =
        let a = product_accepts A B P h.0 h.1 t in
        let b = canon_language P t in
        (λ x. a.0 (b.1 x), λ x. b.0 (a.1 x))
