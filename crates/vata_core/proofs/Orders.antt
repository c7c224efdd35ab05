-- The order of an automaton's finals and rules says nothing of what is made of it.
use Rattle.std.proofs.Common.{◌≡◌, ◌⊎◌, ℕ, Bool, true, false, List, [], ◌∷◌, inl, inr, refl, sym, ◌∙◌}
use Rattle.std.specs.Ordering.{nat_cmp}
use Rattle.std.proofs.lemmas.Cmp.{nat_cmp_total}
use Rattle.std.proofs.lemmas.Map.Lookups.{exact_unsigned}
use Rattle.std.proofs.lemmas.List.Sorted.{IsPermutation-refl}
use Rattle.tree_definitions.specs.Tree.{Symbol, Tree}
use Rattle.tree_definitions.specs.Automaton.{Automaton, HasRule, IsFinal}
use Rattle.tree_definitions.specs.Language.{Reaches}
use Rattle.tree_definitions.specs.Joint.{JointRule, right}
use Rattle.tree_definitions.specs.Canonical.{canon, in_order, rule_cmp}
use Rattle.tree_definitions.specs.Trim.{Climbs, IsTrim}
use Rattle.tree_definitions.specs.Union.{IsUnion}
use Rattle.tree_definitions.proofs.CanonicalForms.{rules_total, rules_exact}
use Rattle.tree_definitions.proofs.Sorted.{in_order_is}
use Rattle.tree_definitions.proofs.InOrder.{canon_finals, in_order_rises, rule_in, rule_out, moved}
use Rattle.tree_definitions.proofs.Joins.{reaches_over}
use Rattle.vata_core.specs.Answer.{IsForm}

-- the canonical form of a canonical form is itself
pub canon_again : (A : Automaton) → canon (canon A) ≡ canon A
canon_again A =
    let finals = in_order_is nat_cmp_total exact_unsigned (in_order nat_cmp A.finals) (in_order nat_cmp A.finals) (IsPermutation-refl (in_order nat_cmp A.finals)) (in_order_rises nat_cmp A.finals) in
    let rules = in_order_is rules_total rules_exact (in_order rule_cmp A.rules) (in_order rule_cmp A.rules) (IsPermutation-refl (in_order rule_cmp A.rules)) (in_order_rises rule_cmp A.rules) in
    λ i. record (canon A) { finals = sym finals i; rules = sym rules i }

-- the same rules, and so the same trees
reaches_out : (A : Automaton) (t : Tree) (q : ℕ) → Reaches (canon A) t q → Reaches A t q
reaches_out A t q h = reaches_over (HasRule (canon A)) (HasRule A) (λ x y. x ≡ y) (moved (HasRule (canon A)) (HasRule A) (rule_out A)) t q q refl h

reaches_in : (A : Automaton) (t : Tree) (q : ℕ) → Reaches A t q → Reaches (canon A) t q
reaches_in A t q h = reaches_over (HasRule A) (HasRule (canon A)) (λ x y. x ≡ y) (moved (HasRule A) (HasRule (canon A)) (rule_in A)) t q q refl h

-- the union is that of the canonical forms
pub union_alike : (A B U : Automaton) → IsUnion (canon A) (canon B) U → IsUnion A B U
union_alike A B U h = record {
  bits = h.bits;
  name = h.name;
  symbols = h.symbols;
  states = h.states;
  finals = λ q. (λ f. out q ((h.finals q).0 f), λ f. (h.finals q).1 (into q f));
  rules = λ a kids q. (λ r. rules_out a kids q ((h.rules a kids q).0 r), λ r. (h.rules a kids q).1 (rules_in a kids q r));
  fitting = h.fitting;
}
  where
    out : (q : ℕ) → IsFinal (canon A) q ⊎ ((s : ℕ) × (q ≡ right A s) × IsFinal (canon B) s) → IsFinal A q ⊎ ((s : ℕ) × (q ≡ right A s) × IsFinal B s)
    out q (inl f) = inl ((canon_finals A q).0 f)
    out q (inr f) = inr (f.0, f.1, (canon_finals B f.0).0 f.2)

    into : (q : ℕ) → IsFinal A q ⊎ ((s : ℕ) × (q ≡ right A s) × IsFinal B s) → IsFinal (canon A) q ⊎ ((s : ℕ) × (q ≡ right A s) × IsFinal (canon B) s)
    into q (inl f) = inl ((canon_finals A q).1 f)
    into q (inr f) = inr (f.0, f.1, (canon_finals B f.0).1 f.2)

    rules_out : (a : Symbol) (kids : List ℕ) (q : ℕ) → JointRule (canon A) (canon B) a kids q → JointRule A B a kids q
    rules_out a kids q (inl r) = inl (rule_out A a kids q r)
    rules_out a kids q (inr r) = inr (r.0, r.1, r.2, r.3, rule_out B a r.0 r.1 r.4)

    rules_in : (a : Symbol) (kids : List ℕ) (q : ℕ) → JointRule A B a kids q → JointRule (canon A) (canon B) a kids q
    rules_in a kids q (inl r) = inl (rule_in A a kids q r)
    rules_in a kids q (inr r) = inr (r.0, r.1, r.2, r.3, rule_in B a r.0 r.1 r.4)

climbs_out : (A : Automaton) (q : ℕ) (path : List ℕ) → Climbs (canon A) q path → Climbs A q path
climbs_out A q [] h = ((h.0.0, reaches_out A h.0.0 q h.0.1), (canon_finals A q).0 h.1)
climbs_out A q (p ∷ path) h = (
  (h.0.0, reaches_out A h.0.0 q h.0.1),
  (h.1.0, h.1.1, rule_out A h.1.0 h.1.1 p h.1.2, h.1.3, λ k d lt. let r = h.1.4 k d lt in (r.0, reaches_out A r.0 _ r.1)),
  climbs_out A p path h.2,
)

climbs_in : (A : Automaton) (q : ℕ) (path : List ℕ) → Climbs A q path → Climbs (canon A) q path
climbs_in A q [] h = ((h.0.0, reaches_in A h.0.0 q h.0.1), (canon_finals A q).1 h.1)
climbs_in A q (p ∷ path) h = (
  (h.0.0, reaches_in A h.0.0 q h.0.1),
  (h.1.0, h.1.1, rule_in A h.1.0 h.1.1 p h.1.2, h.1.3, λ k d lt. let r = h.1.4 k d lt in (r.0, reaches_in A r.0 _ r.1)),
  climbs_in A p path h.2,
)

-- the trimmed automaton is that of the canonical form
pub trim_alike : (A T : Automaton) → IsTrim (canon A) T → IsTrim A T
trim_alike A T h = (
  h.0,
  record {
    bits = h.1.bits;
    name = h.1.name;
    symbols = h.1.symbols;
    rising = h.1.rising;
    useful = λ q. (
      λ c. let u = (h.1.useful q).0 c in (u.0, climbs_out A q u.0 u.1),
      λ u. (h.1.useful q).1 (u.0, climbs_in A q u.0 u.1),
    );
    states = h.1.states;
    finals = λ i. (
      λ f. let x = (h.1.finals i).0 f in (x.0, x.1, (canon_finals A x.0).0 x.2),
      λ x. (h.1.finals i).1 (x.0, x.1, (canon_finals A x.0).1 x.2),
    );
    rules = λ a kids i. (
      λ r. let x = (h.1.rules a kids i).0 r in (x.0, x.1, x.2, x.3, rule_out A a x.0 x.1 x.4),
      λ x. (h.1.rules a kids i).1 (x.0, x.1, x.2, x.3, rule_in A a x.0 x.1 x.4),
    );
    fitting = h.1.fitting;
  },
)

-- what is printed of an automaton is what is printed of its canonical form
pub form_alike : (trim : Bool) (A L : Automaton) → IsForm trim (canon A) L → IsForm trim A L
form_alike false A L h = h ∙ canon_again A
form_alike true A L h = (h.0, trim_alike A h.0 h.1, h.2)
