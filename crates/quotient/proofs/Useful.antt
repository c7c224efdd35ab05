-- The quotient of the automaton of the useful states, and how many these are.
use Rattle.std.proofs.Common.{◌≡◌, ◌↔◌, ℕ, ◌<◌, ◌≤◌, Bool, List, length, get_or, sym, subst, arith}
use Rattle.std.proofs.lemmas.List.Kept.{AllPairs-from_increasing}
use Rattle.tree_definitions.specs.Automaton.{Automaton, HasRule}
use Rattle.tree_definitions.specs.Canonical.{canon}
use Rattle.tree_definitions.specs.Language.{SameLanguage}
use Rattle.tree_definitions.specs.Quotient.{CollapsesTo, IsGreatestDown}
use Rattle.tree_definitions.specs.Relation.{Relation, Matrix, Has, Holds, IsAt}
use Rattle.tree_definitions.specs.Trim.{IsUseful, IsTrim}
use Rattle.tree_definitions.proofs.Collapsed.{quotient_same}
use Rattle.tree_definitions.proofs.Greatest.{greatest_transitive}
use Rattle.tree_definitions.proofs.InOrder.{canon_finals, canon_language, rule_out, rule_in}
use Rattle.ta_model.specs.Restriction.{IsRestriction}
use Rattle.quotient.specs.Grouping.{IsTransitive, IsCollapse}
use Rattle.quotient.specs.Merged.{IsCanonicalQuotient, HasMoreUseful}
use Rattle.quotient.proofs.Lists.{no_more, zip_length}

-- the states that the row has are the useful ones
pub restriction_trims : (A T : Automaton) (row : List Bool) → ((q : ℕ) → Has row q ↔ IsUseful A q) → IsRestriction A row T → IsTrim A T
restriction_trims A T row exact (kept, r) = (
  kept,
  record {
    bits = r.bits;
    name = r.name;
    symbols = r.symbols;
    rising = r.rising;
    useful = λ q. (λ h. (exact q).0 ((r.chosen q).0 h), λ u. (r.chosen q).1 ((exact q).1 u));
    states = r.states;
    finals = r.finals;
    rules = r.rules;
    fitting = r.fitting;
  },
)

pub greatest_joined : (T : Automaton) (m : Matrix) → IsGreatestDown T m → IsTransitive (Holds m)
greatest_joined T m greatest q r s h g =
    (greatest.pairs q s).1 (greatest_transitive (length T.states) (HasRule T) q r s ((greatest.pairs q r).0 h) ((greatest.pairs r s).0 g))

-- what the canonical form collapses to, the automaton does
collapse_out : (T Q : Automaton) (D : Relation) (firsts : List ℕ) → CollapsesTo (canon T) Q D firsts → CollapsesTo T Q D firsts
collapse_out T Q D firsts c = record {
  bits = c.bits;
  name = c.name;
  symbols = c.symbols;
  rising = c.rising;
  each_first = λ q. (
    λ m. let f = (c.each_first q).0 m in record { state = f.state; least = f.least },
    λ f. (c.each_first q).1 (record { state = f.state; least = f.least }),
  );
  states = c.states;
  finals = λ i. (
    λ h. let g = (c.finals i).0 h in (g.0, g.1, (canon_finals T g.0).0 g.2),
    λ h. (c.finals i).1 (h.0, h.1, (canon_finals T h.0).1 h.2),
  );
  rules = λ a kids i. (
    λ h. let g = (c.rules a kids i).0 h in (g.0, g.1, g.2, g.3, rule_out T a g.0 g.1 g.4),
    λ h. (c.rules a kids i).1 (h.0, h.1, h.2, h.3, rule_in T a h.0 h.1 h.4),
  );
  fitting = c.fitting;
}

pub quotient_of : (A T L C : Automaton) (m : Matrix) → IsTrim A T → IsGreatestDown T m → L ≡ canon T → IsCollapse L (Holds m) C → IsCanonicalQuotient A C
quotient_of A T L C m trims greatest e h =
    let c : IsCollapse (canon T) (Holds m) C = subst (λ (B : Automaton). IsCollapse B (Holds m) C) e h in
    (c.0, (T, m, c.1.0, trims, greatest, collapse_out T c.0 (Holds m) c.1.0 c.1.1), c.2)

pub quotient_language : (A C : Automaton) → IsCanonicalQuotient A C → SameLanguage A C
quotient_language A C h = subst (SameLanguage A) (sym h.2) through
  where
    through : SameLanguage A (canon h.0)
    through t =
        let a = quotient_same A h.0 h.1 t in
        let b = canon_language h.0 t in
        (λ x. b.0 (a.0 x), λ x. a.1 (b.1 x))

pub few_useful : (A T : Automaton) (n : ℕ) → IsTrim A T → length T.states ≤ n → HasMoreUseful A n → ⊥
few_useful A T n (kept, t) few more =
    let within = no_more more.0 kept more.1 (λ q m. (t.useful q).1 (more.2 q m)) in
    let long = zip_length (IsAt A.states) kept T.states t.states in
    let many = more.3 in
    omega (arith, within, long, many)

pub many_useful : (A T : Automaton) (n : ℕ) → IsTrim A T → n < length T.states → HasMoreUseful A n
many_useful A T n (kept, t) many = (
  kept,
  λ i j d lt within e. let less : get_or kept i d < get_or kept j d = AllPairs-from_increasing kept t.rising i j d lt within in omega arith,
  λ q m. (t.useful q).0 m,
  let long = zip_length (IsAt A.states) kept T.states t.states in omega (arith, long),
)
