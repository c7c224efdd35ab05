-- What a sort and a `dedup` leave.
use Rattle.std.proofs.Common.{◌≡◌, ℕ, Bool, true, List, [], eqb, refl, sym, subst, ◌∙◌}
use Rattle.std.specs.Prelude.{Contains}
use Rattle.std.specs.List.{dedup}
use Rattle.std.specs.List.Retain.{IsFiltered, DiffersFromLast}
use Rattle.std.specs.List.Sorted.{IsPermutation, IsSorted, IsStrictlySortedBy}
use Rattle.std.specs.Ordering.{nat_cmp, eq_by_cmp}
use Rattle.std.specs.Cmp.{IsTotalOrder, IsEquivalence, unsigned_ties}
use Rattle.std.specs.declared.cmp.Ordering.{Ordering}
use Rattle.std.specs.FinMap as fin
use Rattle.std.proofs.lemmas.Cmp.{nat_cmp_total, nat_eq_equiv}
use Rattle.std.proofs.lemmas.List.Filters.{dedup_is}
use Rattle.std.proofs.lemmas.List.Kept.{Contains-dedup, Contains-from_dedup, IsStrictlySortedBy-dedup}
use Rattle.std.proofs.lemmas.List.Sorted.{Contains-permutation, IsPermutation-sym}
use Rattle.std.proofs.lemmas.Map.Keys.{IsDistinct-from_sorted}
use Rattle.std.proofs.lemmas.Map.Lookups.{exact_unsigned}
use Rattle.tree_definitions.specs.Automaton.{Rule}
use Rattle.tree_definitions.specs.Canonical.{rule_cmp}
use Rattle.tree_definitions.proofs.CanonicalForms.{rules_total, rules_exact, same_rule_equiv, ties_decide, apart_by}
use Rattle.quotient.specs.Grouping.{HasOnce}

module _ {K : Type 0} {R : K → K → Ordering} (total : IsTotalOrder R) (exact : fin.IsAntisymmetric R) {E : K → K → Bool} (same : IsEquivalence E)
    (ties : (x y : K) → E x y ≡ eq_by_cmp R x y) where
  pub once_of : (xs sorted out : List K) → IsPermutation xs sorted → IsSorted R sorted → IsFiltered (DiffersFromLast E) [] sorted out → HasOnce xs out
  once_of xs sorted out moved rising filtered = record {
    distinct = apart_by total exact out (IsDistinct-from_sorted R out strictly);
    members = λ x. (
      λ m. Contains-permutation sorted xs x (IsPermutation-sym xs sorted moved) (Contains-from_dedup E sorted x (subst (λ l. Contains l x) is m)),
      λ m. subst (λ l. Contains l x) (sym is) (Contains-dedup same equal sorted x (Contains-permutation xs sorted x moved m)),
    );
  }
    where
      is : out ≡ dedup E sorted
      is = dedup_is E sorted out filtered

      strictly : IsStrictlySortedBy R out
      strictly = subst (IsStrictlySortedBy R) (sym is) (IsStrictlySortedBy-dedup total ties sorted rising)

      equal : (x y : K) → E x y ≡ true → x ≡ y
      equal x y e = (ties_decide total exact x y).0 (sym (ties x y) ∙ e)

pub rules_once_of : (xs sorted out : List Rule) → IsPermutation xs sorted → IsSorted rule_cmp sorted → IsFiltered (DiffersFromLast (eq_by_cmp rule_cmp)) [] sorted out → HasOnce xs out
rules_once_of = once_of rules_total rules_exact same_rule_equiv (λ x y. refl)

pub states_once_of : (xs sorted out : List ℕ) → IsPermutation xs sorted → IsSorted nat_cmp sorted → IsFiltered (DiffersFromLast eqb) [] sorted out → HasOnce xs out
states_once_of = once_of nat_cmp_total exact_unsigned nat_eq_equiv unsigned_ties
