-- A set is made again of its members.
use Rattle.std.proofs.Common.{◌≡◌, ℕ, zero, suc, ◌+◌, ◌<◌, ◌≤◌, true, false, inl, inr, [], ◌∷◌, length, Contains, refl, subst, arith}
use Rattle.std.specs.List.{AllByRecursion}
use Rattle.std.proofs.lemmas.Option.{slice_get_within}
use Rattle.tree_definitions.specs.Relation.{Row, Has}
use Rattle.tree_definitions.proofs.Members.{contains_none, contains_head, contains_tail, contains_cases}
use Rattle.listed_pairs.specs.Members.{members_from, members, row_with}
use Rattle.certificate_lines.proofs.Digits.{same_row}
use Rattle.certificate_lines.proofs.Sets.{with_length, with_has}

-- a member is a place that the row has
pub member_has : (k : ℕ) (row : Row) (s : ℕ) → Contains (members_from k row) s → (d : ℕ) × (s ≡ k + d) × Has row d
member_has k [] s h = absurd (contains_none s h)
member_has k (true ∷ row) s h = elim (contains_cases k (members_from (k + 1) row) s h) [
  | inl e ↦ (0, omega (arith, e), refl)
  | inr m ↦ let r = member_has (k + 1) row s m in let e = r.1 in (suc r.0, omega (arith, e), r.2)
]
member_has k (false ∷ row) s h = let r = member_has (k + 1) row s h in let e = r.1 in (suc r.0, omega (arith, e), r.2)

-- a place that the row has is a member
pub has_member : (k : ℕ) (row : Row) (d : ℕ) → Has row d → Contains (members_from k row) (k + d)
has_member k [] d h = absurd cc
has_member k (true ∷ row) zero h = let e : k ≡ k + 0 = omega arith in subst (Contains (k ∷ members_from (k + 1) row)) e (contains_head k (members_from (k + 1) row))
has_member k (true ∷ row) (suc d) h =
    let e : k + 1 + d ≡ k + suc d = omega arith in
    contains_tail k (members_from (k + 1) row) (k + suc d) (subst (Contains (members_from (k + 1) row)) e (has_member (k + 1) row d h))
has_member k (false ∷ row) zero h = absurd cc
has_member k (false ∷ row) (suc d) h = let e : k + 1 + d ≡ k + suc d = omega arith in subst (Contains (members_from (k + 1) row)) e (has_member (k + 1) row d h)

-- the members of a row are places of it
pub members_within : (n k : ℕ) (row : Row) → k + length row ≤ n → AllByRecursion (λ s. s < n) (members_from k row)
members_within n k [] le = tt
members_within n k (true ∷ row) le = (omega (arith, le), members_within n (k + 1) row (omega (arith, le)))
members_within n k (false ∷ row) le = members_within n (k + 1) row (omega (arith, le))

-- the set of a row's members is the row
pub row_back : (row : Row) → row_with (length row) (members row) ≡ row
row_back row = same_row (row_with (length row) (members row)) row (with_length (length row) (members row)) (λ s. (
  λ h.
      let m = member_has 0 row s ((with_has (length row) (members row) s).0 h).1 in
      let e = m.1 in
      let same : m.0 ≡ s = omega (arith, e) in
      subst (Has row) same m.2,
  λ h.
      let e : 0 + s ≡ s = omega arith in
      (with_has (length row) (members row) s).1 (slice_get_within row s true h, subst (Contains (members row)) e (has_member 0 row s h)),
))
