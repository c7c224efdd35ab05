-- The symbols of two lists together are distinct.
use Rattle.std.proofs.Common.{◌≡◌, ◌≢◌, ℕ, zero, suc, true, false, cond, List, [], ◌∷◌, ◌++◌, inl, inr, refl, sym, ap, ◌∙◌, subst, arith}
use Rattle.std.specs.Prelude.{◌==◌, ◌||◌, not, filter, AllPairs, Contains}
use Rattle.std.specs.List.{AllByRecursion, IsDistinct, list_any}
use Rattle.std.specs.Bool.{Decides}
use Rattle.std.specs.Str.{bytes_eq}
use Rattle.std.proofs.lemmas.Bool.{true≢false, and_parts, and_from, eqb-true, eq-eqb}
use Rattle.std.proofs.lemmas.Slice.Eq.{bytes_eq-Decides}
use Rattle.std.proofs.lemmas.List.Kept.{AllPairs-filter}
use Rattle.std.proofs.lemmas.Map.Keys.{IsDistinct-head, IsDistinct-tail, IsDistinct-cons}
use Rattle.std.proofs.lemmas.Map.Made.{AllPairs-from_IsDistinct, IsDistinct-from_AllPairs}
use Rattle.tree_definitions.specs.Tree.{Symbol}
use Rattle.tree_definitions.specs.Relation.{IsAt}
use Rattle.tree_definitions.specs.Joint.{same_symbol, joint_symbols}
use Rattle.tree_definitions.proofs.Members.{contains_head, contains_tail, contains_cases}

-- what the second list has and the first lacks
abbrev lacking : List Symbol → List Symbol → List Symbol
lacking first second = filter (λ a. not (list_any (same_symbol a) first)) second

same_symbol-Decides : (a b : Symbol) → Decides (same_symbol a b) (a ≡ b)
same_symbol-Decides a b = (
  λ e. let p = and_parts (bytes_eq a.name b.name) (a.rank == b.rank) e in
      made a b ((bytes_eq-Decides a.name b.name).0 p.0) (eqb-true a.rank b.rank p.1),
  λ e. and_from _ _ ((bytes_eq-Decides a.name b.name).1 (ap (λ s. s.name) e)) (eq-eqb a.rank b.rank (ap (λ s. s.rank) e)),
)
  where
    op : List ℕ → ℕ → Symbol
    op n k = record { name = n; rank = k }

    made : (a b : Symbol) → a.name ≡ b.name → a.rank ≡ b.rank → a ≡ b
    made a b n k = ap (λ w. op w a.rank) n ∙ ap (λ r. op b.name r) k

-- no item of the list is x
abbrev Lacks : List Symbol → Symbol → Type 0
Lacks zs x = AllByRecursion (λ z. same_symbol x z ≡ false) zs

found : (x : Symbol) (xs : List Symbol) → Contains xs x → list_any (same_symbol x) xs ≡ true
found x [] h = absurd (omega (arith, h.1))
found x (y ∷ ys) h = elim (contains_cases y ys x h) [
  | inl e ↦ ap (λ b. b || list_any (same_symbol x) ys) ((same_symbol-Decides x y).1 (sym e))
  | inr k ↦ elim (same_symbol x y) as (λ b. (b || list_any (same_symbol x) ys) ≡ true) [ true ↦ refl | false ↦ found x ys k ]
]

-- what the first list has is not among what it lacks
lacking_lacks : (x : Symbol) (first second : List Symbol) → Contains first x → Lacks (lacking first second) x
lacking_lacks x first [] h = tt
lacking_lacks x first (y ∷ ys) h =
    elim (list_any (same_symbol y) first) as (λ b. list_any (same_symbol y) first ≡ b → Lacks (cond (not b) (y ∷ lacking first ys) (lacking first ys)) x) [
      | true ↦ λ e. lacking_lacks x first ys h
      | false ↦ λ e. (apart e, lacking_lacks x first ys h)
    ] refl
  where
    apart : list_any (same_symbol y) first ≡ false → same_symbol x y ≡ false
    apart e = elim (same_symbol x y) as (λ b. same_symbol x y ≡ b → b ≡ false) [
      | true ↦ λ same. absurd (true≢false (sym (found y first (subst (Contains first) ((same_symbol-Decides x y).0 same) h)) ∙ e))
      | false ↦ λ same. refl
    ] refl

both_lack : (x : Symbol) (xs ys : List Symbol) → Lacks xs x → Lacks ys x → Lacks (xs ++ ys) x
both_lack x [] ys a b = b
both_lack x (z ∷ zs) ys a b = (a.0, both_lack x zs ys a.1 b)

distinct_append : (xs ys : List Symbol) → IsDistinct same_symbol xs → IsDistinct same_symbol ys → ((x : Symbol) → Contains xs x → Lacks ys x) → IsDistinct same_symbol (xs ++ ys)
distinct_append [] ys d e apart = e
distinct_append (x ∷ xs) ys d e apart =
    IsDistinct-cons same_symbol x (xs ++ ys) (both_lack x xs ys (IsDistinct-head same_symbol x xs d) (apart x (contains_head x xs)))
    (distinct_append xs ys (IsDistinct-tail same_symbol x xs d) e (λ z h. apart z (contains_tail x xs z h)))

-- the symbols of two lists without repeats have none together
pub joint_distinct : (first second : List Symbol) → AllPairs ◌≢◌ first → AllPairs ◌≢◌ second → AllPairs ◌≢◌ (joint_symbols first second)
joint_distinct first second p q =
    AllPairs-from_IsDistinct same_symbol-Decides (first ++ lacking first second)
    (distinct_append first (lacking first second)
    (IsDistinct-from_AllPairs same_symbol-Decides first p)
    (IsDistinct-from_AllPairs same_symbol-Decides (lacking first second) (AllPairs-filter ◌≢◌ (λ y. not (list_any (same_symbol y) first)) second q))
    (λ x h. lacking_lacks x first second h))

-- what stands in the first list stands at its place in both
pub joint_at : (first second : List Symbol) (i : ℕ) (x : Symbol) → IsAt first i x → IsAt (joint_symbols first second) i x
joint_at first second i x at = longer first (lacking first second) i at
  where
    longer : (xs ys : List Symbol) (i : ℕ) → IsAt xs i x → IsAt (xs ++ ys) i x
    longer [] ys i e = absurd cc
    longer (z ∷ zs) ys zero e = e
    longer (z ∷ zs) ys (suc i) e = longer zs ys i e
