-- The results over one input have one canonical form.
use Rattle.std.proofs.Common.{◌≡◌, inl, inr, ◌↔◌, ℕ, suc, List, [], ◌∷◌, length, refl, sym, ap, ◌∙◌, subst, arith}
use Rattle.std.specs.Prelude.{Contains, AllPairs}
use Rattle.std.specs.List.{AllZip}
use Rattle.std.specs.List.Sorted.{IsStrictlyIncreasing}
use Rattle.std.specs.Ordering.{nat_cmp}
use Rattle.std.proofs.lemmas.Cmp.{nat_cmp_total}
use Rattle.std.proofs.lemmas.Map.Lookups.{exact_unsigned}
use Rattle.std.proofs.lemmas.Map.Keys.{sorted_from_strictly_increasing}
use Rattle.tree_definitions.specs.Tree.{Symbol}
use Rattle.tree_definitions.specs.Automaton.{Rules, Automaton, IsNarrow, HasRule, IsFinal}
use Rattle.tree_definitions.specs.Relation.{Relation, Holds, IsAt, IsSquare}
use Rattle.tree_definitions.specs.Canonical.{canon}
use Rattle.tree_definitions.specs.Simulation.{IsDown, GreatestDown}
use Rattle.tree_definitions.specs.Trim.{IsTrim, TrimsTo}
use Rattle.tree_definitions.specs.Union.{IsUnion}
use Rattle.tree_definitions.specs.Product.{Both, Precedes, IsProduct, MultipliesTo}
use Rattle.tree_definitions.specs.Quotient.{IsFirst, IsInClass, CollapsesTo, IsQuotient}
use Rattle.tree_definitions.proofs.Members.{contains_none, contains_head, contains_tail, contains_cases, at_unique}
use Rattle.tree_definitions.proofs.Determined.{SameRules, same_canon, rising_members}

pub both_ways : {P Q S : Type 0} → P ↔ S → Q ↔ S → P ↔ Q
both_ways f g = (λ p. g.1 (f.0 p), λ q. f.1 (g.0 q))

-- numbers that rise and have the same members
pub one_rising : (xs ys : List ℕ) → IsStrictlyIncreasing xs → IsStrictlyIncreasing ys → ((x : ℕ) → Contains xs x ↔ Contains ys x) → xs ≡ ys
one_rising xs ys rx ry same = rising_members nat_cmp nat_cmp_total exact_unsigned xs ys (sorted_from_strictly_increasing xs rx) (sorted_from_strictly_increasing ys ry) same

-- what stands at these places
pub one_zip : {X Y : Type 0} (R : X → Y → Type 0) → ((x : X) (y z : Y) → R x y → R x z → y ≡ z) → (xs : List X) (ys zs : List Y) → AllZip R xs ys → AllZip R xs zs → ys ≡ zs
one_zip R one [] [] [] a b = refl
one_zip R one [] [] (z ∷ zs) a b = absurd b
one_zip R one [] (y ∷ ys) zs a b = absurd a
one_zip R one (x ∷ xs) [] zs a b = absurd a
one_zip R one (x ∷ xs) (y ∷ ys) [] a b = absurd b
one_zip R one (x ∷ xs) (y ∷ ys) (z ∷ zs) a b = let s = one x y z a.0 b.0 in let r = one_zip R one xs ys zs a.1 b.1 in λ i. s i ∷ r i

zip_over : {X Y : Type 0} (R S : X → Y → Type 0) → ((x : X) (y : Y) → R x y → S x y) → (xs : List X) (ys : List Y) → AllZip R xs ys → AllZip S xs ys
zip_over R S f [] [] a = tt
zip_over R S f [] (y ∷ ys) a = absurd a
zip_over R S f (x ∷ xs) [] a = absurd a
zip_over R S f (x ∷ xs) (y ∷ ys) a = (f x y a.0, zip_over R S f xs ys a.1)

-- the trim
module _ (A T U : Automaton) (t : IsTrim A T) (u : IsTrim A U) where
  abbrev K : List ℕ
  K = t.0

  kept_one : u.0 ≡ t.0
  kept_one = one_rising u.0 t.0 u.1.rising t.1.rising (λ q. both_ways (u.1.useful q) (t.1.useful q))

  moved : TrimsTo A U t.0
  moved = subst (TrimsTo A U) kept_one u.1

  trim_states : T.states ≡ U.states
  trim_states = one_zip (IsAt A.states) (λ k x y. at_unique A.states k x y) t.0 T.states U.states t.1.states moved.states

  trim_rules : SameRules T U
  trim_rules a kids p = both_ways (t.1.rules a kids p) (moved.rules a kids p)

  trim_finals : (q : ℕ) → IsFinal T q ↔ IsFinal U q
  trim_finals q = both_ways (t.1.finals q) (moved.finals q)

  pub one_trim : canon T ≡ canon U
  one_trim = same_canon T U t.1.fitting u.1.fitting (t.1.bits ∙ sym u.1.bits) (t.1.name ∙ sym u.1.name) trim_states
      (λ n. t.1.symbols n ∙ sym (u.1.symbols (u.1.bits ∙ sym t.1.bits ∙ n))) trim_finals trim_rules

-- the union
pub one_union : (A B U V : Automaton) → IsUnion A B U → IsUnion A B V → canon U ≡ canon V
one_union A B U V u v = same_canon U V u.fitting v.fitting (u.bits ∙ sym v.bits) (u.name ∙ sym v.name) (u.states ∙ sym v.states)
    (λ n. u.symbols n ∙ sym (v.symbols (v.bits ∙ sym u.bits ∙ n))) (λ q. both_ways (u.finals q) (v.finals q)) (λ a kids p. both_ways (u.rules a kids p) (v.rules a kids p))

-- lists that rise in an order and have the same members
module _ {X : Type 0} (R : X → X → Type 0) (once : (x y : X) → R x y → R y x → ⊥) where
  pairs_head : (x : X) (xs : List X) → AllPairs R (x ∷ xs) → (y : X) → Contains xs y → R x y
  pairs_head x xs h y m = let at = m.1 in subst (R x) m.2 (h 0 (suc m.0) y (omega arith) (omega (arith, at)))

  pairs_tail : (x : X) (xs : List X) → AllPairs R (x ∷ xs) → AllPairs R xs
  pairs_tail x xs h i j d l w = h (suc i) (suc j) d (omega arith) (omega arith)

  one_list : (xs ys : List X) → AllPairs R xs → AllPairs R ys → ((x : X) → Contains xs x ↔ Contains ys x) → xs ≡ ys
  one_list [] [] p q same = refl
  one_list [] (y ∷ ys) p q same = absurd (contains_none y ((same y).1 (contains_head y ys)))
  one_list (x ∷ xs) [] p q same = absurd (contains_none x ((same x).0 (contains_head x xs)))
  one_list (x ∷ xs) (y ∷ ys) p q same =
      let rest : xs ≡ ys = one_list xs ys (pairs_tail x xs p) (pairs_tail y ys q) (λ z. (there z, back z)) in
      λ i. first i ∷ rest i
    where
      first : x ≡ y
      first = elim (contains_cases y ys x ((same x).0 (contains_head x xs))) [
        | inl e ↦ sym e
        | inr k ↦ elim (contains_cases x xs y ((same y).1 (contains_head y ys))) [ inl e ↦ e | inr m ↦ absurd (once x y (pairs_head x xs p y m) (pairs_head y ys q x k)) ]
      ]

      there : (z : X) → Contains xs z → Contains ys z
      there z m = elim (contains_cases y ys z ((same z).0 (contains_tail x xs z m))) [
        | inl e ↦ (let r = subst (R x) (sym e ∙ sym first) (pairs_head x xs p z m) in absurd (once x x r r))
        | inr k ↦ k
      ]

      back : (z : X) → Contains ys z → Contains xs z
      back z m = elim (contains_cases x xs z ((same z).1 (contains_tail y ys z m))) [
        | inl e ↦ (let r = subst (R y) (sym e ∙ first) (pairs_head y ys q z m) in absurd (once y y r r))
        | inr k ↦ k
      ]

pairs_once : (x y : Both) → Precedes x y → Precedes y x → ⊥
pairs_once x y (inl a) (inl b) = omega arith
pairs_once x y (inl a) (inr b) = let e = b.0 in omega arith
pairs_once x y (inr a) (inl b) = let e = a.0 in omega arith
pairs_once x y (inr a) (inr b) = let l = a.1 in let m = b.1 in omega arith

-- the product
module _ (A B P Q : Automaton) (p : IsProduct A B P) (q : IsProduct A B Q) where
  pairs_one : q.0 ≡ p.0
  pairs_one = one_list Precedes pairs_once q.0 p.0 q.1.rising p.1.rising (λ x. both_ways (q.1.reached x) (p.1.reached x))

  multiplied : MultipliesTo A B Q p.0
  multiplied = subst (MultipliesTo A B Q) pairs_one q.1

  pub one_product : canon P ≡ canon Q
  one_product = same_canon P Q p.1.fitting q.1.fitting (p.1.bits ∙ sym q.1.bits) (p.1.name ∙ sym q.1.name) (p.1.states ∙ sym multiplied.states)
      (λ n. p.1.symbols n ∙ sym (q.1.symbols (q.1.bits ∙ sym p.1.bits ∙ n))) (λ k. both_ways (p.1.finals k) (multiplied.finals k)) (λ a kids k. both_ways (p.1.rules a kids k) (multiplied.rules a kids k))

-- what is a simulation by some rules is one by the same rules
down_over : (G H : Rules) (R : Relation) → ((a : Symbol) (kids : List ℕ) (p : ℕ) → G a kids p ↔ H a kids p) → IsDown G R → IsDown H R
down_over G H R same down q r e a kids rule =
    let m = down q r e a kids ((same a kids q).1 rule) in
    (m.0, (same a m.0 r).0 m.1, m.2)

greatest_over : (m n : ℕ) (G H : Rules) → m ≡ n → ((a : Symbol) (kids : List ℕ) (p : ℕ) → G a kids p ↔ H a kids p) → (q r : ℕ) → GreatestDown m G q r → GreatestDown n H q r
greatest_over m n G H e same q r h = (h.0, subst (λ k. IsSquare k h.0) e h.1, down_over G H (Holds h.0) same h.2, h.3)

-- the quotient
module _ (A C E : Automaton) (c : IsQuotient A C) (e : IsQuotient A E) where
  abbrev T : Automaton
  T = c.0

  abbrev U : Automaton
  U = e.0

  states_same : T.states ≡ U.states
  states_same = trim_states A T U c.3 e.3

  rules_same : SameRules T U
  rules_same = trim_rules A T U c.3 e.3

  finals_same : (q : ℕ) → IsFinal T q ↔ IsFinal U q
  finals_same = trim_finals A T U c.3 e.3

  sizes : length T.states ≡ length U.states
  sizes = ap (λ xs. length xs) states_same

  holds_there : (q r : ℕ) → Holds c.1 q r → Holds e.1 q r
  holds_there q r h = (e.4.pairs q r).1 (greatest_over (length T.states) (length U.states) (HasRule T) (HasRule U) sizes rules_same q r ((c.4.pairs q r).0 h))

  holds_back : (q r : ℕ) → Holds e.1 q r → Holds c.1 q r
  holds_back q r h =
      (c.4.pairs q r).1 (greatest_over (length U.states) (length T.states) (HasRule U) (HasRule T) (sym sizes) (λ a kids p. let s = rules_same a kids p in (s.1, s.0)) q r ((e.4.pairs q r).0 h))

  first_there : (q : ℕ) → IsFirst T (Holds c.1) q → IsFirst U (Holds e.1) q
  first_there q h = let l = h.state in record {
    state = omega (arith, l, sizes);
    least = λ r lt s. h.least r lt (holds_back r q s.0, holds_back q r s.1);
  }

  first_back : (q : ℕ) → IsFirst U (Holds e.1) q → IsFirst T (Holds c.1) q
  first_back q h = let l = h.state in record {
    state = omega (arith, l, sizes);
    least = λ r lt s. h.least r lt (holds_there r q s.0, holds_there q r s.1);
  }

  firsts_one : e.2 ≡ c.2
  firsts_one = one_rising e.2 c.2 e.5.rising c.5.rising (λ q. (
    λ m. (c.5.each_first q).1 (first_back q ((e.5.each_first q).0 m)),
    λ m. (e.5.each_first q).1 (first_there q ((c.5.each_first q).0 m)),
  ))

  -- the second quotient, over the first states of the first
  collapsed : CollapsesTo U E (Holds e.1) c.2
  collapsed = subst (CollapsesTo U E (Holds e.1)) firsts_one e.5

  in_there : (i q : ℕ) → IsInClass (Holds c.1) c.2 i q → IsInClass (Holds e.1) c.2 i q
  in_there i q m = (m.0, m.1, (holds_there m.0 q m.2.0, holds_there q m.0 m.2.1))

  in_back : (i q : ℕ) → IsInClass (Holds e.1) c.2 i q → IsInClass (Holds c.1) c.2 i q
  in_back i q m = (m.0, m.1, (holds_back m.0 q m.2.0, holds_back q m.0 m.2.1))

  quotient_states : C.states ≡ E.states
  quotient_states = one_zip (IsAt T.states) (λ k x y. at_unique T.states k x y) c.2 C.states E.states c.5.states (subst (λ xs. AllZip (IsAt xs) c.2 E.states) (sym states_same) collapsed.states)

  quotient_finals : (i : ℕ) → IsFinal C i ↔ IsFinal E i
  quotient_finals i = (
    λ h. let f = (c.5.finals i).0 h in (collapsed.finals i).1 (f.0, in_there i f.0 f.1, (finals_same f.0).0 f.2),
    λ h. let f = (collapsed.finals i).0 h in (c.5.finals i).1 (f.0, in_back i f.0 f.1, (finals_same f.0).1 f.2),
  )

  quotient_rules : SameRules C E
  quotient_rules a kids i = (
    λ h. let f = (c.5.rules a kids i).0 h in
        (collapsed.rules a kids i).1 (f.0, f.1, zip_over (IsInClass (Holds c.1) c.2) (IsInClass (Holds e.1) c.2) in_there kids f.0 f.2, in_there i f.1 f.3, (rules_same a f.0 f.1).0 f.4),
    λ h. let f = (collapsed.rules a kids i).0 h in
        (c.5.rules a kids i).1 (f.0, f.1, zip_over (IsInClass (Holds e.1) c.2) (IsInClass (Holds c.1) c.2) in_back kids f.0 f.2, in_back i f.1 f.3, (rules_same a f.0 f.1).1 f.4),
  )

  trim_bits : U.bits ≡ T.bits
  trim_bits = e.3.1.bits ∙ sym c.3.1.bits

  quotient_bits : C.bits ≡ E.bits
  quotient_bits = c.5.bits ∙ sym trim_bits ∙ sym e.5.bits

  pub one_quotient : canon C ≡ canon E
  one_quotient = same_canon C E c.5.fitting e.5.fitting quotient_bits (c.5.name ∙ c.3.1.name ∙ sym e.3.1.name ∙ sym e.5.name) quotient_states
      (λ n. let t : IsNarrow T = sym c.5.bits ∙ n in let u : IsNarrow U = trim_bits ∙ t in
      c.5.symbols n ∙ c.3.1.symbols t ∙ sym (e.3.1.symbols u) ∙ sym (e.5.symbols (e.5.bits ∙ u))) quotient_finals quotient_rules
