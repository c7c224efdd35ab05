-- The rules of an automaton by parent and by children.
use Rattle.std.proofs.Common.{◌≡◌, ◌↔◌, ◌⊎◌, inl, inr, ℕ, zero, suc, ◌+◌, ◌<◌, ◌≤◌, List, [], ◌∷◌, ◌++◌, Bool, length, get_or, map, take, Some, None, refl, sym, ap, subst, ◌∙◌, arith, ⊎_elim}
use Rattle.std.specs.Prelude.{All, Contains, slice_get}
use Rattle.std.proofs.lemmas.List.{take_more, take_all, length-map, get_or-map}
use Rattle.std.proofs.lemmas.List.Elements.{Contains-push, Contains-push_cases, Contains-append_left, Contains-append_right, Contains-append_cases, All-contains, Contains-get_or}
use Rattle.std.specs.List.Sorted.{IsPermutation, IsNonDecreasingBy}
use Rattle.std.proofs.lemmas.List.Sorted.{Contains-permutation, IsPermutation-sym}
use Rattle.tree_definitions.specs.Automaton.{Rule}
use Rattle.tree_definitions.specs.Relation.{Has}
use Rattle.tree_definitions.proofs.Members.{contains_none}
use Rattle.ta_model.specs.Tuples.{Precedes}
use Rattle.ta_model.specs.Classes.{AreAll}
use Rattle.shared_clusters.proofs.Groups.{precedes_none}
use Rattle.ta_model.specs.declared.table.Class.{Class}
use Rattle.shared_clusters.specs.Clusters.{Group, HasRule as Keeps, IsEmpty, GainsRule, AreTuplesOf, AreSymbolsOf}
use Rattle.shared_clusters.proofs.Gaps.{at_range, at_get_or}
use Rattle.shared_clusters.proofs.Rules.{same_rule}
use Rattle.ta_model.specs.declared.table.UpClass.{UpClass}
use Rattle.explicit_ta.specs.Index.{AreRulesOf, IsClassAt, AreClassesAt, AreLeads, AreParentsUnder, IsUpClassAt, AreUpClassesAt, AddsClass, From, AreUses, ListsUses, GainsUses, HaveSameRules}
use Rattle.explicit_ta.proofs.Lists.{more_in, more_out, all_of, image_in, image_out}

-- ---- a table of rules, one rule more

pub rules_more : (old new : List (List Group)) (n : ℕ) (rules : List Rule) (i : ℕ) (rule : Rule) → i < length rules → rule ≡ get_or rules i rule
    → AreRulesOf old n (take i rules) → GainsRule old new rule → length new ≡ length old → AreRulesOf new n (take (i + 1) rules)
rules_more old new n rules i rule lt is h gains long = record {
  parents_of = long ∙ h.parents_of;
  same = λ r. (
    λ m. more_in rules i rule r lt is (⊎_elim (λ (e : r ≡ rule). inr (sym e)) (λ k. inl ((h.same r).0 k)) ((gains r).0 m)),
    λ m. (gains r).1 (⊎_elim (λ k. inr ((h.same r).1 k)) (λ (e : rule ≡ r). inl (sym e)) (more_out rules i rule r lt is m)),
  );
}

pub rules_none : (t : List (List Group)) (n : ℕ) (rules : List Rule) → length t ≡ n → IsEmpty t → AreRulesOf t n (take 0 rules)
rules_none t n rules long empty = record { parents_of = long; same = λ r. (λ m. absurd (empty r m), λ m. absurd (contains_none r m)) }

pub rules_all : (t : List (List Group)) (n : ℕ) (rules : List Rule) (i : ℕ) → length rules ≤ i → AreRulesOf t n (take i rules) → AreRulesOf t n rules
rules_all t n rules i le h = subst (AreRulesOf t n) (take_all i rules le) h

-- ---- the symbols of a parent, one more

pub symbols_more : (all : List ℕ) (n : ℕ) (a : ℕ) → slice_get all n ≡ Some a → take n all ++ a ∷ [] ≡ take (n + 1) all
symbols_more all n a at = sym (take_more all n a (at_range all n a at) ∙ ap (λ v. take n all ++ v ∷ []) (at_get_or all n a a at))

pub symbols_end : (all : List ℕ) (n : ℕ) → slice_get all n ≡ None → length all ≤ n
symbols_end [] n e = omega arith
symbols_end (x ∷ xs) zero e = absurd cc
symbols_end (x ∷ xs) (suc n) e = let h : length xs ≤ n = symbols_end xs n e in omega arith

-- ---- classes, one more

pub classes_none : (t : List (List Group)) (q r : ℕ) (symbols : List ℕ) → AreClassesAt t q r (take 0 symbols) []
classes_none t q r symbols = record { each = λ c m. absurd (contains_none c m); all_symbols = λ a m. absurd (contains_none a m) }

pub classes_more : (t : List (List Group)) (q r : ℕ) (symbols : List ℕ) (i a : ℕ) (classes : List Class) (class : Class) → i < length symbols → a ≡ get_or symbols i a
    → AreSymbolsOf t q symbols → class.symbol ≡ a → AreTuplesOf t q a class.first → AreTuplesOf t r a class.second
    → AreClassesAt t q r (take i symbols) classes → AreClassesAt t q r (take (i + 1) symbols) (classes ++ class ∷ [])
classes_more t q r symbols i a classes class lt is of same first second h = record {
  each = λ c m. ⊎_elim (λ k. h.each c k) (λ (e : class ≡ c). subst (IsClassAt t q r) e here) (Contains-push_cases classes class c m);
  all_symbols = λ b m. ⊎_elim
      (λ k. let w = h.all_symbols b k in (w.0, Contains-append_left classes (class ∷ []) w.0 w.1, w.2))
      (λ (e : a ≡ b). (class, Contains-push classes class, same ∙ e))
      (more_out symbols i a b lt is m);
}
  where
    stands : Contains symbols a
    stands = (i, lt, sym is)

    here : IsClassAt t q r class
    here = record {
      some = subst (λ b. (kids : List ℕ) × Keeps t (record { symbol = b; kids = kids; parent = q })) (sym same) ((of.members a).0 stands);
      first_tuples = subst (λ b. AreTuplesOf t q b class.first) (sym same) first;
      second_tuples = subst (λ b. AreTuplesOf t r b class.second) (sym same) second;
    }

-- ---- the tuples of a parent, those under one symbol more

-- the kids of the parent's rules under these symbols
abbrev pub Under : List (List Group) → ℕ → List ℕ → List ℕ → Type 0
Under t q symbols kids = (a : ℕ) × Contains symbols a × Keeps t (record { symbol = a; kids = kids; parent = q })

pub under_more : (t : List (List Group)) (q : ℕ) (symbols : List ℕ) (i a : ℕ) (before tuples : List (List ℕ)) → i < length symbols → a ≡ get_or symbols i a
    → AreTuplesOf t q a tuples → ((kids : List ℕ) → Contains before kids ↔ Under t q (take i symbols) kids) → (kids : List ℕ) → Contains (before ++ tuples) kids ↔ Under t q (take (i + 1) symbols) kids
under_more t q symbols i a before tuples lt is of h kids = (
  λ m. ⊎_elim
      (λ k. let w = (h kids).0 k in (w.0, more_in symbols i a w.0 lt is (inl w.1), w.2))
      (λ k. (a, more_in symbols i a a lt is (inr refl), (of.members kids).0 k))
      (Contains-append_cases before tuples kids m),
  λ w. ⊎_elim
      (λ k. Contains-append_left before tuples kids ((h kids).1 (w.0, k, w.2)))
      (λ (e : a ≡ w.0). Contains-append_right before tuples kids ((of.members kids).1 (subst (λ b. Keeps t (record { symbol = b; kids = kids; parent = q })) (sym e) w.2)))
      (more_out symbols i a w.0 lt is w.1),
)

-- ---- the rules with these children

abbrev pub lead_of : Rule → ℕ × ℕ
lead_of r = (r.symbol, r.parent)

pub leads_are : (rules here : List Rule) (kids : List ℕ) → ((r : Rule) → Contains here r ↔ (Contains rules r × (r.kids ≡ kids))) → AreLeads rules kids (map lead_of here)
leads_are rules here kids same a p = (
  λ m.
      let r = image_out lead_of here (a, p) m in
      let h = (same r.0).0 r.1 in
      let is : r.0 ≡ record { symbol = a; kids = kids; parent = p } =
      same_rule r.0 (record { symbol = a; kids = kids; parent = p }) (ap (λ (w : ℕ × ℕ). w.1) r.2) (ap (λ (w : ℕ × ℕ). w.0) r.2) h.1 in
      subst (Contains rules) is h.0,
  λ m. image_in lead_of here (record { symbol = a; kids = kids; parent = p }) ((same (record { symbol = a; kids = kids; parent = p })).1 (m, refl)),
)

pub leads_rise : (here : List Rule) → IsNonDecreasingBy (λ r. r.symbol) here → IsNonDecreasingBy (λ x. x.0) (map lead_of here)
leads_rise here up i j d le lt =
    let long = length-map here lead_of in
    let r : Rule = record { symbol = d.0; kids = []; parent = d.1 } in
    let m : j < length here = omega (arith, lt, long) in
    let a = ap (λ (w : ℕ × ℕ). w.0) (get_or-map lead_of here i r d (omega (arith, le, m))) in
    let b = ap (λ (w : ℕ × ℕ). w.0) (get_or-map lead_of here j r d m) in
    let h : (get_or here i r).symbol ≤ (get_or here j r).symbol = up i j r le m in
    omega (arith, a, b, h)

pub leads_moved : (xs ys : List Rule) (kids : List ℕ) (pairs : List (ℕ × ℕ)) → HaveSameRules xs ys → AreLeads xs kids pairs → AreLeads ys kids pairs
leads_moved xs ys kids pairs same h a p =
    let rule : Rule = record { symbol = a; kids = kids; parent = p } in
    (λ m. (same rule).0 ((h a p).0 m), λ m. (h a p).1 ((same rule).1 m))

-- ---- the rules in which a state stands, one rule more

-- a use of the rule for one child more
pub uses_more : (old new : List Rule) (kids : List ℕ) (i q : ℕ) (line : Rule) → i < length kids → q ≡ get_or kids i q
    → line ≡ record { symbol = 0; kids = kids; parent = q } → GainsUses old new kids (take i kids) → GainsUses old (new ++ line ∷ []) kids (take (i + 1) kids)
uses_more old new kids i q line lt is same h u = (
  λ m. ⊎_elim
      (λ k. ⊎_elim (λ o. inl o) (λ n. inr (n.0, n.1, more_in kids i q u.parent lt is (inl n.2))) ((h u).0 k))
      (λ (e : line ≡ u).
      let f : u ≡ record { symbol = 0; kids = kids; parent = q } = sym e ∙ same in
      inr (ap (λ r. r.symbol) f, ap (λ r. r.kids) f, more_in kids i q u.parent lt is (inr (sym (ap (λ r. r.parent) f)))))
      (Contains-push_cases new line u m),
  λ m. ⊎_elim
      (λ o. Contains-append_left new (line ∷ []) u ((h u).1 (inl o)))
      (λ n. ⊎_elim
      (λ k. Contains-append_left new (line ∷ []) u ((h u).1 (inr (n.0, n.1, k))))
      (λ (e : q ≡ u.parent). subst (Contains (new ++ line ∷ [])) (same ∙ sym (same_rule u (record { symbol = 0; kids = kids; parent = q }) (sym e) n.0 n.1)) (Contains-push new line))
      (more_out kids i q u.parent lt is n.2))
      m,
)

pub uses_none : (t : List Rule) (kids : List ℕ) → GainsUses t t kids (take 0 kids)
uses_none t kids u = (λ m. inl m, λ m. ⊎_elim (λ k. k) (λ n. absurd (contains_none u.parent n.2)) m)

pub uses_rule : (old new : List Rule) (rules : List Rule) (i : ℕ) (rule : Rule) → i < length rules → rule ≡ get_or rules i rule
    → GainsUses old new rule.kids rule.kids → ListsUses old (take i rules) → ListsUses new (take (i + 1) rules)
uses_rule old new rules i rule lt is gains h u = (
  λ m. ⊎_elim
      (λ k. let w = (h u).0 k in (w.0, (w.1.0, more_in rules i rule w.1.0 lt is (inl w.1.1), w.1.2, w.1.3)))
      (λ k. (k.0, (rule, more_in rules i rule rule lt is (inr refl), sym k.1, subst (λ l. Contains l u.parent) (sym k.1) k.2)))
      ((gains u).0 m),
  λ m. (gains u).1 (⊎_elim
      (λ k. inl ((h u).1 (m.0, (m.1.0, k, m.1.2, m.1.3))))
      (λ (e : rule ≡ m.1.0).
      let kids : rule.kids ≡ u.kids = ap (λ r. r.kids) e ∙ m.1.2 in
      inr (m.0, sym kids, subst (λ l. Contains l u.parent) (sym kids) m.1.3))
      (more_out rules i rule m.1.0 lt is m.1.1)),
)

pub no_uses : (rules : List Rule) → ListsUses [] (take 0 rules)
no_uses rules u = (λ m. absurd (contains_none u m), λ m. absurd (contains_none m.1.0 m.1.1))

pub uses_sorted : (lines sorted rules : List Rule) → IsPermutation lines sorted → ListsUses lines rules → ListsUses sorted rules
uses_sorted lines sorted rules moved h u = (
  λ m. (h u).0 (Contains-permutation sorted lines u (IsPermutation-sym lines sorted moved) m),
  λ m. Contains-permutation lines sorted u moved ((h u).1 m),
)

pub uses_kept : (t : List (List Group)) (n : ℕ) (lines rules : List Rule) → AreRulesOf t n lines → ListsUses lines rules → AreUses t n rules
uses_kept t n lines rules kept h = record {
  parents_of = kept.parents_of;
  same = λ u. (λ m. (h u).0 ((kept.same u).0 m), λ m. (kept.same u).1 ((h u).1 m));
}

-- a use stands at a state
pub uses_within : (n : ℕ) (lines rules : List Rule) → All (λ r. All (λ q. q < n) r.kids) rules → ListsUses lines rules → All (λ r. r.parent < n) lines
uses_within n lines rules within h k d lt =
    let line = get_or lines k d in
    let from = ((h line).0 (Contains-get_or lines k d lt)).1 in
    All-contains (λ q. q < n) from.0.kids line.parent (All-contains (λ r. All (λ q. q < n) r.kids) rules from.0 within from.1) (subst (λ l. Contains l line.parent) (sym from.2) from.3)

-- the tuples kept for a state
pub uses_are : (t : List (List Group)) (n : ℕ) (rules : List Rule) (q : ℕ) (tuples : List (List ℕ)) → AreUses t n rules → AreTuplesOf t q 0 tuples → AreAll (From rules q) tuples
uses_are t n rules q tuples h of = record {
  distinct = λ i j d lt within e. precedes_none (get_or tuples i d) (subst (Precedes (get_or tuples i d)) (sym e) (of.rising i j d lt within));
  members = λ kids.
      let both = h.same (record { symbol = 0; kids = kids; parent = q }) in
      (λ m. (both.0 ((of.members kids).0 m)).1, λ f. (of.members kids).1 (both.1 (refl, f)));
}

-- ---- the parents of the pairs under a symbol

pub parents_more : (here : List (ℕ × ℕ)) (i : ℕ) (x : ℕ × ℕ) (old new : List Bool) → i < length here → x ≡ get_or here i x
    → ((p : ℕ) → Has old p ↔ ((a : ℕ) × Contains (take i here) (a, p))) → ((s : ℕ) → Has new s ↔ ((s ≡ x.1) ⊎ Has old s))
    → (p : ℕ) → Has new p ↔ ((a : ℕ) × Contains (take (i + 1) here) (a, p))
parents_more here i x old new lt is h set p = (
  λ m. ⊎_elim
      (λ (e : p ≡ x.1). (x.0, more_in here i x (x.0, p) lt is (inr (pair_is x (x.0, p) refl (sym e)))))
      (λ k. let w = (h p).0 k in (w.0, more_in here i x (w.0, p) lt is (inl w.1)))
      ((set p).0 m),
  λ w. ⊎_elim
      (λ k. (set p).1 (inr ((h p).1 (w.0, k))))
      (λ (e : ◌≡◌ {A = ℕ × ℕ} x (w.0, p)). (set p).1 (inl (sym (ap (λ (v : ℕ × ℕ). v.1) e))))
      (more_out here i x (w.0, p) lt is w.1),
)
  where
    pair_is : (v w : ℕ × ℕ) → v.0 ≡ w.0 → v.1 ≡ w.1 → v ≡ w
    pair_is v w e f = ap (λ (a : ℕ). (a, v.1)) e ∙ ap (λ (b : ℕ). (w.0, b)) f

pub parents_are : (states : ℕ) (pairs here : List (ℕ × ℕ)) (symbol i : ℕ) (row : List Bool) → length here ≤ i → length row ≡ states
    → ((a p : ℕ) → Contains here (a, p) ↔ (Contains pairs (a, p) × (a ≡ symbol))) → ((p : ℕ) → Has row p ↔ ((a : ℕ) × Contains (take i here) (a, p)))
    → AreParentsUnder states pairs symbol row
parents_are states pairs here symbol i row le wide under h = record {
  width = wide;
  members = λ p. (
    λ m. let w = (h p).0 m in
        let k = (under w.0 p).0 ((all_of here i (w.0, p) le).0 w.1) in
        subst (λ a. Contains pairs (a, p)) k.1 k.0,
    λ m. (h p).1 (symbol, (all_of here i (symbol, p) le).1 ((under symbol p).1 (m, refl))),
  );
}

-- ---- classes of parents, one pair more

pub up_classes_none : (n : ℕ) (first second : List (ℕ × ℕ)) → AreUpClassesAt n first second (take 0 first) []
up_classes_none n first second = record { each = λ c m. absurd (contains_none c m); all_symbols = λ a p m. absurd (contains_none (a, p) m) }

pub up_classes_more : (n : ℕ) (first second : List (ℕ × ℕ)) (i : ℕ) (x : ℕ × ℕ) (old new : List UpClass) → i < length first → x ≡ get_or first i x
    → AddsClass n first second x.0 old new → AreUpClassesAt n first second (take i first) old → AreUpClassesAt n first second (take (i + 1) first) new
up_classes_more n first second i x old new lt is adds h = record {
  each = λ c m. ⊎_elim (λ k. h.each c k) (λ k. k) (adds.from_old c m);
  all_symbols = λ a p m. ⊎_elim
      (λ k. let w = h.all_symbols a p k in (w.0, adds.kept w.0 w.1, w.2))
      (λ (e : ◌≡◌ {A = ℕ × ℕ} x (a, p)). (adds.class, adds.stands, adds.symbol_is ∙ ap (λ (v : ℕ × ℕ). v.0) e))
      (more_out first i x (a, p) lt is m);
}

pub class_pushed : (n : ℕ) (first second : List (ℕ × ℕ)) (symbol p : ℕ) (old : List UpClass) (class : UpClass) → Contains first (symbol, p) → class.symbol ≡ symbol
    → AreParentsUnder n first symbol class.first → AreParentsUnder n second symbol class.second → AddsClass n first second symbol old (old ++ class ∷ [])
class_pushed n first second symbol p old class some same one two = record {
  from_old = λ c m. ⊎_elim (λ k. inl k) (λ (e : class ≡ c). inr (subst (IsUpClassAt n first second) e here)) (Contains-push_cases old class c m);
  kept = λ c m. Contains-append_left old (class ∷ []) c m;
  class = class;
  stands = Contains-push old class;
  symbol_is = same;
}
  where
    here : IsUpClassAt n first second class
    here = record {
      some = (p, subst (λ a. Contains first (a, p)) (sym same) some);
      first_parents = subst (λ a. AreParentsUnder n first a class.first) (sym same) one;
      second_parents = subst (λ a. AreParentsUnder n second a class.second) (sym same) two;
    }

pub class_there : (n : ℕ) (first second : List (ℕ × ℕ)) (symbol : ℕ) (old : List UpClass) (class : UpClass) → Contains old class → class.symbol ≡ symbol → AddsClass n first second symbol old old
class_there n first second symbol old class m same = record { from_old = λ c k. inl k; kept = λ c k. k; class = class; stands = m; symbol_is = same }
