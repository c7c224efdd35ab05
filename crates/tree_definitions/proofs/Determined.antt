-- The rules of an automaton determine its lines.
use Rattle.std.proofs.Common.{◌≡◌, inl, inr, ◌⊎◌, ◌↔◌, cond, None, ℕ, true, List, length, Some, sym, ap, ◌∙◌, subst, arith}
use Rattle.std.specs.Prelude.{◌≢◌, Contains, AllPairs}
use Rattle.std.specs.List.{list_any}
use Rattle.std.specs.List.Sorted.{IsStrictlySortedBy}
use Rattle.std.specs.Ordering.{eq_by_cmp, nat_cmp}
use Rattle.std.specs.Cmp.{IsTotalOrder}
use Rattle.std.specs.Cmp.Lexicographic.{slice_cmp}
use Rattle.std.specs.declared.cmp.Ordering.{Ordering}
use Rattle.std.specs.FinMap as fin
use Rattle.std.proofs.lemmas.Cmp.{nat_cmp_total, on_total, then_total, nat_list_cmp_total, eq_by_cmp_equiv}
use Rattle.std.proofs.lemmas.Map.Lookups.{exact_pairs, exact_unsigned, exact_bytes}
use Rattle.std.proofs.lemmas.Map.Views.{list_any-from_Contains, Contains-from_any}
use Rattle.std.proofs.lemmas.Bool.{cases_lt, cases_eq}
use Rattle.std.proofs.lemmas.List.Elements.{All-contains}
use Rattle.std.proofs.lemmas.Option.{slice_get_within, get_or_from_slice_get}
use Rattle.std.proofs.lemmas.List.Sorted.{IsPermutation-refl}
use Rattle.tree_definitions.specs.Tree.{Symbol}
use Rattle.tree_definitions.specs.Code.{cubes}
use Rattle.tree_definitions.specs.Automaton.{Automaton, Rule, IsNarrow, IsWide, label_cmp, over, HasRule, HasLine, FitsRule, IsFinal, IsAutomaton}
use Rattle.tree_definitions.specs.Relation.{IsAt}
use Rattle.tree_definitions.specs.Canonical.{in_order, rule_cmp, canon}
use Rattle.tree_definitions.proofs.Members.{contains_at, place_of, at_unique}
use Rattle.tree_definitions.proofs.Sorted.{keyed, found, in_order_is}
use Rattle.tree_definitions.proofs.CanonicalForms.{rules_total, rules_exact, ties_decide}
use Rattle.tree_definitions.proofs.Cubes.{same_truth, cubes_same}
use Rattle.tree_definitions.proofs.Listing.{label_at, at_label, rule_of_line, rule_parts}

labels_total : IsTotalOrder label_cmp
labels_total = then_total (on_total (λ (a : Symbol). a.rank) nat_cmp_total) (on_total (λ (a : Symbol). a.name) nat_list_cmp_total)

labels_exact : fin.IsAntisymmetric label_cmp
labels_exact a b h = ap (λ (p : ℕ × List ℕ). record { name = p.1; rank = p.0 })
    (exact_pairs nat_cmp (slice_cmp nat_cmp) exact_unsigned exact_bytes (a.rank, a.name) (b.rank, b.name) h)

module _ {K : Type 0} (R : K → K → Ordering) (total : IsTotalOrder R) (exact : fin.IsAntisymmetric R) where
  test_same : (xs ys : List K) → ((x : K) → Contains xs x ↔ Contains ys x) → (q : K) → list_any (eq_by_cmp R q) xs ≡ list_any (eq_by_cmp R q) ys
  test_same xs ys same q = same_truth _ _
      (λ t. list_any-from_Contains (eq_by_cmp_equiv total) q ys ((same q).0 (Contains-from_any tied q xs t)))
      (λ t. list_any-from_Contains (eq_by_cmp_equiv total) q xs ((same q).1 (Contains-from_any tied q ys t)))
    where
      tied : (x y : K) → eq_by_cmp R x y ≡ true → x ≡ y
      tied x y e = (ties_decide total exact x y).0 e

  -- lists with the same members are the same in order
  pub in_order_members : (xs ys : List K) → ((x : K) → Contains xs x ↔ Contains ys x) → in_order R xs ≡ in_order R ys
  in_order_members xs ys same = ap fin.keys (fin.same_map total exact (fin.from_entries {R = R} (keyed xs)) (fin.from_entries {R = R} (keyed ys))
      (λ q. fin.get-from_entries total (keyed xs) q ∙ found R q xs ∙ ap (λ b. cond b (Some (tt {0})) None) (test_same xs ys same q) ∙ sym (found R q ys) ∙ sym (fin.get-from_entries total (keyed ys) q)))

  -- rising lists with the same members are the same
  pub rising_members : (xs ys : List K) → IsStrictlySortedBy R xs → IsStrictlySortedBy R ys → ((x : K) → Contains xs x ↔ Contains ys x) → xs ≡ ys
  rising_members xs ys rx ry same =
      in_order_is total exact xs xs (IsPermutation-refl xs) rx ∙ in_order_members xs ys same ∙ sym (in_order_is total exact ys ys (IsPermutation-refl ys) ry)

-- in a list without repeats a value has one place
pub one_place : {X : Type 0} (xs : List X) → AllPairs ◌≢◌ xs → (i j : ℕ) (x : X) → IsAt xs i x → IsAt xs j x → i ≡ j
one_place xs apart i j x p q = elim (cases_eq i j) [
  | inl e ↦ e
  | inr n ↦ elim (cases_lt i j) [
    | inl lt ↦ absurd (apart i j x lt (slice_get_within xs j x q) (get_or_from_slice_get xs i x x p ∙ sym (get_or_from_slice_get xs j x x q)))
    | inr ge ↦ absurd (apart j i x (omega arith) (slice_get_within xs i x p) (get_or_from_slice_get xs j x x q ∙ sym (get_or_from_slice_get xs i x x p)))
  ]
]

abbrev pub SameRules : Automaton → Automaton → Type 0
SameRules A B = (a : Symbol) (kids : List ℕ) (p : ℕ) → HasRule A a kids p ↔ HasRule B a kids p

turned : (A B : Automaton) → SameRules A B → SameRules B A
turned A B same a kids p = ((same a kids p).1, (same a kids p).0)

-- the label of a line
label_of : (A : Automaton) → IsAutomaton A → (r : Rule) → Contains A.rules r → (a : Symbol) × IsAt A.symbols r.symbol a × (length r.kids ≡ a.rank)
label_of A fits r m = (All-contains (FitsRule A) A.rules r fits.fitting m).symbol

-- narrow automata with the same symbols and rules have the same lines
narrow_lines : (A B : Automaton) → IsAutomaton A → IsAutomaton B → IsNarrow A → IsNarrow B → A.symbols ≡ B.symbols → SameRules A B → (r : Rule) → Contains A.rules r → Contains B.rules r
narrow_lines A B ours theirs na nb symbols same r m =
    let label = label_of A ours r m in
    let place = place_of A.rules r m in
    let rule = (same label.0 r.kids r.parent).0 (place.0, rule_of_line A place.0 r label.0 place.1 (label_at A r.symbol label.0 na label.1)) in
    let parts = rule_parts B rule.0 label.0 r.kids r.parent rule.1 in
    let at : IsAt B.symbols r.symbol label.0 = subst (λ xs. IsAt xs r.symbol label.0) symbols label.1 in
    let one : parts.0 ≡ r.symbol = one_place B.symbols theirs.symbols parts.0 r.symbol label.0 (at_label B parts.0 label.0 nb parts.1) at in
    subst (λ k. Contains B.rules (record { symbol = k; kids = r.kids; parent = r.parent })) one (contains_at B.rules rule.0 (record { symbol = parts.0; kids = r.kids; parent = r.parent }) parts.2)

-- the patterns over some children are those of the rules over them
wide_line : (A B : Automaton) → IsWide A → IsWide B → A.bits ≡ B.bits → SameRules A B → (pattern kids : List ℕ) (p : ℕ) → HasLine A pattern kids p → HasLine B pattern kids p
wide_line A B ours theirs bits same pattern kids p line =
    let a = ours.patterns kids p in
    let b = theirs.patterns kids p in
    let codes : (code : List ℕ) → Contains a.0 code ↔ Contains b.0 code = λ code. (
      λ m. (b.1 code).1 ((same (over code kids) kids p).0 ((a.1 code).0 m)),
      λ m. (a.1 code).1 ((same (over code kids) kids p).1 ((b.1 code).0 m)),
    ) in
    let cubed : cubes A.bits a.0 ≡ cubes B.bits b.0 = cubes_same A.bits a.0 b.0 codes ∙ ap (λ w. cubes w b.0) bits in
    (b.2 pattern).0 (subst (λ ps. Contains ps pattern) cubed ((a.2 pattern).1 line))

-- a line has the label that its place says
pub line_there : (A : Automaton) → IsAutomaton A → (r : Rule) → Contains A.rules r → (a : Symbol) × IsAt A.symbols r.symbol a × (a ≡ over a.name r.kids) × HasLine A a.name r.kids r.parent
line_there A fits r m =
    let label = label_of A fits r m in
    let is : label.0 ≡ over label.0.name r.kids = (λ i. record { name = label.0.name; rank = sym label.2 i }) in
    (label.0, label.1, is, (r.symbol, subst (IsAt A.symbols r.symbol) is label.1, m))

wide_symbol : (A B : Automaton) → IsAutomaton A → IsWide A → IsWide B → A.bits ≡ B.bits → SameRules A B → (a : Symbol) → Contains A.symbols a → Contains B.symbols a
wide_symbol A B fits ours theirs bits same a m =
    let place = place_of A.symbols a m in
    let used = ours.used place.0 (slice_get_within A.symbols place.0 a place.1) in
    let line = line_there A fits used.0 used.1 in
    let here : a ≡ line.0 = at_unique A.symbols place.0 a line.0 place.1 (subst (λ k. IsAt A.symbols k line.0) used.2 line.1) in
    let there = wide_line A B ours theirs bits same line.0.name used.0.kids used.0.parent line.3 in
    subst (Contains B.symbols) (sym (here ∙ line.2)) (contains_at B.symbols there.0 (over line.0.name used.0.kids) there.1)

wide_lines : (A B : Automaton) → IsAutomaton A → IsAutomaton B → IsWide A → IsWide B → A.bits ≡ B.bits → A.symbols ≡ B.symbols → SameRules A B → (r : Rule) → Contains A.rules r → Contains B.rules r
wide_lines A B fits gits ours theirs bits symbols same r m =
    let line = line_there A fits r m in
    let there = wide_line A B ours theirs bits same line.0.name r.kids r.parent line.3 in
    let at : IsAt B.symbols r.symbol (over line.0.name r.kids) = subst (λ xs. IsAt xs r.symbol (over line.0.name r.kids)) symbols (subst (IsAt A.symbols r.symbol) line.2 line.1) in
    let one : there.0 ≡ r.symbol = one_place B.symbols gits.symbols there.0 r.symbol (over line.0.name r.kids) there.1 at in
    subst (λ k. Contains B.rules (record { symbol = k; kids = r.kids; parent = r.parent })) one there.2

-- what the rules of an automaton, and of a narrow one the symbols, say of its lists
abbrev pub SameLines : Automaton → Automaton → Type 0
SameLines A B = (A.symbols ≡ B.symbols) × ((r : Rule) → Contains A.rules r ↔ Contains B.rules r)

pub wide_determined : (A B : Automaton) → IsAutomaton A → IsAutomaton B → IsWide A → IsWide B → A.bits ≡ B.bits → SameRules A B → SameLines A B
wide_determined A B fits gits ours theirs bits same =
    let symbols : A.symbols ≡ B.symbols = rising_members label_cmp labels_total labels_exact A.symbols B.symbols ours.rising theirs.rising
    (λ a. (wide_symbol A B fits ours theirs bits same a, wide_symbol B A gits theirs ours (sym bits) (turned A B same) a)) in
    (symbols, λ r. (wide_lines A B fits gits ours theirs bits symbols same r, wide_lines B A gits fits theirs ours (sym bits) (sym symbols) (turned A B same) r))

pub determined : (A B : Automaton) → IsAutomaton A → IsAutomaton B → A.bits ≡ B.bits → (IsNarrow A → A.symbols ≡ B.symbols) → SameRules A B → SameLines A B
determined A B fits gits bits symbols same = go fits.form gits.form
  where
    narrow : IsNarrow A → SameLines A B
    narrow n = (
      symbols n,
      λ r. (
        narrow_lines A B fits gits n (sym bits ∙ n) (symbols n) same r,
        narrow_lines B A gits fits (sym bits ∙ n) n (sym (symbols n)) (turned A B same) r,
      ),
    )

    go : IsNarrow A ⊎ IsWide A → IsNarrow B ⊎ IsWide B → SameLines A B
    go (inl n) f = narrow n
    go (inr w) (inl n) = narrow (bits ∙ n)
    go (inr w) (inr v) = wide_determined A B fits gits w v bits same

-- automata with the same lists, but for the order of finals and lines, have one canonical form
pub same_canon : (A B : Automaton) → IsAutomaton A → IsAutomaton B → A.bits ≡ B.bits → A.name ≡ B.name → A.states ≡ B.states → (IsNarrow A → A.symbols ≡ B.symbols)
    → ((q : ℕ) → IsFinal A q ↔ IsFinal B q) → SameRules A B → canon A ≡ canon B
same_canon A B fits gits bits name states symbols finals same =
    let lines = determined A B fits gits bits symbols same in
    let fs : in_order nat_cmp A.finals ≡ in_order nat_cmp B.finals = in_order_members nat_cmp nat_cmp_total exact_unsigned A.finals B.finals finals in
    let rs : in_order rule_cmp A.rules ≡ in_order rule_cmp B.rules = in_order_members rule_cmp rules_total rules_exact A.rules B.rules lines.1 in
    λ i. record { bits = bits i; name = name i; symbols = lines.0 i; states = states i; finals = fs i; rules = rs i }
