-- Two automata over joint places, and their union.
use Rattle.std.proofs.Common.{◌≡◌, ◌≢◌, ◌⊎◌, inl, inr, ℕ, zero, suc, ◌+◌, ◌<◌, ◌≤◌, List, [], ◌∷◌, ◌++◌, Bool, true, false, ◌&&◌, ◌||◌, not, length, get_or, map, take, refl, sym, ap, subst, ◌∙◌, arith, ⊎_elim, length-append}
use Rattle.std.specs.Prelude.{All, AllPairs, Contains, slice_index, codes, nat_eq, ◌==◌}
use Rattle.std.specs.List.{AllZip, list_all, starts_with}
use Rattle.std.specs.Str.{bytes_eq}
use Rattle.std.proofs.lemmas.List.{length-map, get_or-take, length-take-le, append_cancel_right}
use Rattle.std.proofs.lemmas.Bool.Decides.{Decides-eqb}
use Rattle.std.proofs.lemmas.List.Kept.{AllPairs-cons}
use Rattle.std.proofs.lemmas.List.Folds.{list_all-append}
use Rattle.std.proofs.lemmas.List.Elements.{All-append, All-contains, Contains-append_left, Contains-append_right, Contains-append_cases}
use Rattle.std.specs.Cmp.Lexicographic.{bytes_decides}
use Rattle.tree_definitions.specs.Tree.{Symbol}
use Rattle.tree_definitions.specs.Automaton.{Automaton, Rule, HasRule, IsState, IsAutomaton, FitsRule}
use Rattle.tree_definitions.specs.Name.{IsName, has_arrow, is_section_word, is_name_byte}
use Rattle.tree_definitions.specs.Relation.{IsAt}
use Rattle.tree_definitions.specs.Joint.{JointRule, right, joint_symbols}
use Rattle.tree_definitions.specs.Union.{IsUnion}
use Rattle.tree_definitions.proofs.Members.{contains_head, contains_tail, contains_at, at_unique, at_within}
use Rattle.ta_model.specs.Listing.{IsListed}
use Rattle.tree_definitions.specs.Canonical.{canon}
use Rattle.tree_definitions.proofs.InOrder.{canon_rules}
use Rattle.tree_definitions.proofs.Counting.{count_keys}
use Rattle.ta_model.specs.Pairing.{ArePaired, FitTogether}
use Rattle.shared_clusters.proofs.Gaps.{pairs_head, pairs_tail}
use Rattle.shared_clusters.proofs.Rules.{same_rule}
use Rattle.explicit_ta.specs.Pair.{moved, joint_rules, marked}
use Rattle.explicit_ta.proofs.Lists.{image_in, image_out}
use Rattle.explicit_ta.proofs.Bridges.{Ties, automaton_ties, one_place_of}
use Rattle.explicit_ta.proofs.Parts.{all_from, at_append, filter_out}

-- an element is not among those before it
pub fresh_at : {X : Type 0} (xs : List X) (i : ℕ) (x : X) → AllPairs ◌≢◌ xs → i < length xs → x ≡ get_or xs i x → Contains (take i xs) x → ⊥
fresh_at xs i x apart lt is m =
    let short = length-take-le i xs (omega arith) in
    let low : m.0 < i = omega (arith, m.1) in
    apart m.0 i x low lt (sym (get_or-take i xs m.0 x low) ∙ m.2 ∙ is)

pub apart_append : {X : Type 0} (xs ys : List X) → AllPairs ◌≢◌ xs → AllPairs ◌≢◌ ys → ((x y : X) → Contains xs x → Contains ys y → x ≢ y) → AllPairs ◌≢◌ (xs ++ ys)
apart_append [] ys h k cross = k
apart_append (x ∷ xs) ys h k cross =
    AllPairs-cons ◌≢◌ x (xs ++ ys)
    (all_from (λ y. x ≢ y) (xs ++ ys) (λ y m. ⊎_elim (λ n. All-contains (λ v. x ≢ v) xs y (pairs_head ◌≢◌ x xs h) n) (λ n. cross x y (contains_head x xs) n) (Contains-append_cases xs ys y m)))
    (apart_append xs ys (pairs_tail ◌≢◌ x xs h) k (λ a b m n. cross a b (contains_tail x xs a m) n))

pub apart_map : {X Y : Type 0} (f : X → Y) (xs : List X) → AllPairs ◌≢◌ xs → ((x y : X) → Contains xs x → Contains xs y → f x ≡ f y → x ≡ y) → AllPairs ◌≢◌ (map f xs)
apart_map f [] h tells = λ i j d lt within. absurd (omega arith)
apart_map f (x ∷ xs) h tells =
    AllPairs-cons ◌≢◌ (f x) (map f xs)
    (all_from (λ y. f x ≢ y) (map f xs) (λ y m same.
    let o = image_out f xs y m in
    All-contains (λ v. x ≢ v) xs o.0 (pairs_head ◌≢◌ x xs h) o.1 (tells x o.0 (contains_head x xs) (contains_tail x xs o.0 o.1) (same ∙ sym o.2))))
    (apart_map f xs (pairs_tail ◌≢◌ x xs h) (λ a b m n. tells a b (contains_tail x xs a m) (contains_tail x xs b n)))

-- ---- names with a mark

abbrev last_of : List ℕ → ℕ → ℕ
last_of [] d = d
last_of (x ∷ xs) d = last_of xs x

last_marked : (n : List ℕ) (a b d : ℕ) → last_of (n ++ a ∷ b ∷ []) d ≡ b
last_marked [] a b d = refl
last_marked (x ∷ xs) a b d = last_marked xs a b x

either_none : (a b : Bool) → a ≡ false → b ≡ false → (a || b) ≡ false
either_none true b e f = e
either_none false b e f = f

none_left : (a b : Bool) → (a || b) ≡ false → a ≡ false
none_left true b e = e
none_left false b e = refl

none_right : (a b : Bool) → (a || b) ≡ false → b ≡ false
none_right true b e = absurd cc
none_right false b e = e

both_false : (a : Bool) → (a && false) ≡ false
both_false true = refl
both_false false = refl

both_left : (a b : Bool) → (a && b) ≡ true → a ≡ true
both_left true b e = refl
both_left false b e = e

both_right : (a b : Bool) → (a && b) ≡ true → b ≡ true
both_right true b e = e
both_right false b e = absurd cc

both_true : (a b : Bool) → a ≡ true → b ≡ true → (a && b) ≡ true
both_true true b e f = f
both_true false b e f = e

not_false : (a : Bool) → not a ≡ true → a ≡ false
not_false true e = absurd cc
not_false false e = refl

no_arrow : (n : List ℕ) (b : ℕ) → (b ≡ 49) ⊎ (b ≡ 50) → has_arrow n ≡ false → has_arrow (n ++ 95 ∷ b ∷ []) ≡ false
no_arrow [] b h e =
    ⊎_elim
    (λ (p : b ≡ 49). subst (λ v. has_arrow (95 ∷ v ∷ []) ≡ false) (sym p) refl)
    (λ (p : b ≡ 50). subst (λ v. has_arrow (95 ∷ v ∷ []) ≡ false) (sym p) refl)
    h
no_arrow (x ∷ []) b h e = either_none (starts_with nat_eq (x ∷ 95 ∷ b ∷ []) (codes "->")) (has_arrow (95 ∷ b ∷ [])) (both_false (nat_eq 45 x)) (no_arrow [] b h refl)
no_arrow (x ∷ y ∷ ys) b h e =
    either_none (starts_with nat_eq (x ∷ y ∷ ys) (codes "->")) (has_arrow (y ∷ ys ++ 95 ∷ b ∷ []))
    (none_left (starts_with nat_eq (x ∷ y ∷ ys) (codes "->")) (has_arrow (y ∷ ys)) e)
    (no_arrow (y ∷ ys) b h (none_right (starts_with nat_eq (x ∷ y ∷ ys) (codes "->")) (has_arrow (y ∷ ys)) e))

not_word : (n w : List ℕ) (b : ℕ) → b ≤ 50 → 50 < last_of w 0 → bytes_eq (n ++ 95 ∷ b ∷ []) w ≡ false
not_word n w b small great = go (bytes_eq (n ++ 95 ∷ b ∷ []) w) refl
  where
    go : (t : Bool) → bytes_eq (n ++ 95 ∷ b ∷ []) w ≡ t → t ≡ false
    go true e =
        let same : n ++ 95 ∷ b ∷ [] ≡ w = (bytes_decides (n ++ 95 ∷ b ∷ []) w).0 e in
        let last : b ≡ last_of w 0 = sym (last_marked n 95 b 0) ∙ ap (λ l. last_of l 0) same in
        absurd (omega arith)
    go false e = refl

no_section : (n : List ℕ) (b : ℕ) → b ≤ 50 → is_section_word (n ++ 95 ∷ b ∷ []) ≡ false
unfolding is_section_word
no_section n b small =
    let name = n ++ 95 ∷ b ∷ [] in
    let ops = not_word n (codes "Ops") b small (omega arith) in
    let automaton = not_word n (codes "Automaton") b small (omega arith) in
    let states = not_word n (codes "States") b small (omega arith) in
    let final = not_word n (codes "Final") b small (omega arith) in
    let transitions = not_word n (codes "Transitions") b small (omega arith) in
    either_none _ (bytes_eq name (codes "Transitions"))
    (either_none _ (bytes_eq name (codes "Final"))
    (either_none _ (bytes_eq name (codes "States"))
    (either_none (bytes_eq name (codes "Ops")) (bytes_eq name (codes "Automaton")) ops automaton) states) final) transitions

pub marked_name_is : (n : List ℕ) (b : ℕ) → (b ≡ 49) ⊎ (b ≡ 50) → IsName n → IsName (n ++ 95 ∷ b ∷ [])
marked_name_is n b h name =
    let small : b ≤ 50 = ⊎_elim (λ (p : b ≡ 49). omega arith) (λ (p : b ≡ 50). omega arith) h in
    let three = both_left (not (length n == 0) && list_all is_name_byte n && not (has_arrow n)) (not (is_section_word n)) name in
    let two = both_left (not (length n == 0) && list_all is_name_byte n) (not (has_arrow n)) three in
    let arrow = both_right (not (length n == 0) && list_all is_name_byte n) (not (has_arrow n)) three in
    let bytes = both_right (not (length n == 0)) (list_all is_name_byte n) two in
    let new = n ++ 95 ∷ b ∷ [] in
    let tail_bytes : list_all is_name_byte (95 ∷ b ∷ []) ≡ true = ⊎_elim
    (λ (p : b ≡ 49). subst (λ v. list_all is_name_byte (95 ∷ v ∷ []) ≡ true) (sym p) refl)
    (λ (p : b ≡ 50). subst (λ v. list_all is_name_byte (95 ∷ v ∷ []) ≡ true) (sym p) refl) h in
    both_true (not (length new == 0) && list_all is_name_byte new && not (has_arrow new)) (not (is_section_word new))
    (both_true (not (length new == 0) && list_all is_name_byte new) (not (has_arrow new))
    (both_true (not (length new == 0)) (list_all is_name_byte new) (some n)
    (list_all-append is_name_byte n (95 ∷ b ∷ []) ∙ both_true (list_all is_name_byte n) (list_all is_name_byte (95 ∷ b ∷ [])) bytes tail_bytes))
    (ap not (no_arrow n b h (not_false (has_arrow n) arrow)))) (ap not (no_section n b small))
  where
    some : (m : List ℕ) → not (length (m ++ 95 ∷ b ∷ []) == 0) ≡ true
    some m = go (length (m ++ 95 ∷ b ∷ []) == 0) refl
      where
        go : (t : Bool) → (length (m ++ 95 ∷ b ∷ []) == 0) ≡ t → not t ≡ true
        go true e = let none : length (m ++ 95 ∷ b ∷ []) ≡ 0 = (Decides-eqb (length (m ++ 95 ∷ b ∷ [])) 0).0 e in let long = length-append m (95 ∷ b ∷ []) in absurd (omega arith)
        go false e = refl

-- ---- the rules of both

pub zip_place : {X : Type 0} (S bs : List X) (places : List ℕ) (k : ℕ) (b : X) → AllZip (IsAt S) places bs → IsAt bs k b → IsAt S (slice_index places k) b
zip_place S [] places k b h e = absurd cc
zip_place S (c ∷ cs) [] k b h e = absurd h
zip_place S (c ∷ cs) (p ∷ ps) zero b h e = let same : c ≡ b = cc in subst (IsAt S p) same h.0
zip_place S (c ∷ cs) (p ∷ ps) (suc k) b h e = zip_place S cs ps k b h.1 e

pub zip_long : {X : Type 0} (S bs : List X) (places : List ℕ) → AllZip (IsAt S) places bs → length places ≡ length bs
zip_long S [] [] h = refl
zip_long S [] (p ∷ ps) h = absurd h
zip_long S (c ∷ cs) [] h = absurd h
zip_long S (c ∷ cs) (p ∷ ps) h = ap suc (zip_long S cs ps h.1)

pub sums_tell : (n : ℕ) (xs ys : List ℕ) → map (λ s. n + s) xs ≡ map (λ s. n + s) ys → xs ≡ ys
sums_tell n [] [] e = refl
sums_tell n [] (y ∷ ys) e = absurd cc
sums_tell n (x ∷ xs) [] e = absurd cc
sums_tell n (x ∷ xs) (y ∷ ys) e =
    let first : n + x ≡ n + y = cc in
    let rest : map (λ s. n + s) xs ≡ map (λ s. n + s) ys = cc in
    let same : x ≡ y = omega arith in
    ap (λ v. v ∷ xs) same ∙ ap (λ l. y ∷ l) (sums_tell n xs ys rest)

module _ (A B : Automaton) (paired : ArePaired A B) (symbols : List Symbol) (places : List ℕ) (are : symbols ≡ joint_symbols A.symbols B.symbols)
    (distinct : AllPairs ◌≢◌ symbols) (placed : AllZip (IsAt symbols) places B.symbols) where
  pub a_ties : Ties A.symbols (HasRule A) A.rules
  a_ties = automaton_ties A paired.left.automaton paired.left.narrow

  pub b_ties : Ties B.symbols (HasRule B) B.rules
  b_ties = automaton_ties B paired.right.automaton paired.right.narrow

  pub left_label : (k : ℕ) (a : Symbol) → IsAt A.symbols k a → IsAt symbols k a
  left_label k a at = subst (λ l. IsAt l k a) (sym are) (at_append A.symbols _ k a at)

  pub joint_ties : Ties symbols (JointRule A B) (joint_rules A B places)
  joint_ties = record {
    out = λ a kids q h. ⊎_elim
        (λ m. let o = a_ties.out a kids q m in (o.0, left_label o.0 a o.1, Contains-append_left A.rules (map (moved A places) B.rules) (record { symbol = o.0; kids = kids; parent = q }) o.2))
        (λ m.
        let o = b_ties.out a m.0 m.1 m.4 in
        let old : Rule = record { symbol = o.0; kids = m.0; parent = m.1 } in
        let new : Rule = record { symbol = slice_index places o.0; kids = kids; parent = q } in
        let same : moved A places old ≡ new = same_rule (moved A places old) new (sym m.3) refl (sym m.2) in (
          slice_index places o.0,
          zip_place symbols B.symbols places o.0 a placed o.1,
          Contains-append_right A.rules (map (moved A places) B.rules) new (subst (Contains (map (moved A places) B.rules)) same (image_in (moved A places) B.rules old o.2)),
        ))
        h;
    within = λ k a kids q at m. ⊎_elim
        (λ n. let label = a_ties.labelled (record { symbol = k; kids = kids; parent = q }) n in
        let same : label.0 ≡ a = at_unique symbols k label.0 a (left_label k label.0 label.1) at in
        inl (subst (λ b. HasRule A b kids q) same (a_ties.within k label.0 kids q label.1 n)))
        (λ n.
        let o = image_out (moved A places) B.rules (record { symbol = k; kids = kids; parent = q }) n in
        let old = o.0 in
        let label = b_ties.labelled old o.1 in
        let there : IsAt symbols k label.0 = subst (λ i. IsAt symbols i label.0) (ap (λ v. v.symbol) o.2) (zip_place symbols B.symbols places old.symbol label.0 placed label.1) in
        let same : label.0 ≡ a = at_unique symbols k label.0 a there at in
        inr (old.kids, old.parent, sym (ap (λ v. v.kids) o.2), sym (ap (λ v. v.parent) o.2), subst (λ b. HasRule B b old.kids old.parent) same (b_ties.within old.symbol label.0 old.kids old.parent label.1 o.1)))
        (Contains-append_cases A.rules (map (moved A places) B.rules) (record { symbol = k; kids = kids; parent = q }) m);
    labelled = λ r m. ⊎_elim
        (λ n. let label = a_ties.labelled r n in (label.0, left_label r.symbol label.0 label.1))
        (λ n.
        let o = image_out (moved A places) B.rules r n in
        let label = b_ties.labelled o.0 o.1 in
        (label.0, subst (λ i. IsAt symbols i label.0) (ap (λ v. v.symbol) o.2) (zip_place symbols B.symbols places o.0.symbol label.0 placed label.1)))
        (Contains-append_cases A.rules (map (moved A places) B.rules) r m);
    one_place = λ k l a at_k at_l. one_place_of symbols distinct k l a at_k at_l;
  }

  pub joint_parents : All (λ r. r.parent < length A.states + length B.states) (joint_rules A B places)
  joint_parents = all_from (λ r. r.parent < length A.states + length B.states) (joint_rules A B places) (λ r m. ⊎_elim
      (λ n. let low : r.parent < length A.states = (All-contains (FitsRule A) A.rules r paired.left.automaton.fitting n).parent in omega arith)
      (λ n.
      let o = image_out (moved A places) B.rules r n in
      let low : o.0.parent < length B.states = (All-contains (FitsRule B) B.rules o.0 paired.right.automaton.fitting o.1).parent in
      let is : length A.states + o.0.parent ≡ r.parent = ap (λ v. v.parent) o.2 in omega arith)
      (Contains-append_cases A.rules (map (moved A places) B.rules) r m))

  -- ---- the union

  abbrev pub union_with : Automaton
  union_with = record {
    bits = 0;
    name = codes "union";
    symbols = symbols;
    states = marked (codes "_1") A.states ++ marked (codes "_2") B.states;
    finals = A.finals ++ map (right A) B.finals;
    rules = joint_rules A B places;
  }

  all_states : length union_with.states ≡ length A.states + length B.states
  all_states =
      length-append (marked (codes "_1") A.states) (marked (codes "_2") B.states)
      ∙ ap (λ k. k + length (marked (codes "_2") B.states)) (length-map A.states (λ n. n ++ codes "_1"))
      ∙ ap (λ k. length A.states + k) (length-map B.states (λ n. n ++ codes "_2"))

  b_fits : (r : Rule) → Contains B.rules r → FitsRule B r
  b_fits r m = All-contains (FitsRule B) B.rules r paired.right.automaton.fitting m

  left_fits : (r : Rule) → FitsRule A r → FitsRule union_with r
  left_fits r h =
      let more = all_states in
      let p : r.parent < length A.states = h.parent in
      record {
        symbol = (h.symbol.0, left_label r.symbol h.symbol.0 h.symbol.1, h.symbol.2);
        kids = λ k d lt. let q : get_or r.kids k d < length A.states = h.kids k d lt in omega (arith, more);
        parent = omega (arith, more);
      }

  right_fits : (r : Rule) → FitsRule B r → FitsRule union_with (moved A places r)
  right_fits r h =
      let more = all_states in
      let p : r.parent < length B.states = h.parent in
      record {
        symbol = (h.symbol.0, zip_place symbols B.symbols places r.symbol h.symbol.0 placed h.symbol.1, length-map r.kids (right A) ∙ h.symbol.2);
        kids = all_from (λ q. q < length union_with.states) (map (right A) r.kids) (λ q m.
            let o = image_out (right A) r.kids q m in
            let low : o.0 < length B.states = All-contains (IsState B) r.kids o.0 h.kids o.1 in
            let is : right A o.0 ≡ q = o.2 in omega (arith, more));
        parent = omega (arith, more);
      }

  moved_tell : (r s : Rule) → Contains B.rules r → Contains B.rules s → moved A places r ≡ moved A places s → r ≡ s
  moved_tell r s m n same =
      let label_r = b_ties.labelled r m in
      let label_s = b_ties.labelled s n in
      let there : IsAt symbols (slice_index places s.symbol) label_r.0 = subst (λ i. IsAt symbols i label_r.0) (ap (λ v. v.symbol) same) (zip_place symbols B.symbols places r.symbol label_r.0 placed label_r.1) in
      let labels : label_r.0 ≡ label_s.0 = at_unique symbols (slice_index places s.symbol) label_r.0 label_s.0 there (zip_place symbols B.symbols places s.symbol label_s.0 placed label_s.1) in
      let symbol : r.symbol ≡ s.symbol = b_ties.one_place r.symbol s.symbol label_s.0 (subst (IsAt B.symbols r.symbol) labels label_r.1) label_s.1 in
      let sum : length A.states + r.parent ≡ length A.states + s.parent = ap (λ v. v.parent) same in
      same_rule r s (omega arith) symbol (sums_tell (length A.states) r.kids s.kids (ap (λ v. v.kids) same))

  pub union_automaton : IsAutomaton union_with
  union_automaton = record {
    symbols = distinct;
    states = apart_append (marked (codes "_1") A.states) (marked (codes "_2") B.states)
        (apart_map (λ n. n ++ codes "_1") A.states paired.left.automaton.states (λ n m _ _ e. append_cancel_right n m (codes "_1") e))
        (apart_map (λ n. n ++ codes "_2") B.states paired.right.automaton.states (λ n m _ _ e. append_cancel_right n m (codes "_2") e))
        (λ x y m n e.
        let o = image_out (λ (v : List ℕ). v ++ codes "_1") A.states x m in
        let p = image_out (λ (v : List ℕ). v ++ codes "_2") B.states y n in
        let same : o.0 ++ codes "_1" ≡ p.0 ++ codes "_2" = o.2 ∙ e ∙ sym p.2 in
        let last : 49 ≡ 50 = sym (last_marked o.0 95 49 0) ∙ ap (λ l. last_of l 0) same ∙ last_marked p.0 95 50 0 in
        absurd (omega arith));
    finals = apart_append A.finals (map (right A) B.finals) paired.left.automaton.finals
        (apart_map (right A) B.finals paired.right.automaton.finals (λ s t _ _ e. let sum : length A.states + s ≡ length A.states + t = e in omega arith))
        (λ x y m n e.
        let low : x < length A.states = All-contains (IsState A) A.finals x paired.left.automaton.final_states m in
        let o = image_out (right A) B.finals y n in
        let is : length A.states + o.0 ≡ y = o.2 in omega arith);
    rules = apart_append A.rules (map (moved A places) B.rules) paired.left.automaton.rules (apart_map (moved A places) B.rules paired.right.automaton.rules moved_tell)
        (λ x y m n e.
        let low : x.parent < length A.states = (All-contains (FitsRule A) A.rules x paired.left.automaton.fitting m).parent in
        let o = image_out (moved A places) B.rules y n in
        let is : length A.states + o.0.parent ≡ y.parent = ap (λ v. v.parent) o.2 in
        let same : x.parent ≡ y.parent = ap (λ v. v.parent) e in omega arith);
    final_states = all_from (λ q. q < length union_with.states) (A.finals ++ map (right A) B.finals) (λ q m. ⊎_elim
        (λ n. let low : q < length A.states = All-contains (IsState A) A.finals q paired.left.automaton.final_states n in omega (arith, all_states))
        (λ n.
        let o = image_out (right A) B.finals q n in
        let low : o.0 < length B.states = All-contains (IsState B) B.finals o.0 paired.right.automaton.final_states o.1 in
        let is : length A.states + o.0 ≡ q = o.2 in omega (arith, all_states))
        (Contains-append_cases A.finals (map (right A) B.finals) q m));
    fitting = all_from (FitsRule union_with) (joint_rules A B places) (λ r m. ⊎_elim
        (λ n. left_fits r (All-contains (FitsRule A) A.rules r paired.left.automaton.fitting n))
        (λ n. let o = image_out (moved A places) B.rules r n in subst (FitsRule union_with) o.2 (right_fits o.0 (b_fits o.0 o.1)))
        (Contains-append_cases A.rules (map (moved A places) B.rules) r m));
    form = inl refl;
  }

  pub union_listed : IsListed union_with
  unfolding is_section_word
  union_listed = record {
    automaton = union_automaton;
    narrow = refl;
    name = refl;
    symbol_names = subst (All (λ a. IsName a.name)) (sym are) (All-append (λ a. IsName a.name) A.symbols _ paired.left.symbol_names (all_from (λ a. IsName a.name) _ (λ a m. All-contains (λ b. IsName b.name) B.symbols a paired.right.symbol_names (filter_out _ B.symbols a m).0)));
    state_names = All-append IsName (marked (codes "_1") A.states) (marked (codes "_2") B.states)
        (all_from IsName (marked (codes "_1") A.states) (λ x m. let o = image_out (λ (v : List ℕ). v ++ codes "_1") A.states x m in subst IsName o.2 (marked_name_is o.0 49 (inl refl) (All-contains IsName A.states o.0 paired.left.state_names o.1))))
        (all_from IsName (marked (codes "_2") B.states) (λ x m. let o = image_out (λ (v : List ℕ). v ++ codes "_2") B.states x m in subst IsName o.2 (marked_name_is o.0 50 (inr refl) (All-contains IsName B.states o.0 paired.right.state_names o.1))));
    few_symbols = subst (λ l. length l ≤ 65535) (sym are) paired.few_symbols;
    few_states = let few = paired.together.few_states in omega (arith, all_states);
    few_rules =
        let few = paired.together.few_rules in
        let long : length (A.rules ++ map (moved A places) B.rules) ≡ length A.rules + length (map (moved A places) B.rules) = length-append A.rules (map (moved A places) B.rules) in
        let same : length (map (moved A places) B.rules) ≡ length B.rules = length-map B.rules (moved A places) in
        omega (arith, long, same);
  }

  pub union_is : IsUnion A B union_with
  union_is = record {
    bits = sym paired.left.narrow;
    name = refl;
    symbols = λ n. are;
    states = refl;
    finals = λ q. (
      λ m. ⊎_elim (λ n. inl n) (λ n. let o = image_out (right A) B.finals q n in inr (o.0, sym o.2, o.1)) (Contains-append_cases A.finals (map (right A) B.finals) q m),
      λ h. ⊎_elim
          (λ n. Contains-append_left A.finals (map (right A) B.finals) q n)
          (λ n. Contains-append_right A.finals (map (right A) B.finals) q (subst (Contains (map (right A) B.finals)) (sym n.1) (image_in (right A) B.finals n.0 n.2)))
          h,
    );
    rules = λ a kids q. (
      λ h. let o = union_ties.out a kids q h in joint_ties.within o.0 a kids q o.1 o.2,
      λ h. let o = joint_ties.out a kids q h in union_ties.within o.0 a kids q o.1 o.2,
    );
    fitting = union_automaton;
  }
    where
      union_ties : Ties symbols (HasRule union_with) (joint_rules A B places)
      union_ties = automaton_ties union_with union_automaton refl

-- a canonical form has no more rules
pub fewer_rules : (A : Automaton) → IsAutomaton (canon A) → length (canon A).rules ≤ length A.rules
fewer_rules A fits =
    count_keys (IsAt (canon A).rules) (canon A).rules A.rules
    (λ i lt. let r = at_within (canon A).rules i lt in (r.0, (canon_rules A r.0).0 (contains_at (canon A).rules i r.0 r.1), r.1))
    (λ i j r low lt at_i at_j. let same : i ≡ j = one_place_of (canon A).rules fits.rules i j r at_i at_j in omega arith)

pub canon_paired : (A B C D : Automaton) → C ≡ canon A → D ≡ canon B → FitTogether A B → IsListed C → IsListed D → length (joint_symbols C.symbols D.symbols) ≤ 65535 → ArePaired C D
canon_paired A B C D c d together left right few =
    let states_c : C.states ≡ A.states = ap (λ v. v.states) c in
    let states_d : D.states ≡ B.states = ap (λ v. v.states) d in
    let long_c = ap length states_c in
    let long_d = ap length states_d in
    let rules_c : length (canon A).rules ≤ length A.rules = fewer_rules A (subst IsListed c left).automaton in
    let rules_d : length (canon B).rules ≤ length B.rules = fewer_rules B (subst IsListed d right).automaton in
    let few_c : length C.rules ≡ length (canon A).rules = ap (λ v. length v.rules) c in
    let few_d : length D.rules ≡ length (canon B).rules = ap (λ v. length v.rules) d in
    let states = together.few_states in
    let rules = together.few_rules in
    record {
      left = left;
      right = right;
      together = record { few_states = omega (arith, long_c, long_d); few_rules = omega (arith, few_c, few_d, rules_c, rules_d) };
      few_symbols = few;
    }
