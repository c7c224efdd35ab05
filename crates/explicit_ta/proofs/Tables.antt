-- The rules of a table as a list, one parent or one symbol more.
use Rattle.std.proofs.Common.{◌≡◌, ◌≢◌, ◌↔◌, ◌⊎◌, inl, inr, ℕ, ◌+◌, ◌<◌, ◌≤◌, true, List, [], ◌∷◌, ◌++◌, length, get_or, map, take, refl, sym, ap, subst, ◌∙◌, arith, ⊎_elim, append_assoc}
use Rattle.std.specs.Prelude.{AllPairs, Contains}
use Rattle.std.proofs.lemmas.Bool.{cases_eq}
use Rattle.std.proofs.lemmas.List.{length-take, get_or-take, map-append}
use Rattle.std.proofs.lemmas.List.Elements.{All-append, All-contains, Contains-append_left, Contains-append_right, Contains-append_cases}
use Rattle.std.proofs.lemmas.List.Kept.{AllPairs-cons, AllPairs-from_increasing}
use Rattle.smallvec.specs.SmallVec.{SmallVec}
use Rattle.tree_definitions.specs.Automaton.{Automaton, Rule}
use Rattle.tree_definitions.specs.Relation.{Row, Has}
use Rattle.tree_definitions.proofs.Members.{contains_none, contains_head, contains_tail}
use Rattle.ta_model.specs.Tuples.{kids_of}
use Rattle.shared_clusters.specs.Clusters.{Group, HasRule as Keeps, AreSymbolsOf, AreTuplesOf, KeepsParents}
use Rattle.shared_clusters.proofs.Gaps.{at_range, pairs_head, pairs_tail}
use Rattle.shared_clusters.proofs.Rules.{same_rule}
use Rattle.explicit_ta.specs.Index.{AreRulesOf, ListsThese}
use Rattle.explicit_ta.proofs.Bridges.{rising_apart}
use Rattle.explicit_ta.proofs.Lists.{image_in, image_out, map_more, more_in, more_out, all_of}
use Rattle.explicit_ta.proofs.Parts.{all_from}

abbrev pub rule_with : ℕ → ℕ → List ℕ → Rule
rule_with a q kids = record { symbol = a; kids = kids; parent = q }

-- two lists of distinct elements with none in common
apart_append : {X : Type 0} (xs ys : List X) → AllPairs ◌≢◌ xs → AllPairs ◌≢◌ ys → ((x : X) → Contains xs x → Contains ys x → ⊥) → AllPairs ◌≢◌ (xs ++ ys)
apart_append [] ys h g none = g
apart_append (x ∷ xs) ys h g none =
    AllPairs-cons ◌≢◌ x (xs ++ ys)
    (All-append (λ y. x ≢ y) xs ys (pairs_head ◌≢◌ x xs h) (all_from (λ y. x ≢ y) ys (λ y m e. none x (contains_head x xs) (subst (Contains ys) (sym e) m))))
    (apart_append xs ys (pairs_tail ◌≢◌ x xs h) g (λ z m. none z (contains_tail x xs z m)))

-- the rule of one more tuple behind a list of rules
pub rule_more : (a q : ℕ) (old now new : List Rule) (tuples : List (SmallVec ℕ)) (i : ℕ) (v : SmallVec ℕ) (kids : List ℕ) → i < length tuples → v ≡ get_or tuples i v → kids ≡ v.items
    → now ≡ old ++ map (rule_with a q) (kids_of (take i tuples)) → new ≡ now ++ rule_with a q kids ∷ [] → new ≡ old ++ map (rule_with a q) (kids_of (take (i + 1) tuples))
rule_more a q old now new tuples i v kids lt is same before pushed =
    let f = rule_with a q in
    let done = kids_of (take i tuples) in
    pushed
    ∙ ap (λ l. l ++ f kids ∷ []) before
    ∙ ap (λ ks. (old ++ map f done) ++ f ks ∷ []) same
    ∙ append_assoc old (map f done) (f v.items ∷ [])
    ∙ ap (λ l. old ++ l) (sym (map-append f done (v.items ∷ [])) ∙ ap (map f) (map_more (λ (w : SmallVec ℕ). w.items) tuples i v lt is))

-- images of distinct elements under what tells them apart
apart_map : {X Y : Type 0} (f : X → Y) (xs : List X) → AllPairs ◌≢◌ xs → ((x y : X) → f x ≡ f y → x ≡ y) → AllPairs ◌≢◌ (map f xs)
apart_map f [] h tells = λ i j d lt within. absurd (omega arith)
apart_map f (x ∷ xs) h tells =
    AllPairs-cons ◌≢◌ (f x) (map f xs)
    (all_from (λ y. f x ≢ y) (map f xs) (λ y m e.
    let o = image_out f xs y m in
    let same : x ≡ o.0 = tells x o.0 (e ∙ sym o.2) in
    All-contains (λ y. x ≢ y) xs o.0 (pairs_head ◌≢◌ x xs h) o.1 same))
    (apart_map f xs (pairs_tail ◌≢◌ x xs h) tells)

module _ (t : List (List Group)) where
  lists_same : (P Q : Rule → Type 0) (rules : List Rule) → ((r : Rule) → Keeps t r → P r ↔ Q r) → ListsThese t P rules → ListsThese t Q rules
  lists_same P Q rules same h = record {
    distinct = h.distinct;
    members = λ r. (
      λ m. let k = (h.members r).0 m in (k.0, (same r k.0).0 k.1),
      λ k. (h.members r).1 (k.0, (same r k.0).1 k.1),
    );
  }

  lists_more : (P Q : Rule → Type 0) (xs ys : List Rule) → ListsThese t P xs → ListsThese t Q ys → ((r : Rule) → P r → Q r → ⊥) → ListsThese t (λ r. P r ⊎ Q r) (xs ++ ys)
  lists_more P Q xs ys h g none = record {
    distinct = apart_append xs ys h.distinct g.distinct (λ r m n. none r ((h.members r).0 m).1 ((g.members r).0 n).1);
    members = λ r. (
      λ m. ⊎_elim
          (λ k. let o = (h.members r).0 k in (o.0, inl o.1))
          (λ k. let o = (g.members r).0 k in (o.0, inr o.1))
          (Contains-append_cases xs ys r m),
      λ k. ⊎_elim
          (λ p. Contains-append_left xs ys r ((h.members r).1 (k.0, p)))
          (λ q. Contains-append_right xs ys r ((g.members r).1 (k.0, q)))
          k.1,
    );
  }

  pub lists_none : ListsThese t (λ r. r.parent < 0) []
  lists_none = record {
    distinct = λ i j d lt within. absurd (omega arith);
    members = λ r. (λ m. absurd (contains_none r m), λ k. absurd (omega (arith, k.1)));
  }

  -- the rules of lower parents, and those of q under the symbols
  abbrev pub Begun : ℕ → List ℕ → Rule → Type 0
  Begun q symbols r = (r.parent < q) ⊎ ((r.parent ≡ q) × Contains symbols r.symbol)

  pub begun_none : (q : ℕ) (rules : List Rule) → ListsThese t (λ r. r.parent < q) rules → ListsThese t (Begun q []) rules
  begun_none q rules h =
      lists_same (λ r. r.parent < q) (Begun q []) rules (λ r k. (λ l. inl l, λ b. ⊎_elim (λ l. l) (λ s. absurd (contains_none r.symbol s.1)) b)) h

  tuples_list : (q a : ℕ) (tuples : List (List ℕ)) → AreTuplesOf t q a tuples → ListsThese t (λ r. (r.parent ≡ q) × (r.symbol ≡ a)) (map (rule_with a q) tuples)
  tuples_list q a tuples of = record {
    distinct = apart_map (rule_with a q) tuples (rising_apart tuples of.rising) (λ x y e. ap (λ (r : Rule). r.kids) e);
    members = λ r. (
      λ m.
          let o = image_out (rule_with a q) tuples r m in
          (subst (Keeps t) o.2 ((of.members o.0).0 o.1), (sym (ap (λ (v : Rule). v.parent) o.2), sym (ap (λ (v : Rule). v.symbol) o.2))),
      λ k.
          let is : r ≡ rule_with a q r.kids = same_rule r (rule_with a q r.kids) k.1.0 k.1.1 refl in
          subst (Contains (map (rule_with a q) tuples)) (sym is) (image_in (rule_with a q) tuples r.kids ((of.members r.kids).1 (subst (Keeps t) is k.0))),
    );
  }

  pub begun_more : (q : ℕ) (symbols : List ℕ) (i a : ℕ) (rules : List Rule) (tuples : List (List ℕ)) → i < length symbols → a ≡ get_or symbols i a
      → AreSymbolsOf t q symbols → AreTuplesOf t q a tuples → ListsThese t (Begun q (take i symbols)) rules
      → ListsThese t (Begun q (take (i + 1) symbols)) (rules ++ map (rule_with a q) tuples)
  begun_more q symbols i a rules tuples lt is of tuples_of h =
      lists_same (λ r. Begun q (take i symbols) r ⊎ ((r.parent ≡ q) × (r.symbol ≡ a))) (Begun q (take (i + 1) symbols)) (rules ++ map (rule_with a q) tuples)
      (λ r k. (
        λ b. ⊎_elim
            (λ c. ⊎_elim (λ l. inl l) (λ s. inr (s.0, more_in symbols i a r.symbol lt is (inl s.1))) c)
            (λ s. inr (s.0, more_in symbols i a r.symbol lt is (inr (sym s.1))))
            b,
        λ b. ⊎_elim
            (λ l. inl (inl l))
            (λ s. ⊎_elim (λ m. inl (inr (s.0, m))) (λ (e : a ≡ r.symbol). inr (s.0, sym e)) (more_out symbols i a r.symbol lt is s.1))
            b,
      ))
      (lists_more (Begun q (take i symbols)) (λ r. (r.parent ≡ q) × (r.symbol ≡ a)) rules (map (rule_with a q) tuples) h (tuples_list q a tuples tuples_of) apart)
    where
      -- a is none of the symbols before it
      new : Contains (take i symbols) a → ⊥
      new m =
          let short = length-take i symbols in
          let low : m.0 < i = omega (arith, m.1, short) in
          let place : get_or symbols m.0 a ≡ a = sym (get_or-take i symbols m.0 a low) ∙ m.2 in
          let less : get_or symbols m.0 a < get_or symbols i a = AllPairs-from_increasing symbols of.rising m.0 i a low lt in
          let same : get_or symbols i a ≡ a = sym is in
          omega (arith, less, place, same)

      apart : (r : Rule) → Begun q (take i symbols) r → (r.parent ≡ q) × (r.symbol ≡ a) → ⊥
      apart r b s = ⊎_elim (λ l. let e = s.0 in omega (arith, l, e)) (λ c. new (subst (Contains (take i symbols)) s.1 c.1)) b

  pub begun_all : (q : ℕ) (symbols : List ℕ) (i : ℕ) (rules : List Rule) → length symbols ≤ i → AreSymbolsOf t q symbols → ListsThese t (Begun q (take i symbols)) rules
      → ListsThese t (λ r. r.parent < q + 1) rules
  begun_all q symbols i rules le of h =
      lists_same (Begun q (take i symbols)) (λ r. r.parent < q + 1) rules
      (λ r k. (
        λ b. ⊎_elim (λ l. omega arith) (λ s. let e = s.0 in omega (arith, e)) b,
        λ l. ⊎_elim
            (λ (e : r.parent ≡ q).
            let here : Keeps t (record { symbol = r.symbol; kids = r.kids; parent = q }) = subst (λ p. Keeps t (record { symbol = r.symbol; kids = r.kids; parent = p })) e k in
            inr (e, (all_of symbols i r.symbol le).1 ((of.members r.symbol).1 (r.kids, here))))
            (λ (d : r.parent ≡ q → ⊥). inl (omega arith))
            (cases_eq r.parent q),
      ))
      h

-- the rules of a table without the rules of dropped parents
pub rules_left : (A : Automaton) (old new : List (List Group)) (row : Row) (rules : List Rule) → length row ≡ length A.states → length new ≡ length A.states
    → AreRulesOf old (length A.states) A.rules → KeepsParents old new row → ListsThese new (λ r. r.parent < length new) rules
    → (r : Rule) → Contains rules r ↔ (Contains A.rules r × Has row r.parent)
rules_left A old new row rules wide long of keeps h r = (
  λ m. let k = (keeps r).0 ((h.members r).0 m).0 in ((of.same r).0 k.0, k.1),
  λ k.
      let low : r.parent < length row = at_range row r.parent true k.1 in
      (h.members r).1 ((keeps r).1 ((of.same r).1 k.0, k.1), omega (arith, low, wide, long)),
)
