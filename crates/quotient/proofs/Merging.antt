-- The automaton with the states of each class merged.
use Rattle.std.proofs.Common.{◌≡◌, ◌≢◌, inl, ℕ, ◌+◌, ◌<◌, ◌≤◌, List, [], ◌∷◌, length, get_or, map, refl, sym, ap, subst, ◌∙◌, arith, ⊎_elim}
use Rattle.std.specs.Prelude.{All, AllPairs, Contains, slice_index}
use Rattle.std.specs.List.{AllZip}
use Rattle.std.proofs.lemmas.Bool.{cases_eq}
use Rattle.std.proofs.lemmas.List.{length-map}
use Rattle.std.proofs.lemmas.List.Elements.{All-head, All-tail, All-contains}
use Rattle.std.proofs.lemmas.Option.{slice_get_within}
use Rattle.tree_definitions.specs.Tree.{Symbol}
use Rattle.tree_definitions.specs.Automaton.{Automaton, Rule, IsNarrow, HasRule, IsState, IsAutomaton, FitsRule}
use Rattle.tree_definitions.specs.Name.{IsName}
use Rattle.tree_definitions.specs.Quotient.{IsFirst, IsInClass, CollapsesTo}
use Rattle.tree_definitions.specs.Relation.{Relation, IsAt}
use Rattle.tree_definitions.proofs.Listing.{label_at, at_label, rule_parts, rule_of_line as line_rule}
use Rattle.tree_definitions.proofs.Members.{contains_at, place_of}
use Rattle.ta_model.specs.Listing.{IsListed}
use Rattle.quotient.specs.Grouping.{IsTransitive, IsLeader, AreLeaders, IsNumbering, HasOnce, merged}
use Rattle.quotient.proofs.ClassSteps.{one_leader, lead_themselves}
use Rattle.quotient.proofs.Lists.{apart_by_places, one_place_of, no_more, all_from, image_in, image_out, zip_length, zip_at}

-- automata with the same lists
pub same_lists : (A B : Automaton) → A.bits ≡ B.bits → A.name ≡ B.name → A.symbols ≡ B.symbols → A.states ≡ B.states → A.finals ≡ B.finals → A.rules ≡ B.rules → A ≡ B
same_lists A B b n s q f r = λ i. record { bits = b i; name = n i; symbols = s i; states = q i; finals = f i; rules = r i }

-- a rule is a line of the list, with the place of its symbol
line_of_rule : (A : Automaton) → IsNarrow A → (a : Symbol) (kids : List ℕ) (q : ℕ) → HasRule A a kids q → (k : ℕ) × IsAt A.symbols k a × Contains A.rules (record { symbol = k; kids = kids; parent = q })
line_of_rule A narrow a kids q h =
    let p = rule_parts A h.0 a kids q h.1 in
    (p.0, at_label A p.0 a narrow p.1, contains_at A.rules h.0 (record { symbol = p.0; kids = kids; parent = q }) p.2)

rule_of_line : (A : Automaton) → IsNarrow A → (k : ℕ) (a : Symbol) (kids : List ℕ) (q : ℕ) → IsAt A.symbols k a → Contains A.rules (record { symbol = k; kids = kids; parent = q }) → HasRule A a kids q
rule_of_line A narrow k a kids q at m =
    let line : Rule = record { symbol = k; kids = kids; parent = q } in
    let p = place_of A.rules line m in
    (p.0, line_rule A p.0 line a p.1 (label_at A k a narrow at))

same_rule : (r s : Rule) → r.symbol ≡ s.symbol → r.kids ≡ s.kids → r.parent ≡ s.parent → r ≡ s
same_rule r s a k p =
    let by_symbol : ℕ → Rule = λ v. record { symbol = v; kids = r.kids; parent = r.parent } in
    let by_kids : List ℕ → Rule = λ v. record { symbol = s.symbol; kids = v; parent = r.parent } in
    let by_parent : ℕ → Rule = λ v. record { symbol = s.symbol; kids = s.kids; parent = v } in
    ap by_symbol a ∙ ap by_kids k ∙ ap by_parent p

pub fits_rule : (A : Automaton) → IsAutomaton A → (r : Rule) → Contains A.rules r → FitsRule A r
fits_rule A fits r m = All-contains (FitsRule A) A.rules r fits.fitting m

abbrev pub merged_with : Automaton → List (List ℕ) → List ℕ → List Rule → Automaton
merged_with A names fs rs = record { bits = 0; name = A.name; symbols = A.symbols; states = names; finals = fs; rules = rs }

module _ (A : Automaton) (listed : IsListed A) (D : Relation) (joined : IsTransitive D) (leaders firsts classes : List ℕ) (names : List (List ℕ)) (fs : List ℕ) (rs : List Rule)
    (led : AreLeaders D (length A.states) leaders) (nb : IsNumbering leaders firsts classes (length A.states)) (named : AllZip (IsAt A.states) firsts names)
    (finals : HasOnce (map (slice_index classes) A.finals) fs) (rules : HasOnce (map (merged classes) A.rules) rs) where
  abbrev class : ℕ → ℕ
  class q = slice_index classes q

  firsts_apart : AllPairs ◌≢◌ firsts
  firsts_apart i j d lt within e = let less : get_or firsts i d < get_or firsts j d = nb.rising i j d lt within in omega arith

  -- each state is in the class of its number
  stands : (q : ℕ) → IsState A q → IsInClass D firsts (class q) q
  stands q l = let p = nb.placed q l in (p.0, p.2, (led.each q p.0 p.1).same)

  -- and in no other
  class_is : (i q : ℕ) → IsState A q → IsInClass D firsts i q → i ≡ class q
  class_is i q l m =
      let p = nb.placed q l in
      let first : Contains firsts m.0 = contains_at firsts i m.0 m.1 in
      let low : m.0 < length A.states = All-contains (λ q. q < length A.states) firsts m.0 nb.below first in
      let lead : IsAt leaders m.0 m.0 = (nb.chosen m.0 low).0 first in
      let same : m.0 ≡ p.0 = one_leader D joined m.0 q m.0 p.0 (led.each m.0 m.0 lead) (led.each q p.0 p.1) m.2 in
      one_place_of firsts i (class q) p.0 firsts_apart (subst (IsAt firsts i) same m.1) p.2

  number_within : (q : ℕ) → IsState A q → class q < length names
  number_within q l =
      let p = nb.placed q l in
      let low : class q < length firsts = slice_get_within firsts (class q) p.0 p.2 in
      let long = zip_length (IsAt A.states) firsts names named in
      omega (arith, low, long)

  final_state : (q : ℕ) → Contains A.finals q → IsState A q
  final_state q m = All-contains (IsState A) A.finals q listed.automaton.final_states m

  names_apart : AllPairs ◌≢◌ names
  names_apart = apart_by_places names once
    where
      once : (i j : ℕ) (x : List ℕ) → IsAt names i x → IsAt names j x → i ≡ j
      once i j x iat jat =
          let first = zip_at (IsAt A.states) firsts names i x named iat in
          let second = zip_at (IsAt A.states) firsts names j x named jat in
          let same : first.0 ≡ second.0 = one_place_of A.states first.0 second.0 x listed.automaton.states first.2 second.2 in
          one_place_of firsts i j second.0 firsts_apart (subst (IsAt firsts i) same first.1) second.1

  merged_fits : (r : Rule) → Contains A.rules r → FitsRule (merged_with A names fs rs) (merged classes r)
  merged_fits r m =
      let old = fits_rule A listed.automaton r m in
      record {
        symbol = (old.symbol.0, old.symbol.1, length-map r.kids (slice_index classes) ∙ old.symbol.2);
        kids = all_from (λ i. i < length names) (map (slice_index classes) r.kids) (λ i k.
            let o = image_out (slice_index classes) r.kids i k in
            subst (λ x. x < length names) o.2 (number_within o.0 (All-contains (IsState A) r.kids o.0 old.kids o.1)));
        parent = number_within r.parent old.parent;
      }

  pub merged_listed : IsListed (merged_with A names fs rs)
  merged_listed = record {
    automaton = record {
      symbols = listed.automaton.symbols;
      states = names_apart;
      finals = finals.distinct;
      rules = rules.distinct;
      final_states = all_from (λ i. i < length names) fs (λ i m.
          let o = image_out (slice_index classes) A.finals i ((finals.members i).0 m) in
          subst (λ x. x < length names) o.2 (number_within o.0 (final_state o.0 o.1)));
      fitting = all_from (FitsRule (merged_with A names fs rs)) rs (λ s m.
          let o = image_out (merged classes) A.rules s ((rules.members s).0 m) in
          subst (FitsRule (merged_with A names fs rs)) o.2 (merged_fits o.0 o.1));
      form = inl refl;
    };
    narrow = refl;
    name = listed.name;
    symbol_names = listed.symbol_names;
    state_names = all_from IsName names (λ y m.
        let p = place_of names y m in
        let o = zip_at (IsAt A.states) firsts names p.0 y named p.1 in
        All-contains IsName A.states y listed.state_names (contains_at A.states o.0 y o.2));
    few_symbols = listed.few_symbols;
    few_states = let long = zip_length (IsAt A.states) firsts names named in let few : length firsts ≤ length A.states = nb.few in let old = listed.few_states in omega arith;
    few_rules = let short : length rs ≤ length (map (merged classes) A.rules) = no_more rs (map (merged classes) A.rules) rules.distinct (λ r m. (rules.members r).0 m) in
        let same = length-map A.rules (merged classes) in let old : length A.rules < 4294967295 = listed.few_rules in omega (arith, short, same);
  }

  zip_kids : (qs : List ℕ) → All (IsState A) qs → AllZip (IsInClass D firsts) (map (slice_index classes) qs) qs
  zip_kids [] h = tt
  zip_kids (q ∷ qs) h = (stands q (All-head (IsState A) q qs h), zip_kids qs (All-tail (IsState A) q qs h))

  kids_are : (kids qs : List ℕ) → All (IsState A) qs → AllZip (IsInClass D firsts) kids qs → kids ≡ map (slice_index classes) qs
  kids_are [] [] h z = refl
  kids_are [] (q ∷ qs) h z = absurd z
  kids_are (i ∷ kids) [] h z = absurd z
  kids_are (i ∷ kids) (q ∷ qs) h z =
      ap (λ v. v ∷ kids) (class_is i q (All-head (IsState A) q qs h) z.0)
      ∙ ap (λ l. slice_index classes q ∷ l) (kids_are kids qs (All-tail (IsState A) q qs h) z.1)

  rules_out : (a : Symbol) (kids : List ℕ) (i : ℕ) → HasRule (merged_with A names fs rs) a kids i
      → (qs : List ℕ) × (q : ℕ) × AllZip (IsInClass D firsts) kids qs × IsInClass D firsts i q × HasRule A a qs q
  rules_out a kids i h =
      let o = line_of_rule (merged_with A names fs rs) refl a kids i h in
      let line : Rule = record { symbol = o.0; kids = kids; parent = i } in
      let r = image_out (merged classes) A.rules line ((rules.members line).0 o.2) in
      let old = r.0 in
      let fits = fits_rule A listed.automaton old r.1 in
      let symbol : old.symbol ≡ o.0 = ap (λ (v : Rule). v.symbol) r.2 in (
        old.kids,
        old.parent,
        subst (λ l. AllZip (IsInClass D firsts) l old.kids) (ap (λ (v : Rule). v.kids) r.2) (zip_kids old.kids fits.kids),
        subst (λ k. IsInClass D firsts k old.parent) (ap (λ (v : Rule). v.parent) r.2) (stands old.parent fits.parent),
        rule_of_line A listed.narrow old.symbol a old.kids old.parent (subst (λ k. IsAt A.symbols k a) (sym symbol) o.1) r.1,
      )

  rules_in : (a : Symbol) (kids : List ℕ) (i : ℕ) → (qs : List ℕ) × (q : ℕ) × AllZip (IsInClass D firsts) kids qs × IsInClass D firsts i q × HasRule A a qs q
      → HasRule (merged_with A names fs rs) a kids i
  rules_in a kids i h =
      let o = line_of_rule A listed.narrow a h.0 h.1 h.4 in
      let old : Rule = record { symbol = o.0; kids = h.0; parent = h.1 } in
      let line : Rule = record { symbol = o.0; kids = kids; parent = i } in
      let fits = fits_rule A listed.automaton old o.2 in
      let same : merged classes old ≡ line = same_rule (merged classes old) line refl (sym (kids_are kids h.0 fits.kids h.2)) (sym (class_is i h.1 fits.parent h.3)) in
      rule_of_line (merged_with A names fs rs) refl o.0 a kids i o.1
      ((rules.members line).1 (subst (Contains (map (merged classes) A.rules)) same (image_in (merged classes) A.rules old o.2)))

  first_out : (q : ℕ) → Contains firsts q → IsFirst A D q
  first_out q m =
      let low : q < length A.states = All-contains (λ q. q < length A.states) firsts q nb.below m in
      let lead : IsLeader D q q = led.each q q ((nb.chosen q low).0 m) in
      record {
        state = low;
        least = λ r l s. let k : q ≤ r = lead.least r s in omega (arith, k, l);
      }

  first_in : (q : ℕ) → IsFirst A D q → Contains firsts q
  first_in q h =
      let p = nb.placed q h.state in
      let low : p.0 ≤ q = (lead_themselves D joined (length A.states) leaders led q p.0 p.1).0 in
      let same : p.0 ≡ q = ⊎_elim
      (λ (e : p.0 ≡ q). e)
      (λ (d : p.0 ≡ q → ⊥). absurd (h.least p.0 (omega arith) (led.each q p.0 p.1).same))
      (cases_eq p.0 q) in
      (nb.chosen q h.state).1 (subst (IsAt leaders q) same p.1)

  pub merged_collapses : CollapsesTo A (merged_with A names fs rs) D firsts
  merged_collapses = record {
    bits = sym listed.narrow;
    name = refl;
    symbols = λ n. refl;
    rising = λ k lt. nb.rising k (k + 1) 0 (omega arith) lt;
    each_first = λ q. (first_out q, first_in q);
    states = named;
    finals = λ i. (
      λ m. let o = image_out (slice_index classes) A.finals i ((finals.members i).0 m) in
          (o.0, subst (λ k. IsInClass D firsts k o.0) o.2 (stands o.0 (final_state o.0 o.1)), o.1),
      λ h. (finals.members i).1 (subst (Contains (map (slice_index classes) A.finals)) (sym (class_is i h.0 (final_state h.0 h.2) h.1)) (image_in (slice_index classes) A.finals h.0 h.2)),
    );
    rules = λ a kids i. (rules_out a kids i, rules_in a kids i);
    fitting = merged_listed.automaton;
  }
