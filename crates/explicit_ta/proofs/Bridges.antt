-- What a list of rules says of an automaton, and what is answered from the list.
use Rattle.std.proofs.Common.{◌≡◌, ◌≢◌, ◌↔◌, ℕ, ◌<◌, List, length, get_or, refl, sym, subst, ◌∙◌, arith, ⊎_elim, ◌≤◌, Bool}
use Rattle.std.specs.Prelude.{All, AllPairs, Contains}
use Rattle.std.proofs.lemmas.Bool.{cases_lt, cases_eq}
use Rattle.std.proofs.lemmas.List.Elements.{All-contains, Contains-get_or}
use Rattle.tree_definitions.specs.Tree.{Symbol}
use Rattle.tree_definitions.specs.Automaton.{Rules, Automaton, Rule, HasRule, IsNarrow, IsAutomaton, FitsRule}
use Rattle.tree_definitions.specs.Relation.{IsAt}
use Rattle.tree_definitions.proofs.Members.{contains_at, place_of}
use Rattle.tree_definitions.proofs.Listing.{number_at, label_at, at_label, rule_of_line, rule_parts}
use Rattle.ta_model.specs.Tuples.{IsRising, Precedes}
use Rattle.ta_model.specs.Classes.{AreAll, LeadTo, StandWith, IsClassUnder, AreClasses, AreParents, IsUpClassUnder, AreUpClasses}
use Rattle.ta_model.specs.declared.table.Class.{Class}
use Rattle.ta_model.specs.declared.table.UpClass.{UpClass}
use Rattle.shared_clusters.specs.Clusters.{Group, HasRule as Keeps, AreSymbolsOf, AreTuplesOf}
use Rattle.shared_clusters.proofs.Gaps.{at_range, at_get_or}
use Rattle.shared_clusters.proofs.Groups.{precedes_none}
use Rattle.explicit_ta.specs.Index.{AreRulesOf, IsClassAt, AreClassesAt, AreLeads, AreParentsUnder, IsUpClassAt, AreUpClassesAt, From}
use Rattle.explicit_ta.proofs.Lists.{areall_same}

-- the relation H is that of these rules, over these symbols
pub record Ties (symbols : List Symbol) (H : Rules) (rules : List Rule) : Type 0 where
  pub out : (a : Symbol) (kids : List ℕ) (q : ℕ) → H a kids q → (k : ℕ) × IsAt symbols k a × Contains rules (record { symbol = k; kids = kids; parent = q })
  pub within : (k : ℕ) (a : Symbol) (kids : List ℕ) (q : ℕ) → IsAt symbols k a → Contains rules (record { symbol = k; kids = kids; parent = q }) → H a kids q
  pub labelled : (r : Rule) → Contains rules r → (a : Symbol) × IsAt symbols r.symbol a
  pub one_place : (k l : ℕ) (a : Symbol) → IsAt symbols k a → IsAt symbols l a → k ≡ l

-- in a list without repeats an element has one place
pub one_place_of : {X : Type 0} (xs : List X) → AllPairs ◌≢◌ xs → (i j : ℕ) (x : X) → IsAt xs i x → IsAt xs j x → i ≡ j
one_place_of xs apart i j x at_i at_j =
    ⊎_elim
    (λ (e : i ≡ j). e)
    (λ (d : i ≡ j → ⊥). ⊎_elim
    (λ (lt : i < j). absurd (apart i j x lt (at_range xs j x at_j) (at_get_or xs i x x at_i ∙ sym (at_get_or xs j x x at_j))))
    (λ (ge : j ≤ i). absurd (apart j i x (omega arith) (at_range xs i x at_i) (at_get_or xs j x x at_j ∙ sym (at_get_or xs i x x at_i))))
    (cases_lt i j))
    (cases_eq i j)

pub automaton_ties : (A : Automaton) → IsAutomaton A → IsNarrow A → Ties A.symbols (HasRule A) A.rules
automaton_ties A fits narrow = record {
  out = λ a kids q h.
      let p = rule_parts A h.0 a kids q h.1 in
      (p.0, at_label A p.0 a narrow p.1, contains_at A.rules h.0 (record { symbol = p.0; kids = kids; parent = q }) p.2);
  within = λ k a kids q at m.
      let line : Rule = record { symbol = k; kids = kids; parent = q } in
      let p = place_of A.rules line m in
      (p.0, rule_of_line A p.0 line a p.1 (label_at A k a narrow at));
  labelled = λ r m. let s = (All-contains (FitsRule A) A.rules r fits.fitting m).symbol in (s.0, s.1);
  one_place = λ k l a at_k at_l. one_place_of A.symbols fits.symbols k l a at_k at_l;
}

-- tuples that rise are distinct
pub rising_apart : (ts : List (List ℕ)) → IsRising ts → AllPairs ◌≢◌ ts
rising_apart ts h i j d lt within e = precedes_none (get_or ts i d) (subst (λ t. Precedes (get_or ts i d) t) (sym e) (h i j d lt within))

module _ (symbols : List Symbol) (H : Rules) (rules : List Rule) (ties : Ties symbols H rules) where
  -- the rules under one symbol
  pub under_symbol : (k : ℕ) (a : Symbol) (kids : List ℕ) (q : ℕ) → IsAt symbols k a → Contains rules (record { symbol = k; kids = kids; parent = q }) ↔ H a kids q
  under_symbol k a kids q at = (
    λ m. ties.within k a kids q at m,
    λ h. let o = ties.out a kids q h in
        subst (λ l. Contains rules (record { symbol = l; kids = kids; parent = q })) (ties.one_place o.0 k a o.1 at) o.2,
  )

  module _ (clusters : List (List Group)) (n : ℕ) (kept : AreRulesOf clusters n rules) where
    tuples_are : (q k : ℕ) (a : Symbol) (tuples : List (List ℕ)) → IsAt symbols k a → AreTuplesOf clusters q k tuples → AreAll (λ kids. H a kids q) tuples
    tuples_are q k a tuples at of = record {
      distinct = rising_apart tuples of.rising;
      members = λ kids.
          let rule : Rule = record { symbol = k; kids = kids; parent = q } in (
            λ m. (under_symbol k a kids q at).0 ((kept.same rule).0 ((of.members kids).0 m)),
            λ h. (of.members kids).1 ((kept.same rule).1 ((under_symbol k a kids q at).1 h)),
          );
    }

    class_is : (q r : ℕ) (class : Class) (a : Symbol) → IsAt symbols class.symbol a → IsClassAt clusters q r class → IsClassUnder H q r a class
    class_is q r class a at h = record { first = tuples_are q class.symbol a class.first at h.first_tuples; second = tuples_are r class.symbol a class.second at h.second_tuples }

    pub classes_are : (bits : ℕ) → bits ≡ 0 → (q r : ℕ) (found : List ℕ) (classes : List Class) → AreSymbolsOf clusters q found → AreClassesAt clusters q r found classes → AreClasses bits symbols H q r classes
    classes_are bits narrow q r found classes of h = record {
      sound = λ class m.
          let here = h.each class m in
          let kids = here.some.0 in
          let rule : Rule = record { symbol = class.symbol; kids = kids; parent = q } in
          let stands = (kept.same rule).0 here.some.1 in
          let label = ties.labelled rule stands in
          (label.0, kids, number_at bits symbols class.symbol label.0 narrow label.1, (under_symbol class.symbol label.0 kids q label.1).0 stands, class_is q r class label.0 label.1 here);
      covering = λ a kids rule.
          let o = ties.out a kids q rule in
          let symbol = (of.members o.0).1 (kids, (kept.same (record { symbol = o.0; kids = kids; parent = q })).1 o.2) in
          let c = h.all_symbols o.0 symbol in
          (c.0, c.1, class_is q r c.0 a (subst (λ k. IsAt symbols k a) (sym c.2) o.1) (h.each c.0 c.1));
    }

    pub lead_to : (q : ℕ) (tuples : List (List ℕ)) → AreAll (λ kids. (a : ℕ) × Keeps clusters (record { symbol = a; kids = kids; parent = q })) tuples → AreAll (LeadTo H q) tuples
    lead_to q tuples h = areall_same (λ kids. (a : ℕ) × Keeps clusters (record { symbol = a; kids = kids; parent = q })) (LeadTo H q) tuples
        (λ kids. (
          λ m. let rule : Rule = record { symbol = m.0; kids = kids; parent = q } in
              let stands = (kept.same rule).0 m.1 in
              let label = ties.labelled rule stands in
              (label.0, ties.within m.0 label.0 kids q label.1 stands),
          λ m. let o = ties.out m.0 kids q m.1 in (o.0, (kept.same (record { symbol = o.0; kids = kids; parent = q })).1 o.2),
        )) h

  pub stand_with : (q : ℕ) (tuples : List (List ℕ)) → AreAll (From rules q) tuples → AreAll (StandWith H q) tuples
  stand_with q tuples h = areall_same (From rules q) (StandWith H q) tuples
      (λ kids. (
        λ m. let label = ties.labelled m.0 m.1 in (label.0, m.0.parent, subst (λ l. H label.0 l m.0.parent) m.2 (ties.within m.0.symbol label.0 m.0.kids m.0.parent label.1 m.1), m.3),
        λ m. let o = ties.out m.0 kids m.1 m.2 in (record { symbol = o.0; kids = kids; parent = m.1 }, o.2, refl, m.3),
      )) h

module _ (A : Automaton) (fits : IsAutomaton A) (narrow : IsNarrow A) where
  parents_are : (kids : List ℕ) (pairs : List (ℕ × ℕ)) (k : ℕ) (a : Symbol) (row : List Bool) → AreLeads A.rules kids pairs → IsAt A.symbols k a → AreParentsUnder (length A.states) pairs k row → AreParents A a kids row
  parents_are kids pairs k a row leads at h =
      let both = λ (q : ℕ). under_symbol A.symbols (HasRule A) A.rules (automaton_ties A fits narrow) k a kids q at in
      record {
        width = h.width;
        members = λ q. (λ m. (both q).0 ((leads k q).0 ((h.members q).0 m)), λ r. (h.members q).1 ((leads k q).1 ((both q).1 r)));
      }

  pub up_classes_are : (first second : List ℕ) (one two : List (ℕ × ℕ)) (classes : List UpClass) → AreLeads A.rules first one → AreLeads A.rules second two
      → AreUpClassesAt (length A.states) one two one classes → AreUpClasses A first second classes
  up_classes_are first second one two classes led_one led_two h = record {
    sound = λ class m.
        let here = h.each class m in
        let p = here.some.0 in
        let rule : Rule = record { symbol = class.symbol; kids = first; parent = p } in
        let stands = (led_one class.symbol p).0 here.some.1 in
        let label = ties.labelled rule stands in
        (label.0, p, number_at A.bits A.symbols class.symbol label.0 narrow label.1, ties.within class.symbol label.0 first p label.1 stands, under class label.0 label.1 here);
    covering = λ a p rule.
        let o = ties.out a first p rule in
        let c = h.all_symbols o.0 p ((led_one o.0 p).1 o.2) in
        (c.0, c.1, under c.0 a (subst (λ k. IsAt A.symbols k a) (sym c.2) o.1) (h.each c.0 c.1));
  }
    where
      ties : Ties A.symbols (HasRule A) A.rules
      ties = automaton_ties A fits narrow

      under : (class : UpClass) (a : Symbol) → IsAt A.symbols class.symbol a → IsUpClassAt (length A.states) one two class → IsUpClassUnder A first second a class
      under class a at here = record {
        first_parents = parents_are first one class.symbol a class.first led_one at here.first_parents;
        second_parents = parents_are second two class.symbol a class.second led_two at here.second_parents;
      }

-- the parents of leads are states
module _ (A : Automaton) (fits : IsAutomaton A) where
  pub leads_within : (kids : List ℕ) (pairs : List (ℕ × ℕ)) → AreLeads A.rules kids pairs → All (λ x. x.1 < length A.states) pairs
  leads_within kids pairs leads k d lt =
      let x = get_or pairs k d in
      let rule : Rule = record { symbol = x.0; kids = kids; parent = x.1 } in
      (All-contains (FitsRule A) A.rules rule fits.fitting ((leads x.0 x.1).0 (Contains-get_or pairs k d lt))).parent
