-- The step of B by the list of its rules under a symbol.
use Rattle.std.proofs.Common.{◌≡◌, ℕ, List, [], ◌∷◌, refl, sym, ap, ◌∙◌, subst}
use Rattle.std.specs.List.{AllZip}
use Rattle.std.specs.Prelude.{Contains}
use Rattle.tree_definitions.specs.Tree.{Symbol}
use Rattle.tree_definitions.specs.Automaton.{Automaton, Rule, IsNarrow, IsLabel, IsRule, HasRule, IsAutomaton}
use Rattle.tree_definitions.specs.Cover.{Pair, Post}
use Rattle.tree_definitions.specs.Relation.{Row, Has, IsAt}
use Rattle.tree_definitions.proofs.Listing.{at_label, label_at, rule_of_line, rule_parts}
use Rattle.tree_definitions.proofs.Members.{at_unique, contains_at, place_of}
use Rattle.tree_definitions.proofs.Standing.{label_once}
use Rattle.up_conditions.specs.Listed.{AreBySymbol}
use Rattle.up_conditions.specs.Stepping.{AreInSets, AreSets, IsParentAt}

pub sets_in : (pairs : List Pair) (chosen kids : List ℕ) (sets : List Row) → AreSets pairs chosen sets → AllZip Has sets kids → AreInSets pairs chosen kids
sets_in pairs [] [] [] a z = z
sets_in pairs [] (q ∷ qs) [] a z = absurd z
sets_in pairs [] kids (P ∷ Ps) a z = absurd a
sets_in pairs (k ∷ ks) kids [] a z = absurd a
sets_in pairs (k ∷ ks) [] (P ∷ Ps) a z = absurd z
sets_in pairs (k ∷ ks) (q ∷ qs) (P ∷ Ps) a z = ((a.0.0, a.0.1, subst (λ (s : Row). Has s q) (sym a.0.2) z.0), sets_in pairs ks qs Ps a.1 z.1)

pub in_sets : (pairs : List Pair) (chosen kids : List ℕ) (sets : List Row) → AreSets pairs chosen sets → AreInSets pairs chosen kids → AllZip Has sets kids
in_sets pairs [] [] [] a z = z
in_sets pairs [] (q ∷ qs) [] a z = absurd z
in_sets pairs [] kids (P ∷ Ps) a z = absurd a
in_sets pairs (k ∷ ks) kids [] a z = absurd a
in_sets pairs (k ∷ ks) [] (P ∷ Ps) a z = absurd z
in_sets pairs (k ∷ ks) (q ∷ qs) (P ∷ Ps) a z =
    let same : z.0.0 ≡ a.0.0 = at_unique pairs k z.0.0 a.0.0 z.0.1 a.0.1 in
    (subst (λ (s : Row). Has s q) (ap (λ (x : Pair). x.set) same ∙ a.0.2) z.0.2, in_sets pairs ks qs Ps a.1 z.1)

module _ (B : Automaton) (fits : IsAutomaton B) (narrow : IsNarrow B) (lists : List (List ℕ)) (index : AreBySymbol B.rules lists) (a : Symbol) (k : ℕ) (list : List ℕ)
    (symbol : IsAt B.symbols k a) (lat : IsAt lists k list) (pairs : List Pair) (chosen : List ℕ) (sets : List Row) (are : AreSets pairs chosen sets) (s : ℕ) where
  pub to_post : (j : ℕ) → IsParentAt B.rules list pairs chosen j s → Post B a sets s
  to_post j h =
      let rule = h.1 in
      let m = index.within k list lat h.0 (contains_at list j h.0 h.2) in
      let same : m.0 ≡ rule = at_unique B.rules h.0 m.0 rule m.1 h.3 in
      let its : rule.symbol ≡ k = subst (λ (x : Rule). x.symbol ≡ k) same m.2 in
      let label : IsLabel B rule.symbol a = subst (λ i. IsLabel B i a) (sym its) (label_at B k a narrow symbol) in
      let has : HasRule B a rule.kids rule.parent = (h.0, rule_of_line B h.0 rule a h.3 label) in
      (rule.kids, subst (HasRule B a rule.kids) h.4 has, in_sets pairs chosen rule.kids sets are h.5)

  pub from_post : Post B a sets s → (j : ℕ) × IsParentAt B.rules list pairs chosen j s
  unfolding IsRule
  from_post (kids, (r, (i, label, rat)), zip) =
      let rule : Rule = record { symbol = i; kids = kids; parent = s } in
      let same : k ≡ i = label_once B fits narrow k i a (label_at B k a narrow symbol) label in
      let there = index.whole r rule list rat (subst (λ n. IsAt lists n list) same lat) in
      let j = place_of list r there in
      (j.0, (r, rule, j.1, rat, refl, sets_in pairs chosen kids sets are zip))

-- a symbol under which B steps is one of its own
pub post_label : (B : Automaton) → IsNarrow B → (a : Symbol) (sets : List Row) (s : ℕ) → Post B a sets s → Contains B.symbols a
post_label B narrow a sets s (kids, (r, rule), zip) =
    let parts = rule_parts B r a kids s rule in
    contains_at B.symbols parts.0 a (at_label B parts.0 a narrow parts.1)
