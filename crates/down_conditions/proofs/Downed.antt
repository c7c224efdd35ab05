-- The rules under a symbol whose parents are in a set.
use Rattle.std.proofs.Common.{◌≡◌, ◌↔◌, ℕ, List, length, refl, sym, subst}
use Rattle.std.specs.Prelude.{Contains}
use Rattle.std.proofs.lemmas.Option.{slice_get_within}
use Rattle.tree_definitions.specs.Tree.{Symbol}
use Rattle.tree_definitions.specs.Automaton.{Automaton, Rule, IsLabel, IsNarrow, HasRule, IsAutomaton}
use Rattle.tree_definitions.specs.DownCert.{Downs}
use Rattle.tree_definitions.specs.Relation.{Row, Has, IsAt}
use Rattle.tree_definitions.proofs.Listing.{at_label, label_at, rule_of_line, rule_parts}
use Rattle.tree_definitions.proofs.Members.{at_unique, contains_at, place_of}
use Rattle.tree_definitions.proofs.Standing.{label_once}
use Rattle.down_conditions.specs.Filing.{AreBySymbol}
use Rattle.down_conditions.specs.Refuting.{AreDowns, IsChosen}

-- a symbol under which a rule stands is one of the automaton's
pub down_label : (B : Automaton) → IsNarrow B → (a : Symbol) (set : Row) (tuple : List ℕ) → Downs B a set tuple → Contains B.symbols a
down_label B narrow a set tuple (s, m, (r, rule)) =
    let parts = rule_parts B r a tuple s rule in
    contains_at B.symbols parts.0 a (at_label B parts.0 a narrow parts.1)

module _ (B : Automaton) (fits : IsAutomaton B) (narrow : IsNarrow B) (lists : List (List ℕ)) (index : AreBySymbol B.rules lists) (a : Symbol) (k : ℕ) (list : List ℕ)
    (symbol : IsAt B.symbols k a) (lat : IsAt lists k list) (set : Row) (chosen : List ℕ) (are : (r : ℕ) → Contains chosen r ↔ IsChosen B.rules list set (length list) r) where
  chosen_down : (tuple : List ℕ) → ((r : ℕ) × (rule : Rule) × Contains chosen r × IsAt B.rules r rule × (rule.kids ≡ tuple)) → Downs B a set tuple
  chosen_down tuple (r, rule, m, at, e) =
      let c = (are r).0 m in
      let same : c.1 ≡ rule = at_unique B.rules r c.1 rule c.4 at in
      let filed = index.within k list lat r (contains_at list c.0 r c.3) in
      let which : filed.0 ≡ rule = at_unique B.rules r filed.0 rule filed.1 at in
      let its : rule.symbol ≡ k = subst (λ (x : Rule). x.symbol ≡ k) which filed.2 in
      let label : IsLabel B rule.symbol a = subst (λ i. IsLabel B i a) (sym its) (label_at B k a narrow symbol) in
      (rule.parent, subst (λ (x : Rule). Has set x.parent) same c.5, subst (λ ks. HasRule B a ks rule.parent) e (r, rule_of_line B r rule a at label))

  down_chosen : (tuple : List ℕ) → Downs B a set tuple → (r : ℕ) × (rule : Rule) × Contains chosen r × IsAt B.rules r rule × (rule.kids ≡ tuple)
  down_chosen tuple (s, m, (r, rule)) =
      let parts = rule_parts B r a tuple s rule in
      let line : Rule = record { symbol = parts.0; kids = tuple; parent = s } in
      let same : k ≡ parts.0 = label_once B fits narrow k parts.0 a (label_at B k a narrow symbol) parts.1 in
      let filed = index.whole r line list parts.2 (subst (λ n. IsAt lists n list) same lat) in
      let j = place_of list r filed in
      (r, line, (are r).1 (j.0, line, slice_get_within list j.0 r j.1, j.1, parts.2, m), parts.2, refl)

  pub chosen_downs : AreDowns B a set chosen
  chosen_downs tuple = (chosen_down tuple, down_chosen tuple)

-- a rule as a line
pub line_of : (A : Automaton) (a : Symbol) (kids : List ℕ) (q : ℕ) → HasRule A a kids q
    → (r : ℕ) × (rule : Rule) × IsAt A.rules r rule × IsLabel A rule.symbol a × (rule.kids ≡ kids) × (rule.parent ≡ q)
line_of A a kids q (r, rule) =
    let parts = rule_parts A r a kids q rule in
    (r, record { symbol = parts.0; kids = kids; parent = q }, parts.2, parts.1, refl, refl)

pub rule_of : (A : Automaton) (r : ℕ) (rule : Rule) (a : Symbol) (q : ℕ) → IsAt A.rules r rule → IsLabel A rule.symbol a → rule.parent ≡ q → HasRule A a rule.kids q
rule_of A r rule a q at label e = subst (HasRule A a rule.kids) e (r, rule_of_line A r rule a at label)
