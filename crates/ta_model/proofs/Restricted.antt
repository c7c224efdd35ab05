-- Two restrictions to the same states have one canonical form.
use Rattle.std.proofs.Common.{◌≡◌, ◌↔◌, ℕ, List, sym, ◌∙◌, subst}
use Rattle.tree_definitions.specs.Automaton.{Automaton}
use Rattle.tree_definitions.specs.Relation.{Row, IsAt}
use Rattle.tree_definitions.specs.Canonical.{canon}
use Rattle.tree_definitions.proofs.Members.{at_unique}
use Rattle.tree_definitions.proofs.Determined.{same_canon}
use Rattle.tree_definitions.proofs.Results.{both_ways, one_rising, one_zip}
use Rattle.ta_model.specs.Restriction.{IsRestriction, RestrictsTo}

module _ (A T U : Automaton) (row : Row) (t : IsRestriction A row T) (u : IsRestriction A row U) where
  kept_one : u.0 ≡ t.0
  kept_one = one_rising u.0 t.0 u.1.rising t.1.rising (λ q. both_ways (u.1.chosen q) (t.1.chosen q))

  moved : RestrictsTo A U row t.0
  moved = subst (RestrictsTo A U row) kept_one u.1

  pub one_restriction : canon T ≡ canon U
  one_restriction = same_canon T U t.1.fitting u.1.fitting (t.1.bits ∙ sym u.1.bits) (t.1.name ∙ sym u.1.name)
      (one_zip (IsAt A.states) (λ k x y. at_unique A.states k x y) t.0 T.states U.states t.1.states moved.states)
      (λ n. t.1.symbols n ∙ sym (u.1.symbols (u.1.bits ∙ sym t.1.bits ∙ n)))
      (λ q. both_ways (t.1.finals q) (moved.finals q)) (λ a kids p. both_ways (t.1.rules a kids p) (moved.rules a kids p))
