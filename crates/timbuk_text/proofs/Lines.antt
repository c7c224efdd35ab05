-- The lines of rules, one more at a time.
use Rattle.std.proofs.Common.{◌≡◌, ℕ, ◌+◌, ◌<◌, List, [], ◌∷◌, ◌++◌, length, get_or, take, sym, ap, ◌∙◌}
use Rattle.std.specs.Prelude.{All}
use Rattle.std.specs.List.{flat_map}
use Rattle.std.proofs.lemmas.List.{append-nil, append_assoc, take_more}
use Rattle.std.proofs.lemmas.List.Elements.{All-filter}
use Rattle.std.proofs.lemmas.List.Concat.{flat_map-append}
use Rattle.std.proofs.lemmas.List.Sorted.{All-permutation}
use Rattle.tree_definitions.specs.Automaton.{Rule}
use Rattle.rule_order.specs.Groups.{IsGroup, leads_to}

module _ (line : Rule → List ℕ) where
  pub one_line : (rs : List Rule) (i : ℕ) (r : Rule) → i < length rs → r ≡ get_or rs i r → (before out more : List ℕ)
      → out ≡ before ++ flat_map line (take i rs) → more ≡ out ++ line r → more ≡ before ++ flat_map line (take (i + 1) rs)
  one_line rs i r l is before out more so step =
      step ∙ ap (λ o. o ++ line r) so ∙ append_assoc before (flat_map line (take i rs)) (line r)
      ∙ ap (λ t. before ++ t) (ap (λ t. flat_map line (take i rs) ++ t) (sym (append-nil (line r)) ∙ ap (λ x. flat_map line (x ∷ [])) is)
      ∙ sym (flat_map-append line (take i rs) (get_or rs i r ∷ [])) ∙ ap (flat_map line) (sym (take_more rs i r l)))

  pub more_lines : (done group : List Rule) (before out more : List ℕ)
      → out ≡ before ++ flat_map line done → more ≡ out ++ flat_map line group → more ≡ before ++ flat_map line (done ++ group)
  more_lines done group before out more so step =
      step ∙ ap (λ o. o ++ flat_map line group) so ∙ append_assoc before (flat_map line done) (flat_map line group)
      ∙ ap (λ t. before ++ t) (sym (flat_map-append line done group))

-- what holds of all rules holds of a group
pub in_group : (P : Rule → Type 0) (rules : List Rule) (q : ℕ) (group : List Rule) → All P rules → IsGroup rules q group → All P group
in_group P rules q group all g = All-permutation P _ _ g.members (All-filter (leads_to q) P rules all)
