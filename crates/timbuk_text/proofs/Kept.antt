-- Lines of rules, and the rules in them.
use Rattle.std.proofs.Common.{◌≡◌, ◌≢◌, ◌+◌, ◌<◌, ◌≤◌, Bool, true, false, List, [], ◌∷◌, ◌++◌, length, Option, None, refl, sym, ap, ◌∙◌, subst, arith}
use Rattle.std.specs.Prelude.{AllPairs, Contains, fold}
use Rattle.std.specs.Bool.{Decides}
use Rattle.std.specs.List.{list_any}
use Rattle.std.specs.Option.{option_map_or}
use Rattle.std.specs.Ordering.{eq_by_cmp}
use Rattle.std.proofs.lemmas.List.{append-nil, append_assoc, length-append}
use Rattle.std.proofs.Math.ListN.{get_or-append}
use Rattle.std.proofs.Math.Seq.{get_or-append_seam}
use Rattle.tree_definitions.specs.Automaton.{Rule}
use Rattle.tree_definitions.specs.Canonical.{rule_cmp}
use Rattle.tree_definitions.proofs.CanonicalForms.{rules_total, rules_exact, ties_decide}
use Rattle.timbuk_definitions.specs.Reading.{with_new, first}
use Rattle.timbuk_definitions.proofs.Firsts.{with_fresh, first_push}
use Rattle.timbuk_text.specs.Rules.{Puts}

module _ {X : Type 0} (same : X → X → Bool) (decides : (a b : X) → Decides (same a b) (a ≡ b)) where
  grown : (seen xs : List X) → AllPairs ◌≢◌ (seen ++ xs) → fold (with_new same) seen xs ≡ seen ++ xs
  grown seen [] apart = sym (append-nil seen)
  grown seen (x ∷ xs) apart =
      let new : ¬ Contains seen x = λ m. apart m.0 (length seen) x m.1 (omega (arith, length-append seen (x ∷ xs)))
      (get_or-append seen (x ∷ xs) x m.0 m.1 ∙ m.2 ∙ sym (get_or-append_seam seen x xs x)) in
      let joined : (seen ++ x ∷ []) ++ xs ≡ seen ++ x ∷ xs = append_assoc seen (x ∷ []) xs in
      ap (λ l. fold (with_new same) l xs) (with_fresh same decides seen x new)
      ∙ grown (seen ++ x ∷ []) xs (subst (AllPairs ◌≢◌) (sym joined) apart)
      ∙ joined

  -- without repeats each value is at its first place
  pub first_is : (xs : List X) → AllPairs ◌≢◌ xs → first same xs ≡ xs
  first_is xs apart = grown [] xs apart

  new_few : (seen : List X) (x : X) → length (with_new same seen x) ≤ length seen + 1
  new_few seen x = go (list_any (same x) seen) refl
    where
      go : (b : Bool) → list_any (same x) seen ≡ b → length (with_new same seen x) ≤ length seen + 1
      go true e = rw e (omega arith)
      go false e = rw e (omega (arith, length-append seen (x ∷ [])))

  few_grown : (seen xs : List X) → length (fold (with_new same) seen xs) ≤ length seen + length xs
  few_grown seen [] = omega arith
  few_grown seen (x ∷ xs) = omega (arith, few_grown (with_new same seen x) xs, new_few seen x)

  pub first_few : (xs : List X) → length (first same xs) ≤ length xs
  first_few xs = omega (arith, few_grown [] xs)

-- one more line, where there is room for it
pub line_put : (lines : List Rule) (r : Rule) → length lines < 2000000 → Puts (first (eq_by_cmp rule_cmp) lines) (first (eq_by_cmp rule_cmp) (lines ++ r ∷ [])) r
line_put lines r room =
    let decides = ties_decide rules_total rules_exact in
    record {
      list = first_push (eq_by_cmp rule_cmp) decides lines r;
      room = λ full. omega (arith, full.1, first_few (eq_by_cmp rule_cmp) decides lines, room);
      few = omega (arith, first_few (eq_by_cmp rule_cmp) decides (lines ++ r ∷ []), length-append lines (r ∷ []), room);
    }

pub line_kept : {S : Type 0} (keys : S → List Rule) (set : Option S) → set ≡ None → (lines more : List Rule) (r : Rule) → more ≡ lines ++ r ∷ [] → length lines < 2000000
    → Puts (option_map_or keys set (first (eq_by_cmp rule_cmp) lines)) (option_map_or keys set (first (eq_by_cmp rule_cmp) more)) r
line_kept keys set none lines more r e room = rw (none, e) (line_put lines r room)
