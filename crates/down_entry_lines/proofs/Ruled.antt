-- Rules that are looked up in a list of distinct ones.
use Rattle.std.proofs.Common.{◌≡◌, ◌≢◌, ℕ, ◌<◌, true, false, cond, List, [], ◌∷◌, ◌++◌, length, length-take, take, get_or, Contains, sym, ap, ◌∙◌, subst, ⊎_elim, arith}
use Rattle.std.specs.Prelude.{AllPairs}
use Rattle.std.specs.List.{list_any}
use Rattle.std.specs.Ordering.{eq_by_cmp}
use Rattle.std.proofs.lemmas.Bool.{cases_Bool}
use Rattle.std.proofs.lemmas.List.{get_or-take}
use Rattle.indexmap.proofs.CallerLemmas.{Contains-list_any}
use Rattle.tree_definitions.specs.Automaton.{Rule}
use Rattle.tree_definitions.specs.Canonical.{rule_cmp}
use Rattle.tree_definitions.proofs.CanonicalForms.{rules_total, rules_exact, ties_decide}

-- rules that are told to be the same are the same
pub same_rules : (x y : Rule) → eq_by_cmp rule_cmp x y ≡ true → x ≡ y
same_rules x y = (ties_decide rules_total rules_exact x y).0

pub rule_tied : (x y : Rule) → x ≡ y → eq_by_cmp rule_cmp x y ≡ true
rule_tied x y = (ties_decide rules_total rules_exact x y).1

-- a copy of a rule that the list lacks is put behind the others
pub appended : (old new : List Rule) (copy s : Rule) → copy ≡ s → (Contains old s → ⊥)
    → new ≡ cond (list_any (eq_by_cmp rule_cmp copy) old) old (old ++ copy ∷ []) → new ≡ old ++ s ∷ []
appended old new copy s is lacks keys =
    ⊎_elim
    (λ (t : list_any (eq_by_cmp rule_cmp copy) old ≡ true). absurd (lacks (subst (Contains old) is (Contains-list_any (eq_by_cmp rule_cmp) same_rules old copy t))))
    (λ (f : list_any (eq_by_cmp rule_cmp copy) old ≡ false). keys ∙ ap (λ b. cond b old (old ++ copy ∷ [])) f ∙ ap (λ x. old ++ x ∷ []) is)
    (cases_Bool (list_any (eq_by_cmp rule_cmp copy) old))

-- a rule of distinct ones doesn't stand before itself
pub not_before : (ys : List Rule) (i : ℕ) (y : Rule) → AllPairs ◌≢◌ ys → i < length ys → y ≡ get_or ys i y → Contains (take i ys) y → ⊥
not_before ys i y apart l at h =
    let k : h.0 < i = omega (arith, length-take i ys, h.1) in
    apart h.0 i y k l (sym (get_or-take i ys h.0 y k) ∙ h.2 ∙ at)
