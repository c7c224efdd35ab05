-- From places of covering pairs to certificates, and rules without children.
use Rattle.std.proofs.Common.{◌≡◌, ◌≢◌, ℕ, ◌+◌, Bool, true, false, List, [], ◌∷◌, length, refl, subst, arith, ⊎_elim}
use Rattle.std.specs.Prelude.{All}
use Rattle.std.proofs.lemmas.Bool.{cases_eq}
use Rattle.std.proofs.lemmas.List.Elements.{All-contains}
use Rattle.std.proofs.lemmas.Option.{slice_get_within}
use Rattle.tree_definitions.specs.Tree.{Symbol}
use Rattle.tree_definitions.specs.Automaton.{Automaton, Rule, HasRule}
use Rattle.tree_definitions.specs.Canonical.{canon}
use Rattle.tree_definitions.specs.Cover.{Pair, Post}
use Rattle.tree_definitions.specs.Relation.{Relation, Places, Row, IsAt}
use Rattle.tree_definitions.specs.UpCert.{IsCoveredUp, AreListed}
use Rattle.tree_definitions.proofs.Members.{at_unique, contains_at, place_of}
use Rattle.tree_definitions.proofs.InOrder.{rule_in}
use Rattle.tree_definitions.proofs.Listing.{rule_parts}
use Rattle.up_conditions.specs.Listed.{IsCoveredElsewhere}
use Rattle.up_conditions.specs.Covering.{AllBefore, IsOfPart, IsPartCovered}

module _ (RA RB : Relation) (X : List Pair) (p : ℕ) (P Q : Places) (to : (s : ℕ) → P s → Q s) where
  pub covered_up : (skip : ℕ) → IsCoveredElsewhere RA RB X skip p P → IsCoveredUp RA RB X p Q
  covered_up skip h = (h.1, contains_at X h.0 h.1 h.3, record { state = h.4.state; set = λ s m. let k = h.4.set s m in (k.0, to k.0 k.1, k.2) })

  pub up_covered : IsCoveredUp RA RB X p P → IsCoveredElsewhere RA RB X (length X) p Q
  up_covered h =
      let k = place_of X h.0 h.1 in
      let w = slice_get_within X k.0 h.0 k.1 in
      (k.0, h.0, (λ e. omega (arith, w, e)), k.1, record { state = h.2.state; set = λ s m. let n = h.2.set s m in (n.0, to n.0 n.1, n.2) })

dec_part : (leaves : Bool) (rule : Rule) → Dec (IsOfPart leaves rule)
dec_part true rule = by_kids rule.kids
  where
    by_kids : (kids : List ℕ) → Dec (kids ≡ [])
    by_kids [] = yes refl
    by_kids (q ∷ qs) = no (λ e. absurd cc)
dec_part false rule = by_kids rule.kids
  where
    by_kids : (kids : List ℕ) → Dec (kids ≢ [])
    by_kids [] = no (λ n. n refl)
    by_kids (q ∷ qs) = yes (λ e. absurd cc)

pub part_apart : (leaves : Bool) (P : Type 0) (rule : Rule) → ¬ (IsOfPart leaves rule → P) → IsOfPart leaves rule × ¬ P
part_apart leaves P rule n = go (dec_part leaves rule)
  where
    go : Dec (IsOfPart leaves rule) → IsOfPart leaves rule × ¬ P
    go (yes h) = (h, λ p. n (λ _. p))
    go (no m) = absurd (n (λ h. absurd (m h)))

pub before_next : {Y : Type 0} (xs : List Y) (Kind : Y → Type 0) (i : ℕ) (x : Y) → AllBefore xs Kind i → IsAt xs i x → Kind x → AllBefore xs Kind (i + 1)
before_next xs Kind i x all at h j y l jat = ⊎_elim
    (λ (e : j ≡ i). subst Kind (at_unique xs i x y at (subst (λ k. IsAt xs k y) e jat)) h)
    (λ (d : j ≢ i). all j y (omega arith) jat)
    (cases_eq j i)

module _ (A B : Automaton) (RA RB : Relation) (X : List Pair) where
  pub leaves_covered : All (IsPartCovered true (canon A) B RA RB X) (canon A).rules → (a : Symbol) (p : ℕ) → HasRule A a [] p → IsCoveredUp RA RB X p (Post B a [])
  leaves_covered all a p has =
      let h = rule_in A a [] p has in
      let parts = rule_parts (canon A) h.0 a [] p h.1 in
      let line : Rule = record { symbol = parts.0; kids = []; parent = p } in
      All-contains (IsPartCovered true (canon A) B RA RB X) (canon A).rules line all (contains_at (canon A).rules h.0 line parts.2) refl a parts.1 [] tt

  pub steps_covered : All (IsPartCovered false (canon A) B RA RB X) (canon A).rules
      → (a : Symbol) (q : ℕ) (qs : List ℕ) (p : ℕ) → HasRule A a (q ∷ qs) p → (sets : List Row) → AreListed X (q ∷ qs) sets → IsCoveredUp RA RB X p (Post B a sets)
  steps_covered all a q qs p has =
      let h = rule_in A a (q ∷ qs) p has in
      let parts = rule_parts (canon A) h.0 a (q ∷ qs) p h.1 in
      let line : Rule = record { symbol = parts.0; kids = q ∷ qs; parent = p } in
      All-contains (IsPartCovered false (canon A) B RA RB X) (canon A).rules line all (contains_at (canon A).rules h.0 line parts.2) (λ e. absurd cc) a parts.1
