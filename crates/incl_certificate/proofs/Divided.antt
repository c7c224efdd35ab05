-- Which splits of pairs fit.
use Rattle.std.proofs.Common.{◌≡◌, ◌<◌, ℕ, List, [], ◌∷◌, length, get_or, sym, ap, ◌∙◌, subst, arith}
use Rattle.std.specs.Prelude.{All, ◌↔◌}
use Rattle.std.proofs.lemmas.Option.{slice_get_within}
use Rattle.tree_definitions.specs.Automaton.{Automaton, Rule}
use Rattle.tree_definitions.specs.Cover.{Pair}
use Rattle.tree_definitions.specs.DownTrail.{DownEntry, IsPairOf, Root, Child, Split}
use Rattle.tree_definitions.specs.Relation.{IsAt}
use Rattle.tree_definitions.proofs.Members.{at_unique}
use Rattle.listed_pairs.specs.DownEntries.{DividesBy, FitsDownEntry, SplitsAt}
use Rattle.down_trails.proofs.Splitting.{pair_once}
use Rattle.incl_certificate.specs.Dividing.{DividesPair}

-- a split of an entry's pair is one of the entry at a place where it stands
pub divides_there : (A : Automaton) (entries : List DownEntry) (e r : ℕ) (choice : List ℕ) (entry : DownEntry) → IsAt entries e entry → DividesPair A entry r choice ↔ DividesBy A entries e r choice
divides_there A entries e r choice entry at = (
  λ d. (d.0, d.1, (entry, at, d.2), d.3, d.4, d.5),
  λ d. (d.0, d.1, subst (λ x. IsPairOf x d.0) (at_unique entries e d.2.0 entry d.2.1 at) d.2.2, d.3, d.4, d.5),
)

-- nothing stands past the last entry
pub divides_within : (A : Automaton) (entries : List DownEntry) (e r : ℕ) (choice : List ℕ) → DividesBy A entries e r choice → e < length entries
divides_within A entries e r choice d = slice_get_within entries e d.2.0 d.2.1

-- the one rule that a split can be by
pub divides_by_rule : (A : Automaton) (entry : DownEntry) (r q : ℕ) (choice : List ℕ) (pair : Pair) (rule : Rule) → IsPairOf entry pair → pair.state ≡ q → IsAt A.rules r rule → rule.parent ≡ q
    → All (λ place. place < length rule.kids) choice ↔ DividesPair A entry r choice
divides_by_rule A entry r q choice pair rule is state at parent = (
  λ h. (pair, rule, is, at, parent ∙ sym state, h),
  λ d. subst (λ (x : Rule). All (λ place. place < length x.kids) choice) (at_unique A.rules r d.1 rule d.3 at) d.5,
)

pub divides_no_rule : (A : Automaton) (entry : DownEntry) (r q : ℕ) (choice : List ℕ) (pair : Pair) → IsPairOf entry pair → pair.state ≡ q
    → ((rule : Rule) → IsAt A.rules r rule → rule.parent ≡ q → ⊥) → DividesPair A entry r choice → ⊥
divides_no_rule A entry r q choice pair is state none d =
    none d.1 d.3 (d.4 ∙ ap (λ (p : Pair). p.state) (pair_once entry d.0 pair d.2 is) ∙ state)

-- a split that fits has a child at each place of its rule
pub splits_there : (A B : Automaton) (entries : List DownEntry) (s e r place : ℕ) (choice : List ℕ) → IsAt entries s (Split e r choice)
    → FitsDownEntry A B entries s (Split e r choice) → DividesBy A entries e r (place ∷ []) ↔ SplitsAt A entries s place
splits_there A B entries s e r place choice at fits = (
  λ d. (e, r, choice, d.1, at, d.3, d.5 0 0 (omega arith)),
  λ h.
      let same = at_unique entries s (Split h.0 h.1 h.2) (Split e r choice) h.4 at in
      let d = fits.1 in
      let rule : IsAt A.rules r h.3 = subst (λ x. IsAt A.rules (rule_of x) h.3) same h.5 in
      let one = at_unique A.rules r d.1 h.3 d.3 rule in
      (d.0, d.1, d.2, d.3, d.4, each place (length d.1.kids) (subst (λ (x : Rule). place < length x.kids) (sym one) h.6)),
)
  where
    rule_of : DownEntry → ℕ
    rule_of (Root pair) = 0
    rule_of (Child pair split place) = 0
    rule_of (Split e r choice) = r

    each : (x n : ℕ) → x < n → All (λ p. p < n) (x ∷ [])
    each x n l k d lt = let first : 0 ≡ k = omega (arith, lt) in subst (λ i. get_or (x ∷ []) i d < n) first l
