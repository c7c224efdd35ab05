-- Each line of an automaton has a rule; in a narrow one a symbol has one place.
use Rattle.std.proofs.Common.{◌≡◌, inl, inr, ◌⊎◌, ℕ, zero, suc, Bool, true, false, cond, List, [], ◌∷◌, ◌++◌, map, refl, sym, ap, subst}
use Rattle.std.specs.Prelude.{Contains}
use Rattle.tree_definitions.specs.Tree.{Symbol}
use Rattle.tree_definitions.specs.Code.{LetsDigit, LetsThrough, rests, is_among, same_codes, cubes}
use Rattle.tree_definitions.specs.Automaton.{Automaton, Rule, StandsFor, IsNarrow, IsWide, IsLabel, HasRule, HasLine, over, IsAutomaton}
use Rattle.tree_definitions.specs.Relation.{IsAt}
use Rattle.tree_definitions.proofs.Members.{contains_none, contains_cases, contains_at}
use Rattle.tree_definitions.proofs.Cubes.{map_out, split_out}
use Rattle.tree_definitions.proofs.Determined.{line_there, one_place}
use Rattle.tree_definitions.proofs.Listing.{label_at, at_label, label_over, rule_of_line}

-- a pattern of some codes lets a code through
pub lets_some : (w : ℕ) (codes : List (List ℕ)) (p : List ℕ) → Contains (cubes w codes) p → (c : List ℕ) × LetsThrough p c
lets_some zero codes p m = go (is_among codes []) m
  where
    go : (b : Bool) → Contains (cond b ([] ∷ []) []) p → (c : List ℕ) × LetsThrough p c
    go true k = elim (contains_cases [] [] p k) [ inl e ↦ ([], subst (λ x. LetsThrough x []) e tt) | inr n ↦ absurd (contains_none p n) ]
    go false k = absurd (contains_none p k)
lets_some (suc w) codes p m = go (same_codes (rests 48 codes) (rests 49 codes)) m (lets_some w (rests 48 codes)) (lets_some w (rests 49 codes))
  where
    Rest : List (List ℕ) → Type 0
    Rest rs = (p : List ℕ) → Contains (cubes w rs) p → (c : List ℕ) × LetsThrough p c

    longer : (x d : ℕ) (q : List ℕ) → LetsDigit x d → (x ∷ q) ≡ p → (c : List ℕ) × LetsThrough q c → (c : List ℕ) × LetsThrough p c
    longer x d q digit e r = (d ∷ r.0, subst (λ y. LetsThrough y (d ∷ r.0)) e (digit, r.1))

    go : (b : Bool)
        → Contains (cond b (map (λ p. 88 ∷ p) (cubes w (rests 48 codes))) (map (λ p. 48 ∷ p) (cubes w (rests 48 codes)) ++ map (λ p. 49 ∷ p) (cubes w (rests 49 codes)))) p
        → Rest (rests 48 codes) → Rest (rests 49 codes) → (c : List ℕ) × LetsThrough p c
    go true k f g = let r = map_out 88 (cubes w (rests 48 codes)) p k in longer 88 48 r.0 (inl refl, inl refl) r.2 (f r.0 r.1)
    go false k f g = elim (split_out w codes p k) [
      | inl r ↦ longer 48 48 r.0 (inl refl, inr refl) r.2 (f r.0 r.1)
      | inr r ↦ longer 49 49 r.0 (inr refl, inr refl) r.2 (g r.0 r.1)
    ]

-- the label of a line stands for some symbol
pub some_symbol : (A : Automaton) → IsAutomaton A → (r : Rule) → Contains A.rules r → (a : Symbol) × IsLabel A r.symbol a
some_symbol A fits r m = go fits.form
  where
    line : (a : Symbol) × IsAt A.symbols r.symbol a × (a ≡ over a.name r.kids) × HasLine A a.name r.kids r.parent
    line = line_there A fits r m

    narrow : IsNarrow A → (a : Symbol) × IsLabel A r.symbol a
    narrow n = (line.0, label_at A r.symbol line.0 n line.1)

    by_width : (w : ℕ) → A.bits ≡ w → (c : List ℕ) × LetsThrough line.0.name c → (a : Symbol) × IsLabel A r.symbol a
    by_width zero e c = narrow e
    by_width (suc w) e c = (
      over c.0 r.kids,
      label_over A r.symbol line.0 (over c.0 r.kids) line.1 (subst (λ b. StandsFor b line.0 (over c.0 r.kids)) (sym e) (ap (λ (a : Symbol). a.rank) line.2, c.1)),
    )

    go : IsNarrow A ⊎ IsWide A → (a : Symbol) × IsLabel A r.symbol a
    go (inl n) = narrow n
    go (inr wide) =
        let p = wide.patterns r.kids r.parent in
        by_width A.bits refl (lets_some A.bits p.0 line.0.name ((p.2 line.0.name).1 line.3))

-- so a line has a rule
pub some_rule : (A : Automaton) → IsAutomaton A → (k : ℕ) (r : Rule) → IsAt A.rules k r → (a : Symbol) × IsLabel A r.symbol a × HasRule A a r.kids r.parent
some_rule A fits k r at =
    let s = some_symbol A fits r (contains_at A.rules k r at) in
    (s.0, s.1, (k, rule_of_line A k r s.0 at s.1))

-- in a narrow automaton a symbol has one place
pub label_once : (A : Automaton) → IsAutomaton A → IsNarrow A → (j k : ℕ) (a : Symbol) → IsLabel A j a → IsLabel A k a → j ≡ k
label_once A fits narrow j k a h g = one_place A.symbols fits.symbols j k a (at_label A j a narrow h) (at_label A k a narrow g)
