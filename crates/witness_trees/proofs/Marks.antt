-- How a row grows, rule by rule and group by group.
use Rattle.std.proofs.Common.{◌≡◌, ℕ, ◌+◌, ◌<◌, ◌≤◌, ◌≢◌, ◌⊎◌, inl, inr, List, [], ◌∷◌, length, get_or, replicate, false, Option, Some, ◌↔◌, refl, sym, ap, ◌∙◌, subst, arith}
use Rattle.std.specs.List.Sorted.{IsNonDecreasingBy}
use Rattle.std.proofs.lemmas.Bool.{cases_lt}
use Rattle.std.proofs.lemmas.Option.{get_or_from_slice_get, slice_get_within}
use Rattle.tree_definitions.specs.Automaton.{Rule}
use Rattle.tree_definitions.specs.Relation.{Row, Matrix, Has, IsAt}
use Rattle.tree_definitions.proofs.Members.{at_unique, place_of}
use Rattle.witness_trees.specs.Marking.{AreAmong, Gains, GainsOne, IsIndexed, Joins, Steps, first_of, group_number, group_of}
use Rattle.witness_trees.proofs.Rows.{has_no_zero}
use Rattle.witness_trees.specs.declared.states.Entry.{Entry}

-- the entry of the rule at place r, with this group, stands before i
abbrev pub IsPassed : List Entry → ℕ → ℕ → ℕ → Rule → Type 0
IsPassed index group i r rule = (j : ℕ) × (j < i) × IsAt index j (record { group = group; rule = r })

module _ (rules : List Rule) (reached : Matrix) (label : ℕ) (kids : List ℕ) where
  pub gains_none : (asked : ℕ → Rule → Type 0) (row : Row) → ((r : ℕ) (rule : Rule) → IsAt rules r rule → asked r rule → ⊥) → Gains rules reached label kids asked row row
  gains_none asked row none = record {
    same_length = refl;
    keeps = λ q h. h;
    only = λ q h. inl h;
    all = λ r rule at a j. absurd (none r rule at a);
  }

  pub gains_for : (asked wanted : ℕ → Rule → Type 0) (old new : Row) → Gains rules reached label kids asked old new → ((r : ℕ) (rule : Rule) → IsAt rules r rule → Joins reached label kids rule → wanted r rule → asked r rule) → Gains rules reached label kids wanted old new
  gains_for asked wanted old new g f = record {
    same_length = g.same_length;
    keeps = g.keeps;
    only = g.only;
    all = λ r rule at w j. g.all r rule at (f r rule at j w) j;
  }

  pub gains_more : (asked also wanted : ℕ → Rule → Type 0) (old mid new : Row) → Gains rules reached label kids asked old mid → Gains rules reached label kids also mid new → ((r : ℕ) (rule : Rule) → IsAt rules r rule → wanted r rule → asked r rule ⊎ also r rule) → Gains rules reached label kids wanted old new
  gains_more asked also wanted old mid new g h f = record {
    same_length = h.same_length ∙ g.same_length;
    keeps = λ q x. h.keeps q (g.keeps q x);
    only = λ q x. elim (h.only q x) [ inl y ↦ g.only q y | inr s ↦ inr s ];
    all = λ r rule at w j. elim (f r rule at w) [ inl y ↦ h.keeps rule.parent (g.all r rule at y j) | inr z ↦ h.all r rule at z j ];
  }

  pub gains_rule : (asked wanted : ℕ → Rule → Type 0) (old mid new : Row) (r₁ : ℕ) (one : Rule) → IsAt rules r₁ one → Gains rules reached label kids asked old mid → GainsOne reached label kids one mid new → ((r : ℕ) (rule : Rule) → wanted r rule → asked r rule ⊎ (r₁ ≡ r)) → Gains rules reached label kids wanted old new
  gains_rule asked wanted old mid new r₁ one here g h f = record {
    same_length = h.same_length ∙ g.same_length;
    keeps = λ q x. h.keeps q (g.keeps q x);
    only = λ q x. elim (h.only q x) [ inl y ↦ g.only q y | inr s ↦ inr (r₁, one, here, s.0, s.1) ];
    all = λ r rule at w j. elim (f r rule w) [ inl y ↦ h.keeps rule.parent (g.all r rule at y j) | inr e ↦ this r rule at j e ];
  }
    where
      this : (r : ℕ) (rule : Rule) → IsAt rules r rule → Joins reached label kids rule → r₁ ≡ r → Has new rule.parent
      this r rule at j e =
          let same : one ≡ rule = at_unique rules r one rule (subst (λ x. IsAt rules x one) e here) at in
          subst (λ (x : Rule). Has new x.parent) same (h.all (subst (Joins reached label kids) (sym same) j))

  -- children that no rule without children has, and the first of some
  pub no_first : (rule : Rule) → Joins reached label [] rule → group_of rule ≡ group_number label 0
  no_first rule j = none rule.kids j.1 ∙ ap (λ s. group_number s 0) j.0
    where
      none : (states : List ℕ) → AreAmong reached states [] → group_number rule.symbol (first_of states) ≡ group_number rule.symbol 0
      none [] h = refl
      none (s ∷ ss) h = absurd h

  pub first_holds : (rule : Rule) (k : ℕ) (ks : List ℕ) (row : Row) → IsAt reached k row → Joins reached label (k ∷ ks) rule → Has row (first_of rule.kids)
  first_holds rule k ks row at j = some rule.kids j.1
    where
      some : (states : List ℕ) → AreAmong reached states (k ∷ ks) → Has row (first_of states)
      some [] h = absurd h
      some (s ∷ ss) h = subst (λ r. Has r s) (at_unique reached k h.0.0 row h.0.1 at) h.0.2

module _ (rules : List Rule) (index : List Entry) (group : ℕ) (indexed : IsIndexed rules (length rules) index) where
  -- where the entry of a rule of the group stands
  pub entry_of : (r : ℕ) (rule : Rule) → IsAt rules r rule → group_of rule ≡ group → (j : ℕ) × IsAt index j (record { group = group; rule = r })
  entry_of r rule at e =
      let p = place_of index _ (indexed.each r rule (slice_get_within rules r rule at) at) in
      (p.0, subst (λ g. IsAt index p.0 (record { group = g; rule = r })) e p.1)

  -- it isn't past an entry of another group that no lower one precedes
  pub passed_by : IsNonDecreasingBy (λ (e : Entry). e.group) index → (i : ℕ) (here : Entry) → IsAt index i here → here.group ≢ group → group ≤ here.group → (r : ℕ) (rule : Rule) → IsAt rules r rule → group_of rule ≡ group → IsPassed index group i r rule
  passed_by sorted i here at other low r rule is e =
      let p = entry_of r rule is e in
      let it : Entry = record { group = group; rule = r } in
      elim (cases_lt p.0 i) [ inl lt ↦ (p.0, lt, p.1) | inr le ↦ absurd (beyond p.0 it p.1 refl le) ]
    where
      beyond : (j : ℕ) (it : Entry) → IsAt index j it → it.group ≡ group → i ≤ j → ⊥
      beyond j it place same le =
          let read_i = get_or_from_slice_get index i here here at in
          let read_j = get_or_from_slice_get index j it here place in
          let order : (get_or index i here).group ≤ (get_or index j here).group = sorted i j here le (slice_get_within index j it place) in
          let order' : here.group ≤ it.group = rw (read_i, read_j) at order in
          other (omega arith)

  -- past the last entry each rule of the group was passed
  pub passed_all : (i : ℕ) → length index ≤ i → (r : ℕ) (rule : Rule) → IsAt rules r rule → group_of rule ≡ group → IsPassed index group i r rule
  passed_all i le r rule is e =
      let p = entry_of r rule is e in
      let lt : p.0 < length index = slice_get_within index p.0 (record { group = group; rule = r }) p.1 in
      (p.0, omega arith, p.1)

-- what was passed before i + 1 was passed before i, or is the rule of entry i
pub passed_more : (index : List Entry) (group i : ℕ) (d : Entry) (r : ℕ) (rule : Rule) → IsPassed index group (i + 1) r rule → IsPassed index group i r rule ⊎ ((get_or index i d).rule ≡ r)
passed_more index group i d r rule h = elim (cases_lt h.0 i) [
  | inl lt ↦ inl (h.0, lt, h.2)
  | inr le ↦ inr (here (omega (arith, h.1)))
]
  where
    here : h.0 ≡ i → (get_or index i d).rule ≡ r
    here e = ap (λ (x : Entry). x.rule) (get_or_from_slice_get index i (record { group = group; rule = r }) d (subst (λ j. IsAt index j (record { group = group; rule = r })) e h.2))

-- a row of zeros that gains the parents of all rules that join
pub row_states : (rules also : List Rule) (reached : Matrix) (label : Option ℕ) (l : ℕ) (kids : List ℕ) (n : ℕ) (zeros new : Row) → also ≡ rules → label ≡ Some l → zeros ≡ replicate n false → Gains also reached l kids (λ r rule. Unit {0}) zeros new → (q : ℕ) → Has new q ↔ Steps rules reached label kids q
row_states rules also reached label l kids n zeros new same is none gains q =
    let g : Gains rules reached l kids (λ r rule. Unit {0}) zeros new = subst (λ rs. Gains rs reached l kids (λ r rule. Unit {0}) zeros new) same gains in
    let there : Has new q → Steps rules reached (Some l) kids q = λ h. elim (g.only q h) [ inl y ↦ absurd (has_no_zero n q (subst (λ r. Has r q) none y)) | inr s ↦ s ] in
    let back : Steps rules reached (Some l) kids q → Has new q = λ s. subst (Has new) s.4 (g.all s.0 s.1 s.2 tt s.3) in
    subst (λ o. Has new q ↔ Steps rules reached o kids q) (sym is) (there, back)
