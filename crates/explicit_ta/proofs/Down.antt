-- The child tuples of a set's members, one member more, and the groups, one symbol more.
use Rattle.std.proofs.Common.{◌≡◌, ◌↔◌, ℕ, ◌+◌, ◌-◌, ◌<◌, ◌≤◌, List, [], ◌∷◌, ◌++◌, length, get_or, map, take, refl, sym, ap, subst, ◌∙◌, arith, ⊎_elim}
use Rattle.std.specs.Prelude.{All, Contains}
use Rattle.std.proofs.lemmas.Bool.{cases_lt}
use Rattle.std.proofs.lemmas.List.Elements.{All-head, All-tail, All-contains, Contains-get_or, Contains-push, Contains-push_cases, Contains-append_left, Contains-append_right, Contains-append_cases}
use Rattle.smallvec.specs.SmallVec.{SmallVec}
use Rattle.bit_rows.specs.Rows.{IsEmptyFrom, IsLeastFrom}
use Rattle.tree_definitions.specs.Automaton.{Rule}
use Rattle.tree_definitions.specs.Relation.{Row, Has}
use Rattle.tree_definitions.proofs.Members.{contains_none}
use Rattle.ta_model.specs.declared.joint.DownGroup.{DownGroup}
use Rattle.ta_model.specs.Tuples.{IsRising, kids_of}
use Rattle.ta_model.specs.Classes.{AreAll}
use Rattle.shared_clusters.specs.Clusters.{Group, HasRule as Keeps, AreSymbolsOf, AreTuplesOf}
use Rattle.explicit_ta.specs.Down.{AreBehind, LeadTo, AreTuplesInto, IsDownGroupAt, AreDownGroupsAt, lowered}
use Rattle.explicit_ta.proofs.Lists.{image_in, image_out, more_out}

abbrev pub raised : ℕ → List ℕ → List ℕ
raised n = map (λ q. n + q)

lower_raised : (n : ℕ) (kids : List ℕ) → lowered n (raised n kids) ≡ kids
lower_raised n [] = refl
lower_raised n (q ∷ qs) =
    let e : n + q - n ≡ q = omega arith in
    ap (λ v. v ∷ lowered n (raised n qs)) e ∙ ap (λ l. q ∷ l) (lower_raised n qs)

raise_lowered : (n : ℕ) (kids : List ℕ) → All (λ q. n ≤ q) kids → raised n (lowered n kids) ≡ kids
raise_lowered n [] h = refl
raise_lowered n (q ∷ qs) h =
    let low : n ≤ q = All-head (λ q. n ≤ q) q qs h in
    let e : n + (q - n) ≡ q = omega arith in
    ap (λ v. v ∷ raised n (lowered n qs)) e ∙ ap (λ l. q ∷ l) (raise_lowered n qs (All-tail (λ q. n ≤ q) q qs h))

-- ---- lowered tuples, one more

-- the children of one of these tuples
pub tuple_behind : (n : ℕ) (tuples : List (SmallVec ℕ)) (i : ℕ) (v : SmallVec ℕ) → i < length tuples → v ≡ get_or tuples i v → All (All (λ q. n ≤ q)) (kids_of tuples) → All (λ q. n ≤ q) v.items
tuple_behind n tuples i v lt is all =
    All-contains (All (λ q. n ≤ q)) (kids_of tuples) v.items all (image_in (λ (w : SmallVec ℕ). w.items) tuples v (i, lt, sym is))

-- ---- the tuples of a set, one member more

module _ (t : List (List Group)) (n a : ℕ) (set : Row) where
  -- the tuples that lead to the members below this place
  abbrev pub AreTuplesBelow : ℕ → List (List ℕ) → Type 0
  AreTuplesBelow from tuples = (kids : List ℕ) → Contains tuples kids ↔ ((s : ℕ) × (s < from) × Has set s × LeadTo t n a s kids)

  pub tuples_none : AreTuplesBelow 0 []
  tuples_none kids = (λ m. absurd (contains_none kids m), λ w. absurd (omega (arith, w.1)))

  -- the tuples under a parent of place n or a later one
  pub tuples_behind : AreBehind t n → (s : ℕ) (here : List (List ℕ)) → AreTuplesOf t (n + s) a here → All (All (λ q. n ≤ q)) here
  tuples_behind behind s here of k d lt =
      let kids = get_or here k d in
      behind (record { symbol = a; kids = kids; parent = n + s }) ((of.members kids).0 (Contains-get_or here k d lt)) (omega arith)

  pub tuples_more : AreBehind t n → (from s : ℕ) (before here : List (List ℕ)) → IsLeastFrom set from s → AreTuplesOf t (n + s) a here → AreTuplesBelow from before
      → AreTuplesBelow (s + 1) (before ++ map (lowered n) here)
  tuples_more behind from s before here least of h kids = (
    λ m. ⊎_elim
        (λ k. let w = (h kids).0 k in let up : from ≤ s = least.from_on in let low : w.0 < from = w.1 in (w.0, omega (arith, low, up), w.2, w.3))
        (λ k.
        let o = image_out (lowered n) here kids k in
        let rule : Rule = record { symbol = a; kids = o.0; parent = n + s } in
        let stands : Keeps t rule = (of.members o.0).0 o.1 in
        let same : raised n kids ≡ o.0 = ap (raised n) (sym o.2) ∙ raise_lowered n o.0 (behind rule stands (omega arith)) in
        (s, omega arith, least.set, subst (λ l. Keeps t (record { symbol = a; kids = l; parent = n + s })) (sym same) stands))
        (Contains-append_cases before (map (lowered n) here) kids m),
    λ w. ⊎_elim
        (λ (low : w.0 < from). Contains-append_left before (map (lowered n) here) kids ((h kids).1 (w.0, low, w.2, w.3)))
        (λ (late : from ≤ w.0).
        let up : s ≤ w.0 = least.least w.0 late w.2 in
        let below : w.0 < s + 1 = w.1 in
        let same : w.0 ≡ s = omega (arith, up, below) in
        let m : Contains here (raised n kids) = (of.members (raised n kids)).1 (subst (λ p. LeadTo t n a p kids) same w.3) in
        Contains-append_right before (map (lowered n) here) kids (subst (Contains (map (lowered n) here)) (lower_raised n kids) (image_in (lowered n) here (raised n kids) m)))
        (cases_lt w.0 from),
  )

  pub tuples_all : (from : ℕ) (all tuples : List (List ℕ)) → IsEmptyFrom set from → AreTuplesBelow from all → AreAll (Contains all) tuples → IsRising tuples → AreTuplesInto t n a set tuples
  tuples_all from all tuples empty h of rising = record {
    rising = rising;
    members = λ kids. (
      λ m. let w = (h kids).0 ((of.members kids).0 m) in (w.0, w.2, w.3),
      λ w. (of.members kids).1 ((h kids).1 (w.0, ⊎_elim (λ (low : w.0 < from). low) (λ (late : from ≤ w.0). absurd (empty w.0 late w.1)) (cases_lt w.0 from), w.1, w.2)),
    );
  }

-- ---- groups, one more

pub down_groups_none : (t : List (List Group)) (n q : ℕ) (set : Row) (symbols : List ℕ) → AreDownGroupsAt t n q set (take 0 symbols) []
down_groups_none t n q set symbols = record { each = λ g m. absurd (contains_none g m); all_symbols = λ a m. absurd (contains_none a m) }

pub down_groups_more : (t : List (List Group)) (n q : ℕ) (set : Row) (symbols : List ℕ) (i a : ℕ) (groups : List DownGroup) (group : DownGroup) → i < length symbols → a ≡ get_or symbols i a
    → AreSymbolsOf t q symbols → group.symbol ≡ a → AreTuplesOf t q a group.rules → AreTuplesInto t n a set group.tuples
    → AreDownGroupsAt t n q set (take i symbols) groups → AreDownGroupsAt t n q set (take (i + 1) symbols) (groups ++ group ∷ [])
down_groups_more t n q set symbols i a groups group lt is of same rules tuples h = record {
  each = λ g m. ⊎_elim (λ k. h.each g k) (λ (e : group ≡ g). subst (IsDownGroupAt t n q set) e here) (Contains-push_cases groups group g m);
  all_symbols = λ b m. ⊎_elim
      (λ k. let w = h.all_symbols b k in (w.0, Contains-append_left groups (group ∷ []) w.0 w.1, w.2))
      (λ (e : a ≡ b). (group, Contains-push groups group, same ∙ e))
      (more_out symbols i a b lt is m);
}
  where
    here : IsDownGroupAt t n q set group
    here = record {
      some = subst (λ b. (kids : List ℕ) × Keeps t (record { symbol = b; kids = kids; parent = q })) (sym same) ((of.members a).0 (i, lt, sym is));
      rule_tuples = subst (λ b. AreTuplesOf t q b group.rules) (sym same) rules;
      set_tuples = subst (λ b. AreTuplesInto t n b set group.tuples) (sym same) tuples;
    }
