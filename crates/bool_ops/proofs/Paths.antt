-- Rules by symbol and children, one step at a time.
use Rattle.std.proofs.Common.{◌≡◌, ◌≢◌, ◌⊎◌, inl, inr, ℕ, zero, suc, ◌<◌, ◌+◌, ◌≤◌, List, [], ◌∷◌, ◌++◌, length, length-append, take, drop, drop-cons, add-one, get_or, set, refl, sym, ap, ◌∙◌, subst, arith, ⊎_elim}
use Rattle.std.specs.Prelude.{All, AllPairs, Contains}
use Rattle.std.proofs.lemmas.Bool.{cases_eq}
use Rattle.std.proofs.lemmas.List.{length-set, take_more, drop_all}
use Rattle.std.proofs.lemmas.List.Elements.{Contains-append_left, Contains-push, Contains-push_cases}
use Rattle.std.proofs.lemmas.Option.{slice_get_within, slice_get-get_or, slice_get_read}
use Rattle.tree_definitions.specs.Automaton.{Rule}
use Rattle.tree_definitions.specs.Product.{Both}
use Rattle.tree_definitions.specs.Relation.{IsAt}
use Rattle.tree_definitions.proofs.Members.{at_unique, at_within, place_of}
use Rattle.bool_ops.specs.Closing.{Adds, both}
use Rattle.bool_ops.specs.Paths.{AreEndsTo, HasEnds, IsByKids, Leads, LevelLeads, Matches, root_of, step_of}
use Rattle.bool_ops.proofs.Filed.{adds_at, at_distinct, at_set}

pub leads_kept : (nodes nodes2 : List Both) → ((i : ℕ) (x : Both) → IsAt nodes i x → IsAt nodes2 i x)
    → (from to : ℕ) (states : List ℕ) → Leads nodes from states to → Leads nodes2 from states to
leads_kept nodes nodes2 kept from to [] h = h
leads_kept nodes nodes2 kept from to (q ∷ qs) h = (h.0, kept h.0 (step_of from q) h.1, leads_kept nodes nodes2 kept h.0 to qs h.2)

pub leads_push : (nodes : List Both) (from : ℕ) (states : List ℕ) (middle q to : ℕ) → Leads nodes from states middle → IsAt nodes to (step_of middle q)
    → Leads nodes from (states ++ q ∷ []) to
leads_push nodes from [] middle q to h at = (to, subst (λ z. IsAt nodes to (step_of z q)) (sym h) at, refl)
leads_push nodes from (s ∷ ss) middle q to h at = (h.0, h.1, leads_push nodes h.0 ss middle q to h.2 at)

leads_within : (nodes : List Both) (from : ℕ) (states : List ℕ) (to : ℕ) → 1 ≤ length states → Leads nodes from states to → to < length nodes
leads_within nodes from [] to l h = absurd (omega arith)
leads_within nodes from (q ∷ []) to l h = subst (λ z. z < length nodes) h.2 (slice_get_within nodes h.0 (step_of from q) h.1)
leads_within nodes from (q ∷ (r ∷ rs)) to l h = leads_within nodes h.0 (r ∷ rs) to (omega arith) h.2

-- one more child on the way
pub end_step : (nodes nodes2 : List Both) (from : ℕ) (items : List ℕ) (i node next : ℕ) → i < length items → Adds nodes (step_of node (get_or items i 0)) nodes2
    → IsAt nodes2 next (step_of node (get_or items i 0)) → Leads nodes from (take i items) node → Leads nodes2 from (take (i + 1) items) next
end_step nodes nodes2 from items i node next l a at h =
    subst (λ ks. Leads nodes2 from ks next) (sym (take_more items i 0 l))
    (leads_push nodes2 from (take i items) node (get_or items i 0) next
    (leads_kept nodes nodes2 (adds_at nodes (step_of node (get_or items i 0)) nodes2 a) from node (take i items) h) at)

at_front : (xs ys : List ℕ) (i x : ℕ) → i < length xs → IsAt (xs ++ ys) i x → IsAt xs i x
at_front [] ys i x l h = absurd (omega arith)
at_front (z ∷ xs) ys zero x l h = h
at_front (z ∷ xs) ys (suc i) x l h = at_front xs ys i x (omega arith) h

at_end : (xs : List ℕ) (y i x : ℕ) → i ≡ length xs → IsAt (xs ++ y ∷ []) i x → y ≡ x
at_end [] y zero x e h = let d : y ≡ x = cc in d
at_end [] y (suc i) x e h = absurd (omega (arith, e))
at_end (z ∷ xs) y zero x e h = absurd (omega (arith, e))
at_end (z ∷ xs) y (suc i) x e h = at_end xs y i x (omega (arith, e)) h

-- one more rule has its end
pub ends_step : (rules : List Rule) (i : ℕ) (nodes nodes2 : List Both) (ends : List ℕ) (rule : Rule) (end : ℕ) → HasEnds rules i nodes ends → IsAt rules i rule
    → (2 ≤ length rule.kids → Leads nodes2 (root_of rule.symbol) rule.kids end)
    → ((from to : ℕ) (states : List ℕ) → Leads nodes from states to → Leads nodes2 from states to)
    → HasEnds rules (i + 1) nodes2 (ends ++ end ∷ [])
ends_step rules i nodes nodes2 ends rule end h at leads kept = record {
  size = let e = length-append ends (end ∷ []) in let s = h.size in omega (arith, e, s);
  whole = λ s other e sat two eat. ⊎_elim
      (λ (f : s ≡ i).
      let which : rule ≡ other = at_unique rules i rule other at (subst (λ z. IsAt rules z other) f sat) in
      let n = h.size in
      let same : end ≡ e = at_end ends end s e (f ∙ sym n) eat in
      subst (Leads nodes2 (root_of other.symbol) other.kids) same
      (subst (λ (o : Rule). Leads nodes2 (root_of o.symbol) o.kids end) which (leads (subst (λ (o : Rule). 2 ≤ length o.kids) (sym which) two))))
      (λ (d : s ≢ i).
      let w = slice_get_within (ends ++ end ∷ []) s e eat in
      let n = length-append ends (end ∷ []) in
      let m = h.size in
      kept (root_of other.symbol) e other.kids (h.whole s other e sat two (at_front ends (end ∷ []) s e (omega (arith, w, n, m)) eat)))
      (cases_eq s i);
}

-- one more rule is in the list of its end
module _ (ends : List ℕ) (n i : ℕ) (lists : List (List ℕ)) (h : AreEndsTo ends n i lists) (l : i < length ends) where
  pub end_added : get_or ends i 0 < n → AreEndsTo ends n (i + 1) (set lists (get_or ends i 0) (get_or lists (get_or ends i 0) [] ++ i ∷ []))
  end_added m =
      let end = get_or ends i 0 in
      let old = get_or lists end [] in
      let size = h.size in
      let here : IsAt lists end old = slice_get-get_or lists end [] (omega (arith, size)) in
      record {
        size = length-set lists end (old ++ i ∷ []) ∙ h.size;
        within = λ k list kat s c. elim (at_set lists end (old ++ i ∷ []) k list kat) [
          | inl e ↦ elim (Contains-push_cases old i s (subst (λ t. Contains t s) e.1 c)) [ inl o ↦ h.within end old here s o | inr f ↦ subst (λ z. z < length ends) f l ]
          | inr o ↦ h.within k list o.1 s c
        ];
        whole = λ s e list d eat lat. elim (at_set lists end (old ++ i ∷ []) e list lat) [
          | inl f ↦ subst (λ t. Contains t s) (sym f.1) (⊎_elim
              (λ (g : s ≡ i). subst (Contains (old ++ i ∷ [])) (sym g) (Contains-push old i))
              (λ (g : s ≢ i). Contains-append_left old (i ∷ []) s (h.whole s e old (omega arith) eat (subst (λ z. IsAt lists z old) (sym f.0) here)))
              (cases_eq s i))
          | inr o ↦ ⊎_elim
              (λ (g : s ≡ i).
              let same : end ≡ e = at_unique ends i end e (slice_get-get_or ends i 0 l) (subst (λ z. IsAt ends z e) g eat) in
              absurd (o.0 (sym same)))
              (λ (g : s ≢ i). h.whole s e list (omega arith) eat o.1)
              (cases_eq s i)
        ];
      }

-- the two together
pub by_kids : (rules : List Rule) (nodes : List Both) (ends : List ℕ) (lists : List (List ℕ)) → HasEnds rules (length rules) nodes ends
    → AreEndsTo ends (length nodes) (length ends) lists → IsByKids rules nodes lists
by_kids rules nodes ends lists h a = record {
  size = a.size;
  within = λ k list kat s c. let l = a.within k list kat s c in let e = h.size in omega (arith, l, e);
  whole = λ s rule sat two.
      let w = slice_get_within rules s rule sat in
      let size = h.size in
      let m : s < length ends = omega (arith, w, size) in
      let end = at_within ends s m in
      (end.0, h.whole s rule end.0 sat two end.1, λ list lat. a.whole s end.0 list m end.1 lat);
}

-- one more state of a list is looked up
pub step_found : (nodes : List Both) (node : ℕ) (states level : List ℕ) (i next : ℕ) → i < length states → AllPairs ◌≢◌ nodes → IsAt nodes next (step_of node (get_or states i 0))
    → ((k q n : ℕ) → k < i → IsAt states k q → IsAt nodes n (step_of node q) → Contains level n)
    → (k q n : ℕ) → k < i + 1 → IsAt states k q → IsAt nodes n (step_of node q) → Contains (level ++ next ∷ []) n
step_found nodes node states level i next l distinct at done k q n m kat nat = ⊎_elim
    (λ (e : k ≡ i).
    let same : get_or states i 0 ≡ q = at_unique states i (get_or states i 0) q (slice_get-get_or states i 0 l) (subst (λ z. IsAt states z q) e kat) in
    let one : next ≡ n = at_distinct nodes next n (step_of node q) distinct (subst (λ z. IsAt nodes next (step_of node z)) same at) nat in
    subst (Contains (level ++ next ∷ [])) one (Contains-push level next))
    (λ (d : k ≢ i). Contains-append_left level (next ∷ []) n (done k q n (omega arith) kat nat))
    (cases_eq k i)

-- a fact of the items of a list, one place more
pub place_more : (P : ℕ → Type 0) (items : List ℕ) (i : ℕ) → i < length items → ((k x : ℕ) → k < i → IsAt items k x → P x) → P (get_or items i 0)
    → (k x : ℕ) → k < i + 1 → IsAt items k x → P x
place_more P items i l done here k x m kat = ⊎_elim
    (λ (e : k ≡ i). subst P (at_unique items i (get_or items i 0) x (slice_get-get_or items i 0 l) (subst (λ z. IsAt items z x) e kat)) here)
    (λ (d : k ≢ i). done k x (omega arith) kat)
    (cases_eq k i)

pub place_all : (P : ℕ → Type 0) (items : List ℕ) (i : ℕ) → length items ≤ i → ((k x : ℕ) → k < i → IsAt items k x → P x) → (x : ℕ) → Contains items x → P x
place_all P items i l done x h =
    let at = place_of items x h in
    let w = slice_get_within items at.0 x at.1 in
    done at.0 x (omega (arith, w)) at.1

drop_at : (states : List ℕ) (i : ℕ) → i < length states → drop i states ≡ get_or states i 0 ∷ drop (i + 1) states
drop_at states i l = rw (add-one, drop-cons states i 0)

-- a level one step on
pub level_step : (nodes : List Both) (level next : List ℕ) (states : List ℕ) (i to : ℕ) → i < length states
    → ((node n : ℕ) → Contains level node → IsAt nodes n (step_of node (get_or states i 0)) → Contains next n)
    → LevelLeads nodes level (drop i states) to → LevelLeads nodes next (drop (i + 1) states) to
level_step nodes level next states i to l steps h =
    let m = h.0 in
    let way : Leads nodes m (get_or states i 0 ∷ drop (i + 1) states) to = subst (λ ks. Leads nodes m ks to) (drop_at states i l) h.2 in
    (way.0, steps m way.0 h.1 way.1, way.2)

pub level_end : (nodes : List Both) (level states : List ℕ) (i to : ℕ) → length states ≤ i → LevelLeads nodes level (drop i states) to → Contains level to
level_end nodes level states i to l h =
    let same : h.0 ≡ to = subst (λ ks. Leads nodes h.0 ks to) (drop_all i states l) h.2 in
    subst (Contains level) same h.1

-- the rules of a level have each rule that matches
pub matches_in : (nodes : List Both) (lists : List (List ℕ)) (rules : List Rule) (level found : List ℕ) → IsByKids rules nodes lists
    → ((n s : ℕ) (list : List ℕ) → Contains level n → IsAt lists n list → Contains list s → Contains found s)
    → (s : ℕ) (right : Rule) → IsAt rules s right → 2 ≤ length right.kids
    → ((to : ℕ) → Leads nodes (root_of right.symbol) right.kids to → Contains level to) → Contains found s
matches_in nodes lists rules level found h each s right sat two last =
    let end = h.whole s right sat two in
    let w = leads_within nodes (root_of right.symbol) right.kids end.0 (omega arith) end.1 in
    let size = h.size in
    let list = at_within lists end.0 (omega (arith, w, size)) in
    each end.0 s list.0 (last end.0 end.1) list.1 (end.2 list.0 list.1)
