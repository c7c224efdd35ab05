-- Choices of listed pairs, and the rules that they leave open.
use Rattle.std.proofs.Common.{◌≡◌, ◌↔◌, ◌⊎◌, inl, inr, ℕ, zero, suc, ◌+◌, List, [], ◌∷◌, ◌++◌, length, refl, sym, ap, ◌∙◌, subst, arith}
use Rattle.std.specs.List.{AllZip}
use Rattle.std.specs.Prelude.{Contains}
use Rattle.std.proofs.lemmas.List.Elements.{All-weaker}
use Rattle.tree_definitions.specs.Tree.{Symbol}
use Rattle.tree_definitions.specs.Automaton.{Automaton, Rule, IsLabel, HasRule, FitsRule, IsAutomaton}
use Rattle.tree_definitions.specs.Cover.{Pair, Post}
use Rattle.tree_definitions.specs.Relation.{Relation, Row, Has, IsAt}
use Rattle.tree_definitions.specs.UpCert.{IsCoveredUp, AreListed}
use Rattle.tree_definitions.proofs.Listing.{rule_of_line, rule_parts}
use Rattle.tree_definitions.proofs.Members.{at_unique, contains_at, place_of}
use Rattle.trim_ops.specs.Marking.{AreWithin, IsWithin}
use Rattle.up_conditions.specs.Choosing.{AreOpen, BeginIn, HasKidIn, IsChoiceCovered, LeadsTo}

pub at_append : {X : Type 0} (xs ys : List X) (i : ℕ) (x : X) → IsAt xs i x → IsAt (xs ++ ys) i x
at_append [] ys i x e = absurd cc
at_append (z ∷ zs) ys zero x e = e
at_append (z ∷ zs) ys (suc i) x e = at_append zs ys i x e

pub at_last : {X : Type 0} (xs : List X) (x : X) → IsAt (xs ++ x ∷ []) (length xs) x
at_last [] x = refl
at_last (z ∷ zs) x = at_last zs x

pub at_push : {X : Type 0} (xs : List X) (x : X) (i : ℕ) (y : X) → IsAt (xs ++ x ∷ []) i y → IsAt xs i y ⊎ ((i ≡ length xs) × (y ≡ x))
at_push [] x zero y e = let same : x ≡ y = cc in inr (refl, sym same)
at_push [] x (suc i) y e = absurd cc
at_push (z ∷ zs) x zero y e = inl e
at_push (z ∷ zs) x (suc i) y e = elim (at_push zs x i y e) [
  | inl at ↦ inl at
  | inr l ↦ inr (ap suc l.0, l.1)
]

length_one_more : {X : Type 0} (xs : List X) (x : X) → length (xs ++ x ∷ []) ≡ suc (length xs)
length_one_more [] x = refl
length_one_more (z ∷ zs) x = ap suc (length_one_more zs x)

pub append_none : {X : Type 0} (xs : List X) → xs ++ [] ≡ xs
append_none [] = refl
append_none (z ∷ zs) = ap (λ l. z ∷ l) (append_none zs)

pub append_one : {X : Type 0} (xs : List X) (x : X) (ys : List X) → (xs ++ x ∷ []) ++ ys ≡ xs ++ x ∷ ys
append_one [] x ys = refl
append_one (z ∷ zs) x ys = ap (λ l. z ∷ l) (append_one zs x ys)

pub no_sets_begin : (kids : List ℕ) → BeginIn [] kids
no_sets_begin kids i P at = absurd cc

begin_more : (sets : List Row) (P : Row) (kids : List ℕ) (q : ℕ) → BeginIn sets kids → IsAt kids (length sets) q → Has P q → BeginIn (sets ++ P ∷ []) kids
begin_more sets P kids q begin at h i Q qat = elim (at_push sets P i Q qat) [
  | inl old ↦ begin i Q old
  | inr new ↦ (q, subst (λ j. IsAt kids j q) (sym new.0) at, subst (λ (R : Row). Has R q) (sym new.1) h)
]

zip_begin : (sets : List Row) (kids : List ℕ) → length kids ≡ length sets → BeginIn sets kids → AllZip Has sets kids
zip_begin [] [] e begin = tt
zip_begin [] (q ∷ qs) e begin = absurd (omega (arith, e))
zip_begin (P ∷ Ps) [] e begin = absurd (omega (arith, e))
zip_begin (P ∷ Ps) (q ∷ qs) e begin =
    let f = begin 0 P refl in
    let at = f.1 in
    let same : q ≡ f.0 = cc in
    (subst (Has P) (sym same) f.2, zip_begin Ps qs (omega (arith, e)) (λ i Q qat. begin (suc i) Q qat))

begin_zip : (sets : List Row) (kids : List ℕ) → AllZip Has sets kids → BeginIn sets kids
begin_zip [] kids z i Q at = absurd cc
begin_zip (P ∷ Ps) [] z i Q at = absurd z
begin_zip (P ∷ Ps) (q ∷ qs) z zero Q at = let same : P ≡ Q = cc in (q, refl, subst (λ (R : Row). Has R q) same z.0)
begin_zip (P ∷ Ps) (q ∷ qs) z (suc i) Q at = begin_zip Ps qs z.1 i Q at

zip_long : (sets : List Row) (kids : List ℕ) → AllZip Has sets kids → length kids ≡ length sets
zip_long [] [] z = refl
zip_long [] (q ∷ qs) z = absurd z
zip_long (P ∷ Ps) [] z = absurd z
zip_long (P ∷ Ps) (q ∷ qs) z = ap suc (zip_long Ps qs z.1)

module _ (B : Automaton) (a : Symbol) (sets : List Row) (list : List ℕ) (leaves : AreOpen B a sets list) where
  -- with one more set those stay open whose next child is in it
  pub open_next : (P : Row) (next : List ℕ) → ((r : ℕ) → Contains next r ↔ (Contains list r × HasKidIn B.rules (length sets) P r)) → AreOpen B a (sets ++ P ∷ []) next
  open_next P next members = record {
    within = λ r m.
        let h = (members r).0 m in
        let o = leaves.within r h.0 in
        let same : h.1.0 ≡ o.0 = at_unique B.rules r h.1.0 o.0 h.1.2 o.1 in
        (o.0, o.1, o.2, begin_more sets P o.0.kids h.1.1 o.3 (subst (λ (x : Rule). IsAt x.kids (length sets) h.1.1) same h.1.3) h.1.4);
    whole = λ r rule at label begin.
        let last = begin (length sets) P (at_last sets P) in
        (members r).1 (leaves.whole r rule at label (λ i Q qat. begin i Q (at_append sets (P ∷ []) i Q qat)), (rule, last.0, at, last.1, last.2));
  }

  module _ (s : ℕ) where
    pub leads_to_post : (r : ℕ) → Contains list r → LeadsTo B.rules (length sets) s r → Post B a sets s
    leads_to_post r m h =
        let rule = h.0 in
        let o = leaves.within r m in
        let same : o.0 ≡ rule = at_unique B.rules r o.0 rule o.1 h.1 in
        let label : IsLabel B rule.symbol a = subst (λ (x : Rule). IsLabel B x.symbol a) same o.2 in
        let has : HasRule B a rule.kids rule.parent = (r, rule_of_line B r rule a h.1 label) in
        (rule.kids, subst (HasRule B a rule.kids) h.3 has, zip_begin sets rule.kids h.2 (subst (λ (x : Rule). BeginIn sets x.kids) same o.3))

    pub post_leads : Post B a sets s → (r : ℕ) × Contains list r × LeadsTo B.rules (length sets) s r
    post_leads (kids, (r, is), zip) =
        let parts = rule_parts B r a kids s is in
        let rat = parts.2 in
        let rule : Rule = record { symbol = parts.0; kids = kids; parent = s } in
        (r, leaves.whole r rule rat parts.1 (begin_zip sets kids zip), (rule, rat, zip_long sets kids zip, refl))

pub next_open : (B : Automaton) (rules : List Rule) → rules ≡ B.rules → (a : Symbol) (sets : List Row) (count : ℕ) → length sets ≡ count → (list next : List ℕ) (P : Row)
    → ((r : ℕ) → Contains next r ↔ (Contains list r × HasKidIn rules count P r)) → AreOpen B a sets list → AreOpen B a (sets ++ P ∷ []) next
next_open B rules is a sets count size list next P members leaves =
    open_next B a sets list leaves P next (subst (λ n. (r : ℕ) → Contains next r ↔ (Contains list r × HasKidIn B.rules n P r)) (sym size)
    (subst (λ (rs : List Rule). (r : ℕ) → Contains next r ↔ (Contains list r × HasKidIn rs count P r)) is members))

-- at the end the parents of the open rules are the step
pub ends_post : (B : Automaton) (rules : List Rule) → rules ≡ B.rules → (a : Symbol) (sets : List Row) (count : ℕ) → length sets ≡ count → (list : List ℕ) (row : Row) → AreOpen B a sets list
    → ((s : ℕ) → Has row s ↔ ((r : ℕ) × Contains list r × LeadsTo rules count s r)) → (s : ℕ) → Has row s ↔ Post B a sets s
ends_post B rules is a sets count size list row leaves by_rules s =
    let by_own = subst (λ (rs : List Rule). (t : ℕ) → Has row t ↔ ((r : ℕ) × Contains list r × LeadsTo rs count t r)) is by_rules in
    let members = subst (λ n. (t : ℕ) → Has row t ↔ ((r : ℕ) × Contains list r × LeadsTo B.rules n t r)) (sym size) by_own in (
      λ h. let k = (members s).0 h in leads_to_post B a sets list leaves s k.0 k.1 k.2,
      λ p. (members s).1 (post_leads B a sets list leaves s p),
    )

pub sets_one_more : (sets : List Row) (P : Row) (count : ℕ) → length sets ≡ count → length (sets ++ P ∷ []) ≡ count + 1
sets_one_more sets P count size = let l = length_one_more sets P in omega (arith, l, size)

pub rules_within : (B : Automaton) → IsAutomaton B → AreWithin (length B.states) B.rules
rules_within B fits = All-weaker (FitsRule B) (IsWithin (length B.states)) (λ r f. record { kids = f.kids; parent = f.parent }) B.rules fits.fitting

module _ (B : Automaton) (RA RB : Relation) (X : List Pair) (a : Symbol) (p : ℕ) where
  pub each_choice : (sets : List Row) (kids : List ℕ) → IsChoiceCovered B RA RB X a p sets kids → (more : List Row) → AreListed X kids more → IsCoveredUp RA RB X p (Post B a (sets ++ more))
  each_choice sets [] h [] z = subst (λ (ss : List Row). IsCoveredUp RA RB X p (Post B a ss)) (sym (append_none sets)) h
  each_choice sets [] h (Q ∷ Qs) z = absurd z
  each_choice sets (q ∷ qs) h [] z = absurd z
  each_choice sets (q ∷ qs) h (P ∷ Ps) z = subst (λ (ss : List Row). IsCoveredUp RA RB X p (Post B a ss)) (append_one sets P Ps) (each_choice (sets ++ P ∷ []) qs (h P z.0) Ps z.1)

  pub choice_by_each : (sets : List Row) (kids : List ℕ) → ((more : List Row) → AreListed X kids more → IsCoveredUp RA RB X p (Post B a (sets ++ more))) → IsChoiceCovered B RA RB X a p sets kids
  choice_by_each sets [] f = subst (λ (ss : List Row). IsCoveredUp RA RB X p (Post B a ss)) (append_none sets) (f [] tt)
  choice_by_each sets (q ∷ qs) f = λ P m. choice_by_each (sets ++ P ∷ []) qs (λ more z. subst (λ (ss : List Row). IsCoveredUp RA RB X p (Post B a ss)) (sym (append_one sets P more)) (f (P ∷ more) (m, z)))

  -- the choices for the next child go by the places of the pairs with that state
  pub choice_over : (sets : List Row) (q : ℕ) (qs : List ℕ) → ((k : ℕ) (x : Pair) → IsAt X k x → x.state ≡ q → IsChoiceCovered B RA RB X a p (sets ++ x.set ∷ []) qs) → IsChoiceCovered B RA RB X a p sets (q ∷ qs)
  choice_over sets q qs f P m = let k = place_of X (record { state = q; set = P }) m in f k.0 (record { state = q; set = P }) k.1 refl

  pub choice_at : (sets : List Row) (q : ℕ) (qs : List ℕ) (k : ℕ) (x : Pair) (P : Row) → IsAt X k x → x.state ≡ q → P ≡ x.set → IsChoiceCovered B RA RB X a p sets (q ∷ qs)
      → IsChoiceCovered B RA RB X a p (sets ++ P ∷ []) qs
  choice_at sets q qs k x P at e same h = h P (subst (λ (o : Pair). Contains X o) (ap (λ n. record { state = n; set = x.set }) e ∙ ap (λ (S : Row). record { state = q; set = S }) (sym same)) (contains_at X k x at))
