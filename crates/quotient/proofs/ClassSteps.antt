-- The least places of classes, and their numbers.
use Rattle.std.proofs.Common.{◌≡◌, ◌≢◌, ◌↔◌, inl, inr, ℕ, ◌+◌, ◌<◌, ◌≤◌, List, [], ◌∷◌, ◌++◌, length, refl, sym, ap, subst, ◌∙◌, arith, ⊎_elim}
use Rattle.std.specs.Prelude.{Contains, slice_index}
use Rattle.std.proofs.Math.Seq.{get_or-append_seam}
use Rattle.std.proofs.lemmas.Bool.{cases_eq}
use Rattle.std.proofs.lemmas.List.{length_push, get_or_append_left}
use Rattle.std.proofs.lemmas.List.Quantifiers.{all_pairs_push}
use Rattle.std.proofs.lemmas.List.Elements.{All-push, All-weaker, All-contains, Contains-push, Contains-push_cases, Contains-append_left}
use Rattle.std.proofs.lemmas.Option.{slice_get_within}
use Rattle.bit_rows.specs.Rows.{IsLeastFrom}
use Rattle.tree_definitions.specs.Quotient.{AreSame}
use Rattle.tree_definitions.specs.Relation.{Relation, Row, Matrix, Has, Holds, IsAt}
use Rattle.tree_definitions.proofs.Members.{at_unique, at_within}
use Rattle.quotient.specs.Grouping.{IsTransitive, IsLeader, AreLeaders, LeadThemselves, IsNumbering}
use Rattle.quotient.proofs.Lists.{at_append, at_last, at_push}

-- the least place of a row and of the row of the turned relation
pub leader_is : (m t : Matrix) (q f : ℕ) (old new row turned : Row) → old ≡ row → ((s : ℕ) → Has row s ↔ Holds m q s) → ((s : ℕ) → Has turned s ↔ Holds t q s)
    → ((i j : ℕ) → Holds t i j ↔ Holds m j i) → ((s : ℕ) → Has new s ↔ (Has old s × Has turned s)) → IsLeastFrom new 0 f → IsLeader (Holds m) q f
leader_is m t q f old new row turned e above below turns meet first = record {
  same = let both = (meet f).0 first.set in
      ((turns q f).0 ((below f).0 both.1), (above f).0 (subst (λ r. Has r f) e both.0));
  least = λ r s. first.least r (omega arith) ((meet r).1 (subst (λ x. Has x r) (sym e) ((above r).1 s.1), (below r).1 ((turns q r).1 s.0)));
}

-- a place that is related to itself is in its class
pub class_has_it : (m t : Matrix) (q : ℕ) (old new row turned : Row) → old ≡ row → ((s : ℕ) → Has row s ↔ Holds m q s) → ((s : ℕ) → Has turned s ↔ Holds t q s)
    → ((i j : ℕ) → Holds t i j ↔ Holds m j i) → ((s : ℕ) → Has new s ↔ (Has old s × Has turned s)) → Holds m q q → Has new q
class_has_it m t q old new row turned e above below turns meet h =
    (meet q).1 (subst (λ x. Has x q) (sym e) ((above q).1 h), (below q).1 ((turns q q).1 h))

pub leaders_none : (D : Relation) → AreLeaders D 0 []
leaders_none D = record { long = refl; each = λ q f at. absurd cc }

pub leaders_more : (D : Relation) (n : ℕ) (leaders : List ℕ) (f : ℕ) → AreLeaders D n leaders → IsLeader D n f → AreLeaders D (n + 1) (leaders ++ f ∷ [])
leaders_more D n leaders f h here = record {
  long = length_push leaders f ∙ ap (λ k. k + 1) h.long;
  each = λ q g at. elim (at_push leaders f q g at) [
    | inl old ↦ h.each q g old
    | inr l ↦ subst (λ x. IsLeader D x g) (sym (l.0 ∙ h.long)) (subst (IsLeader D n) (sym l.1) here)
  ];
}

module _ (D : Relation) (joined : IsTransitive D) where
  pub same_joined : (q r s : ℕ) → AreSame D q r → AreSame D r s → AreSame D q s
  same_joined q r s h g = (joined q r s h.0 g.0, joined s r q g.1 h.1)

  pub same_turned : (q r : ℕ) → AreSame D q r → AreSame D r q
  same_turned q r h = (h.1, h.0)

  -- two leaders in one class are one
  pub one_leader : (q r f g : ℕ) → IsLeader D q f → IsLeader D r g → AreSame D q r → f ≡ g
  one_leader q r f g a b s =
      let low = b.least f (same_joined f q r a.same s) in
      let high = a.least g (same_joined g r q b.same (same_turned q r s)) in
      omega (arith, low, high)

  pub lead_themselves : (n : ℕ) (leaders : List ℕ) → AreLeaders D n leaders → LeadThemselves leaders
  lead_themselves n leaders h q f at =
      let here = h.each q f at in
      let itself : AreSame D q q = same_joined q f q (same_turned f q here.same) here.same in
      let low : f ≤ q = here.least q itself in
      let within : q < length leaders = slice_get_within leaders q f at in
      let g = at_within leaders f (omega arith) in
      let e : g.0 ≡ f = one_leader f q g.0 f (h.each f g.0 g.1) here here.same in
      (low, subst (IsAt leaders f) e g.1)

pub numbering_none : (leaders : List ℕ) → IsNumbering leaders [] [] 0
numbering_none leaders = record {
  rising = λ i j d lt within. absurd (omega arith);
  below = λ k d lt. absurd (omega arith);
  long = refl;
  few = omega arith;
  chosen = λ q lt. absurd (omega arith);
  placed = λ q lt. absurd (omega arith);
}

module _ (leaders firsts classes : List ℕ) (n : ℕ) (h : IsNumbering leaders firsts classes n) where
  later_number : (m q : ℕ) → q < n → slice_index (classes ++ m ∷ []) q ≡ slice_index classes q
  later_number m q lt = let long : length classes ≡ n = h.long in get_or_append_left classes (m ∷ []) 0 q (omega arith)

  last_number : (m : ℕ) → slice_index (classes ++ m ∷ []) n ≡ m
  last_number m = subst (λ k. slice_index (classes ++ m ∷ []) k ≡ m) h.long (get_or-append_seam classes m [] 0)

  -- a place with a leader before it has the leader's number
  pub numbering_other : (f : ℕ) → LeadThemselves leaders → IsAt leaders n f → f ≢ n → IsNumbering leaders firsts (classes ++ slice_index classes f ∷ []) (n + 1)
  numbering_other f themselves at other = record {
    rising = h.rising;
    below = All-weaker (λ q. q < n) (λ q. q < n + 1) (λ q lt. omega arith) firsts h.below;
    long = length_push classes (slice_index classes f) ∙ ap (λ k. k + 1) h.long;
    few = let few : length firsts ≤ n = h.few in omega arith;
    chosen = λ q lt. ⊎_elim
        (λ (e : q ≡ n). (
          λ m. let low : q < n = All-contains (λ q. q < n) firsts q h.below m in absurd (omega arith),
          λ k. absurd (other (at_unique leaders n f n at (subst (λ x. IsAt leaders x x) e k))),
        ))
        (λ (d : q ≡ n → ⊥). h.chosen q (omega arith))
        (cases_eq q n);
    placed = λ q lt. ⊎_elim
        (λ (e : q ≡ n).
        let low : f ≤ n = (themselves n f at).0 in
        let old = h.placed f (omega arith) in
        let same : old.0 ≡ f = at_unique leaders f old.0 f old.1 (themselves n f at).1 in
        let there : IsAt firsts (slice_index classes f) f = subst (IsAt firsts (slice_index classes f)) same old.2 in (
          f,
          subst (λ x. IsAt leaders x f) (sym e) at,
          subst (λ x. IsAt firsts (slice_index (classes ++ slice_index classes f ∷ []) x) f) (sym e) (subst (λ i. IsAt firsts i f) (sym (last_number (slice_index classes f))) there),
        ))
        (λ (d : q ≡ n → ⊥).
        let low : q < n = omega arith in
        let old = h.placed q low in
        (old.0, old.1, subst (λ i. IsAt firsts i old.0) (sym (later_number (slice_index classes f) q low)) old.2))
        (cases_eq q n);
  }

  -- a place that leads itself has a new number
  pub numbering_first : IsAt leaders n n → IsNumbering leaders (firsts ++ n ∷ []) (classes ++ length firsts ∷ []) (n + 1)
  numbering_first here = record {
    rising = all_pairs_push (λ p q. p < q) firsts n h.rising h.below;
    below = All-push (λ q. q < n + 1) firsts n (All-weaker (λ q. q < n) (λ q. q < n + 1) (λ q lt. omega arith) firsts h.below) (omega arith);
    long = length_push classes (length firsts) ∙ ap (λ k. k + 1) h.long;
    few = let few : length firsts ≤ n = h.few in let long : length (firsts ++ n ∷ []) ≡ length firsts + 1 = length_push firsts n in omega arith;
    chosen = λ q lt. ⊎_elim
        (λ (e : q ≡ n). (λ m. subst (λ x. IsAt leaders x x) (sym e) here, λ k. subst (Contains (firsts ++ n ∷ [])) (sym e) (Contains-push firsts n)))
        (λ (d : q ≡ n → ⊥). let old = h.chosen q (omega arith) in (
          λ m. ⊎_elim (λ k. old.0 k) (λ (e : n ≡ q). absurd (d (sym e))) (Contains-push_cases firsts n q m),
          λ k. Contains-append_left firsts (n ∷ []) q (old.1 k),
        ))
        (cases_eq q n);
    placed = λ q lt. ⊎_elim
        (λ (e : q ≡ n). (
          n,
          subst (λ x. IsAt leaders x n) (sym e) here,
          subst (λ x. IsAt (firsts ++ n ∷ []) (slice_index (classes ++ length firsts ∷ []) x) n) (sym e)
              (subst (λ i. IsAt (firsts ++ n ∷ []) i n) (sym (last_number (length firsts))) (at_last firsts n)),
        ))
        (λ (d : q ≡ n → ⊥).
        let low : q < n = omega arith in
        let old = h.placed q low in
        (old.0, old.1, subst (λ i. IsAt (firsts ++ n ∷ []) i old.0) (sym (later_number (length firsts) q low)) (at_append firsts (n ∷ []) (slice_index classes q) old.0 old.2)))
        (cases_eq q n);
  }
