use Rattle.std.proofs.Common.{◌↔◌, ℕ, List, length, sym, ap, ◌∙◌, subst, arith}
use Rattle.std.specs.Prelude.{Contains}
use Rattle.std.proofs.lemmas.Option.{IfSome_then}
use Rattle.tree_definitions.specs.Automaton.{Automaton, IsFinal}
use Rattle.tree_definitions.specs.DownCert.{IsCoveredDown}
use Rattle.tree_definitions.specs.Relation.{Has, Holds}
use Rattle.tree_definitions.proofs.InOrder.{canon_finals}
use Rattle.listed_pairs.specs.Places.{IsNth, IsFirst}
use Rattle.listed_pairs.proofs.Firsts.{IfNone_then, first_weaker, nth_weaker}
use Rattle.down_conditions.specs.Covering.{AreShifted, IsHeld, Shifted}
use Rattle.down_conditions.proofs.Bounded.{no_more_than}
use Rattle.down_conditions.proofs.Shifting.{covered_held, held_covered}
use Rattle.down_conditions.proofs.finals.first_uncovered_final.Goals as goal

pub first_by_row-requires-clause-few : goal.first_by_row-requires-clause-few
first_by_row-requires-clause-few c =
    let O = c.in_ok-ours.ours in
    let listed = c.finals-2.ensures.listed in
    let l = no_more_than O.finals (length O.states) listed.automaton.finals listed.automaton.final_states in
    let e = ap (λ (xs : List ℕ). length xs) c.finals-2.ensures.value in
    let few = listed.few_states in
    omega (arith, l, e, few)

pub returns-clause-none : goal.returns-clause-none
returns-clause-none c =
    let A = c.args.a.now in
    let B = c.args.b.now in
    let R = Holds c.args.both.now in
    let pairs = c.args.pairs.now in
    let wides = c.deref-2.result.now in
    let row = c.in_ok-row.row in
    let long = ap (λ (xs : List (List ℕ)). length xs) c.states-m.ensures.value in
    let are : AreShifted (length A.states) pairs wides = subst (λ n. AreShifted n pairs wides) long (subst (AreShifted (length c.states-m.result.now) pairs) (sym c.deref-2.ensures.value) c.in_ok-wides.ensures.shifted) in
    let theirs : (s : ℕ) → Has row s ↔ Shifted (length A.states) (IsFinal B) s =
    subst (λ (xs : List ℕ). (s : ℕ) → Has row s ↔ Shifted (length A.states) (Contains xs) s) c.finals.ensures.value
    (subst (λ n. (s : ℕ) → Has row s ↔ Shifted n (Contains c.finals.result.now) s) long c.in_ok-row.ensures.members) in
    let same = c.finals-2.ensures.value ∙ ap (λ (o : Automaton). o.finals) c.in_ok-ours.ensures in
    IfNone_then c.first_by_row.result
    (λ all f final. held_covered A R pairs wides are (IsFinal B) (Has row) (λ s. (theirs s).0) f (all f (subst (λ (xs : List ℕ). Contains xs f) (sym same) ((canon_finals A f).1 final))))
    c.first_by_row.ensures.none

pub returns-clause-some : goal.returns-clause-some
returns-clause-some c =
    let A = c.args.a.now in
    let B = c.args.b.now in
    let R = Holds c.args.both.now in
    let pairs = c.args.pairs.now in
    let wides = c.deref-2.result.now in
    let row = c.in_ok-row.row in
    let long = ap (λ (xs : List (List ℕ)). length xs) c.states-m.ensures.value in
    let are : AreShifted (length A.states) pairs wides = subst (λ n. AreShifted n pairs wides) long (subst (AreShifted (length c.states-m.result.now) pairs) (sym c.deref-2.ensures.value) c.in_ok-wides.ensures.shifted) in
    let theirs : (s : ℕ) → Has row s ↔ Shifted (length A.states) (IsFinal B) s =
    subst (λ (xs : List ℕ). (s : ℕ) → Has row s ↔ Shifted (length A.states) (Contains xs) s) c.finals.ensures.value
    (subst (λ n. (s : ℕ) → Has row s ↔ Shifted n (Contains c.finals.result.now) s) long c.in_ok-row.ensures.members) in
    let same = c.finals-2.ensures.value ∙ ap (λ (o : Automaton). o.finals) c.in_ok-ours.ensures in
    let Out : ℕ → Type 0 = λ f. IsHeld R wides f (Has row) → ⊥ in
    let Open : ℕ → Type 0 = λ f. IsCoveredDown A R pairs f (IsFinal B) → ⊥ in
    IfSome_then c.first_by_row.result c.first_by_row.ensures.some
    (λ n first. subst (λ (xs : List ℕ). IsFirst (IsNth xs Open) n) same
    (first_weaker (IsNth c.finals-2.result.now Out) (IsNth c.finals-2.result.now Open)
    (nth_weaker c.finals-2.result.now Out Open (λ f out covered. out (covered_held A R pairs wides are (IsFinal B) (Has row) (λ s. (theirs s).1) f covered)))
    (nth_weaker c.finals-2.result.now Open Out (λ f not held. not (held_covered A R pairs wides are (IsFinal B) (Has row) (λ s. (theirs s).0) f held)))
    n first))
