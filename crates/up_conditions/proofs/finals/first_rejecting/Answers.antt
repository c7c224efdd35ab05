use Rattle.std.proofs.Common.{◌↔◌, ℕ, List, subst}
use Rattle.std.specs.Prelude.{Contains}
use Rattle.std.proofs.lemmas.Option.{IfSome_then}
use Rattle.tree_definitions.specs.Automaton.{IsFinal}
use Rattle.tree_definitions.specs.Cover.{Rejects}
use Rattle.tree_definitions.specs.Relation.{Has}
use Rattle.up_conditions.specs.Listed.{RejectsBy}
use Rattle.listed_pairs.specs.Places.{IsNth}
use Rattle.up_conditions.proofs.Rejecting.{rejects_by_rows, rows_reject}
use Rattle.listed_pairs.proofs.Firsts.{IfNone_then, first_weaker, nth_weaker}
use Rattle.up_conditions.proofs.finals.first_rejecting.Goals as goal

pub returns-clause-none : goal.returns-clause-none
returns-clause-none c =
    let left = c.in_ok-left.left in
    let right = c.in_ok-right.right in
    let ours : (q : ℕ) → Has left q ↔ IsFinal c.args.a.now q = subst (λ (xs : List ℕ). (q : ℕ) → Has left q ↔ Contains xs q) c.finals.ensures.value c.in_ok-left.ensures.members in
    let theirs : (q : ℕ) → Has right q ↔ IsFinal c.args.b.now q = subst (λ (xs : List ℕ). (q : ℕ) → Has right q ↔ Contains xs q) c.finals-2.ensures.value c.in_ok-right.ensures.members in
    IfNone_then c.first_by_rows.result (λ none pair m h. none pair m (rows_reject c.args.a.now c.args.b.now left right ours theirs pair h)) c.first_by_rows.ensures.none

pub returns-clause-some : goal.returns-clause-some
returns-clause-some c =
    let A = c.args.a.now in
    let B = c.args.b.now in
    let pairs = c.args.pairs.now in
    let left = c.in_ok-left.left in
    let right = c.in_ok-right.right in
    let ours : (q : ℕ) → Has left q ↔ IsFinal A q = subst (λ (xs : List ℕ). (q : ℕ) → Has left q ↔ Contains xs q) c.finals.ensures.value c.in_ok-left.ensures.members in
    let theirs : (q : ℕ) → Has right q ↔ IsFinal B q = subst (λ (xs : List ℕ). (q : ℕ) → Has right q ↔ Contains xs q) c.finals-2.ensures.value c.in_ok-right.ensures.members in
    IfSome_then c.first_by_rows.result c.first_by_rows.ensures.some (first_weaker (IsNth pairs (RejectsBy left right)) (IsNth pairs (Rejects A B))
    (nth_weaker pairs (RejectsBy left right) (Rejects A B) (rejects_by_rows A B left right ours theirs))
    (nth_weaker pairs (Rejects A B) (RejectsBy left right) (rows_reject A B left right ours theirs)))
