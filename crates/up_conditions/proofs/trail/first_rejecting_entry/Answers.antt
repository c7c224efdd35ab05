use Rattle.std.proofs.Common.{◌↔◌, ℕ, List, subst}
use Rattle.std.specs.Prelude.{Contains}
use Rattle.std.proofs.lemmas.Option.{IfSome_then}
use Rattle.tree_definitions.specs.Automaton.{IsFinal}
use Rattle.tree_definitions.specs.Relation.{Has}
use Rattle.tree_definitions.specs.UpTrail.{UpEntry}
use Rattle.tree_definitions.proofs.Members.{contains_at}
use Rattle.listed_pairs.specs.Places.{IsNth}
use Rattle.listed_pairs.proofs.Firsts.{IfNone_then, first_weaker, nth_weaker}
use Rattle.up_conditions.specs.Listed.{RejectsBy}
use Rattle.up_conditions.specs.Trailing.{RejectsEntry}
use Rattle.up_conditions.proofs.Rejecting.{rejects_by_rows, rows_reject}
use Rattle.up_conditions.proofs.trail.first_rejecting_entry.Goals as goal

pub returns-clause-none : goal.returns-clause-none
returns-clause-none c =
    let left = c.in_ok-left.left in
    let right = c.in_ok-right.right in
    let entries = c.args.entries.now in
    let ours : (q : ℕ) → Has left q ↔ IsFinal c.args.a.now q = subst (λ (xs : List ℕ). (q : ℕ) → Has left q ↔ Contains xs q) c.finals.ensures.value c.in_ok-left.ensures.members in
    let theirs : (q : ℕ) → Has right q ↔ IsFinal c.args.b.now q = subst (λ (xs : List ℕ). (q : ℕ) → Has right q ↔ Contains xs q) c.finals-2.ensures.value c.in_ok-right.ensures.members in
    IfNone_then c.first_by_finals.result (λ none i entry at h. none entry (contains_at entries i entry at) (rows_reject c.args.a.now c.args.b.now left right ours theirs entry.pair h)) c.first_by_finals.ensures.none

pub returns-clause-some : goal.returns-clause-some
returns-clause-some c =
    let A = c.args.a.now in
    let B = c.args.b.now in
    let entries = c.args.entries.now in
    let left = c.in_ok-left.left in
    let right = c.in_ok-right.right in
    let ours : (q : ℕ) → Has left q ↔ IsFinal A q = subst (λ (xs : List ℕ). (q : ℕ) → Has left q ↔ Contains xs q) c.finals.ensures.value c.in_ok-left.ensures.members in
    let theirs : (q : ℕ) → Has right q ↔ IsFinal B q = subst (λ (xs : List ℕ). (q : ℕ) → Has right q ↔ Contains xs q) c.finals-2.ensures.value c.in_ok-right.ensures.members in
    IfSome_then c.first_by_finals.result c.first_by_finals.ensures.some
    (first_weaker (IsNth entries (λ (e : UpEntry). RejectsBy left right e.pair)) (IsNth entries (RejectsEntry A B))
    (nth_weaker entries (λ (e : UpEntry). RejectsBy left right e.pair) (RejectsEntry A B) (λ e. rejects_by_rows A B left right ours theirs e.pair))
    (nth_weaker entries (RejectsEntry A B) (λ (e : UpEntry). RejectsBy left right e.pair) (λ e. rows_reject A B left right ours theirs e.pair)))
