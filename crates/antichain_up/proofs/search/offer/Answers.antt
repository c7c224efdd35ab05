use Rattle.std.proofs.Common.{◌≡◌, false, true, refl, arith}
use Rattle.tree_definitions.specs.Relation.{Has, Holds}
use Rattle.ta_model.specs.Macrostates.{row_at}
use Rattle.upward_search.specs.Search.{IsKeptOver}
use Rattle.antichain_up.specs.Entries.{Kept}
use Rattle.antichain_up.specs.SearchState.{entries_of}
use Rattle.antichain_up.proofs.Adding.{in_range, moved, covered, rejected, full, goes_on}
use Rattle.antichain_up.proofs.search.offer.Goals as goal

pub is_covered-requires-clause-state : goal.is_covered-requires-clause-state
is_covered-requires-clause-state g c =
    let l = in_range (g.J.Joint.left c.args.j.now) (g.J.Joint.right c.args.j.now) c.args.orders.now c.args.budget c.args.state c.args.set c.args.symbol c.args.kids.now c.args.search.now c.requires.given c.requires.going c.requires.stored c.requires.is_step in
    let e = c.requires.going.sound.states in
    omega arith

pub add-requires-clause-state : goal.add-requires-clause-state
add-requires-clause-state g c =
    let l = in_range (g.J.Joint.left c.args.j.now) (g.J.Joint.right c.args.j.now) c.args.orders.now c.args.budget c.args.state c.args.set c.args.symbol c.args.kids.now c.args.search.now c.requires.given c.requires.going c.requires.stored c.requires.is_step in
    let e = c.requires.going.sound.states in
    omega arith

pub rejects-requires-clause-state : goal.rejects-requires-clause-state
rejects-requires-clause-state g c = in_range (g.J.Joint.left c.args.j.now) (g.J.Joint.right c.args.j.now) c.args.orders.now c.args.budget c.args.state c.args.set c.args.symbol c.args.kids.now c.args.search.now c.requires.given c.requires.going c.requires.stored c.requires.is_step

pub returns-then-rejects-clause-after : goal.returns-then-rejects-clause-after
returns-then-rejects-clause-after g c =
    let none : ¬ IsKeptOver (Holds c.args.orders.now.left) (Holds c.args.orders.now.right) (entries_of c.args.search.now) (Kept c.args.search.now.entries) c.args.state (Has (row_at c.args.search.now.store c.args.set)) = λ h. let e : false ≡ true = c.if-is_covered.ensures.1 h in absurd cc in
    rejected (g.J.Joint.left c.args.j.now) (g.J.Joint.right c.args.j.now) c.args.orders.now c.args.budget c.args.state c.args.set c.args.symbol c.args.kids.now c.args.search.now c.requires.given c.requires.going c.requires.stored c.requires.is_step c.add.new.self none c.in_ok-add.ensures (c.if-rejects.ensures.0 refl)

pub returns-then-rejects-clause-moves : goal.returns-then-rejects-clause-moves
returns-then-rejects-clause-moves g c =
    let none : ¬ IsKeptOver (Holds c.args.orders.now.left) (Holds c.args.orders.now.right) (entries_of c.args.search.now) (Kept c.args.search.now.entries) c.args.state (Has (row_at c.args.search.now.store c.args.set)) = λ h. let e : false ≡ true = c.if-is_covered.ensures.1 h in absurd cc in
    moved (g.J.Joint.left c.args.j.now) (g.J.Joint.right c.args.j.now) c.args.orders.now c.args.budget c.args.state c.args.set c.args.symbol c.args.kids.now c.args.search.now c.requires.given c.requires.going c.requires.stored c.requires.is_step c.add.new.self none c.in_ok-add.ensures

pub returns-then-rejects-clause-covered : goal.returns-then-rejects-clause-covered
returns-then-rejects-clause-covered g c =
    let none : ¬ IsKeptOver (Holds c.args.orders.now.left) (Holds c.args.orders.now.right) (entries_of c.args.search.now) (Kept c.args.search.now.entries) c.args.state (Has (row_at c.args.search.now.store c.args.set)) = λ h. let e : false ≡ true = c.if-is_covered.ensures.1 h in absurd cc in
    covered (g.J.Joint.left c.args.j.now) (g.J.Joint.right c.args.j.now) c.args.orders.now c.args.budget c.args.state c.args.set c.args.symbol c.args.kids.now c.args.search.now c.requires.given c.requires.going c.requires.stored c.requires.is_step c.add.new.self none c.in_ok-add.ensures

pub returns-then-len-budget-clause-after : goal.returns-then-len-budget-clause-after
returns-then-len-budget-clause-after g c =
    let none : ¬ IsKeptOver (Holds c.args.orders.now.left) (Holds c.args.orders.now.right) (entries_of c.args.search.now) (Kept c.args.search.now.entries) c.args.state (Has (row_at c.args.search.now.store c.args.set)) = λ h. let e : false ≡ true = c.if-is_covered.ensures.1 h in absurd cc in
    full (g.J.Joint.left c.args.j.now) (g.J.Joint.right c.args.j.now) c.args.orders.now c.args.budget c.args.state c.args.set c.args.symbol c.args.kids.now c.args.search.now c.requires.given c.requires.going c.requires.stored c.requires.is_step c.add.new.self none c.in_ok-add.ensures (λ h. let e : false ≡ true = c.if-rejects.ensures.1 h in absurd cc) (let v = c.len.ensures.value in omega arith)

pub returns-then-len-budget-clause-moves : goal.returns-then-len-budget-clause-moves
returns-then-len-budget-clause-moves g c =
    let none : ¬ IsKeptOver (Holds c.args.orders.now.left) (Holds c.args.orders.now.right) (entries_of c.args.search.now) (Kept c.args.search.now.entries) c.args.state (Has (row_at c.args.search.now.store c.args.set)) = λ h. let e : false ≡ true = c.if-is_covered.ensures.1 h in absurd cc in
    moved (g.J.Joint.left c.args.j.now) (g.J.Joint.right c.args.j.now) c.args.orders.now c.args.budget c.args.state c.args.set c.args.symbol c.args.kids.now c.args.search.now c.requires.given c.requires.going c.requires.stored c.requires.is_step c.add.new.self none c.in_ok-add.ensures

pub returns-then-len-budget-clause-covered : goal.returns-then-len-budget-clause-covered
returns-then-len-budget-clause-covered g c =
    let none : ¬ IsKeptOver (Holds c.args.orders.now.left) (Holds c.args.orders.now.right) (entries_of c.args.search.now) (Kept c.args.search.now.entries) c.args.state (Has (row_at c.args.search.now.store c.args.set)) = λ h. let e : false ≡ true = c.if-is_covered.ensures.1 h in absurd cc in
    covered (g.J.Joint.left c.args.j.now) (g.J.Joint.right c.args.j.now) c.args.orders.now c.args.budget c.args.state c.args.set c.args.symbol c.args.kids.now c.args.search.now c.requires.given c.requires.going c.requires.stored c.requires.is_step c.add.new.self none c.in_ok-add.ensures

pub returns-clause-after : goal.returns-clause-after
returns-clause-after g c =
    let none : ¬ IsKeptOver (Holds c.args.orders.now.left) (Holds c.args.orders.now.right) (entries_of c.args.search.now) (Kept c.args.search.now.entries) c.args.state (Has (row_at c.args.search.now.store c.args.set)) = λ h. let e : false ≡ true = c.if-is_covered.ensures.1 h in absurd cc in
    goes_on (g.J.Joint.left c.args.j.now) (g.J.Joint.right c.args.j.now) c.args.orders.now c.args.budget c.args.state c.args.set c.args.symbol c.args.kids.now c.args.search.now c.requires.given c.requires.going c.requires.stored c.requires.is_step c.add.new.self none c.in_ok-add.ensures (λ h. let e : false ≡ true = c.if-rejects.ensures.1 h in absurd cc) (let v = c.len.ensures.value in omega arith)

pub returns-clause-moves : goal.returns-clause-moves
returns-clause-moves g c =
    let none : ¬ IsKeptOver (Holds c.args.orders.now.left) (Holds c.args.orders.now.right) (entries_of c.args.search.now) (Kept c.args.search.now.entries) c.args.state (Has (row_at c.args.search.now.store c.args.set)) = λ h. let e : false ≡ true = c.if-is_covered.ensures.1 h in absurd cc in
    moved (g.J.Joint.left c.args.j.now) (g.J.Joint.right c.args.j.now) c.args.orders.now c.args.budget c.args.state c.args.set c.args.symbol c.args.kids.now c.args.search.now c.requires.given c.requires.going c.requires.stored c.requires.is_step c.add.new.self none c.in_ok-add.ensures

pub returns-clause-covered : goal.returns-clause-covered
returns-clause-covered g c =
    let none : ¬ IsKeptOver (Holds c.args.orders.now.left) (Holds c.args.orders.now.right) (entries_of c.args.search.now) (Kept c.args.search.now.entries) c.args.state (Has (row_at c.args.search.now.store c.args.set)) = λ h. let e : false ≡ true = c.if-is_covered.ensures.1 h in absurd cc in
    covered (g.J.Joint.left c.args.j.now) (g.J.Joint.right c.args.j.now) c.args.orders.now c.args.budget c.args.state c.args.set c.args.symbol c.args.kids.now c.args.search.now c.requires.given c.requires.going c.requires.stored c.requires.is_step c.add.new.self none c.in_ok-add.ensures
