use Rattle.std.proofs.Common.{◌≡◌, ◌∙◌, ◌++◌, ◌<◌, ℕ, List, drop, get_or, length, take, sym, subst}
use Rattle.std.proofs.lemmas.List.{take_at}
use Rattle.tree_definitions.specs.Relation.{Row}
use Rattle.antichain_up.specs.ByState.{AreByState, Clears, Keeps, TakesOut}
use Rattle.antichain_up.specs.Entries.{EntryList, EntryRow, IsEntryList}
use Rattle.antichain_up.proofs.Grouped.{numbers_within, still_by_state, taken_out}
use Rattle.antichain_up.proofs.Covered.{IsOver}
use Rattle.antichain_up.proofs.entries.Entries.take_out.Goals as goal

pub clear-requires-clause-numbers : goal.clear-requires-clause-numbers
clear-requires-clause-numbers c i d l =
    let lists = c.self.inside.by_state in
    let list : EntryList = record { states = length lists; rows = c.self.inside.entries.items; kept = c.self.inside.kept.items } in
    let w = numbers_within list lists c.args.state c.at-numbers.result.now c.self.invariant.1 c.at-numbers.ensures i d l in
    let P : List EntryRow → Type 0 = λ rows. get_or c.at-numbers.result.now i d < length rows in
    subst P (sym c.deref.ensures.value) w

-- the entries before
abbrev before : goal.After-keep → EntryList
before c = record { states = length c.self.inside.by_state; rows = c.self.inside.entries.items; kept = c.self.inside.kept.items }

abbrev Kind : goal.After-keep → EntryRow → Type 0
Kind c = IsOver c.args.store.now c.args.orders.now 0 c.args.set

clears : (c : goal.After-keep) → Clears (before c).rows c.at-numbers.result.now (Kind c) (before c).kept c.clear.new.kept
clears c =
    let P : List EntryRow → Row → Type 0 = λ rows kept. Clears rows c.at-numbers.result.now (Kind c) kept c.clear.new.kept in
    subst (λ rows. P rows (before c).kept) c.deref.ensures.value (subst (λ kept. P c.deref.result.now kept) c.deref_mut.ensures.value c.clear.ensures)

-- the flags after
flags : (c : goal.After-keep) → take c.self.inside.kept.len (c.clear.new.kept ++ drop (length c.clear.new.kept) c.self.inside.kept.items) ≡ c.clear.new.kept
flags c = take_at c.clear.new.kept (drop (length c.clear.new.kept) c.self.inside.kept.items) c.self.inside.kept.len (c.clear.ensures.many ∙ c.deref_mut.ensures.len)

keeps : (c : goal.After-keep) → Keeps c.clear.new.kept c.args.state c.self.inside.by_state c.keep.new.self
keeps c = subst (λ kept. Keeps kept c.args.state c.self.inside.by_state c.keep.new.self) (c.deref-2.ensures.value ∙ flags c) c.keep.ensures

pub invariant_of-self : goal.invariant_of-self
invariant_of-self c =
    let list = before c in
    let P : ℕ → Row → Type 0 = λ n kept.
    IsEntryList (record { states = n; rows = list.rows; kept = kept }) × AreByState (record { states = n; rows = list.rows; kept = kept }) c.keep.new.self in
    let valid = c.self.invariant.0 in
    subst (λ n. P n (take c.self.inside.kept.len (c.clear.new.kept ++ drop (length c.clear.new.kept) c.self.inside.kept.items))) (sym (keeps c).many)
    (subst (λ kept. P list.states kept) (sym (flags c)) (
      record { flags = (clears c).many ∙ valid.flags; states = valid.states; few = valid.few },
      still_by_state list c.clear.new.kept c.self.inside.by_state c.keep.new.self c.args.state c.at-numbers.result.now (Kind c) valid.flags c.self.invariant.1 c.at-numbers.ensures (clears c) (keeps c),
    ))

pub returns : goal.returns
returns c =
    let list = before c in
    let Q : ℕ → Row → Type 0 = λ n kept. TakesOut (λ e. (e.state ≡ c.args.state) × Kind c e) list (record { states = n; rows = list.rows; kept = kept }) in
    let out = subst (λ n. Q n (take c.self.inside.kept.len (c.clear.new.kept ++ drop (length c.clear.new.kept) c.self.inside.kept.items))) (sym (keeps c).many)
    (subst (λ kept. Q list.states kept) (sym (flags c))
    (taken_out list c.clear.new.kept c.self.inside.by_state c.keep.new.self c.args.state c.at-numbers.result.now (Kind c) c.self.invariant.0.flags c.self.invariant.1 c.at-numbers.ensures (clears c) (keeps c))) in
    subst (λ (old : EntryList). TakesOut (λ e. (e.state ≡ c.args.state) × Kind c e) old (record {
      states = length c.keep.new.self;
      rows = list.rows;
      kept = take c.self.inside.kept.len (c.clear.new.kept ++ drop (length c.clear.new.kept) c.self.inside.kept.items);
    })) c.self.view_is out
