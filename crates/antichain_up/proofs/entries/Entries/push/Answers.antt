use Rattle.std.proofs.Common.{◌≡◌, ◌<◌, ◌≤◌, ◌+◌, ◌∙◌, ◌∷◌, ◌++◌, ℕ, List, [], true, get_or, length, set, sym, ap, subst, arith, rules}
use Rattle.std.proofs.lemmas.List.{length-set, length_push}
use Rattle.std.proofs.lemmas.List.Elements.{All-push}
use Rattle.tree_definitions.specs.Relation.{Row}
use Rattle.antichain_up.specs.ByState.{AreByState}
use Rattle.antichain_up.specs.Entries.{EntryList, EntryRow, IsEntryList}
use Rattle.antichain_up.proofs.Grouped.{added_by_state, with_number}
use Rattle.antichain_up.proofs.entries.Entries.push.Goals as goal

pub invariant_of-self-in-Ok-add : goal.invariant_of-self-in-Ok-add
invariant_of-self-in-Ok-add c =
    let lists = c.self.inside.by_state in
    let list : EntryList = record { states = length lists; rows = c.self.inside.entries.items; kept = c.self.inside.kept.items } in
    let entry : EntryRow = record { state = c.args.state; set = c.args.set; symbol = c.args.symbol; kids = c.in_ok-kids.kids.items } in
    let valid = c.self.invariant.0 in
    let within : c.args.state < length lists = subst (λ n. c.args.state < n) (sym (ap (λ (s : EntryList). s.states) c.self.view_is)) c.requires.state in
    let by_state = added_by_state list lists entry valid.flags c.self.invariant.1 within in
    let rows : c.push.new.self.items ≡ list.rows ++ entry ∷ [] = c.in_ok-push.ensures.items in
    let kept : c.push-2.new.self.items ≡ list.kept ++ true ∷ [] = c.in-Ok.ensures.items in
    let number : c.len-number.result ≡ length list.rows = search rules in
    let grown : c.add.new.self ≡ with_number list lists entry = c.in-Ok-add.ensures.ok ∙ ap (λ n. set lists c.args.state (get_or lists c.args.state [] ++ n ∷ [])) number in
    let states : length c.add.new.self ≡ length lists = ap length grown ∙ length-set lists c.args.state (get_or lists c.args.state [] ++ length list.rows ∷ []) in
    let room : length list.rows < 4294967295 = subst (λ (s : EntryList). length s.rows < 4294967295) (sym c.self.view_is) c.requires.room in
    let few : length (list.rows ++ entry ∷ []) ≤ 4294967295 = omega (arith, room, length_push list.rows entry) in
    let P : ℕ → List EntryRow → Row → List (List ℕ) → Type 0 = λ n rs ks ls.
    IsEntryList (record { states = n; rows = rs; kept = ks }) × AreByState (record { states = n; rows = rs; kept = ks }) ls in
    let made : P (length lists) (list.rows ++ entry ∷ []) (list.kept ++ true ∷ []) (with_number list lists entry) = (
      record {
        flags = length_push list.kept true ∙ ap (λ n. n + 1) valid.flags ∙ sym (length_push list.rows entry);
        states = All-push (λ e. e.state < length lists) list.rows entry valid.states within;
        few = few;
      },
      by_state,
    ) in
    subst (λ n. P n c.push.new.self.items c.push-2.new.self.items c.add.new.self) (sym states)
    (subst (λ rs. P (length lists) rs c.push-2.new.self.items c.add.new.self) (sym rows)
    (subst (λ ks. P (length lists) (list.rows ++ entry ∷ []) ks c.add.new.self) (sym kept)
    (subst (λ ls. P (length lists) (list.rows ++ entry ∷ []) (list.kept ++ true ∷ []) ls) (sym grown) made)))
