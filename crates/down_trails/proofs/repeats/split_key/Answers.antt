use Rattle.std.proofs.Common.{◌≡◌, ◌↔◌, ◌++◌, ◌∷◌, [], inl, inr, ℕ, List, length, refl, sym, ap, subst, ◌∙◌, arith, append_assoc, length-append}
use Rattle.std.proofs.lemmas.Option.{slice_get_read, slice_get_within}
use Rattle.tree_definitions.specs.Automaton.{Rule}
use Rattle.tree_definitions.specs.Cover.{Pair}
use Rattle.tree_definitions.specs.DownTrail.{HasPair, SentBy}
use Rattle.tree_definitions.specs.Relation.{Has, IsAt}
use Rattle.ta_model.specs.Tuples.{kids_of}
use Rattle.listed_pairs.specs.DownEntries.{entries_of, entry_of}
use Rattle.down_conditions.proofs.Pushed.{at_push}
use Rattle.down_trails.specs.Keys.{AreMembers, parts_of}
use Rattle.down_trails.proofs.Alike.{fits_few, members_like, parts_pushed}
use Rattle.down_trails.proofs.Splitting.{at_map, has_pair_once, kids_of_rule, length_entries, row_sent, rule_read}
use Rattle.down_trails.proofs.repeats.split_key.Goals as goal

pub pair_key-requires : goal.pair_key-requires
pair_key-requires c =
    let entries = c.args.entries.now in
    let d = c.requires.divided.1 in
    let this = c.index-entries-e.result in
    let w = slice_get_within (entries_of entries) c.args.e d.2.0 d.2.1 in
    let same = length_entries entries in
    let at = slice_get_read entries (length entries) c.args.e this refl (omega (arith, w, same)) c.index-entries-e.is in
    fits_few c.args.a.now c.args.b.now (entries_of entries) c.requires.fits c.states-states.ensures.listed.few_states c.args.e (entry_of this) c.in-Some.pair.now (at_map entry_of entries c.args.e this at) c.in-Some.ensures.some

pub loop-i-preserved : goal.loop-i-preserved
loop-i-preserved c =
    let inv = c.loop-i.invariant in
    let sets = inv.0 in
    let m = c.in_ok-members.members in
    let tuples = kids_of c.in_ok-tuples.tuples.items in
    let choice = c.args.choice.now in
    let row = c.in_ok-row.row in
    let sent : (s : ℕ) → Has row s ↔ SentBy tuples choice c.loop-i.i s = row_sent c.deref.result.now c.in_ok-tuples.tuples.items c.deref.ensures.value row choice c.loop-i.i c.in_ok-row.ensures.members in
    let here : AreMembers (SentBy tuples choice c.loop-i.i) m.items = members_like (Has row) (SentBy tuples choice c.loop-i.i) m.items sent c.in_ok-members.ensures in (
      sets ++ m.items ∷ [],
      parts_pushed c.loop-i.key.items c.push-in-loop-i.new.self.items m c.in_ok-push-2.ensures.items ∙ ap (λ (xs : List (List ℕ)). xs ++ m.items ∷ []) inv.1 ∙ append_assoc (parts_of c.push.new.self) sets (m.items ∷ []),
      (let long = length-append sets (m.items ∷ []) in let before = inv.2 in omega (arith, long, before)),
      λ place ms at. elim (at_push sets m.items place ms at) [
        | inl h ↦ inv.3 place ms h
        | inr h ↦ subst (λ z. AreMembers (SentBy tuples choice z) ms) (sym (h.0 ∙ inv.2)) (subst (λ z. AreMembers (SentBy tuples choice c.loop-i.i) z) (sym h.1) here)
      ],
    )

pub returns : goal.returns
returns c =
    let A = c.args.a.now in
    let entries = c.args.entries.now in
    let all = entries_of entries in
    let e = c.args.e in
    let r = c.args.r in
    let d = c.requires.divided.1 in
    let this = c.index-entries-e.result in
    let w = slice_get_within all e d.2.0 d.2.1 in
    let same = length_entries entries in
    let at = slice_get_read entries (length entries) e this refl (omega (arith, w, same)) c.index-entries-e.is in
    let p = c.in-Some.pair.now in
    let named : HasPair all e p = (entry_of this, at_map entry_of entries e this at, c.in-Some.ensures.some) in
    let of = c.in_ok-tuples.ensures.split.0 in
    let tuples = c.in_ok-tuples.ensures.split.1 in
    let once : p ≡ of.pair = has_pair_once all e p of.pair named of.named in
    let key = c.in_ok-key.ensures in
    let inv = c.loop-i.invariant in
    let rule = c.index-rules-r.result in
    let rat : IsAt A.rules r rule = rule_read A c.rules.result.now r rule c.rules.ensures.value d.1 d.3 c.index-rules-r.is in
    let kids = ap (λ (ks : List ℕ). length ks) (kids_of_rule A c.args.b.now all e r of rule rat) in
    let its = ap (λ (ks : List ℕ). length ks) (c.as_slice-kids.ensures ∙ ap (λ (x : Rule). x.kids) c.rule.view_is) in
    let past = c.loop-i-test.false in
    let end = c.loop-i.auto.i-end in
    let before = inv.2 in
    record {
      of = of;
      members = key.members;
      sets = inv.0;
      set = subst (λ (x : Pair). AreMembers (Has x.set) key.members) once key.set;
      count = omega (arith, before, kids, its, past, end);
      each = λ place ms mat. subst (λ (ts : List (List ℕ)). AreMembers (SentBy ts c.args.choice.now place) ms) (sym tuples) (inv.3 place ms mat);
      key_is = inv.1 ∙ ap (λ (xs : List (List ℕ)). xs ++ inv.0) (parts_pushed c.in_ok-key.key.items c.push.new.self.items c.in_ok-named.named c.in_ok-push.ensures.items)
          ∙ ap (λ (xs : List (List ℕ)). (xs ++ c.in_ok-named.named.items ∷ []) ++ inv.0) key.key_is
          ∙ ap (λ (x : List ℕ). (p.state ∷ []) ∷ key.members ∷ x ∷ inv.0) c.in_ok-named.ensures.items
          ∙ ap (λ (x : Pair). (x.state ∷ []) ∷ key.members ∷ (r ∷ []) ∷ inv.0) once;
    }
