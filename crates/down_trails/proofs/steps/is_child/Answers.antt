use Rattle.std.proofs.Common.{◌≡◌, ◌↔◌, ℕ, List, length, get_or, sym, ap, ◌∙◌, subst, arith}
use Rattle.std.specs.Prelude.{IsTrue}
use Rattle.std.proofs.lemmas.Option.{slice_get-get_or, slice_get_within, get_or_from_slice_get}
use Rattle.tree_definitions.specs.Automaton.{Rule}
use Rattle.tree_definitions.specs.Cover.{Pair}
use Rattle.tree_definitions.specs.DownTrail.{SentBy}
use Rattle.tree_definitions.specs.Relation.{IsAt, Has}
use Rattle.listed_pairs.specs.DownEntries.{entries_of}
use Rattle.down_trails.proofs.Splitting.{kids_of_rule, row_sent, rule_read}
use Rattle.down_trails.proofs.Stepping.{child_by_row}
use Rattle.down_trails.proofs.steps.is_child.Goals as goal

pub returns-then-at-kids : goal.returns-then-at-kids
returns-then-at-kids c = (
  λ t. absurd cc,
  λ h.
      let A = c.args.a.now in
      let rule = c.index-rules-r.result in
      let at : IsAt A.rules c.args.r rule = rule_read A c.rules.result.now c.args.r rule c.rules.ensures.value c.requires.divided.1.1 c.requires.divided.1.3 c.index-rules-r.is in
      let kids = kids_of_rule A c.args.b.now (entries_of c.args.entries.now) c.args.e c.args.r h.0 rule at in
      let w = slice_get_within rule.kids c.args.place c.args.pair.now.state (subst (λ (ks : List ℕ). IsAt ks c.args.place c.args.pair.now.state) kids h.1) in
      let long = ap (λ (ks : List ℕ). length ks) (c.as_slice-kids.ensures ∙ ap (λ (x : Rule). x.kids) c.rule.view_is) in
      let past = c.if-at-kids.true in
      absurd (omega (arith, w, long, past)),
)

pub returns-then-kids-at : goal.returns-then-kids-at
returns-then-kids-at c = (
  λ t. absurd cc,
  λ h.
      let A = c.args.a.now in
      let rule = c.index-rules-r.result in
      let state = c.args.pair.now.state in
      let at : IsAt A.rules c.args.r rule = rule_read A c.rules.result.now c.args.r rule c.rules.ensures.value c.requires.divided.1.1 c.requires.divided.1.3 c.index-rules-r.is in
      let kids = kids_of_rule A c.args.b.now (entries_of c.args.entries.now) c.args.e c.args.r h.0 rule at in
      let its = c.as_slice-kids.ensures ∙ ap (λ (x : Rule). x.kids) c.rule.view_is in
      let here : IsAt c.as_slice-kids.result.now c.args.place state = subst (λ (ks : List ℕ). IsAt ks c.args.place state) (kids ∙ sym its) h.1 in
      let read = get_or_from_slice_get c.as_slice-kids.result.now c.args.place state 0 here in
      absurd (c.if-kids-at.true (read ∙ sym (ap (λ (x : Pair). x.state) c.pair.view_is))),
)

pub returns : goal.returns
returns c =
    let A = c.args.a.now in
    let B = c.args.b.now in
    let all = entries_of c.args.entries.now in
    let e = c.args.e in
    let r = c.args.r in
    let choice = c.args.choice.now in
    let place = c.args.place in
    let pair = c.args.pair.now in
    let rule = c.index-rules-r.result in
    let at : IsAt A.rules r rule = rule_read A c.rules.result.now r rule c.rules.ensures.value c.requires.divided.1.1 c.requires.divided.1.3 c.index-rules-r.is in
    let its = c.as_slice-kids.ensures ∙ ap (λ (x : Rule). x.kids) c.rule.view_is in
    let state = ap (λ (x : Pair). x.state) c.pair.view_is in
    let set = ap (λ (x : Pair). x.set) c.pair.view_is in
    let read : IsAt c.as_slice-kids.result.now place (get_or c.as_slice-kids.result.now place 0) = slice_get-get_or c.as_slice-kids.result.now place 0 c.if-at-kids.false in
    let kid : IsAt rule.kids place pair.state = subst (λ (ks : List ℕ). IsAt ks place pair.state) its (subst (λ q. IsAt c.as_slice-kids.result.now place q) (c.if-kids-at.false ∙ state) read) in
    let of = c.in_ok-tuples.ensures.split.0 in
    let same = c.in_ok-tuples.ensures.split.1 in
    let row = c.in_ok-row.row in
    let members : (s : ℕ) → Has row s ↔ SentBy of.tuples choice place s =
    subst (λ (ts : List (List ℕ)). (s : ℕ) → Has row s ↔ SentBy ts choice place s) (sym same) (row_sent c.deref.result.now c.in_ok-tuples.tuples.items c.deref.ensures.value row choice place c.in_ok-row.ensures.members) in
    let states = ap (λ (xs : List (List ℕ)). length xs) c.states.ensures.value in
    let long : length row ≡ length pair.set = c.in_ok-row.ensures.long ∙ states ∙ sym c.requires.pair.set in
    child_by_row A B all e r of choice place row members c.rules.ensures.listed.narrow (IsTrue c.equals.result) pair rule at kid long (λ t. c.equals.ensures.0 t ∙ set, λ q. c.equals.ensures.1 (q ∙ sym set))
