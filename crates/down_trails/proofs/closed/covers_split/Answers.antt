use Rattle.std.proofs.Common.{◌≡◌, ◌≢◌, ◌↔◌, ℕ, true, false, List, length, get_or, refl, sym, ap, ◌∙◌, subst, arith, ⊎_elim}
use Rattle.std.proofs.lemmas.Bool.{cases_eq}
use Rattle.std.proofs.lemmas.Option.{slice_get-get_or, slice_get_within}
use Rattle.tree_definitions.specs.Automaton.{Rule}
use Rattle.tree_definitions.specs.DownCert.{CoversAlone}
use Rattle.tree_definitions.specs.DownTrail.{SentBy}
use Rattle.tree_definitions.specs.Relation.{Has, Holds, IsAt}
use Rattle.tree_definitions.proofs.Members.{at_unique}
use Rattle.ta_model.specs.Tuples.{kids_of}
use Rattle.listed_pairs.specs.DownEntries.{entries_of}
use Rattle.down_trails.proofs.Splitting.{kids_of_rule, row_sent, rule_kid, rule_read, tuples_same}
use Rattle.down_trails.proofs.closed.covers_split.Goals as goal

pub covers-requires-clause-state : goal.covers-requires-clause-state
covers-requires-clause-state c =
    let A = c.args.a.now in
    let i = c.loop-i.i in
    let slice = c.as_slice-kids.result.now in
    let rule = c.index-rules-r.result in
    let at : IsAt A.rules c.args.r rule = rule_read A c.rules.result.now c.args.r rule c.rules.ensures.value c.requires.divided.1.1 c.requires.divided.1.3 c.index-rules-r.is in
    let its = c.as_slice-kids.ensures ∙ ap (λ (x : Rule). x.kids) c.rule.view_is in
    let kid : IsAt rule.kids i (get_or slice i 0) = subst (λ (ks : List ℕ). IsAt ks i (get_or slice i 0)) its (slice_get-get_or slice i 0 c.loop-i-test.true) in
    rule_kid A c.rules.ensures.listed.automaton c.args.r rule at i (get_or slice i 0) kid

pub covers-requires-clause-both : goal.covers-requires-clause-both
covers-requires-clause-both c =
    let states = ap (λ (xs : List (List ℕ)). length xs) c.states.ensures.value in
    let long = c.in_ok-row.ensures.long in
    let both = c.requires.both in
    omega (arith, states, long, both)

pub returns-then-branch : goal.returns-then-branch
returns-then-branch c =
    let A = c.args.a.now in
    let i = c.loop-i.i in
    let choice = c.args.choice.now in
    let slice = c.as_slice-kids.result.now in
    let rule = c.index-rules-r.result in
    let at : IsAt A.rules c.args.r rule = rule_read A c.rules.result.now c.args.r rule c.rules.ensures.value c.requires.divided.1.1 c.requires.divided.1.3 c.index-rules-r.is in
    let its = c.as_slice-kids.ensures ∙ ap (λ (x : Rule). x.kids) c.rule.view_is in
    let of = c.in_ok-tuples.ensures.split.0 in
    let same = c.in_ok-tuples.ensures.split.1 in
    let kids = kids_of_rule A c.args.b.now (entries_of c.args.entries.now) c.args.e c.args.r of rule at in
    let kid : IsAt of.kids i (get_or slice i 0) = subst (λ (ks : List ℕ). IsAt ks i (get_or slice i 0)) (its ∙ sym kids) (slice_get-get_or slice i 0 c.loop-i-test.true) in
    let row = c.in_ok-row.row in
    let sent : (s : ℕ) → Has row s ↔ SentBy (kids_of c.in_ok-tuples.tuples.items) choice i s = row_sent c.deref.result.now c.in_ok-tuples.tuples.items c.deref.ensures.value row choice i c.in_ok-row.ensures.members in
    let members : (s : ℕ) → Has row s ↔ SentBy of.tuples choice i s = subst (λ (ts : List (List ℕ)). (s : ℕ) → Has row s ↔ SentBy ts choice i s) (sym same) sent in (
      λ t. let h = c.in_ok-covers.ensures.0 c.if-branch.true in (of, i, get_or slice i 0, kid, (h.0, (members h.0).0 h.1, h.2)),
      λ h. refl,
    )

pub loop-i-preserved : goal.loop-i-preserved
loop-i-preserved c place q l at cov =
    let R = Holds c.args.both.now in
    let i = c.loop-i.i in
    let choice = c.args.choice.now in
    let slice = c.as_slice-kids.result.now in
    let row = c.in_ok-row.row in
    let tuples = kids_of c.in_ok-tuples.tuples.items in
    let sent : (s : ℕ) → Has row s ↔ SentBy tuples choice i s = row_sent c.deref.result.now c.in_ok-tuples.tuples.items c.deref.ensures.value row choice i c.in_ok-row.ensures.members in
    ⊎_elim
    (λ (e : place ≡ i).
    let which : q ≡ get_or slice i 0 = at_unique slice i q (get_or slice i 0) (subst (λ z. IsAt slice z q) e at) (slice_get-get_or slice i 0 c.loop-i-test.true) in
    let here : CoversAlone c.args.a.now R (get_or slice i 0) (SentBy tuples choice i) = subst (λ z. CoversAlone c.args.a.now R z (SentBy tuples choice i)) which (subst (λ z. CoversAlone c.args.a.now R q (SentBy tuples choice z)) e cov) in
    let b : true ≡ false = sym (c.in_ok-covers.ensures.1 (here.0, (sent here.0).1 here.1, here.2)) ∙ c.if-branch.false in
    cc)
    (λ (d : place ≢ i). c.loop-i.invariant place q (omega (arith, l, d)) at cov)
    (cases_eq place i)

pub returns : goal.returns
returns c = (
  λ t. absurd cc,
  λ h.
      let A = c.args.a.now in
      let R = Holds c.args.both.now in
      let all = entries_of c.args.entries.now in
      let choice = c.args.choice.now in
      let slice = c.as_slice-kids.result.now in
      let rule = c.index-rules-r.result in
      let at : IsAt A.rules c.args.r rule = rule_read A c.rules.result.now c.args.r rule c.rules.ensures.value c.requires.divided.1.1 c.requires.divided.1.3 c.index-rules-r.is in
      let its = c.as_slice-kids.ensures ∙ ap (λ (x : Rule). x.kids) c.rule.view_is in
      let kids = kids_of_rule A c.args.b.now all c.args.e c.args.r h.0 rule at in
      let there : IsAt slice h.1 h.2 = subst (λ (ks : List ℕ). IsAt ks h.1 h.2) (kids ∙ sym its) h.3 in
      let w = slice_get_within slice h.1 h.2 there in
      let same = tuples_same A c.args.b.now all c.args.e c.args.r h.0 c.in_ok-tuples.ensures.split.0 c.rules.ensures.listed.narrow ∙ c.in_ok-tuples.ensures.split.1 in
      absurd (c.loop-i.invariant h.1 h.2 (omega (arith, w, c.loop-i-test.false)) there (subst (λ (ts : List (List ℕ)). CoversAlone A R h.2 (SentBy ts choice h.1)) same h.4)),
)
