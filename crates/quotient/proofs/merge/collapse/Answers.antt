use Rattle.std.proofs.Common.{◌≡◌, length, map, sym, ◌∙◌, ap, subst, refl}
use Rattle.std.specs.Prelude.{slice_index}
use Rattle.std.specs.List.{AllZip}
use Rattle.tree_definitions.specs.Automaton.{Automaton}
use Rattle.tree_definitions.specs.Canonical.{canon}
use Rattle.tree_definitions.specs.Relation.{Holds, IsAt}
use Rattle.ta_model.specs.Listing.{IsListed}
use Rattle.quotient.specs.Grouping.{AreLeaders, LeadThemselves, IsNumbering, HasOnce, merged}
use Rattle.quotient.proofs.ClassSteps.{lead_themselves}
use Rattle.quotient.proofs.Merging.{merged_with, merged_listed, merged_collapses, same_lists}
use Rattle.quotient.proofs.merge.collapse.Goals as goal

pub numbering-requires-clause-themselves : goal.numbering-requires-clause-themselves
numbering-requires-clause-themselves c =
    let m = c.args.matrix.now in
    let leaders = c.in_ok-leaders.leaders.items in
    subst LeadThemselves (sym c.deref.ensures.value) (lead_themselves (Holds m) c.requires.transitive (length m) leaders c.in_ok-leaders.ensures.leaders)

pub new-merged-requires : goal.new-merged-requires
new-merged-requires c =
    let A = c.args.a.now in
    let D = Holds c.args.matrix.now in
    let leaders = c.in_ok-leaders.leaders.items in
    let firsts = c.in_ok-firsts.firsts.items in
    let classes = c.in_ok-firsts.classes.items in
    let names = c.in_ok-names.names.items in
    let fs = c.in_ok-finals.finals.items in
    let rs = c.in_ok-rules.rules.items in
    let led : AreLeaders D (length A.states) leaders = subst (λ k. AreLeaders D k leaders) c.requires.size c.in_ok-leaders.ensures.leaders in
    let nb : IsNumbering leaders firsts classes (length A.states) =
    subst (IsNumbering leaders firsts classes) led.long (subst (λ l. IsNumbering l firsts classes (length l)) c.deref.ensures.value c.in_ok-firsts.ensures) in
    let named : AllZip (IsAt A.states) firsts names = rw (c.states.ensures.value, c.deref-2.ensures.value) at c.in_ok-names.ensures in
    let finals : HasOnce (map (slice_index classes) A.finals) fs =
    subst (λ xs. HasOnce xs fs)
    (c.in_ok-merged_states.ensures ∙ ap (λ l. map (slice_index l) c.finals.result.now) c.deref-3.ensures.value ∙ ap (map (slice_index classes)) c.finals.ensures.value) c.in_ok-finals.ensures in
    let rules : HasOnce (map (merged classes) A.rules) rs =
    subst (λ xs. HasOnce xs rs)
    (c.in_ok-merged_rules.ensures ∙ ap (λ l. map (merged l) c.rules.result.now) c.deref-4.ensures.value ∙ ap (map (merged classes)) c.rules.ensures.value) c.in_ok-rules.ensures in
    let made : Automaton = record { bits = 0; name = c.in_ok-name.name; symbols = c.in_ok-symbols.symbols.items; states = names; finals = fs; rules = rs } in
    let is : made ≡ merged_with A names fs rs =
    same_lists made (merged_with A names fs rs) refl (c.in_ok-name.ensures.cases ∙ c.name.ensures.value) (c.in_ok-symbols.ensures.items_if_clones_equal (λ x y same. same) ∙ c.symbols.ensures.value) refl refl refl in
    subst IsListed (sym is) (merged_listed A c.name.ensures.listed D c.requires.transitive leaders firsts classes names fs rs led nb named finals rules)

pub returns-clause-automaton : goal.returns-clause-automaton
returns-clause-automaton c =
    let A = c.args.a.now in
    let D = Holds c.args.matrix.now in
    let leaders = c.in_ok-leaders.leaders.items in
    let firsts = c.in_ok-firsts.firsts.items in
    let classes = c.in_ok-firsts.classes.items in
    let names = c.in_ok-names.names.items in
    let fs = c.in_ok-finals.finals.items in
    let rs = c.in_ok-rules.rules.items in
    let led : AreLeaders D (length A.states) leaders = subst (λ k. AreLeaders D k leaders) c.requires.size c.in_ok-leaders.ensures.leaders in
    let nb : IsNumbering leaders firsts classes (length A.states) =
    subst (IsNumbering leaders firsts classes) led.long (subst (λ l. IsNumbering l firsts classes (length l)) c.deref.ensures.value c.in_ok-firsts.ensures) in
    let named : AllZip (IsAt A.states) firsts names = rw (c.states.ensures.value, c.deref-2.ensures.value) at c.in_ok-names.ensures in
    let finals : HasOnce (map (slice_index classes) A.finals) fs =
    subst (λ xs. HasOnce xs fs)
    (c.in_ok-merged_states.ensures ∙ ap (λ l. map (slice_index l) c.finals.result.now) c.deref-3.ensures.value ∙ ap (map (slice_index classes)) c.finals.ensures.value) c.in_ok-finals.ensures in
    let rules : HasOnce (map (merged classes) A.rules) rs =
    subst (λ xs. HasOnce xs rs)
    (c.in_ok-merged_rules.ensures ∙ ap (λ l. map (merged l) c.rules.result.now) c.deref-4.ensures.value ∙ ap (map (merged classes)) c.rules.ensures.value) c.in_ok-rules.ensures in
    let made : Automaton = record { bits = 0; name = c.in_ok-name.name; symbols = c.in_ok-symbols.symbols.items; states = names; finals = fs; rules = rs } in
    let is : made ≡ merged_with A names fs rs =
    same_lists made (merged_with A names fs rs) refl (c.in_ok-name.ensures.cases ∙ c.name.ensures.value) (c.in_ok-symbols.ensures.items_if_clones_equal (λ x y same. same) ∙ c.symbols.ensures.value) refl refl refl in (
      merged_with A names fs rs,
      (firsts, merged_collapses A c.name.ensures.listed D c.requires.transitive leaders firsts classes names fs rs led nb named finals rules),
      c.in_ok-canonical.ensures ∙ ap canon (c.new-merged.ensures ∙ is),
    )
