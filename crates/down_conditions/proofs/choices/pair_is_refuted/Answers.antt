use Rattle.std.proofs.Common.{◌≡◌, ◌≢◌, ℕ, List, length, get_or, refl, sym, ap, ◌∙◌, subst, arith, ⊎_elim}
use Rattle.std.specs.Prelude.{not}
use Rattle.std.proofs.lemmas.Bool.{cases_eq}
use Rattle.std.proofs.lemmas.List.Elements.{All-contains, Contains-get_or}
use Rattle.std.proofs.lemmas.Option.{slice_get-get_or, slice_get_read, slice_get_within}
use Rattle.tree_definitions.specs.Tree.{Symbol}
use Rattle.tree_definitions.specs.Automaton.{FitsRule, IsLabel, Rule}
use Rattle.tree_definitions.specs.Cover.{Pair}
use Rattle.tree_definitions.specs.Relation.{Holds, IsAt, Row}
use Rattle.tree_definitions.proofs.Listing.{at_label, label_at}
use Rattle.tree_definitions.proofs.Members.{at_unique, contains_at, place_of}
use Rattle.down_conditions.specs.Refuting.{IsRuleCovered, Refutes}
use Rattle.down_conditions.proofs.Downed.{line_of, rule_of}
use Rattle.down_conditions.proofs.choices.pair_is_refuted.Goals as goal

pub returns-in-Ok-true-clause-refuted : goal.returns-in-Ok-true-clause-refuted
returns-in-Ok-true-clause-refuted c t lists pairs index lat shifted =
    let A = c.args.a.now in
    let B = c.args.b.now in
    let R = Holds c.args.both.now in
    let list = c.args.list.now in
    let i = c.loop-r.r-index in
    let r = get_or list i 0 in
    let rule = c.index-rules-r.result in
    let rules = c.rules-rules.result.now in
    let symbols = c.symbols-symbols.result.now in
    let small = c.requires.list i 0 c.loop-r-test.true in
    let many = ap (λ (xs : List Rule). length xs) c.rules-rules.ensures.value in
    let read : IsAt rules r rule = slice_get_read rules (length rules) r rule refl (omega (arith, small, many)) c.index-rules-r.is in
    let at : IsAt A.rules r rule = subst (λ (xs : List Rule). IsAt xs r rule) c.rules-rules.ensures.value read in
    let x = c.index-symbols-rule.result in
    let its = ap (λ (o : Rule). o.symbol) c.rule.view_is in
    let kids = c.as_slice.ensures ∙ ap (λ (o : Rule). o.kids) c.rule.view_is in
    let set = ap (λ (o : Pair). o.set) c.pair.view_is in
    let f = All-contains (FitsRule A) A.rules rule c.rules-rules.ensures.listed.automaton.fitting (contains_at A.rules r rule at) in
    let w = slice_get_within A.symbols rule.symbol f.symbol.0 f.symbol.1 in
    let names = ap (λ (xs : List Symbol). length xs) c.symbols-symbols.ensures.value in
    let xread : IsAt symbols c.rule.inside.symbol x = slice_get_read symbols (length symbols) c.rule.inside.symbol x refl (omega (arith, w, its, names)) c.index-symbols-rule.is in
    let xat : IsAt A.symbols rule.symbol x = subst (λ k. IsAt A.symbols k x) its (subst (λ (xs : List Symbol). IsAt xs c.rule.inside.symbol x) c.symbols-symbols.ensures.value xread) in
    let parent = index.parent c.args.pair.now.state list r rule lat (Contains-get_or list i 0 c.loop-r-test.true) at in
    let h = c.in-Ok-true.ensures.refuted c.in-Ok-true.field-0-test pairs shifted in (
      x,
      rule.kids,
      rule_of A r rule x c.args.pair.now.state at (label_at A rule.symbol x c.rules-rules.ensures.listed.narrow xat) parent,
      h.0,
      subst (λ (s : Row). Refutes A B R pairs s x rule.kids h.0) set (subst (λ (ks : List ℕ). Refutes A B R pairs c.pair.inside.set x ks h.0) kids h.1),
    )

pub loop-r-preserved : goal.loop-r-preserved
loop-r-preserved c k s other l kat oat y yat pairs shifted =
    let A = c.args.a.now in
    let B = c.args.b.now in
    let R = Holds c.args.both.now in
    let list = c.args.list.now in
    let i = c.loop-r.r-index in
    let r = get_or list i 0 in
    let rule = c.index-rules-r.result in
    let rules = c.rules-rules.result.now in
    let symbols = c.symbols-symbols.result.now in
    let small = c.requires.list i 0 c.loop-r-test.true in
    let many = ap (λ (xs : List Rule). length xs) c.rules-rules.ensures.value in
    let read : IsAt rules r rule = slice_get_read rules (length rules) r rule refl (omega (arith, small, many)) c.index-rules-r.is in
    let at : IsAt A.rules r rule = subst (λ (xs : List Rule). IsAt xs r rule) c.rules-rules.ensures.value read in
    let x = c.index-symbols-rule.result in
    let its = ap (λ (o : Rule). o.symbol) c.rule.view_is in
    let kids = c.as_slice.ensures ∙ ap (λ (o : Rule). o.kids) c.rule.view_is in
    let set = ap (λ (o : Pair). o.set) c.pair.view_is in
    let f = All-contains (FitsRule A) A.rules rule c.rules-rules.ensures.listed.automaton.fitting (contains_at A.rules r rule at) in
    let w = slice_get_within A.symbols rule.symbol f.symbol.0 f.symbol.1 in
    let names = ap (λ (xs : List Symbol). length xs) c.symbols-symbols.ensures.value in
    let xread : IsAt symbols c.rule.inside.symbol x = slice_get_read symbols (length symbols) c.rule.inside.symbol x refl (omega (arith, w, its, names)) c.index-symbols-rule.is in
    let xat : IsAt A.symbols rule.symbol x = subst (λ k. IsAt A.symbols k x) its (subst (λ (xs : List Symbol). IsAt xs c.rule.inside.symbol x) c.symbols-symbols.ensures.value xread) in
    let lat : IsAt list i r = slice_get-get_or list i 0 c.loop-r-test.true in
    ⊎_elim
    (λ (e : k ≡ i).
    let same : s ≡ r = at_unique list i s r (subst (λ j. IsAt list j s) e kat) lat in
    let which : other ≡ rule = at_unique A.rules r other rule (subst (λ j. IsAt A.rules j other) same oat) at in
    let label : y ≡ x = at_unique A.symbols rule.symbol y x (at_label A rule.symbol y c.rules-rules.ensures.listed.narrow (subst (λ (o : Rule). IsLabel A o.symbol y) which yat)) xat in
    let covered = c.in-Ok-false.ensures.covered (ap not c.in-Ok-false.field-0-test) pairs shifted in
    let by_set = subst (λ (p : Row). IsRuleCovered A B R pairs p x c.as_slice.result.now) set covered in
    let by_kids = subst (λ (ks : List ℕ). IsRuleCovered A B R pairs c.args.pair.now.set x ks) kids by_set in
    subst (λ (o : Rule). IsRuleCovered A B R pairs c.args.pair.now.set y o.kids) (sym which) (subst (λ (z : Symbol). IsRuleCovered A B R pairs c.args.pair.now.set z rule.kids) (sym label) by_kids))
    (λ (d : k ≢ i). c.loop-r.invariant k s other (omega arith) kat oat y yat pairs shifted)
    (cases_eq k i)

pub returns-clause-covered : goal.returns-clause-covered
returns-clause-covered c t lists pairs index lat shifted x kids has choice is =
    let A = c.args.a.now in
    let B = c.args.b.now in
    let list = c.args.list.now in
    let line = line_of A x kids c.args.pair.now.state has in
    let m = index.whole list line.0 line.1 (subst (λ z. IsAt lists z list) (sym line.5) lat) line.2 in
    let k = place_of list line.0 m in
    let w = slice_get_within list k.0 line.0 k.1 in
    let covered = c.loop-r.invariant k.0 line.0 line.1 (omega (arith, w, c.loop-r-test.false)) k.1 line.2 x line.3 pairs shifted in
    subst (λ (ks : List ℕ). IsRuleCovered A B (Holds c.args.both.now) pairs c.args.pair.now.set x ks) line.4 covered choice is
