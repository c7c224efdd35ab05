use Rattle.std.proofs.Common.{◌≡◌, ◌↔◌, ℕ, Bool, List, subst, sym}
use Rattle.std.proofs.lemmas.Result.{IfOk-weaker}
use Rattle.tree_definitions.specs.Automaton.{Automaton}
use Rattle.tree_definitions.specs.Canonical.{canon}
use Rattle.tree_definitions.specs.Language.{SameLanguage}
use Rattle.tree_definitions.specs.Relation.{Has}
use Rattle.tree_definitions.specs.Trim.{IsUseful, IsTrim}
use Rattle.tree_definitions.proofs.InOrder.{canon_language}
use Rattle.tree_definitions.proofs.Trimmed.{trim_same}
use Rattle.ta_model.specs.Restriction.{IsRestriction}
use Rattle.trim_ops.specs.Trimmed.{IsCanonicalTrim}
use Rattle.trim_ops.proofs.ops.trim.Goals as goal

-- the states that the row has are the useful ones
restriction_trims : (A T : Automaton) (row : List Bool) → ((q : ℕ) → Has row q ↔ IsUseful A q) → IsRestriction A row T → IsTrim A T
restriction_trims A T row exact (kept, r) = (
  kept,
  record {
    bits = r.bits;
    name = r.name;
    symbols = r.symbols;
    rising = r.rising;
    useful = λ q. (λ h. (exact q).0 ((r.chosen q).0 h), λ u. (r.chosen q).1 ((exact q).1 u));
    states = r.states;
    finals = r.finals;
    rules = r.rules;
    fitting = r.fitting;
  },
)

same_through : (A T C : Automaton) → IsTrim A T → C ≡ canon T → SameLanguage A C
same_through A T C h e = subst (SameLanguage A) (sym e) through
  where
    through : SameLanguage A (canon T)
    through t =
        let a = trim_same A T h.0 h.1 t in
        let b = canon_language T t in
        (λ x. b.0 (a.0 x), λ x. a.1 (b.1 x))

pub returns-clause-automaton : goal.returns-clause-automaton
returns-clause-automaton g c =
    let A = g.T.Table.automaton c.args.t.now in
    let T = g.T.Table.automaton c.in_ok-restricted.field-0 in
    let trims : IsTrim A T = restriction_trims A T c.in_ok-keep.keep c.in_ok-keep.ensures.exact c.in_ok-restricted.ensures in
    IfOk-weaker c.listed.result _ (IsCanonicalTrim A) (λ C e. (T, trims, e)) c.listed.ensures.value

pub returns-clause-language : goal.returns-clause-language
returns-clause-language g c =
    let A = g.T.Table.automaton c.args.t.now in
    let T = g.T.Table.automaton c.in_ok-restricted.field-0 in
    let trims : IsTrim A T = restriction_trims A T c.in_ok-keep.keep c.in_ok-keep.ensures.exact c.in_ok-restricted.ensures in
    IfOk-weaker c.listed.result _ (SameLanguage A) (λ C e. same_through A T C trims e) c.listed.ensures.value
