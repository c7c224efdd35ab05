use Rattle.std.proofs.Common.{◌≡◌, ◌≤◌, length, sym, ap, ◌∙◌, subst, arith}
use Rattle.tree_definitions.specs.Joint.{joint_symbols}
use Rattle.witness_trees.specs.Judged.{judged}
use Rattle.incl_certificate.proofs.Joined.{joint_distinct, joint_few}
use Rattle.incl_certificate.proofs.Lines.{no_answer, no_kind, behind, bad_behind, unknown_behind, is_behind}
use Rattle.incl_certificate.proofs.Within.{IsWithin, judged_within}
use Rattle.std.specs.Prelude.{◌++◌}
use Rattle.incl_certificate.specs.Text.{answer_line, kind_line}
use Rattle.incl_certificate.proofs.ReadBack.{split_text}
use Rattle.incl_certificate.proofs.tree_reading.read_tree.Goals as goal

pub returns-in_default-clause-judged : goal.returns-in_default-clause-judged
returns-in_default-clause-judged c = no_answer _ _ c.args.text.now c.answer.result.now c.answer.ensures c.in_default.ensures.cases

pub returns-in_default-strip_prefix-clause-judged : goal.returns-in_default-strip_prefix-clause-judged
returns-in_default-strip_prefix-clause-judged c =
    no_kind _ _ c.args.text.now c.in-Some.rest.now c.answer.result.now c.kind.result.now c.answer.ensures c.in-Some.ensures.cases.0 c.in-Some.ensures.cases.1 c.kind.ensures c.in_default-strip_prefix.ensures.cases

pub read-requires-clause-distinct : goal.read-requires-clause-distinct
read-requires-clause-distinct c =
    rw (c.as_slice.ensures.keys, c.in-Ok.ensures, c.symbols.ensures.value, c.symbols-2.ensures.value)
    (joint_distinct c.args.a.now.symbols c.args.b.now.symbols c.symbols.ensures.listed.automaton.symbols c.symbols-2.ensures.listed.automaton.symbols)

pub read-requires-clause-few : goal.read-requires-clause-few
read-requires-clause-few c =
    let few = joint_few c.args.a.now.symbols c.args.b.now.symbols in
    let left = c.symbols.ensures.listed.few_symbols in
    let right = c.symbols-2.ensures.listed.few_symbols in
    rw (c.as_slice.ensures.keys, c.in-Ok.ensures, c.symbols.ensures.value, c.symbols-2.ensures.value) (omega arith)

pub returns-in-Ok-read-clause-judged : goal.returns-in-Ok-read-clause-judged
returns-in-Ok-read-clause-judged c =
    let joint : c.as_slice.result.now ≡ joint_symbols c.args.a.now.symbols c.args.b.now.symbols =
    c.as_slice.ensures.keys ∙ c.in-Ok.ensures ∙ ap (λ l. joint_symbols l c.symbols-2.result.now) c.symbols.ensures.value ∙ ap (joint_symbols c.args.a.now.symbols) c.symbols-2.ensures.value in (
      (behind c.args.a.now c.args.b.now c.args.text.now c.in-Some.rest.now c.in-Some-strip_prefix.lines.now c.answer.result.now c.kind.result.now
          c.answer.ensures c.in-Some.ensures.cases.0 c.in-Some.ensures.cases.1 c.kind.ensures c.in-Some-strip_prefix.ensures.cases.0 c.in-Some-strip_prefix.ensures.cases.1)
          ∙ is_behind _ _ (ap (λ l. judged l c.in-Some-strip_prefix.lines.now) (sym joint) ∙ c.in-Ok-read.ensures.judged),
      c.in-Ok-read.ensures.symbols ∙ joint,
    )

pub returns-in-Err-BadText-clause-judged : goal.returns-in-Err-BadText-clause-judged
returns-in-Err-BadText-clause-judged c =
    let joint : c.as_slice.result.now ≡ joint_symbols c.args.a.now.symbols c.args.b.now.symbols =
    c.as_slice.ensures.keys ∙ c.in-Ok.ensures ∙ ap (λ l. joint_symbols l c.symbols-2.result.now) c.symbols.ensures.value ∙ ap (joint_symbols c.args.a.now.symbols) c.symbols-2.ensures.value in
    (behind c.args.a.now c.args.b.now c.args.text.now c.in-Some.rest.now c.in-Some-strip_prefix.lines.now c.answer.result.now c.kind.result.now
    c.answer.ensures c.in-Some.ensures.cases.0 c.in-Some.ensures.cases.1 c.kind.ensures c.in-Some-strip_prefix.ensures.cases.0 c.in-Some-strip_prefix.ensures.cases.1)
    ∙ bad_behind _ _ (ap (λ l. judged l c.in-Some-strip_prefix.lines.now) (sym joint) ∙ (rw c.in-Err-BadText.field-0-is at c.in-Err-BadText.ensures.judged))

pub returns-in-Err-UnknownName-clause-judged : goal.returns-in-Err-UnknownName-clause-judged
returns-in-Err-UnknownName-clause-judged c =
    let joint : c.as_slice.result.now ≡ joint_symbols c.args.a.now.symbols c.args.b.now.symbols =
    c.as_slice.ensures.keys ∙ c.in-Ok.ensures ∙ ap (λ l. joint_symbols l c.symbols-2.result.now) c.symbols.ensures.value ∙ ap (joint_symbols c.args.a.now.symbols) c.symbols-2.ensures.value in
    (behind c.args.a.now c.args.b.now c.args.text.now c.in-Some.rest.now c.in-Some-strip_prefix.lines.now c.answer.result.now c.kind.result.now
    c.answer.ensures c.in-Some.ensures.cases.0 c.in-Some.ensures.cases.1 c.kind.ensures c.in-Some-strip_prefix.ensures.cases.0 c.in-Some-strip_prefix.ensures.cases.1)
    ∙ unknown_behind _ _ (ap (λ l. judged l c.in-Some-strip_prefix.lines.now) (sym joint) ∙ (rw c.in-Err-UnknownName.field-0-is at c.in-Err-UnknownName.ensures.judged))

pub overflow_add-result : goal.overflow_add-result
overflow_add-result c =
    let end : c.in-Err-BadText.at ≤ length c.in-Some-strip_prefix.lines.now =
    subst (IsWithin (length c.in-Some-strip_prefix.lines.now)) (rw c.in-Err-BadText.field-0-is at c.in-Err-BadText.ensures.judged) (judged_within c.as_slice.result.now c.in-Some-strip_prefix.lines.now) in
    omega (arith, c.in-Some.ensures.cases.2, c.in-Some-strip_prefix.ensures.cases.2)

pub overflow_add-result-in-Err-UnknownName : goal.overflow_add-result-in-Err-UnknownName
overflow_add-result-in-Err-UnknownName c =
    let end : c.in-Err-UnknownName.at ≤ length c.in-Some-strip_prefix.lines.now =
    subst (IsWithin (length c.in-Some-strip_prefix.lines.now)) (rw c.in-Err-UnknownName.field-0-is at c.in-Err-UnknownName.ensures.judged) (judged_within c.as_slice.result.now c.in-Some-strip_prefix.lines.now) in
    omega (arith, c.in-Some.ensures.cases.2, c.in-Some-strip_prefix.ensures.cases.2)

pub returns-in-Ok-read-clause-text : goal.returns-in-Ok-read-clause-text
returns-in-Ok-read-clause-text c =
    split_text c.args.text.now c.in-Some.rest.now c.in-Some-strip_prefix.lines.now c.answer.result.now c.kind.result.now
    c.answer.ensures c.in-Some.ensures.cases.0 c.in-Some.ensures.cases.1 c.kind.ensures c.in-Some-strip_prefix.ensures.cases.0 c.in-Some-strip_prefix.ensures.cases.1
    ∙ ap (λ x. answer_line ++ kind_line ++ x) c.in-Ok-read.ensures.text
