use Rattle.std.proofs.Common.{Ok, Err, Result, ℕ, Bool, subst}
use Rattle.std.specs.Prelude.{IfOk}
use Rattle.tree_definitions.specs.Automaton.{Automaton}
use Rattle.tree_definitions.specs.Canonical.{canon}
use Rattle.tree_definitions.specs.Relation.{Matrix}
use Rattle.explicit_ta.specs.Pair.{Two}
use Rattle.certificate_kinds.specs.Answers.{IsUpAnswer}
use Rattle.certificate_kinds.specs.declared.certificate.Certificate.{Certificate}
use Rattle.upward_inclusion.specs.Inclusion.{IsInclusionAnswer, IsSearched}
use Rattle.upward_inclusion.proofs.Canonical.{answer_out}
use Rattle.upward_inclusion.proofs.asking.answered.Goals as goal

-- an answer for the canonical forms is one for the automata
for_automata : {E : Type 0} (A B : Automaton) (sim : Bool) (left right : Matrix) (budget : ℕ) → IsSearched sim A left → IsSearched sim B right → (found : Result Certificate E)
    → IfOk found (IsUpAnswer (canon A) (canon B) left right budget) → IfOk found (IsInclusionAnswer sim budget A B)
for_automata A B sim left right budget left_is right_is (Ok certificate) answer = record {
  left = left;
  right = right;
  left_is = left_is;
  right_is = right_is;
  answer = answer_out A B left right budget certificate answer;
}
for_automata A B sim left right budget left_is right_is (Err e) answer = tt

pub returns-clause-answer : goal.returns-clause-answer
returns-clause-answer c =
    let both = c.in_ok-left.ensures in
    for_automata c.args.a.now c.args.b.now c.args.sim c.in_ok-left.left c.in_ok-left.right c.args.budget both.left both.right c.searched.result
    (subst (λ (p : Two). IfOk c.searched.result (IsUpAnswer p.left p.right c.in_ok-left.left c.in_ok-left.right c.args.budget)) c.in-Ok.ensures.ok c.searched.ensures.answer)
