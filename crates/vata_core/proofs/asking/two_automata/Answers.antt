use Rattle.std.proofs.Common.{[], subst}
use Rattle.vata_core.specs.Refusals.{IsFileHalt}
use Rattle.vata_core.proofs.Halts.{second_unread}
use Rattle.vata_core.proofs.Left.{second_left}
use Rattle.vata_core.proofs.asking.two_automata.Goals as goal

pub returns-in-Err-automaton_at-clause-err : goal.returns-in-Err-automaton_at-clause-err
returns-in-Err-automaton_at-clause-err g c =
    second_unread _ c.args.first.now c.args.second.now [] c.in-Ok.a _ (g.F.Files.faults c.automaton_at.new.files) _ c.in-Err-automaton_at.halt c.in-Ok.ensures.ok c.in-Ok.ensures.later
    (subst (λ files. IsFileHalt files c.args.second.now (g.F.Files.faults c.automaton_at.new.files) (g.F.Files.faults c.automaton_at-2.new.files) 1 c.in-Err-automaton_at.halt)
    c.in-Ok.ensures.same c.in-Err-automaton_at.ensures.err)

pub returns-in-Err-automaton_at-clause-left : goal.returns-in-Err-automaton_at-clause-left
returns-in-Err-automaton_at-clause-left g c = λ calm.
    second_left _ _ c.args.first.now c.args.second.now [] _ c.in-Ok.ensures.same (c.in-Err-automaton_at.ensures.left calm)

pub returns-clause-left : goal.returns-clause-left
returns-clause-left g c = λ _. second_left _ _ c.args.first.now c.args.second.now [] _ c.in-Ok.ensures.same (c.in-Ok-automaton_at.ensures.left tt)
