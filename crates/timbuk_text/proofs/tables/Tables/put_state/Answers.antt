use Rattle.std.proofs.Common.{arith}
use Rattle.timbuk_text.proofs.Interned.{known_word, interned_word}
use Rattle.timbuk_text.proofs.tables.Tables.put_state.Goals as goal

pub returns-then-len-lt-MOST_STATES-clause-ok : goal.returns-then-len-lt-MOST_STATES-clause-ok
returns-then-len-lt-MOST_STATES-clause-ok c =
    interned_word c.args.self.now.states c.intern.new.self c.args.word.now c.in_ok-intern.field-0 (omega (arith, c.if-len-lt-MOST_STATES.true, c.len.ensures.value)) c.in_ok-intern.ensures.ok

pub returns-in-Some-clause-ok : goal.returns-in-Some-clause-ok
returns-in-Some-clause-ok c = known_word c.args.self.now.states c.args.word.now c.in-Some.place c.in-Some.ensures.some c.requires.few
