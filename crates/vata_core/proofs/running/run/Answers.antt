use Rattle.std.proofs.Common.{◌≡◌, ◌⊎◌, ◌∙◌, List, ℕ, Some, IfSome, inl, inr, sym, ap, subst}
use Rattle.std.specs.Prelude.{unwrap_or}
use Rattle.std.specs.declared.option.Option.{Option}
use Rattle.std.specs.Io.KnownBytes.{Appends}
use Rattle.vata_outside.specs.Outside.{AppendsPrefix}
use Rattle.vata_core.specs.Request.{Request, Binary, files_of}
use Rattle.vata_core.specs.Files.{IsBadAt, IsLeftOfOne, IsRefused}
use Rattle.vata_core.specs.Lines.{Tells, read_line, syntax_line}
use Rattle.vata_core.specs.Outcome.{Answers, AnswersInPart, FailsToRead, IsAnswered, IsLimited, MeansOfInclusion}
use Rattle.vata_core.specs.Refusals.{HasReply, IsHalted, halt_line}
use Rattle.vata_core.specs.declared.status.Status.TheVariants as status
use Rattle.vata_core.specs.declared.words.BinaryCommand.TheVariants.{Incl}
use Rattle.vata_core.proofs.Answered.{answers, answers_in_part, is_answered, not_other, not_silent}
use Rattle.vata_core.proofs.Halts.{bad_file, bad_or_spelled, halt_unanswered, limit_due, limited, limited_or_spelled, memory_told, nothing_wrong, syntax_due, unread_file}
use Rattle.vata_core.proofs.Languages.{speaks}
use Rattle.vata_core.proofs.Meaning.{halt_means, reply_means}
use Rattle.vata_core.proofs.running.run.Goals as goal

-- what was asked for is one request
one_request : (asked : Option Request) (r s : Request) → asked ≡ Some r → asked ≡ Some s → r ≡ s
one_request asked r s a b = ap (λ o. unwrap_or o r) (sym a ∙ b)

pub returns-in-Err-answer_to-clause-syntax : goal.returns-in-Err-answer_to-clause-syntax
returns-in-Err-answer_to-clause-syntax g c = λ e.
    let bad = bad_file _ _ _ _ c.in-Err-answer_to.halt (sym c.halted.ensures ∙ e) c.in-Err-answer_to.ensures.err in
    subst (λ asked. IfSome asked (λ request. (place : ℕ) × (at : ℕ) × IsRefused (g.F.Files.files c.args.files.now) (files_of request) (IsBadAt at) place
    × Tells (g.E.Sink.written c.args.diag.now) (g.E.Sink.written c.tell_halt.new.diag) (g.E.Sink.faults c.args.diag.now) (g.E.Sink.faults c.tell_halt.new.diag) (syntax_line place at)))
    (sym c.in-Ok.ensures.ok) (bad.0, bad.1, bad.2, subst (Tells (g.E.Sink.written c.args.diag.now) (g.E.Sink.written c.tell_halt.new.diag) (g.E.Sink.faults c.args.diag.now) (g.E.Sink.faults c.tell_halt.new.diag)) bad.3 c.tell_halt.ensures)

pub returns-in-Err-answer_to-clause-limit : goal.returns-in-Err-answer_to-clause-limit
returns-in-Err-answer_to-clause-limit g c = λ e.
    subst (λ asked. IfSome asked (λ request. (line : List ℕ) × IsLimited (g.F.Files.files c.args.files.now) request line × Tells (g.E.Sink.written c.args.diag.now) (g.E.Sink.written c.tell_halt.new.diag) (g.E.Sink.faults c.args.diag.now) (g.E.Sink.faults c.tell_halt.new.diag) line))
    (sym c.in-Ok.ensures.ok) (halt_line c.in-Err-answer_to.halt, limited _ _ _ _ c.in-Err-answer_to.halt (sym c.halted.ensures ∙ e) c.in-Err-answer_to.ensures.err, c.tell_halt.ensures)

pub returns-in-Err-answer_to-clause-read : goal.returns-in-Err-answer_to-clause-read
returns-in-Err-answer_to-clause-read g c = λ e.
    let lost = unread_file _ _ _ _ c.in-Err-answer_to.halt (sym c.halted.ensures ∙ e) c.in-Err-answer_to.ensures.err in
    subst (λ asked. IfSome asked (λ request. (place : ℕ) × FailsToRead (g.F.Files.files c.args.files.now) (files_of request) (g.F.Files.faults c.args.files.now) (g.F.Files.faults c.answer_to.new.files) place × Tells (g.E.Sink.written c.args.diag.now) (g.E.Sink.written c.tell_halt.new.diag) (g.E.Sink.faults c.args.diag.now) (g.E.Sink.faults c.tell_halt.new.diag) (read_line place)))
    (sym c.in-Ok.ensures.ok) (lost.0, lost.1, subst (Tells (g.E.Sink.written c.args.diag.now) (g.E.Sink.written c.tell_halt.new.diag) (g.E.Sink.faults c.args.diag.now) (g.E.Sink.faults c.tell_halt.new.diag)) lost.2 c.tell_halt.ensures)

pub returns-in-Err-answer_to-clause-memory_told : goal.returns-in-Err-answer_to-clause-memory_told
returns-in-Err-answer_to-clause-memory_told g c = λ e. subst (Tells (g.E.Sink.written c.args.diag.now) (g.E.Sink.written c.tell_halt.new.diag) (g.E.Sink.faults c.args.diag.now) (g.E.Sink.faults c.tell_halt.new.diag)) (memory_told c.in-Err-answer_to.halt (sym c.halted.ensures ∙ e)) c.tell_halt.ensures

pub returns-in-Err-answer_to-clause-syntax_due : goal.returns-in-Err-answer_to-clause-syntax_due
returns-in-Err-answer_to-clause-syntax_due g c = λ request fs place at asked told bad calm.
    subst (λ s. (s ≡ status.Syntax) ⊎ (s ≡ status.Memory)) (sym c.halted.ensures)
    (syntax_due fs request place at _ _ c.in-Err-answer_to.halt bad calm
    (subst (λ files. IsHalted files request (g.F.Files.faults c.args.files.now) (g.F.Files.faults c.answer_to.new.files) c.in-Err-answer_to.halt) told
    (subst (λ r. IsHalted (g.F.Files.files c.args.files.now) r (g.F.Files.faults c.args.files.now) (g.F.Files.faults c.answer_to.new.files) c.in-Err-answer_to.halt) (one_request _ _ request c.in-Ok.ensures.ok asked) c.in-Err-answer_to.ensures.err)))

pub returns-in-Err-answer_to-clause-limit_due : goal.returns-in-Err-answer_to-clause-limit_due
returns-in-Err-answer_to-clause-limit_due g c = λ request fs line asked told beyond calm.
    subst (λ s. (s ≡ status.Limit) ⊎ (s ≡ status.Memory)) (sym c.halted.ensures)
    (limit_due fs request line _ _ c.in-Err-answer_to.halt beyond calm
    (subst (λ files. IsHalted files request (g.F.Files.faults c.args.files.now) (g.F.Files.faults c.answer_to.new.files) c.in-Err-answer_to.halt) told
    (subst (λ r. IsHalted (g.F.Files.files c.args.files.now) r (g.F.Files.faults c.args.files.now) (g.F.Files.faults c.answer_to.new.files) c.in-Err-answer_to.halt) (one_request _ _ request c.in-Ok.ensures.ok asked) c.in-Err-answer_to.ensures.err)))

pub returns-in-Err-answer_to-clause-complete : goal.returns-in-Err-answer_to-clause-complete
returns-in-Err-answer_to-clause-complete g c = λ request fs As asked told spelled within calm _.
    inr (c.halted.ensures ∙ nothing_wrong fs request _ _ c.in-Err-answer_to.halt As spelled within calm
    (subst (λ files. IsHalted files request (g.F.Files.faults c.args.files.now) (g.F.Files.faults c.answer_to.new.files) c.in-Err-answer_to.halt) told
    (subst (λ r. IsHalted (g.F.Files.files c.args.files.now) r (g.F.Files.faults c.args.files.now) (g.F.Files.faults c.answer_to.new.files) c.in-Err-answer_to.halt) (one_request _ _ request c.in-Ok.ensures.ok asked) c.in-Err-answer_to.ensures.err)))

pub returns-in-Ok-write_all_of-clause-answered : goal.returns-in-Ok-write_all_of-clause-answered
returns-in-Ok-write_all_of-clause-answered g c = λ _.
    let found = c.in-Ok-answer_to.ensures.ok in
    subst (λ asked. IfSome asked (Answers (g.F.Files.files c.args.files.now) (g.K.Sink.written c.args.out.now) (g.K.Sink.written c.write_all_of.new.sink) c.in-Ok-answer_to.reply.status)) (sym c.in-Ok.ensures.ok)
    (answers found (subst (Appends (g.K.Sink.written c.args.out.now) (g.K.Sink.written c.write_all_of.new.sink)) c.deref.ensures.value c.in-Ok-write_all_of.ensures.ok))

pub returns-clause-cut : goal.returns-clause-cut
returns-clause-cut g c = λ _.
    let found = c.in-Ok-answer_to.ensures.ok in
    subst (λ asked. IfSome asked (AnswersInPart (g.F.Files.files c.args.files.now) (g.K.Sink.written c.args.out.now) (g.K.Sink.written c.write_all_of.new.sink))) (sym c.in-Ok.ensures.ok)
    (answers_in_part found (subst (AppendsPrefix (g.K.Sink.written c.args.out.now) (g.K.Sink.written c.write_all_of.new.sink)) c.deref.ensures.value c.in-Err-write_all_of.ensures.err))

pub returns-in-Ok-write_all_of-clause-syntax_due : goal.returns-in-Ok-write_all_of-clause-syntax_due
returns-in-Ok-write_all_of-clause-syntax_due g c = λ request fs place at asked told bad calm.
    let right : HasReply (Some fs) request c.in-Ok-answer_to.reply =
    subst (λ files. HasReply files request c.in-Ok-answer_to.reply) told
    (subst (λ r. HasReply (g.F.Files.files c.args.files.now) r c.in-Ok-answer_to.reply) (one_request _ _ request c.in-Ok.ensures.ok asked) c.in-Ok-answer_to.ensures.ok) in
    absurd (bad_or_spelled fs request right.right.automata place at right.right.spelled bad)

pub returns-clause-syntax_due : goal.returns-clause-syntax_due
returns-clause-syntax_due g c = λ request fs place at asked told bad calm.
    let right : HasReply (Some fs) request c.in-Ok-answer_to.reply =
    subst (λ files. HasReply files request c.in-Ok-answer_to.reply) told
    (subst (λ r. HasReply (g.F.Files.files c.args.files.now) r c.in-Ok-answer_to.reply) (one_request _ _ request c.in-Ok.ensures.ok asked) c.in-Ok-answer_to.ensures.ok) in
    absurd (bad_or_spelled fs request right.right.automata place at right.right.spelled bad)

pub returns-in-Ok-write_all_of-clause-limit_due : goal.returns-in-Ok-write_all_of-clause-limit_due
returns-in-Ok-write_all_of-clause-limit_due g c = λ request fs line asked told beyond calm.
    let right : HasReply (Some fs) request c.in-Ok-answer_to.reply =
    subst (λ files. HasReply files request c.in-Ok-answer_to.reply) told
    (subst (λ r. HasReply (g.F.Files.files c.args.files.now) r c.in-Ok-answer_to.reply) (one_request _ _ request c.in-Ok.ensures.ok asked) c.in-Ok-answer_to.ensures.ok) in
    absurd (limited_or_spelled fs request right.right.automata line right.right.spelled right.within beyond)

pub returns-clause-limit_due : goal.returns-clause-limit_due
returns-clause-limit_due g c = λ request fs line asked told beyond calm.
    let right : HasReply (Some fs) request c.in-Ok-answer_to.reply =
    subst (λ files. HasReply files request c.in-Ok-answer_to.reply) told
    (subst (λ r. HasReply (g.F.Files.files c.args.files.now) r c.in-Ok-answer_to.reply) (one_request _ _ request c.in-Ok.ensures.ok asked) c.in-Ok-answer_to.ensures.ok) in
    absurd (limited_or_spelled fs request right.right.automata line right.right.spelled right.within beyond)

pub returns-in-Ok-write_all_of-clause-cut : goal.returns-in-Ok-write_all_of-clause-cut
returns-in-Ok-write_all_of-clause-cut g c = λ e. absurd (not_other status.WriteFault c.in-Ok-answer_to.ensures.ok e)

pub returns-in-Ok-write_all_of-clause-syntax : goal.returns-in-Ok-write_all_of-clause-syntax
returns-in-Ok-write_all_of-clause-syntax g c = λ e. absurd (not_other status.Syntax c.in-Ok-answer_to.ensures.ok e)

pub returns-in-Ok-write_all_of-clause-limit : goal.returns-in-Ok-write_all_of-clause-limit
returns-in-Ok-write_all_of-clause-limit g c = λ e. absurd (not_other status.Limit c.in-Ok-answer_to.ensures.ok e)

pub returns-in-Ok-write_all_of-clause-read : goal.returns-in-Ok-write_all_of-clause-read
returns-in-Ok-write_all_of-clause-read g c = λ e. absurd (not_other status.ReadFault c.in-Ok-answer_to.ensures.ok e)

pub returns-in-Ok-write_all_of-clause-write : goal.returns-in-Ok-write_all_of-clause-write
returns-in-Ok-write_all_of-clause-write g c = λ e. absurd (not_other status.WriteFault c.in-Ok-answer_to.ensures.ok e)

pub returns-in-Ok-write_all_of-clause-usage_told : goal.returns-in-Ok-write_all_of-clause-usage_told
returns-in-Ok-write_all_of-clause-usage_told g c = λ e. absurd (not_other status.Usage c.in-Ok-answer_to.ensures.ok e)

pub returns-in-Ok-write_all_of-clause-write_told : goal.returns-in-Ok-write_all_of-clause-write_told
returns-in-Ok-write_all_of-clause-write_told g c = λ e. absurd (not_other status.WriteFault c.in-Ok-answer_to.ensures.ok e)

pub returns-in-Ok-write_all_of-clause-memory_told : goal.returns-in-Ok-write_all_of-clause-memory_told
returns-in-Ok-write_all_of-clause-memory_told g c = λ e. absurd (not_other status.Memory c.in-Ok-answer_to.ensures.ok e)

pub returns-in-Ok-write_all_of-clause-silent : goal.returns-in-Ok-write_all_of-clause-silent
returns-in-Ok-write_all_of-clause-silent g c = λ q. absurd (not_silent c.in-Ok-answer_to.reply.status (is_answered c.in-Ok-answer_to.ensures.ok) q)

pub returns-in-Ok-write_all_of-clause-usage : goal.returns-in-Ok-write_all_of-clause-usage
returns-in-Ok-write_all_of-clause-usage g c = (
  λ e. absurd (not_other status.Usage c.in-Ok-answer_to.ensures.ok e),
  λ none. let asked = c.in-Ok.ensures.ok in cc (none, asked),
)

pub returns-in-Ok-write_all_of-clause-complete : goal.returns-in-Ok-write_all_of-clause-complete
returns-in-Ok-write_all_of-clause-complete g c = λ request fs As asked told spelled within calm still. inl (is_answered c.in-Ok-answer_to.ensures.ok)

pub returns-in-Err-answer_to-clause-inclusion : goal.returns-in-Err-answer_to-clause-inclusion
returns-in-Err-answer_to-clause-inclusion g c = λ way sim budget first second fs A B asked told spelled.
    subst (MeansOfInclusion way A B budget) (sym c.halted.ensures) (halt_means way A B budget c.in-Err-answer_to.halt)

pub returns-in-Ok-write_all_of-clause-inclusion : goal.returns-in-Ok-write_all_of-clause-inclusion
returns-in-Ok-write_all_of-clause-inclusion g c = λ way sim budget first second fs A B asked told spelled.
    let request = Binary (Incl way sim budget) first second in
    let right : HasReply (Some fs) request c.in-Ok-answer_to.reply =
    subst (λ files. HasReply files request c.in-Ok-answer_to.reply) told
    (subst (λ r. HasReply (g.F.Files.files c.args.files.now) r c.in-Ok-answer_to.reply) (one_request _ _ request c.in-Ok.ensures.ok asked) c.in-Ok-answer_to.ensures.ok) in
    reply_means fs way sim budget first second A B c.in-Ok-answer_to.reply right spelled

pub returns-in-Ok-write_all_of-clause-language : goal.returns-in-Ok-write_all_of-clause-language
returns-in-Ok-write_all_of-clause-language g c = λ request fs As old new done asked asks told spelled before after.
    let right : HasReply (Some fs) request c.in-Ok-answer_to.reply =
    subst (λ files. HasReply files request c.in-Ok-answer_to.reply) told
    (subst (λ r. HasReply (g.F.Files.files c.args.files.now) r c.in-Ok-answer_to.reply) (one_request _ _ request c.in-Ok.ensures.ok asked) c.in-Ok-answer_to.ensures.ok) in
    let written : Appends (g.K.Sink.written c.args.out.now) (g.K.Sink.written c.write_all_of.new.sink) c.in-Ok-answer_to.reply.text.items =
    subst (Appends (g.K.Sink.written c.args.out.now) (g.K.Sink.written c.write_all_of.new.sink)) c.deref.ensures.value c.in-Ok-write_all_of.ensures.ok in
    speaks fs request As c.in-Ok-answer_to.reply old new asks right spelled
    (subst (λ x. Appends x (Some new) c.in-Ok-answer_to.reply.text.items) before (subst (λ y. Appends (g.K.Sink.written c.args.out.now) y c.in-Ok-answer_to.reply.text.items) after written))

pub returns-in-Err-answer_to-clause-language : goal.returns-in-Err-answer_to-clause-language
returns-in-Err-answer_to-clause-language g c = λ request fs As old new done asked asks told spelled before after.
    absurd (halt_unanswered c.in-Err-answer_to.halt (subst IsAnswered c.halted.ensures done))

pub returns-in-Err-answer_to-clause-left : goal.returns-in-Err-answer_to-clause-left
returns-in-Err-answer_to-clause-left g c = λ calm.
    subst (λ asked. IfSome asked (λ request. IsLeftOfOne (g.F.Files.files c.args.files.now) (files_of request) (g.F.Files.left c.answer_to.new.files))) (sym c.in-Ok.ensures.ok)
    (c.in-Err-answer_to.ensures.left (λ e. calm (c.halted.ensures ∙ e)))

pub returns-in-Ok-write_all_of-clause-left : goal.returns-in-Ok-write_all_of-clause-left
returns-in-Ok-write_all_of-clause-left g c = λ calm.
    subst (λ asked. IfSome asked (λ request. IsLeftOfOne (g.F.Files.files c.args.files.now) (files_of request) (g.F.Files.left c.answer_to.new.files))) (sym c.in-Ok.ensures.ok)
    (c.in-Ok-answer_to.ensures.left tt)

pub returns-clause-left : goal.returns-clause-left
returns-clause-left g c = λ calm.
    subst (λ asked. IfSome asked (λ request. IsLeftOfOne (g.F.Files.files c.args.files.now) (files_of request) (g.F.Files.left c.answer_to.new.files))) (sym c.in-Ok.ensures.ok)
    (c.in-Ok-answer_to.ensures.left tt)
