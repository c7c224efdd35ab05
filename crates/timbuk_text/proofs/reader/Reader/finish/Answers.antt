use Rattle.std.proofs.Common.{ap}
use Rattle.timbuk_text.specs.Fed.{Fed}
use Rattle.timbuk_text.proofs.Judged.{judges_as, spelled, bad, over}
use Rattle.timbuk_text.proofs.reader.Reader.finish.Goals as goal

pub returns-clause-ok : goal.returns-clause-ok
returns-clause-ok c =
    (judges_as c.args.self.text c.self.inside.text.items c.listed_of.result (ap (λ (s : Fed). s.text) c.self.view_is) c.listed_of.ensures.ok c.listed_of.ensures.syntax c.listed_of.ensures.limit).ok

pub returns-clause-syntax : goal.returns-clause-syntax
returns-clause-syntax c =
    (judges_as c.args.self.text c.self.inside.text.items c.listed_of.result (ap (λ (s : Fed). s.text) c.self.view_is) c.listed_of.ensures.ok c.listed_of.ensures.syntax c.listed_of.ensures.limit).syntax_is

pub returns-clause-spelled : goal.returns-clause-spelled
returns-clause-spelled c =
    spelled c.args.self.text c.listed_of.result
    (judges_as c.args.self.text c.self.inside.text.items c.listed_of.result (ap (λ (s : Fed). s.text) c.self.view_is) c.listed_of.ensures.ok c.listed_of.ensures.syntax c.listed_of.ensures.limit)

pub returns-clause-bad : goal.returns-clause-bad
returns-clause-bad c =
    bad c.args.self.text c.listed_of.result
    (judges_as c.args.self.text c.self.inside.text.items c.listed_of.result (ap (λ (s : Fed). s.text) c.self.view_is) c.listed_of.ensures.ok c.listed_of.ensures.syntax c.listed_of.ensures.limit)

pub returns-clause-over : goal.returns-clause-over
returns-clause-over c =
    over c.args.self.text c.listed_of.result
    (judges_as c.args.self.text c.self.inside.text.items c.listed_of.result (ap (λ (s : Fed). s.text) c.self.view_is) c.listed_of.ensures.ok c.listed_of.ensures.syntax c.listed_of.ensures.limit)
