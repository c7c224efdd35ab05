use Rattle.std.proofs.Common.{arith}
use Rattle.timbuk_text.proofs.Kept.{line_kept}
use Rattle.timbuk_text.proofs.rules.RuleLines.put.Goals as goal

pub returns-then-len-lt-MOST_RULES-clause-ok : goal.returns-then-len-lt-MOST_RULES-clause-ok
returns-then-len-lt-MOST_RULES-clause-ok c =
    line_kept (λ s. s.keys) c.args.self.now.distinct c.in_default.is c.args.self.now.lines.items c.push.new.self.items c.args.rule c.in_ok-push.ensures.items (omega (arith, c.if-len-lt-MOST_RULES.true, c.len.ensures))
