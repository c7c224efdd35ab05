use Rattle.std.proofs.Common.{subst}
use Rattle.trim_ops.specs.Trimmed.{IsCanonicalTrim}
use Rattle.vata_core.proofs.Answered.{trimmed_text}
use Rattle.vata_core.proofs.answering.trimmed_text.Goals as goal

pub returns : goal.returns
returns c =
    trimmed_text c.args.a c.in_ok-kept.kept c.in_ok-text.text.items
    (subst (λ x. IsCanonicalTrim x c.in_ok-kept.kept) c.in_ok-table.ensures c.in_ok-kept.ensures.automaton) c.in_ok-text.ensures.text c.in_ok-text.ensures.spells
