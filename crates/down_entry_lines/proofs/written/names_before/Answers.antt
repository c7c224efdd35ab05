use Rattle.std.proofs.Common.{ℕ, List, Vec, Global, subst}
use Rattle.ta_model.specs.declared.name.Name.{Name}
use Rattle.witness_trees.specs.Answers.{Spells}
use Rattle.certificate_lines.specs.Pairs.{spelled_words}
use Rattle.down_entry_lines.proofs.Wording.{take_texts}
use Rattle.down_entry_lines.proofs.written.names_before.Goals as goal

pub returns : goal.returns
returns c =
    subst (λ words. Spells {X = Name × Vec Name Global} {Y = List ℕ × List (List ℕ)} c.args.at (λ r. (r.0, r.1.items)) c.spelled_of.result (spelled_words words))
    (take_texts c.args.words.now c.args.k) c.spelled_of.ensures
