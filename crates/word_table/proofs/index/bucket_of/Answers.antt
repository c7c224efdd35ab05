use Rattle.std.proofs.Common.{◌≡◌, ◌-◌, ◌%◌, ℕ, sym, subst}
use Rattle.std.specs.Prelude.{bit_and}
use Rattle.std.proofs.lemmas.Nat.{and_mask}
use Rattle.word_table.proofs.index.bucket_of.Goals as goal

pub returns-clause-value : goal.returns-clause-value
returns-clause-value c =
    subst (λ (n : ℕ). bit_and c.args.hash (n - 1) ≡ c.args.hash % n) (sym c.requires.1) (and_mask c.args.hash c.requires.0)
