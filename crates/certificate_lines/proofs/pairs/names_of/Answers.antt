use Rattle.std.proofs.Common.{◌≡◌, ◌<◌, ℕ, List, [], Bor, Vec, Global, length, get_or}
use Rattle.std.proofs.lemmas.List.{get_or_default}
use Rattle.ta_model.specs.declared.name.Name.{Name}
use Rattle.certificate_lines.proofs.Worded.{not_spelled, one_name_more}
use Rattle.certificate_lines.proofs.pairs.names_of.Goals as goal

-- the word at this place
abbrev word_at : List (Bor (List ℕ)) → ℕ → Bor (List ℕ)
word_at words k = get_or words k (record { ref_ptr = (0, 0); now = [] })

word_is : (words : List (Bor (List ℕ))) (k : ℕ) → k < length words → word_at words k ≡ get_or words k (word_at words k)
word_is words k l = get_or_default words k (record { ref_ptr = (0, 0); now = [] }) (word_at words k) l

pub returns-in-Err : goal.returns-in-Err
returns-in-Err c =
    let words = c.args.words.now in
    let k = c.loop-k.k in
    not_spelled words k (word_at words k) c.loop-k-test.true (word_is words k c.loop-k-test.true) {X = Vec Name Global} (λ v. v.items) c.args.at c.in-Err.error c.in-Err.ensures

pub loop-k-preserved : goal.loop-k-preserved
loop-k-preserved c =
    let words = c.args.words.now in
    let k = c.loop-k.k in
    let m = one_name_more words k (word_at words k) c.loop-k-test.true (word_is words k c.loop-k-test.true) c.loop-k.names.items c.push.new.self.items c.in-Ok-name_of.name
    c.loop-k.invariant.names c.loop-k.invariant.right c.in-Ok-name_of.ensures c.in-Ok-push.ensures.items in
    record { names = m.0; right = m.1 }
