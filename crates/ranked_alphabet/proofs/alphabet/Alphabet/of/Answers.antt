use Rattle.std.proofs.Common.{◌≡◌, ◌≤◌, ◌<◌, ◌∙◌, Err, ap, sym, subst, length, take, [], ◌∷◌, List, arith}
use Rattle.std.proofs.Math.Seq.{take-length}
use Rattle.std.proofs.lemmas.Result.{err_from_is_err_and}
use Rattle.tree_definitions.specs.Tree.{Symbol}
use Rattle.tree_definitions.specs.Joint.{joint_symbols}
use Rattle.ranked_alphabet.specs.declared.alphabet.AlphabetError.TheVariants.{Full}
use Rattle.ranked_alphabet.proofs.Merged.{joint_none}
use Rattle.ranked_alphabet.proofs.alphabet.Alphabet.of.Goals as goal

-- a list that is joined to no symbols has no more of them
not_longer : (old ys : List Symbol) → old ≡ [] → length ys ≤ 65535 → (65535 < length (joint_symbols old ys)) → 1 ≤ 0
not_longer old ys none few more =
    let same : length (joint_symbols old ys) ≡ length ys = ap (λ xs. length (joint_symbols xs ys)) none ∙ ap length (joint_none ys) in
    omega arith

pub returns-in_err-intern_each-clause-full : goal.returns-in_err-intern_each-clause-full
returns-in_err-intern_each-clause-full c e =
    let passed = err_from_is_err_and c.from_residual.result c.from_residual.ensures.1 in
    let same : passed.0 ≡ Full = (cc (passed.1, e)) in
    let none = not_longer c.new-alphabet.result c.args.symbols.now c.new-alphabet.ensures c.requires.few (c.in_err-intern_each.ensures.full (ap Err (sym passed.2 ∙ same))) in
    absurd (omega arith)

pub returns-clause-value : goal.returns-clause-value
returns-clause-value c =
    let symbols = c.args.symbols.now in
    let first = take (length symbols) symbols in
    c.in_ok-intern_each.ensures.merged.list ∙ ap (λ xs. joint_symbols xs first) c.new-alphabet.ensures ∙ joint_none first ∙ take-length symbols
