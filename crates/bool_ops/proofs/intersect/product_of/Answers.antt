use Rattle.std.proofs.Common.{◌≡◌, ◌≢◌, ◌<◌, ◌≤◌, ◌∙◌, ℕ, List, length, map, sym, ap, subst, arith, Err}
use Rattle.std.specs.Prelude.{All, AllPairs}
use Rattle.std.proofs.lemmas.List.Elements.{All-weaker}
use Rattle.std.proofs.lemmas.Option.{slice_get_within}
use Rattle.std.proofs.lemmas.Result.{IfOk-weaker}
use Rattle.tree_definitions.specs.Automaton.{Automaton, Rule, FitsRule, HasRule}
use Rattle.tree_definitions.specs.Product.{Both}
use Rattle.tree_definitions.specs.Relation.{IsAt}
use Rattle.bool_ops.specs.Closing.{IsClosed, HasTooMany}
use Rattle.bool_ops.specs.Joined.{StandFor, renumbered}
use Rattle.bool_ops.specs.Results.{HasMoreStates, HasMoreRules}
use Rattle.bool_ops.specs.declared.error.OpError.TheVariants.{TooManyStates}
use Rattle.bool_ops.proofs.Limits.{more_states, more_rules, fewer_states, fewer_rules}
use Rattle.bool_ops.proofs.Stands.{stand_for}
use Rattle.bool_ops.proofs.WellFormed.{renumbered_apart, zip_length}
use Rattle.bool_ops.proofs.intersect.product_of.Goals as goal

pub renumber-requires : goal.renumber-requires
renumber-requires c =
    let B = c.args.right.now in
    let size : length c.in_ok-alphabet.numbers.items ≡ length B.symbols = zip_length (IsAt c.in_ok-alphabet.alphabet) c.in_ok-alphabet.numbers.items B.symbols c.in_ok-alphabet.ensures.numbers in
    let whole : length c.deref.result.now ≡ length B.symbols = ap length c.deref.ensures.value ∙ size in
    let all : All (λ rule. rule.symbol < length B.symbols) B.rules =
    All-weaker (FitsRule B) (λ rule. rule.symbol < length B.symbols) (λ rule f. slice_get_within B.symbols rule.symbol f.symbol.0 f.symbol.1) B.rules c.requires.right.automaton.fitting in
    subst (λ n. All (λ rule. rule.symbol < n) c.rules.result.now) (sym whole) (subst (All (λ rule. rule.symbol < length B.symbols)) (sym c.rules.ensures.value) all)

pub returns-in-Err-clause-states : goal.returns-in-Err-clause-states
returns-in-Err-clause-states c e =
    let A = c.args.left.now in
    let B = c.args.right.now in
    let numbers = c.in_ok-alphabet.numbers.items in
    let theirs : c.deref-3.result.now ≡ map (renumbered numbers) B.rules =
    c.deref-3.ensures.value ∙ c.in_ok-theirs.ensures ∙ ap (λ n. map (renumbered n) c.rules.result.now) c.deref.ensures.value ∙ ap (map (renumbered numbers)) c.rules.ensures.value in
    let same : c.in-Err.error ≡ TooManyStates = cc in
    let many : HasTooMany c.rules-3.result.now c.deref-3.result.now c.close.new.pairs = c.in-Err.ensures.states (ap Err same) in
    more_states A B c.in_ok-alphabet.alphabet numbers c.requires.left c.requires.right c.in_ok-alphabet.ensures.symbols c.in_ok-alphabet.ensures.alphabet.distinct c.in_ok-alphabet.ensures.numbers c.close.new.pairs
    (subst (λ t. HasTooMany A.rules t c.close.new.pairs) theirs (subst (λ o. HasTooMany o c.deref-3.result.now c.close.new.pairs) c.rules-3.ensures.value many))

pub returns-then-len-gt-MOST_RULES-clause-rules : goal.returns-then-len-gt-MOST_RULES-clause-rules
returns-then-len-gt-MOST_RULES-clause-rules c e =
    let A = c.args.left.now in
    let B = c.args.right.now in
    let numbers = c.in_ok-alphabet.numbers.items in
    let p = c.close.new.pairs in
    let f = c.close.new.found in
    let theirs : c.deref-3.result.now ≡ map (renumbered numbers) B.rules =
    c.deref-3.ensures.value ∙ c.in_ok-theirs.ensures ∙ ap (λ n. map (renumbered n) c.rules.result.now) c.deref.ensures.value ∙ ap (map (renumbered numbers)) c.rules.ensures.value in
    let closed : IsClosed A.rules (map (renumbered numbers) B.rules) p f =
    subst (λ t. IsClosed A.rules t p f) theirs (subst (λ o. IsClosed o c.deref-3.result.now p f) c.rules-3.ensures.value c.in_default.ensures.closed) in
    more_rules A B c.in_ok-alphabet.alphabet numbers c.requires.left c.requires.right c.in_ok-alphabet.ensures.symbols c.in_ok-alphabet.ensures.alphabet.distinct c.in_ok-alphabet.ensures.numbers p f closed
    c.len.ensures.distinct (omega (arith, c.len.ensures.value, c.if-len-gt-MOST_RULES.true))

pub assemble-requires-clause-stand : goal.assemble-requires-clause-stand
assemble-requires-clause-stand c =
    let A = c.args.left.now in
    let B = c.args.right.now in
    let numbers = c.in_ok-alphabet.numbers.items in
    let theirs : c.deref-4.result.now ≡ map (renumbered numbers) B.rules =
    c.deref-4.ensures.value ∙ c.in_ok-theirs.ensures ∙ ap (λ n. map (renumbered n) c.rules.result.now) c.deref.ensures.value ∙ ap (map (renumbered numbers)) c.rules.ensures.value in
    subst (StandFor c.in_ok-alphabet.alphabet (HasRule A) (HasRule B) A.rules) (sym theirs)
    (stand_for A B c.in_ok-alphabet.alphabet numbers c.requires.left c.requires.right c.in_ok-alphabet.ensures.symbols c.in_ok-alphabet.ensures.alphabet.distinct c.in_ok-alphabet.ensures.numbers)

pub assemble-requires-clause-distinct : goal.assemble-requires-clause-distinct
assemble-requires-clause-distinct c =
    let B = c.args.right.now in
    let numbers = c.in_ok-alphabet.numbers.items in
    let theirs : c.deref-4.result.now ≡ map (renumbered numbers) B.rules =
    c.deref-4.ensures.value ∙ c.in_ok-theirs.ensures ∙ ap (λ n. map (renumbered n) c.rules.result.now) c.deref.ensures.value ∙ ap (map (renumbered numbers)) c.rules.ensures.value in
    subst (AllPairs ◌≢◌) (sym theirs) (renumbered_apart B c.in_ok-alphabet.alphabet numbers c.requires.right.automaton c.in_ok-alphabet.ensures.numbers)

-- the lists that were closed, over the rules of both
closed_lists : (A B : Automaton) (ours theirs : List Rule) (numbers : List ℕ) (p f : List Both) → ours ≡ A.rules → theirs ≡ map (renumbered numbers) B.rules
    → IsClosed ours theirs p f → IsClosed A.rules (map (renumbered numbers) B.rules) p f
closed_lists A B ours theirs numbers p f e d h =
    subst (λ t. IsClosed A.rules t p f) d (subst (λ o. IsClosed o theirs p f) e h)

pub returns-then-len-gt-MOST_RULES-clause-states_first : goal.returns-then-len-gt-MOST_RULES-clause-states_first
returns-then-len-gt-MOST_RULES-clause-states_first c e =
    let A = c.args.left.now in
    let B = c.args.right.now in
    let numbers = c.in_ok-alphabet.numbers.items in
    let p = c.close.new.pairs in
    let f = c.close.new.found in
    let theirs : c.deref-3.result.now ≡ map (renumbered numbers) B.rules =
    c.deref-3.ensures.value ∙ c.in_ok-theirs.ensures ∙ ap (λ n. map (renumbered n) c.rules.result.now) c.deref.ensures.value ∙ ap (map (renumbered numbers)) c.rules.ensures.value in
    fewer_states A B c.in_ok-alphabet.alphabet numbers c.requires.left c.requires.right c.in_ok-alphabet.ensures.symbols c.in_ok-alphabet.ensures.alphabet.distinct c.in_ok-alphabet.ensures.numbers p f
    (closed_lists A B c.rules-3.result.now c.deref-3.result.now numbers p f c.rules-3.ensures.value theirs c.in_default.ensures.closed)

pub returns-clause-fewer_states : goal.returns-clause-fewer_states
returns-clause-fewer_states c =
    let A = c.args.left.now in
    let B = c.args.right.now in
    let numbers = c.in_ok-alphabet.numbers.items in
    let p = c.close.new.pairs in
    let f = c.close.new.found in
    let theirs : c.deref-3.result.now ≡ map (renumbered numbers) B.rules =
    c.deref-3.ensures.value ∙ c.in_ok-theirs.ensures ∙ ap (λ n. map (renumbered n) c.rules.result.now) c.deref.ensures.value ∙ ap (map (renumbered numbers)) c.rules.ensures.value in
    let closed = closed_lists A B c.rules-3.result.now c.deref-3.result.now numbers p f c.rules-3.ensures.value theirs c.in_default.ensures.closed in
    IfOk-weaker c.assemble.result _ (λ _. HasMoreStates A B 1000000 → ⊥)
    (λ C few. fewer_states A B c.in_ok-alphabet.alphabet numbers c.requires.left c.requires.right c.in_ok-alphabet.ensures.symbols c.in_ok-alphabet.ensures.alphabet.distinct c.in_ok-alphabet.ensures.numbers p f closed)
    c.assemble.ensures.few_states

pub returns-clause-fewer_rules : goal.returns-clause-fewer_rules
returns-clause-fewer_rules c =
    let A = c.args.left.now in
    let B = c.args.right.now in
    let numbers = c.in_ok-alphabet.numbers.items in
    let p = c.close.new.pairs in
    let f = c.close.new.found in
    let theirs : c.deref-3.result.now ≡ map (renumbered numbers) B.rules =
    c.deref-3.ensures.value ∙ c.in_ok-theirs.ensures ∙ ap (λ n. map (renumbered n) c.rules.result.now) c.deref.ensures.value ∙ ap (map (renumbered numbers)) c.rules.ensures.value in
    let closed = closed_lists A B c.rules-3.result.now c.deref-3.result.now numbers p f c.rules-3.ensures.value theirs c.in_default.ensures.closed in
    let few : length f ≤ 2000000 = omega (arith, c.len.ensures.value, c.if-len-gt-MOST_RULES.false) in
    IfOk-weaker c.assemble.result _ (λ _. HasMoreRules A B 2000000 → ⊥)
    (λ C _. fewer_rules A B c.in_ok-alphabet.alphabet numbers c.requires.left c.requires.right c.in_ok-alphabet.ensures.symbols c.in_ok-alphabet.ensures.alphabet.distinct c.in_ok-alphabet.ensures.numbers p f closed few)
    c.assemble.ensures.few_rules
