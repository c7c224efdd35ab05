-- How many children rules have.
use Rattle.std.proofs.Common.{◌≡◌, ℕ, ◌+◌, ◌^◌, ◌<◌, ◌≤◌, true, ◌&&◌, List, [], ◌∷◌, ◌++◌, length, take, get_or, Some, sym, ap, ◌∙◌, subst, arith}
use Rattle.std.specs.Prelude.{All, nat_le}
use Rattle.std.specs.List.{list_all}
use Rattle.std.specs.Ordering.{eq_by_cmp}
use Rattle.std.proofs.lemmas.Bool.{leb-true}
use Rattle.std.proofs.lemmas.List.Elements.{All-nil, All-cons, All-push, All-contains}
use Rattle.std.proofs.lemmas.List.{take_more, take_all}
use Rattle.std.proofs.lemmas.List.Quantifiers.{position-Some}
use Rattle.std.proofs.lemmas.Option.{slice_get-get_or}
use Rattle.tree_definitions.specs.Tree.{Symbol}
use Rattle.tree_definitions.specs.Automaton.{Automaton, Rule, FitsRule}
use Rattle.tree_definitions.specs.Canonical.{rule_cmp}
use Rattle.tree_definitions.specs.Relation.{IsAt}
use Rattle.tree_definitions.proofs.Members.{contains_at}
use Rattle.ta_model.specs.Listing.{IsListed}
use Rattle.witness_trees.proofs.Symbols.{and_parts}
use Rattle.down_entry_lines.specs.Entries.{rule_place}
use Rattle.down_entry_lines.specs.Fitting.{AreRanksNumbers, AreRanksSmall, IsRankSmall}
use Rattle.down_entry_lines.proofs.Ruled.{same_rules}

-- a rule has no more children than a byte counts
pub few_kids : (A : Automaton) → IsListed A → AreRanksSmall A → (r : ℕ) (rule : Rule) → IsAt A.rules r rule → length rule.kids ≤ 255
few_kids A listed ranks r rule at =
    let f = (All-contains (FitsRule A) A.rules rule listed.automaton.fitting (contains_at A.rules r rule at)).symbol in
    let small = All-contains IsRankSmall A.symbols f.0 ranks (contains_at A.symbols rule.symbol f.0 f.1) in
    let size = f.2 in
    omega (arith, small, size)

-- a rule has a number of children of 64 bits where the ranks are such numbers
pub kids_number : (A : Automaton) → IsListed A → AreRanksNumbers A → (r : ℕ) (rule : Rule) → IsAt A.rules r rule → length rule.kids < 2 ^ 64
kids_number A listed ranks r rule at =
    let f = (All-contains (FitsRule A) A.rules rule listed.automaton.fitting (contains_at A.rules r rule at)).symbol in
    let small = All-contains (λ (a : Symbol). a.rank < 2 ^ 64) A.symbols f.0 ranks (contains_at A.symbols rule.symbol f.0 f.1) in
    let size = f.2 in
    omega (arith, small, size)

-- the place that is found is the rule's
pub rule_found : (rules : List Rule) (rule : Rule) (r : ℕ) → rule_place rules rule ≡ Some r → IsAt rules r rule
rule_found rules rule r e =
    let at = position-Some (eq_by_cmp rule_cmp rule) rules r rule e in
    slice_get-get_or rules r rule at.0 ∙ ap Some (sym (same_rules rule _ at.1))

-- numbers of so few places
pub small_numbers : (k : ℕ) → k ≤ 255 → (ns : List ℕ) → list_all (λ n. nat_le 1 n && nat_le n k) ns ≡ true → All (λ n. n ≤ 256) ns
small_numbers k small [] h = All-nil (λ n. n ≤ 256)
small_numbers k small (n ∷ ns) h =
    let both = and_parts (nat_le 1 n && nat_le n k) (list_all (λ n. nat_le 1 n && nat_le n k) ns) h in
    let low : n ≤ k = leb-true n k (and_parts (nat_le 1 n) (nat_le n k) both.0).1 in
    All-cons (λ n. n ≤ 256) n ns (omega (arith, low, small)) (small_numbers k small ns both.1)

-- one rank more is small
pub one_rank_more : (symbols : List Symbol) (k : ℕ) (x : Symbol) → k < length symbols → x ≡ get_or symbols k x → x.rank ≤ 255 → All IsRankSmall (take k symbols) → All IsRankSmall (take (k + 1) symbols)
one_rank_more symbols k x l is small h =
    subst (All IsRankSmall) (sym (take_more symbols k x l ∙ ap (λ y. take k symbols ++ y ∷ []) (sym is))) (All-push IsRankSmall (take k symbols) x h small)

pub all_ranks : (symbols : List Symbol) (k : ℕ) → length symbols ≤ k → All IsRankSmall (take k symbols) → All IsRankSmall symbols
all_ranks symbols k past h = subst (All IsRankSmall) (take_all k symbols past) h
