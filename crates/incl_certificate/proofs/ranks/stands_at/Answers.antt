use Rattle.std.proofs.Common.{◌≡◌, List, refl, sym, ◌∙◌, subst}
use Rattle.std.specs.Prelude.{count_by}
use Rattle.tree_definitions.specs.Automaton.{Rule}
use Rattle.incl_certificate.specs.Preceding.{precedes}
use Rattle.std.proofs.lemmas.Bool.{eqb-true, eq-eqb}
use Rattle.incl_certificate.proofs.RuleRanks.{place_of_rank, rank_of_place}
use Rattle.incl_certificate.proofs.ranks.stands_at.Goals as goal

pub returns : goal.returns
returns c =
    let fits = c.rules.ensures.listed.automaton in
    let rank : c.rank_of.result ≡ count_by (λ other. precedes other c.args.rule.now) c.args.a.now.rules =
    c.rank_of.ensures ∙ subst (λ (rules : List Rule). count_by (λ other. precedes other c.args.rule.now) c.rules.result.now ≡ count_by (λ other. precedes other c.args.rule.now) rules) c.rules.ensures.value refl in
    (λ e. place_of_rank c.args.a.now fits c.args.rule.now c.requires c.args.place (sym rank ∙ eqb-true c.rank_of.result c.args.place e), λ at. eq-eqb c.rank_of.result c.args.place (rank ∙ rank_of_place c.args.a.now fits c.args.place c.args.rule.now at))
