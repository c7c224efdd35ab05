use Rattle.std.proofs.Common.{◌≡◌, ◌↔◌, ◌<◌, ◌+◌, ℕ, List, [], ◌∷◌, ◌++◌, length, refl, sym, ap, ◌∙◌, subst, arith}
use Rattle.std.specs.Prelude.{All, Contains}
use Rattle.std.specs.List.{AllZip}
use Rattle.std.proofs.lemmas.List.Elements.{All-head, All-tail}
use Rattle.std.proofs.lemmas.Option.{slice_get_read}
use Rattle.std.proofs.lemmas.Result.{IfOk-weaker}
use Rattle.tree_definitions.specs.Tree.{Symbol}
use Rattle.tree_definitions.specs.Cover.{Pair, Post}
use Rattle.tree_definitions.specs.Relation.{Has, IsAt, Row}
use Rattle.tree_definitions.specs.UpTrail.{UpEntry}
use Rattle.tree_definitions.proofs.Members.{at_unique}
use Rattle.trim_ops.proofs.Marked.{no_items}
use Rattle.up_conditions.specs.Choosing.{AreOpen, LeadsTo}
use Rattle.up_conditions.specs.Trailing.{HasSetAt}
use Rattle.up_conditions.proofs.Chosen.{append_none, append_one, ends_post, next_open, sets_one_more}
use Rattle.up_conditions.proofs.Named.{zip_first, zip_none}
use Rattle.up_conditions.proofs.entry_steps.+step_from.Goals as goal

pub returns-in_default-clause-members : goal.returns-in_default-clause-members
returns-in_default-clause-members t c =
    let B = c.args.b.now in
    let entries = c.args.entries.now in
    let list = c.args.places.now in
    let count = c.args.count in
    let end : c.args.named.now ≡ [] = no_items c.args.named.now c.in_default.ensures.cases in
    IfOk-weaker c.parents_at_end.result (λ row. (s : ℕ) → Has row s ↔ ((r : ℕ) × Contains list r × LeadsTo c.rules.result.now count s r))
    (λ row. (a : Symbol) (sets more : List Row) → length sets ≡ count → AreOpen B a sets list → AllZip (HasSetAt entries) c.args.named.now more → (s : ℕ) → Has row s ↔ Post B a (sets ++ more) s)
    (λ row members a sets more size leaves zip s.
    let none : more ≡ [] = zip_none (HasSetAt entries) more (subst (λ (ks : List ℕ). AllZip (HasSetAt entries) ks more) end zip) in
    let all : sets ≡ sets ++ more = sym (append_none sets) ∙ ap (λ (l : List Row). sets ++ l) (sym none) in
    subst (λ (Ps : List Row). Has row s ↔ Post B a Ps s) all (ends_post B c.rules.result.now c.rules.ensures.value a sets count size list row leaves members s))
    c.parents_at_end.ensures.members

pub step_from-requires : goal.step_from-requires
step_from-requires t c =
    let B = c.args.b.now in
    let entries = c.args.entries.now in
    let first = c.in-Some.first.now in
    let others = c.in-Some.others.now in
    let split : c.args.named.now ≡ first ∷ others = c.in-Some.ensures.cases.0 in
    let size = ap (λ (xs : List ℕ). length xs) split in
    let count = c.requires.count in
    let falls = c.decreases in
    let inside = All-tail (λ k. k < length entries) first others (subst (λ (xs : List ℕ). All (λ k. k < length entries) xs) split c.requires.named) in
    let open_rules = subst (λ (xs : List ℕ). All (λ r. r < length B.rules) xs) (sym c.deref.ensures.value) c.in_ok-next.ensures.within in
    (omega (arith, falls, size), (c.requires.steps, (c.requires.sets, (inside, (omega (arith, count, size), (open_rules, λ none. absurd (omega (arith, none))))))))

pub returns-clause-members : goal.returns-clause-members
returns-clause-members t c =
    let B = c.args.b.now in
    let entries = c.args.entries.now in
    let list = c.args.places.now in
    let count = c.args.count in
    let first = c.in-Some.first.now in
    let others = c.in-Some.others.now in
    let split : c.args.named.now ≡ first ∷ others = c.in-Some.ensures.cases.0 in
    let e = c.index-entries-first.result in
    let below : first < length entries = All-head (λ k. k < length entries) first others (subst (λ (xs : List ℕ). All (λ k. k < length entries) xs) split c.requires.named) in
    let at : IsAt entries first e = slice_get_read entries (length entries) first e refl below c.index-entries-first.is in
    let P = c.pair.inside.set in
    let its : P ≡ e.pair.set = ap (λ (o : Pair). o.set) (c.pair.view_is ∙ c.pair_of-pair.ensures) in
    IfOk-weaker c.step_from.result
    (λ row. (a : Symbol) (sets more : List Row) → length sets ≡ count + 1 → AreOpen B a sets c.deref.result.now → AllZip (HasSetAt entries) others more → (s : ℕ) → Has row s ↔ Post B a (sets ++ more) s)
    (λ row. (a : Symbol) (sets more : List Row) → length sets ≡ count → AreOpen B a sets list → AllZip (HasSetAt entries) c.args.named.now more → (s : ℕ) → Has row s ↔ Post B a (sets ++ more) s)
    (λ row exact a sets more size leaves zip s.
    let z = zip_first (HasSetAt entries) first others more (subst (λ (ks : List ℕ). AllZip (HasSetAt entries) ks more) split zip) in
    let same : P ≡ z.0 = its ∙ ap (λ (o : UpEntry). o.pair.set) (at_unique entries first e z.3.0 at z.3.1) ∙ z.3.2 in
    let next = next_open B B.rules refl a sets count size list c.in_ok-next.next.items P c.in_ok-next.ensures.members leaves in
    let so = exact a (sets ++ P ∷ []) z.1 (sets_one_more sets P count size) (subst (AreOpen B a (sets ++ P ∷ [])) (sym c.deref.ensures.value) next) z.4 s in
    let all : (sets ++ P ∷ []) ++ z.1 ≡ sets ++ more = append_one sets P z.1 ∙ ap (λ (Q : Row). sets ++ Q ∷ z.1) same ∙ ap (λ (l : List Row). sets ++ l) (sym z.2) in
    subst (λ (Ps : List Row). Has row s ↔ Post B a Ps s) all so)
    c.step_from.ensures.members
