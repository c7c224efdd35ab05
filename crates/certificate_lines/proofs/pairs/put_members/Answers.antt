use Rattle.std.proofs.Common.{ℕ, List, ◌+◌, ◌++◌, ◌∷◌, [], refl, sym, ap, ◌∙◌}
use Rattle.std.specs.List.{flat_map}
use Rattle.std.proofs.lemmas.List.{append_assoc, append-nil}
use Rattle.listed_pairs.proofs.Listing.{rest_from, rest_empty, rest_next}
use Rattle.certificate_lines.specs.Pairs.{state_name}
use Rattle.certificate_lines.proofs.pairs.put_members.Goals as goal

pub loop-s-preserved : goal.loop-s-preserved
loop-s-preserved c =
    let names = c.args.names.now in
    let set = c.args.set.now in
    let s = c.in-Some.s in
    let out = c.loop-s.out.items in
    let f : ℕ → List ℕ = λ s. 32 ∷ state_name names s in
    ap (λ xs. xs ++ flat_map f (rest_from (s + 1) set)) (c.in_ok-put_name.ensures ∙ ap (λ xs. xs ++ state_name names s) c.in_ok-push.ensures.items ∙ append_assoc out (32 ∷ []) (state_name names s))
    ∙ append_assoc out (f s) (flat_map f (rest_from (s + 1) set))
    ∙ ap (λ xs. out ++ flat_map f xs) (sym (rest_next c.loop-s.from s set c.in-Some.ensures.least))
    ∙ c.loop-s.invariant

pub returns : goal.returns
returns c =
    let names = c.args.names.now in
    let out = c.loop-s.out.items in
    let f : ℕ → List ℕ = λ s. 32 ∷ state_name names s in
    sym (append-nil out) ∙ ap (λ xs. out ++ flat_map f xs) (sym (rest_empty c.loop-s.from c.args.set.now (c.in_default.ensures.none.0 refl))) ∙ c.loop-s.invariant
