use Rattle.std.proofs.Common.{◌≡◌, ◌∙◌, [], ◌∷◌, ap, sym, subst, append_assoc, arith}
use Rattle.std.specs.Prelude.{All, decimal}
use Rattle.std.proofs.lemmas.List.Elements.{All-push}
use Rattle.tree_definitions.specs.Name.{IsName}
use Rattle.tree_definitions.specs.Product.{Both, pair_name}
use Rattle.bool_ops.specs.Closing.{both}
use Rattle.bool_ops.proofs.Names.{pair_is_name}
use Rattle.bool_ops.proofs.Parts.{map_more}
use Rattle.bool_ops.proofs.product.names.Goals as goal

pub known-requires : goal.known-requires
known-requires c =
    let x : Both = both c.x.inside.left c.x.inside.right in
    let text : c.as_bytes.result.now ≡ pair_name x =
    c.as_bytes.ensures.value ∙ c.in_ok-text.ensures.ok ∙ ap (λ z. 112 ∷ z) (sym (append_assoc (decimal x.left) (95 ∷ []) (decimal x.right))) in
    subst IsName (sym text) (pair_is_name x (omega arith) (omega arith))

pub loop-x-preserved : goal.loop-x-preserved
loop-x-preserved c =
    let inside : Both = both c.x.inside.left c.x.inside.right in
    let x = c.x-item.result in
    let made : c.in_ok-known.field-0 ≡ pair_name inside =
    c.in_ok-known.ensures ∙ c.as_bytes.ensures.value ∙ c.in_ok-text.ensures.ok ∙ ap (λ z. 112 ∷ z) (sym (append_assoc (decimal inside.left) (95 ∷ []) (decimal inside.right))) in
    let named : IsName c.in_ok-known.field-0 = subst IsName (sym made) (pair_is_name inside (omega arith) (omega arith)) in
    record {
      value = map_more pair_name c.list-x-items.result.now c.loop-x.x-index x c.push.new.self.items c.loop-x.names.items c.in_ok-known.field-0 c.loop-x-test.true c.x-item.is
          c.in_ok-push.ensures.items c.loop-x.invariant.value (made ∙ ap pair_name c.x.view_is);
      named = subst (All IsName) (sym c.in_ok-push.ensures.items) (All-push IsName c.loop-x.names.items c.in_ok-known.field-0 c.loop-x.invariant.named named);
    }
