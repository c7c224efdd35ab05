-- Where a file of a name stands.
use Rattle.std.proofs.Common.{◌≡◌, ℕ, ◌<◌, List, [], ◌∷◌, ◌++◌, suc, length, drop, get_or, map, Option, None, Some, true, refl, sym, ap, ◌∙◌, cond, arith, length-append}
use Rattle.std.proofs.Math.Seq.{drop-cons}
use Rattle.std.proofs.lemmas.List.{get_or_append_left}
use Rattle.std.proofs.lemmas.Option.{slice_get-get_or}
use Rattle.std.specs.Prelude.{string_bytes}
use Rattle.std.specs.Str.{bytes_eq}
use Rattle.vata_outside.specs.Outside.{bytes_of}
use Rattle.vata_outside.specs.Held.{IsHeldPlace, file_of, selected_of}
use Rattle.vata_outside.specs.declared.held.Held.{Held}

-- the file at i has the name
pub bytes_of_found : (name : List ℕ) (held : List Held) (i : ℕ) (h : Held) → i < length held → h ≡ get_or held i h → bytes_eq (string_bytes h.name) name ≡ true
    → bytes_of name (map file_of (drop i held)) ≡ Some h.bytes.items
bytes_of_found name held i h lt is e =
    ap (λ hs. bytes_of name (map file_of hs)) (drop-cons held i h lt ∙ ap (λ x. x ∷ drop (suc i) held) (sym is))
    ∙ ap (λ b. cond b (Some h.bytes.items) (bytes_of name (map file_of (drop (suc i) held)))) e

-- one more file at the end leaves the selected one
pub selected_of_push : (held : List Held) (h : Held) (place : Option ℕ) → IsHeldPlace held place → selected_of (held ++ h ∷ []) place ≡ selected_of held place
selected_of_push held h None _ = refl
selected_of_push held h (Some i) lt =
    slice_get-get_or (held ++ h ∷ []) i h (omega (arith, length-append held (h ∷ []), lt))
    ∙ ap Some (get_or_append_left held (h ∷ []) h i lt) ∙ sym (slice_get-get_or held i h lt)
