-- A name is a word that opens no section.
use Rattle.std.proofs.Common.{◌≡◌, ◌≢◌, ℕ, Bool, true, false, ◌&&◌, ◌||◌, not, List, [], ◌∷◌, length, refl, ap, arith}
use Rattle.std.specs.Prelude.{◌==◌, nat_eq, codes}
use Rattle.std.specs.List.{AllByRecursion, list_all, starts_with}
use Rattle.std.proofs.lemmas.Bool.{and_from, and_parts, not_from_false}
use Rattle.std.proofs.lemmas.Bool.Decides.{nat_tests}
use Rattle.tree_definitions.specs.Name.{is_name_byte, has_arrow, is_section_word, IsName}
use Rattle.timbuk_definitions.specs.Token.{Inner, sort_of, is_arrow, IsWord}

-- the arrow at two bytes
pub arrow_here : (b c : ℕ) (w : List ℕ) → starts_with nat_eq (b ∷ c ∷ w) (codes "->") ≡ is_arrow b c
arrow_here b c w = grind (arith, nat_tests)

pub has_arrow_more : (b c : ℕ) (w : List ℕ) → has_arrow (b ∷ c ∷ w) ≡ (is_arrow b c || has_arrow (c ∷ w))
has_arrow_more b c w = ap (λ x. x || has_arrow (c ∷ w)) (arrow_here b c w)

pub has_arrow_one : (b : ℕ) → has_arrow (b ∷ []) ≡ false
has_arrow_one b = grind (arith, nat_tests)

inner_byte : (b : ℕ) → sort_of b ≡ Inner → is_name_byte b ≡ true
unfolding sort_of
inner_byte b h = grind (arith, nat_tests)

byte_inner : (b : ℕ) → is_name_byte b ≡ true → sort_of b ≡ Inner
unfolding sort_of
byte_inner b h = grind (arith, nat_tests)

inner_bytes : (w : List ℕ) → AllByRecursion (λ b. sort_of b ≡ Inner) w → list_all is_name_byte w ≡ true
inner_bytes [] h = refl
inner_bytes (b ∷ w) h = and_from (is_name_byte b) (list_all is_name_byte w) (inner_byte b h.0) (inner_bytes w h.1)

bytes_inner : (w : List ℕ) → list_all is_name_byte w ≡ true → AllByRecursion (λ b. sort_of b ≡ Inner) w
bytes_inner [] h = tt
bytes_inner (b ∷ w) h = let p = and_parts (is_name_byte b) (list_all is_name_byte w) h in (byte_inner b p.0, bytes_inner w p.1)

not_true : (x : Bool) → not x ≡ true → x ≡ false
not_true true h = absurd cc
not_true false h = refl

some_bytes : (w : List ℕ) → w ≢ [] → not (length w == 0) ≡ true
some_bytes [] n = absurd (n refl)
some_bytes (b ∷ w) n = grind (arith, nat_tests)

bytes_some : (w : List ℕ) → not (length w == 0) ≡ true → w ≢ []
bytes_some [] h = absurd cc
bytes_some (b ∷ w) h = λ e. cc

pub name_is_word : (w : List ℕ) → IsName w → IsWord w
name_is_word w h =
    let p = and_parts (not (length w == 0) && list_all is_name_byte w && not (has_arrow w)) (not (is_section_word w)) h in
    let q = and_parts (not (length w == 0) && list_all is_name_byte w) (not (has_arrow w)) p.0 in
    let r = and_parts (not (length w == 0)) (list_all is_name_byte w) q.0 in
    record { some = bytes_some w r.0; inner = bytes_inner w r.1; no_arrow = not_true (has_arrow w) q.1 }

pub name_is_plain : (w : List ℕ) → IsName w → not (is_section_word w) ≡ true
name_is_plain w h = (and_parts (not (length w == 0) && list_all is_name_byte w && not (has_arrow w)) (not (is_section_word w)) h).1

pub word_is_name : (w : List ℕ) → IsWord w → not (is_section_word w) ≡ true → IsName w
word_is_name w h p =
    and_from (not (length w == 0) && list_all is_name_byte w && not (has_arrow w)) (not (is_section_word w))
    (and_from (not (length w == 0) && list_all is_name_byte w) (not (has_arrow w))
    (and_from (not (length w == 0)) (list_all is_name_byte w) (some_bytes w h.some) (inner_bytes w h.inner)) (not_from_false (has_arrow w) h.no_arrow))
    p
