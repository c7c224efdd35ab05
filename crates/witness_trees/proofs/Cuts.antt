-- Where a text is cut.
use Rattle.std.proofs.Common.{◌≡◌, ℕ, ◌+◌, ◌-◌, ◌*◌, ◌<◌, cond, List, [], ◌∷◌, ◌++◌, length, take, drop, get_or, Option, Some, None, refl, sym, ap, ◌∙◌, append-nil, append_assoc, arith}
use Rattle.std.specs.Prelude.{option_map, min}
use Rattle.std.proofs.lemmas.Bool.{eq-eqb, ne_eqb}
use Rattle.std.proofs.lemmas.List.{drop_more, take_more}
use Rattle.witness_trees.specs.Judged.{cut_at, number_after, number_of}
use Rattle.witness_trees.specs.Answers.{capped}

-- the same cut behind some bytes
abbrev pub with_front : List ℕ → Option (List ℕ × List ℕ) → Option (List ℕ × List ℕ)
with_front front cut = option_map (λ p. (front ++ p.0, p.1)) cut

pub front_nil : (cut : Option (List ℕ × List ℕ)) → cut ≡ with_front [] cut
front_nil None = refl
front_nil (Some p) = refl

front_more : (front : List ℕ) (b : ℕ) (cut : Option (List ℕ × List ℕ)) → with_front front (option_map (λ p. (b ∷ p.0, p.1)) cut) ≡ with_front (front ++ b ∷ []) cut
front_more front b None = refl
front_more front b (Some p) = ap (λ xs. Some (xs, p.1)) (sym (append_assoc front (b ∷ []) p.0))

cut_here : (mark b : ℕ) (bs : List ℕ) → b ≡ mark → cut_at mark (b ∷ bs) ≡ Some ([], bs)
cut_here mark b bs e = ap (λ t. cond t (Some ([], bs)) (option_map (λ p. (b ∷ p.0, p.1)) (cut_at mark bs))) (eq-eqb b mark e)

cut_later : (mark b : ℕ) (bs : List ℕ) → (b ≡ mark → ⊥) → cut_at mark (b ∷ bs) ≡ option_map (λ p. (b ∷ p.0, p.1)) (cut_at mark bs)
cut_later mark b bs n = ap (λ t. cond t (Some ([], bs)) (option_map (λ p. (b ∷ p.0, p.1)) (cut_at mark bs))) (ne_eqb b mark n)

pub cut_found : (mark : ℕ) (bytes : List ℕ) (i : ℕ) → i < length bytes → get_or bytes i 0 ≡ mark → cut_at mark bytes ≡ with_front (take i bytes) (cut_at mark (drop i bytes)) → cut_at mark bytes ≡ Some (take i bytes, drop (i + 1) bytes)
cut_found mark bytes i lt e h =
    h ∙ ap (λ bs. with_front (take i bytes) (cut_at mark bs)) (drop_more bytes i 0 lt)
    ∙ ap (with_front (take i bytes)) (cut_here mark (get_or bytes i 0) (drop (i + 1) bytes) e)
    ∙ ap (λ xs. Some (xs, drop (i + 1) bytes)) (append-nil (take i bytes))

pub cut_more : (mark : ℕ) (bytes : List ℕ) (i : ℕ) → i < length bytes → (get_or bytes i 0 ≡ mark → ⊥) → cut_at mark bytes ≡ with_front (take i bytes) (cut_at mark (drop i bytes)) → cut_at mark bytes ≡ with_front (take (i + 1) bytes) (cut_at mark (drop (i + 1) bytes))
cut_more mark bytes i lt n h =
    h ∙ ap (λ bs. with_front (take i bytes) (cut_at mark bs)) (drop_more bytes i 0 lt)
    ∙ ap (with_front (take i bytes)) (cut_later mark (get_or bytes i 0) (drop (i + 1) bytes) n)
    ∙ front_more (take i bytes) (get_or bytes i 0) (cut_at mark (drop (i + 1) bytes))
    ∙ ap (λ xs. with_front xs (cut_at mark (drop (i + 1) bytes))) (sym (take_more bytes i 0 lt))

-- one more digit
pub number_push : (n : ℕ) (ds : List ℕ) (d : ℕ) → number_after n (ds ++ d ∷ []) ≡ 10 * number_after n ds + (d - 48)
number_push n [] d = refl
number_push n (x ∷ xs) d = number_push (10 * n + (x - 48)) xs d

pub number_more : (ds : List ℕ) (i : ℕ) → i < length ds → number_of (take (i + 1) ds) ≡ 10 * number_of (take i ds) + (get_or ds i 0 - 48)
number_more ds i lt = ap number_of (take_more ds i 0 lt) ∙ number_push 0 (take i ds) (get_or ds i 0)

pub capped_step : (n d value : ℕ) → value ≡ capped n → min (10 * value + d) 4294967296 ≡ capped (10 * n + d)
capped_step n d value e = omega arith
