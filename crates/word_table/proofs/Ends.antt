-- Words between their ends.
use Rattle.std.proofs.Common.{◌≡◌, ℕ, zero, suc, ◌+◌, ◌-◌, ◌*◌, ◌<◌, ◌≤◌, List, [], ◌∷◌, ◌++◌, length, get_or, take, drop, refl, sym, ap, ap₂, ◌∙◌, subst, arith, length-append, length-drop}
use Rattle.std.specs.List.{slice_range}
use Rattle.std.proofs.lemmas.List.{drop_at, take_all, drop-append-le, take-append-le, length_push, get_or_default}
use Rattle.tree_definitions.specs.Relation.{IsAt}
use Rattle.word_table.specs.Words.{AreEnds, AreWords, start_of, words_from}

pub length-words_from : (start : ℕ) (bytes ends : List ℕ) → length (words_from start bytes ends) ≡ length ends
length-words_from start bytes [] = refl
length-words_from start bytes (e ∷ es) = ap suc (length-words_from e bytes es)

start_next : (e : ℕ) (es : List ℕ) (k : ℕ) → start_of e es k ≡ get_or (e ∷ es) k 0
start_next e es zero = refl
start_next e es (suc k) = refl

pub word_at : (start : ℕ) (bytes ends : List ℕ) (k : ℕ) → k < length ends → IsAt (words_from start bytes ends) k (slice_range bytes (start_of start ends k) (get_or ends k 0))
word_at start bytes [] k l = absurd (omega arith)
word_at start bytes (e ∷ es) zero l = refl
word_at start bytes (e ∷ es) (suc k) l =
    subst (λ (s : ℕ). IsAt (words_from e bytes es) k (slice_range bytes s (get_or es k 0))) (start_next e es k) (word_at e bytes es k (omega arith))

pub start_within : (start : ℕ) (ends : List ℕ) (n : ℕ) → AreEnds start ends n → start ≤ n
start_within start [] n h = omega (arith, h)
start_within start (e ∷ es) n h = omega (arith, h.0, start_within e es n h.2)

-- so many words have no more bytes than this
pub few_bytes : (start : ℕ) (ends : List ℕ) (n : ℕ) → AreEnds start ends n → n ≤ start + 1000 * length ends
few_bytes start [] n h = omega (arith, h)
few_bytes start (e ∷ es) n h = omega (arith, h.1, few_bytes e es n h.2)

pub word_within : (start : ℕ) (ends : List ℕ) (n k : ℕ) → AreEnds start ends n → k < length ends → (start_of start ends k ≤ get_or ends k 0) × (get_or ends k 0 ≤ n)
word_within start [] n k h l = absurd (omega arith)
word_within start (e ∷ es) n zero h l = (h.0, start_within e es n h.2)
word_within start (e ∷ es) n (suc k) h l =
    let later = word_within e es n k h.2 (omega arith) in
    (subst (λ (s : ℕ). s ≤ get_or es k 0) (start_next e es k) later.0, later.1)

pub ends_push : (start : ℕ) (ends : List ℕ) (n m : ℕ) → AreEnds start ends n → n ≤ m → m ≤ n + 1000 → AreEnds start (ends ++ m ∷ []) m
ends_push start [] n m h low high = (omega (arith, h), omega (arith, h), refl)
ends_push start (e ∷ es) n m h low high = (h.0, h.1, ends_push e es n m h.2 low high)

last_word : (start : ℕ) (bytes word : List ℕ) → start ≡ length bytes → slice_range (bytes ++ word) start (length bytes + length word) ≡ word
last_word start bytes word h =
    ap (take (length bytes + length word - start)) (drop_at bytes word start (sym h)) ∙ take_all (length bytes + length word - start) word (omega (arith, h))

earlier_word : (start end : ℕ) (bytes word : List ℕ) → start ≤ end → end ≤ length bytes → slice_range (bytes ++ word) start end ≡ slice_range bytes start end
earlier_word start end bytes word low high =
    ap (take (end - start)) (drop-append-le start bytes word (omega arith)) ∙ take-append-le (end - start) (drop start bytes) word (omega (arith, length-drop start bytes))

-- the words after a push
pub words_push :
    (start : ℕ) (bytes ends word : List ℕ) → AreEnds start ends (length bytes)
    → words_from start (bytes ++ word) (ends ++ (length bytes + length word) ∷ []) ≡ words_from start bytes ends ++ word ∷ []
words_push start bytes [] word h = ap (λ w. w ∷ []) (last_word start bytes word h)
words_push start bytes (e ∷ es) word h =
    ap₂ (λ w ws. w ∷ ws) (earlier_word start e bytes word h.0 (start_within e es (length bytes) h.2)) (words_push e bytes es word h.2)

-- the words that a push leaves
pub pushed_words :
    (bytes ends word bytes2 ends2 : List ℕ) (end : ℕ) → AreWords bytes ends → length ends < 1000000 → length word ≤ 1000
    → bytes2 ≡ bytes ++ word → end ≡ length bytes + length word → ends2 ≡ ends ++ end ∷ []
    → AreWords bytes2 ends2 × (words_from 0 bytes2 ends2 ≡ words_from 0 bytes ends ++ word ∷ [])
pushed_words bytes ends word bytes2 ends2 end h few short grown at longer =
    let longest : ℕ = length bytes + length word in
    let P : List ℕ → List ℕ → Type 0 = λ bs es. AreWords bs es × (words_from 0 bs es ≡ words_from 0 bytes ends ++ word ∷ []) in
    let within : AreEnds 0 (ends ++ longest ∷ []) (length (bytes ++ word)) =
    subst (AreEnds 0 (ends ++ longest ∷ [])) (sym (length-append bytes word)) (ends_push 0 ends (length bytes) longest h.within (omega arith) (omega arith)) in
    let base : P (bytes ++ word) (ends ++ longest ∷ []) =
    (record { few = omega (arith, length_push ends longest); within = within }, words_push 0 bytes ends word h.within) in
    subst (λ bs. P bs ends2) (sym grown) (subst (P (bytes ++ word)) (sym (longer ∙ ap (λ n. ends ++ n ∷ []) at)) base)

-- words have at most 1,000 bytes each
pub bytes_bounded : (bytes ends : List ℕ) → AreWords bytes ends → length bytes ≤ 1000 * length ends
bytes_bounded bytes ends h = omega (arith, few_bytes 0 ends (length bytes) h.within)

-- there is an end for each word
pub ends_as_words : (bytes ends : List ℕ) (words : List (List ℕ)) → words_from 0 bytes ends ≡ words → length words ≡ length ends
ends_as_words bytes ends words e = ap length (sym e) ∙ length-words_from 0 bytes ends

-- what is read between the ends
pub word_read :
    (bytes ends : List ℕ) (words : List (List ℕ)) (k start end : ℕ) → words_from 0 bytes ends ≡ words → k < length ends
    → start ≡ start_of 0 ends k → end ≡ get_or ends k end → IsAt words k (slice_range bytes start end)
word_read bytes ends words k start end e l from to =
    let stop : end ≡ get_or ends k 0 = to ∙ get_or_default ends k end 0 l in
    subst (λ ws. IsAt ws k (slice_range bytes start end)) e
    (subst (λ s. IsAt (words_from 0 bytes ends) k (slice_range bytes s end)) (sym from)
    (subst (λ t. IsAt (words_from 0 bytes ends) k (slice_range bytes (start_of 0 ends k) t)) (sym stop) (word_at 0 bytes ends k l)))

-- the start and the end of a word are in order, and within the bytes
pub read_within :
    (bytes ends : List ℕ) (k start end : ℕ) → AreWords bytes ends → k < length ends
    → start ≡ start_of 0 ends k → end ≡ get_or ends k end → (start ≤ end) × (end ≤ length bytes)
read_within bytes ends k start end h l from to =
    let stop : end ≡ get_or ends k 0 = to ∙ get_or_default ends k end 0 l in
    let w = word_within 0 ends (length bytes) k h.within l in
    (omega (arith, w.0, from, stop), omega (arith, w.1, stop))
