-- Indexes of places, as they are made and grow.
use Rattle.std.proofs.Common.{◌≡◌, ◌≢◌, ℕ, ◌+◌, ◌-◌, ◌*◌, ◌<◌, ◌≤◌, List, [], ◌∷◌, ◌++◌, Option, length, get_or, refl, sym, ap, ◌∙◌, subst, arith, ⊎_elim, inl, inr}
use Rattle.std.proofs.Math.ListN.{set, length-set}
use Rattle.std.specs.Prelude.{AllPairs, Contains}
use Rattle.std.specs.Int.{IsPowerOfTwo}
use Rattle.std.proofs.lemmas.Bool.{cases_eq, cases_lt}
use Rattle.std.proofs.lemmas.List.Quantifiers.{all_pairs_push}
use Rattle.std.proofs.lemmas.List.{get_or_default, get_or_append_left, get_or_push, get_or-set_same, get_or-set_other, length_push}
use Rattle.word_table.specs.declared.index.Slot.{Slot}
use Rattle.word_table.specs.Index.{AreTaken, IsEmptySlot, IsInOverflow, IsInSlot, IsIndex, IsIndexOf, IsReached, IsShort, IsSlotFor, IsSlotOf, bucket_of, count_at, empty, hash_of, key_of, word_at}
use Rattle.word_table.specs.Table.{IsTable}

slot_later : (f : ℕ → List ℕ) (n m : ℕ) (slot : Slot) → n ≤ m → IsSlotOf f n slot → IsSlotOf f m slot
slot_later f n m slot l h = record { within = omega (arith, l, h.within); len = h.len; key = h.key }

-- an index of the same words, for which the overflow has the same places
pub index_alike :
    (f g : ℕ → List ℕ) (buckets : ℕ) (slots : List Slot) (listed later : List ℕ → Option ℕ) (n : ℕ) → ((k : ℕ) → k < n → g k ≡ f k)
    → ((k : ℕ) → k < n → later (f k) ≡ listed (f k)) → IsIndex f buckets slots listed n → IsIndex g buckets slots later n
index_alike f g buckets slots listed later n same kept old = record {
  slotted = λ s l some.
      let h : IsSlotOf f n (get_or slots s empty) = old.slotted s l some in
      let e : g (count_at slots s - 1) ≡ f (count_at slots s - 1) = same (count_at slots s - 1) (omega (arith, h.within, some)) in
      record { within = h.within; len = h.len ∙ ap length (sym e); key = h.key ∙ ap key_of (sym e) };
  reached = λ k l.
      subst (λ (w : List ℕ). IsReached buckets slots later w k) (sym (same k l))
      (⊎_elim
      (λ (m : (s : ℕ) × IsInSlot slots (bucket_of buckets (hash_of (f k))) k s). inl m)
      (λ (m : IsInOverflow slots (bucket_of buckets (hash_of (f k))) (listed (f k)) k). inr (record { listed = kept k l ∙ m.listed; taken = m.taken }))
      (old.reached k l));
}

module _ (slots : List Slot) (s : ℕ) (slot : Slot) (within : s < length slots) where
  filled_at : count_at (set slots s slot) s ≡ slot.count
  filled_at = ap (λ (x : Slot). x.count) (get_or-set_same slots s slot empty within)

  filled_off : (t : ℕ) → t ≢ s → count_at (set slots s slot) t ≡ count_at slots t
  filled_off t off = ap (λ (x : Slot). x.count) (get_or-set_other slots s t slot empty off)

  taken_filled : (from end : ℕ) → 0 < slot.count → AreTaken slots from end → AreTaken (set slots s slot) from end
  taken_filled from end some h t low high =
      ⊎_elim
      (λ (e : t ≡ s). subst (λ (i : ℕ). 0 < count_at (set slots s slot) i) (sym e) (subst (λ (n : ℕ). 0 < n) (sym filled_at) some))
      (λ (off : t ≢ s). subst (λ (n : ℕ). 0 < n) (sym (filled_off t off)) (h t low high))
      (cases_eq t s)

module _ (f : ℕ → List ℕ) (buckets : ℕ) (slots : List Slot) (listed : List ℕ → Option ℕ) (slot : Slot) (some : 0 < slot.count) (is : IsSlotOf f slot.count slot) (old : IsIndex f buckets slots listed (slot.count - 1)) where
  -- the slot of the next place fills an empty one
  pub index_filled : (s : ℕ) → s < length slots → IsEmptySlot slots (bucket_of buckets (hash_of (f (slot.count - 1)))) s → IsIndex f buckets (set slots s slot) listed slot.count
  index_filled s within at =
      let wide : length (set slots s slot) ≡ length slots = length-set slots s slot in
      record {
        slotted = λ t l filled.
            ⊎_elim
            (λ (e : t ≡ s).
            subst (λ (i : ℕ). IsSlotOf f slot.count (get_or (set slots s slot) i empty)) (sym e)
            (subst (IsSlotOf f slot.count) (sym (get_or-set_same slots s slot empty within)) is))
            (λ (off : t ≢ s).
            subst (IsSlotOf f slot.count) (sym (get_or-set_other slots s t slot empty off))
            (slot_later f (slot.count - 1) slot.count (get_or slots t empty) (omega arith)
            (old.slotted t (subst (λ (n : ℕ). t < n) wide l) (subst (λ (n : ℕ). 0 < n) (filled_off slots s slot within t off) filled))))
            (cases_eq t s);
        reached = λ k l.
            ⊎_elim
            (λ (e : k ≡ slot.count - 1).
            subst (λ (i : ℕ). IsReached buckets (set slots s slot) listed (f i) i) (sym e)
            (inl (
              s,
              record {
                low = at.low;
                high = at.high;
                here = filled_at slots s slot within ∙ (let next : slot.count ≡ slot.count - 1 + 1 = omega (arith, some) in next);
                taken = taken_filled slots s slot within (bucket_of buckets (hash_of (f (slot.count - 1)))) s some at.taken;
              },
            )))
            (λ (off : k ≢ slot.count - 1).
            let bucket : ℕ = bucket_of buckets (hash_of (f k)) in
            ⊎_elim
            (λ (m : (t : ℕ) × IsInSlot slots bucket k t).
            let elsewhere : m.0 ≢ s = λ e. absurd (omega (arith, ap (count_at slots) e, m.1.here, at.free)) in
            inl (
              m.0,
              record {
                low = m.1.low;
                high = m.1.high;
                here = filled_off slots s slot within m.0 elsewhere ∙ m.1.here;
                taken = taken_filled slots s slot within bucket m.0 some m.1.taken;
              },
            ))
            (λ (m : IsInOverflow slots bucket (listed (f k)) k).
            inr (record { listed = m.listed; taken = taken_filled slots s slot within bucket (bucket + 64) some m.taken }))
            (old.reached k (omega (arith, l, off))))
            (cases_eq k (slot.count - 1));
      }

  -- the overflow has the next place
  pub index_overflows : IsInOverflow slots (bucket_of buckets (hash_of (f (slot.count - 1)))) (listed (f (slot.count - 1))) (slot.count - 1) → IsIndex f buckets slots listed slot.count
  index_overflows at = record {
    slotted = λ t l filled. slot_later f (slot.count - 1) slot.count (get_or slots t empty) (omega arith) (old.slotted t l filled);
    reached = λ k l.
        ⊎_elim
        (λ (e : k ≡ slot.count - 1). subst (λ (i : ℕ). IsReached buckets slots listed (f i) i) (sym e) (inr at))
        (λ (off : k ≢ slot.count - 1). old.reached k (omega (arith, l, off)))
        (cases_eq k (slot.count - 1));
  }

-- a slot for a word is one for the same word of the same place
pub slot_for_same :
    (slots : List Slot) (buckets bucket : ℕ) (listed : List ℕ → Option ℕ) (word same : List ℕ) (place here : ℕ) (at : Option ℕ) → bucket ≡ bucket_of buckets (hash_of word)
    → same ≡ word → here ≡ place → IsSlotFor slots bucket (listed word) place at → IsSlotFor slots (bucket_of buckets (hash_of same)) (listed same) here at
slot_for_same slots buckets bucket listed word same place here at home e p h =
    subst (λ (w : List ℕ). IsSlotFor slots (bucket_of buckets (hash_of w)) (listed w) here at) (sym e)
    (subst (λ (k : ℕ). IsSlotFor slots (bucket_of buckets (hash_of word)) (listed word) k at) (sym p)
    (subst (λ (b : ℕ). IsSlotFor slots b (listed word) place at) home h))

-- no place has a word that is lacked
pub other_at : (words : List (List ℕ)) (word : List ℕ) → ¬ Contains words word → (k : ℕ) → k < length words → word_at words k ≢ word
other_at words word lacks k l e = lacks (k, l, get_or_default words k word [] l ∙ e)

module _ (words : List (List ℕ)) (word : List ℕ) (buckets : ℕ) (slots : List Slot) (distinct : AllPairs ◌≢◌ words) (lacks : ¬ Contains words word) where
  -- a table of the same words after a change of what the overflow has for the word
  pub table_relisted :
      (listed later : List ℕ → Option ℕ) → ((other : List ℕ) → other ≢ word → later other ≡ listed other) → IsIndexOf words buckets slots listed → IsTable words buckets slots later
  table_relisted listed later kept h = record {
    distinct = distinct;
    indexed = record {
      power = h.power;
      wide = h.wide;
      room = h.room;
      short = h.short;
      index =
          index_alike (word_at words) (word_at words) buckets slots listed later (length words) (λ k l. refl) (λ k l. kept (word_at words k) (other_at words word lacks k l)) h.index;
    };
  }

  -- a table with the word as one more
  pub table_longer :
      (listed : List ℕ → Option ℕ) → (0 < buckets → IsPowerOfTwo buckets) → (0 < buckets → length slots ≡ buckets + 64) → 5 * (length words + 1) ≤ 4 * buckets
      → ((k : ℕ) → k < length words → IsShort (word_at words k)) → IsShort word → IsIndex (word_at (words ++ word ∷ [])) buckets slots listed (length words + 1)
      → IsTable (words ++ word ∷ []) buckets slots listed
  table_longer listed power wide room short last h =
      let more : length (words ++ word ∷ []) ≡ length words + 1 = length_push words word in
      record {
        distinct = all_pairs_push ◌≢◌ words word distinct (λ k d l e. lacks (k, l, get_or_default words k word d l ∙ e));
        indexed = record {
          power = power;
          wide = wide;
          room = omega (arith, more, room);
          short = λ k l.
              ⊎_elim
              (λ (early : k < length words). subst IsShort (sym (get_or_append_left words (word ∷ []) [] k early)) (short k early))
              (λ (late : length words ≤ k). subst IsShort (sym (get_or_push words word [] k (omega (arith, late, l, more)))) last)
              (cases_lt k (length words));
          index = subst (IsIndex (word_at (words ++ word ∷ [])) buckets slots listed) (sym more) h;
        };
      }
