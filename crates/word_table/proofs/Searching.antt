-- The search for a word from its bucket on.
use Rattle.std.proofs.Common.{◌≡◌, ◌≢◌, ℕ, ◌+◌, ◌-◌, ◌<◌, ◌≤◌, false, List, [], Option, Some, sym, ap, ◌∙◌, arith, ⊎_elim}
use Rattle.std.specs.Prelude.{Contains, bytes_eq}
use Rattle.std.proofs.lemmas.Bool.{cases_lt, false≢true}
use Rattle.std.proofs.lemmas.List.{get_or_default}
use Rattle.std.proofs.lemmas.Option.{slice_get-get_or}
use Rattle.std.proofs.lemmas.Slice.Eq.{bytes_eq-Decides}
use Rattle.tree_definitions.specs.Relation.{IsAt}
use Rattle.word_table.specs.declared.index.Slot.{Slot}
use Rattle.word_table.specs.Index.{IsIndexOf, IsInOverflow, IsInSlot, bucket_of, count_at, hash_of, word_at}

-- the slots from the bucket up to this index are taken by other words
pub record ArePassed (words : List (List ℕ)) (word : List ℕ) (slots : List Slot) (bucket end : ℕ) : Type 0 where
  pub taken : (s : ℕ) → bucket ≤ s → s < end → 0 < count_at slots s
  pub other : (s : ℕ) → bucket ≤ s → s < end → word_at words (count_at slots s - 1) ≢ word

-- what is read at the place is not the word
pub other_word : (words : List (List ℕ)) (k : ℕ) (read word : List ℕ) → IsAt words k read → bytes_eq read word ≡ false → ¬ IsAt words k word
other_word words k read word at differs same =
    let e : read ≡ word = cc in
    false≢true (sym differs ∙ (bytes_eq-Decides read word).1 e)

module _ (words : List (List ℕ)) (word : List ℕ) (buckets : ℕ) (slots : List Slot) (listed : List ℕ → Option ℕ) (bucket end : ℕ) (index : IsIndexOf words buckets slots listed) (home : bucket ≡ bucket_of buckets (hash_of word)) (passed : ArePassed words word slots bucket end) where
  -- no slot that was passed has the place of the word
  not_passed : (k s : ℕ) → word_at words k ≡ word → IsInSlot slots (bucket_of buckets (hash_of (word_at words k))) k s → bucket ≤ s → s < end → ⊥
  not_passed k s e h low high =
      let place : count_at slots s - 1 ≡ k = omega (arith, h.here) in
      passed.other s low high (ap (word_at words) place ∙ e)

  same_home : (k : ℕ) → word_at words k ≡ word → bucket_of buckets (hash_of (word_at words k)) ≡ bucket
  same_home k e = ap (λ w. bucket_of buckets (hash_of w)) e ∙ sym home

  -- an empty slot ends the search
  pub empty_ends : bucket ≤ end → end < bucket + 64 → count_at slots end ≡ 0 → ¬ Contains words word
  empty_ends from within free m =
      let e : word_at words m.0 ≡ word = get_or_default words m.0 [] word m.1 ∙ m.2 in
      let at : bucket_of buckets (hash_of (word_at words m.0)) ≡ bucket = same_home m.0 e in
      ⊎_elim
      (λ (h : (s : ℕ) × IsInSlot slots (bucket_of buckets (hash_of (word_at words m.0))) m.0 s).
      ⊎_elim
      (λ (l : h.0 < end). not_passed m.0 h.0 e h.1 (omega (arith, h.1.low, at)) l)
      (λ (l : end ≤ h.0).
      ⊎_elim
      (λ (before : end < h.0). absurd (omega (arith, h.1.taken end (omega (arith, at, from)) before, free)))
      (λ (behind : h.0 ≤ end).
      let same : h.0 ≡ end = omega (arith, l, behind) in
      absurd (omega (arith, ap (count_at slots) same, h.1.here, free)))
      (cases_lt end h.0))
      (cases_lt h.0 end))
      (λ (h : IsInOverflow slots (bucket_of buckets (hash_of (word_at words m.0))) (listed (word_at words m.0)) m.0).
      absurd (omega (arith, h.taken end (omega (arith, at, from)) (omega (arith, at, within)), free)))
      (index.index.reached m.0 m.1)

  -- so does the overflow, once all 64 slots are passed
  pub overflow_ends : bucket + 64 ≤ end → ((k : ℕ) → IsAt words k word → listed word ≢ Some k) → ¬ Contains words word
  overflow_ends all none m =
      let e : word_at words m.0 ≡ word = get_or_default words m.0 [] word m.1 ∙ m.2 in
      let at : bucket_of buckets (hash_of (word_at words m.0)) ≡ bucket = same_home m.0 e in
      ⊎_elim
      (λ (h : (s : ℕ) × IsInSlot slots (bucket_of buckets (hash_of (word_at words m.0))) m.0 s).
      not_passed m.0 h.0 e h.1 (omega (arith, h.1.low, at)) (omega (arith, h.1.high, at, all)))
      (λ (h : IsInOverflow slots (bucket_of buckets (hash_of (word_at words m.0))) (listed (word_at words m.0)) m.0).
      none m.0 (slice_get-get_or words m.0 [] m.1 ∙ ap (λ (w : List ℕ). Some w) e) (ap listed (sym e) ∙ h.listed))
      (index.index.reached m.0 m.1)
