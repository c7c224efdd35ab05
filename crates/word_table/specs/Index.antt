-- Places of words in slots, by the hashes of the words.
use Rattle.std.specs.Prelude.{◌≡◌, ◌⊎◌, ℕ, ◌+◌, ◌-◌, ◌*◌, ◌%◌, ◌<◌, ◌≤◌, List, [], ◌∷◌, Option, None, Some, length, slice_index, slice_index_or, take}
use Rattle.std.specs.BTreeMap.{BTreeMap, get_by}
use Rattle.std.specs.Cmp.Lexicographic.{slice_cmp}
use Rattle.std.specs.Int.{IsPowerOfTwo}
use Rattle.std.specs.Ordering.{nat_cmp}
use Rattle.std.specs.declared.vec.Vec.{Vec}
use Rattle.std.specs.Hash.FoldHasher.{initial, write, finish}
use Rattle.word_table.specs.declared.index.Slot.{Slot}

-- the hash of a word, written in one piece
unfoldable pub hash_of : List ℕ → ℕ
hash_of word = finish (write initial word)

-- bytes as one number, the first one lowest
abbrev pub number_of : List ℕ → ℕ
number_of [] = 0
number_of (byte ∷ bytes) = byte + 256 * number_of bytes

-- the first up to 8 bytes of a word as one number
unfoldable pub key_of : List ℕ → ℕ
key_of word = number_of (take 8 word)

-- the bucket of a hash among so many
abbrev pub bucket_of : ℕ → ℕ → ℕ
bucket_of buckets hash = hash % buckets

-- the word at this place
abbrev pub word_at : List (List ℕ) → ℕ → List ℕ
word_at words place = slice_index_or words place []

-- each number of the list is a byte
abbrev pub AreBytes : List ℕ → Type 0
AreBytes word = (k : ℕ) → k < length word → slice_index word k < 256

-- at most 1,000 bytes
pub record IsShort (word : List ℕ) : Type 0 where
  pub few : length word ≤ 1000
  pub bytes : AreBytes word

-- an empty slot
abbrev pub empty : Slot
empty = record { key = 0; len = 0; count = 0 }

-- the count of the slot at this index
abbrev pub count_at : List Slot → ℕ → ℕ
count_at slots s = (slice_index_or slots s empty).count

-- the slot, which is taken, is that of one of the first n places
pub record IsSlotOf (word_of_place : ℕ → List ℕ) (n : ℕ) (slot : Slot) : Type 0 where
  pub within : slot.count ≤ n
  pub len : slot.len ≡ length (word_of_place (slot.count - 1))
  pub key : slot.key ≡ key_of (word_of_place (slot.count - 1))

-- each slot from this index up to that one is taken
abbrev pub AreTaken : List Slot → ℕ → ℕ → Type 0
AreTaken slots from end = (s : ℕ) → from ≤ s → s < end → 0 < count_at slots s

-- the place that the overflow has for the word
abbrev pub place_in : {A : Type 0} → BTreeMap (Vec ℕ A) ℕ → List ℕ → Option ℕ
place_in overflow word = get_by (λ copy. slice_cmp nat_cmp word copy.items) overflow

-- the place has the slot at this index, one of the 64 from its bucket on, and those before it are taken
pub record IsInSlot (slots : List Slot) (bucket place s : ℕ) : Type 0 where
  pub low : bucket ≤ s
  pub high : s < bucket + 64
  pub here : count_at slots s ≡ place + 1
  pub taken : AreTaken slots bucket s

-- the place is what was found in the overflow for its word, and all 64 slots from its bucket on are taken
pub record IsInOverflow (slots : List Slot) (bucket : ℕ) (found : Option ℕ) (place : ℕ) : Type 0 where
  pub listed : found ≡ Some place
  pub taken : AreTaken slots bucket (bucket + 64)

-- the slot at this index is the first empty one of the 64 from the bucket on
pub record IsEmptySlot (slots : List Slot) (bucket s : ℕ) : Type 0 where
  pub low : bucket ≤ s
  pub high : s < bucket + 64
  pub free : count_at slots s ≡ 0
  pub taken : AreTaken slots bucket s

-- the index of an empty slot for the place, or none where it is in the overflow
abbrev pub IsSlotFor : List Slot → ℕ → Option ℕ → ℕ → Option ℕ → Type 0
IsSlotFor slots bucket found place None = IsInOverflow slots bucket found place
IsSlotFor slots bucket found place (Some s) = IsEmptySlot slots bucket s

-- a search for the word comes to the place
abbrev pub IsReached : ℕ → List Slot → (List ℕ → Option ℕ) → List ℕ → ℕ → Type 0
IsReached buckets slots listed word place =
    ((s : ℕ) × IsInSlot slots (bucket_of buckets (hash_of word)) place s) ⊎ IsInOverflow slots (bucket_of buckets (hash_of word)) (listed word) place

-- the slots have some of the first n places and nothing else, and a search comes to each of these places
pub record IsIndex (word_of_place : ℕ → List ℕ) (buckets : ℕ) (slots : List Slot) (listed : List ℕ → Option ℕ) (n : ℕ) : Type 0 where
  pub slotted : (s : ℕ) → s < length slots → 0 < count_at slots s → IsSlotOf word_of_place n (slice_index_or slots s empty)
  pub reached : (k : ℕ) → k < n → IsReached buckets slots listed (word_of_place k) k

-- an index of the words over a power of two of buckets, at least 5 for 4 words; no words may have no bucket
pub record IsIndexOf (words : List (List ℕ)) (buckets : ℕ) (slots : List Slot) (listed : List ℕ → Option ℕ) : Type 0 where
  pub power : 0 < buckets → IsPowerOfTwo buckets
  pub wide : 0 < buckets → length slots ≡ buckets + 64
  pub room : 5 * length words ≤ 4 * buckets
  pub short : (k : ℕ) → k < length words → IsShort (word_at words k)
  pub index : IsIndex (word_at words) buckets slots listed (length words)
