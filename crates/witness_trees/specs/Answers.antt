-- What a function of the reader answers, beside what the definitions say.
use Rattle.std.specs.Prelude.{◌≡◌, ℕ, List, Option, Some, None, MatchOption, ◌<◌, length, take, drop, ◌+◌, min, map}
use Rattle.std.specs.declared.result.Result.{Result}
use Rattle.std.specs.Prelude.{Ok, Err}
use Rattle.witness_trees.specs.declared.reader.NodesTextError.{NodesTextError}
use Rattle.witness_trees.specs.declared.reader.NodesTextError.TheVariants.{BadText, UnknownName, Memory}
use Rattle.witness_trees.specs.Judged.{Verdict, Is, BadAt, UnknownAt, cut_at, Written}

-- the answer is the verdict, unless memory ran out
abbrev pub Answers : {X Y : Type 0} → (X → Y) → Result X NodesTextError → Verdict Y → Type 0
Answers view (Ok x) verdict = verdict ≡ Is (view x)
Answers view (Err (BadText at)) verdict = verdict ≡ BadAt at
Answers view (Err (UnknownName at)) verdict = verdict ≡ UnknownAt at
Answers view (Err Memory) verdict = Unit {0}

-- the answer is what is spelled, or a refusal at this byte where nothing is, unless memory ran out
abbrev pub Spells : {X Y : Type 0} → ℕ → (X → Y) → Result X NodesTextError → Option Y → Type 0
Spells at view (Ok x) spelled = spelled ≡ Some (view x)
Spells at view (Err (BadText byte)) spelled = (byte ≡ at) × (spelled ≡ None)
Spells at view (Err (UnknownName byte)) spelled = ⊥
Spells at view (Err Memory) spelled = Unit {0}

-- the first place of the mark
abbrev pub IsCut : ℕ → List ℕ → Option ℕ → Type 0
IsCut mark bytes place = MatchOption place (cut_at mark bytes ≡ None)
    (λ i. (i < length bytes) × (cut_at mark bytes ≡ Some (take i bytes, drop (i + 1) bytes)))

-- the number, or 2 ^ 32 where it is greater
abbrev pub capped : ℕ → ℕ
capped n = min n 4294967296

abbrev pub capped_line : Written → Written
capped_line w = record { number = capped w.number; place = w.place; name = w.name; kids = map capped w.kids }

abbrev pub capped_call : List ℕ × List ℕ → List ℕ × List ℕ
capped_call c = (c.0, map capped c.1)
