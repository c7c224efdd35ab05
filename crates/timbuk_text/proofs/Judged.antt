-- A text has one answer, unless memory runs out.
use Rattle.std.proofs.Common.{◌≡◌, ℕ, ◌⊎◌, inl, inr, List, refl, sym, ap, ◌∙◌, subst}
use Rattle.std.specs.Prelude.{Result, Ok, Err, IfOk, IsErrOf, MatchResult}
use Rattle.tree_definitions.specs.Automaton.{Automaton}
use Rattle.timbuk_definitions.specs.Place.{Limit, Names, Rank, Symbols, States, Rules, IsBadPlace, PassesLimit, PassesNoLimit}
use Rattle.timbuk_definitions.specs.Reading.{Spells}
use Rattle.timbuk_definitions.proofs.Spelled.{one_spelled}
use Rattle.timbuk_definitions.proofs.BadPlaces.{one_bad_place, no_file_with_bad_place}
use Rattle.timbuk_definitions.proofs.Limits.{one_limit}
use Rattle.timbuk_text.specs.declared.error.Counted.{Counted}
use Rattle.timbuk_text.specs.declared.error.TextError.{TextError}
use Rattle.timbuk_text.specs.Taking.{limit_of}

counted_of : Limit → Counted
counted_of Names = Counted.Names
counted_of Rank = Counted.Rank
counted_of Symbols = Counted.Symbols
counted_of States = Counted.States
counted_of Rules = Counted.Rules

back : (c : Counted) → counted_of (limit_of c) ≡ c
unfolding counted_of
back Counted.Names = refl
back Counted.Rank = refl
back Counted.Symbols = refl
back Counted.States = refl
back Counted.Rules = refl

same_counted : (c d : Counted) → limit_of c ≡ limit_of d → c ≡ d
same_counted c d e = sym (back c) ∙ ap counted_of e ∙ back d

not_both : (text : List ℕ) (a : Automaton) (at : ℕ) → IsBadPlace text at → ¬ Spells text a
not_both text a at b s = no_file_with_bad_place text at s.0 b s.1 s.2

-- what the answer says of the text
pub record Judges (text : List ℕ) (r : Result Automaton TextError) : Type 0 where
  pub ok : IfOk r (λ a. Spells text a × PassesNoLimit text)
  pub syntax_is : (at : ℕ) → IsErrOf r (TextError.Syntax at) → IsBadPlace text at × PassesNoLimit text
  pub limit_is : (what : Counted) (at : ℕ) → IsErrOf r (TextError.Limit what at) → PassesLimit text (limit_of what) at

pub spelled : (text : List ℕ) (r : Result Automaton TextError) → Judges text r → (a : Automaton) → Spells text a → PassesNoLimit text → MatchResult r (λ found. found ≡ a) (λ error. error ≡ TextError.Memory)
spelled text (Ok found) h a s n = one_spelled text found a h.ok.0 s
spelled text (Err (TextError.Syntax at)) h a s n = absurd (not_both text a at (h.syntax_is at refl).0 s)
spelled text (Err (TextError.Limit what at)) h a s n = absurd (n (limit_of what) at (h.limit_is what at refl))
spelled text (Err TextError.Memory) h a s n = refl

pub bad : (text : List ℕ) (r : Result Automaton TextError) → Judges text r → (at : ℕ) → IsBadPlace text at → PassesNoLimit text → IsErrOf r (TextError.Syntax at) ⊎ IsErrOf r TextError.Memory
bad text (Ok found) h at b n = absurd (not_both text found at b h.ok.0)
bad text (Err (TextError.Syntax place)) h at b n =
    let errors : ℕ → Result Automaton TextError = λ p. Err (TextError.Syntax p) in inl (ap errors (one_bad_place text place at (h.syntax_is place refl).0 b))
bad text (Err (TextError.Limit what place)) h at b n = absurd (n (limit_of what) place (h.limit_is what place refl))
bad text (Err TextError.Memory) h at b n = inr refl

pub over : (text : List ℕ) (r : Result Automaton TextError) → Judges text r → (what : Counted) (at : ℕ) → PassesLimit text (limit_of what) at → IsErrOf r (TextError.Limit what at) ⊎ IsErrOf r TextError.Memory
over text (Ok found) h what at p = absurd (h.ok.1 (limit_of what) at p)
over text (Err (TextError.Syntax place)) h what at p = absurd ((h.syntax_is place refl).1 (limit_of what) at p)
over text (Err (TextError.Limit which place)) h what at p =
    let same = one_limit text (limit_of which) (limit_of what) place at (h.limit_is which place refl) p in
    let counted = same_counted which what same.0 in
    inl (λ i. Err (TextError.Limit (counted i) (same.1 i)))
over text (Err TextError.Memory) h what at p = inr refl

pub judges_as : (text now : List ℕ) (r : Result Automaton TextError) → now ≡ text → IfOk r (λ a. Spells now a × PassesNoLimit now) → ((at : ℕ) → IsErrOf r (TextError.Syntax at) → IsBadPlace now at × PassesNoLimit now)
    → ((what : Counted) (at : ℕ) → IsErrOf r (TextError.Limit what at) → PassesLimit now (limit_of what) at) → Judges text r
judges_as text now r e ok syntax_is limit_is = subst (λ t. Judges t r) e (record { ok = ok; syntax_is = syntax_is; limit_is = limit_is })
