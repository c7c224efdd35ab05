-- What the kind of a token says of it.
use Rattle.std.proofs.Common.{◌≡◌, ℕ, Bool, true, false, not, ◌||◌, if◌then◌else◌, List, refl, ap}
use Rattle.std.specs.Prelude.{codes, ◌==◌}
use Rattle.std.proofs.lemmas.Bool.{eqb-true}
use Rattle.std.proofs.lemmas.Slice.Eq.{bytes_eq-Decides}
use Rattle.std.specs.Str.{bytes_eq}
use Rattle.tree_definitions.specs.Name.{is_section_word, IsName}
use Rattle.timbuk_definitions.proofs.Names.{name_is_plain, word_is_name}
use Rattle.timbuk_definitions.specs.Token.{Token, Mark, Arrow, Word, BadByte, IsToken, IsWord}
use Rattle.timbuk_definitions.specs.Grammar.{are_digits}
use Rattle.timbuk_definitions.specs.Machine.{Kind, Open, Close, Comma, Colon, Pointer, OpsWord, AutomatonWord, StatesWord, FinalWord, TransitionsWord, Named, Stray, mark_kind, word_kind, kind_of}

abbrev pub Sees : Token → Kind → Type 0
Sees t Open = t ≡ Mark 40
Sees t Close = t ≡ Mark 41
Sees t Comma = t ≡ Mark 44
Sees t Colon = t ≡ Mark 58
Sees t Pointer = t ≡ Arrow
Sees t OpsWord = t ≡ Word (codes "Ops")
Sees t AutomatonWord = t ≡ Word (codes "Automaton")
Sees t StatesWord = t ≡ Word (codes "States")
Sees t FinalWord = t ≡ Word (codes "Final")
Sees t TransitionsWord = t ≡ Word (codes "Transitions")
Sees t (Named w d) = (t ≡ Word w) × IsName w × (d ≡ are_digits w)
Sees t Stray = Unit {0}

-- a choice by a test has what both ways have
choose : (r : Bool) (P : Kind → Type 0) (x y : Kind) → (r ≡ true → P x) → (r ≡ false → P y) → P (if r then x else y)
choose true P x y f g = f refl
choose false P x y f g = g refl

sees_mark : (b : ℕ) → Sees (Mark b) (mark_kind b)
sees_mark b =
    choose (b == 40) (Sees (Mark b)) Open _ (λ e. ap Mark (eqb-true b 40 e)) λ _.
    choose (b == 41) (Sees (Mark b)) Close _ (λ e. ap Mark (eqb-true b 41 e)) λ _.
    choose (b == 44) (Sees (Mark b)) Comma _ (λ e. ap Mark (eqb-true b 44 e)) λ _.
    choose (b == 58) (Sees (Mark b)) Colon Stray (λ e. ap Mark (eqb-true b 58 e)) λ _. tt

is_word_of : (w v : List ℕ) → bytes_eq w v ≡ true → Word w ≡ Word v
is_word_of w v e = ap Word ((bytes_eq-Decides w v).0 e)

plain_from : (a b c d e : Bool) → a ≡ false → b ≡ false → c ≡ false → d ≡ false → e ≡ false → not (a || b || c || d || e) ≡ true
plain_from a b c d e p q r s t = rw (p, q, r, s, t) refl

sees_word : (w : List ℕ) → IsWord w → Sees (Word w) (word_kind w)
unfolding word_kind is_section_word
sees_word w h =
    choose (bytes_eq w (codes "Ops")) (Sees (Word w)) OpsWord _ (is_word_of w _) λ a.
    choose (bytes_eq w (codes "Automaton")) (Sees (Word w)) AutomatonWord _ (is_word_of w _) λ b.
    choose (bytes_eq w (codes "States")) (Sees (Word w)) StatesWord _ (is_word_of w _) λ c.
    choose (bytes_eq w (codes "Final")) (Sees (Word w)) FinalWord _ (is_word_of w _) λ d.
    choose (bytes_eq w (codes "Transitions")) (Sees (Word w)) TransitionsWord (Named w (are_digits w)) (is_word_of w _) λ e.
    (refl, word_is_name w h (plain_from _ _ _ _ _ a b c d e), refl)

pub sees : (t : Token) → IsToken t → Sees t (kind_of t)
sees (Mark b) h = sees_mark b
sees Arrow h = refl
sees (Word w) h = sees_word w h
sees (BadByte b) h = tt

-- the last of these choices, where no test passes
last : (a b c d e : Bool) (j k l m n o : Kind) → not (a || b || c || d || e) ≡ true
    → (if a then j else (if b then k else (if c then l else (if d then m else (if e then n else o))))) ≡ o
last true b c d e j k l m n o h = absurd cc
last false true c d e j k l m n o h = absurd cc
last false false true d e j k l m n o h = absurd cc
last false false false true e j k l m n o h = absurd cc
last false false false false true j k l m n o h = absurd cc
last false false false false false j k l m n o h = refl

-- a name is seen as one
pub name_kind : (w : List ℕ) → IsName w → word_kind w ≡ Named w (are_digits w)
unfolding word_kind is_section_word
name_kind w h =
    last (bytes_eq w (codes "Ops")) (bytes_eq w (codes "Automaton")) (bytes_eq w (codes "States")) (bytes_eq w (codes "Final")) (bytes_eq w (codes "Transitions"))
    OpsWord AutomatonWord StatesWord FinalWord TransitionsWord (Named w (are_digits w)) (name_is_plain w h)
