-- Bytes, tokens, and the tokens of a text.
use Rattle.std.specs.Prelude.{◌≡◌, ◌≢◌, ℕ, ◌==◌, nat_le, Bool, false, ◌&&◌, ◌||◌, if◌then◌else◌, List, [], ◌∷◌, ◌++◌, map, length}
use Rattle.std.specs.List.{AllByRecursion, flat_map}
use Rattle.tree_definitions.specs.Name.{has_arrow}

-- white space; one of ( ) , : ; a byte of a word; any other byte
pub data Sort : Type 0 where
  White Marked Inner Other : Sort

abbrev pub is_white : ℕ → Bool
is_white b = (b == 32) || (b == 9) || (b == 10) || (b == 13)

abbrev pub is_mark : ℕ → Bool
is_mark b = (b == 40) || (b == 41) || (b == 44) || (b == 58)

unfoldable pub sort_of : ℕ → Sort
sort_of b =
    if is_white b then White
    else (if is_mark b then Marked
    else (if nat_le 33 b && nat_le b 126 then Inner
    else Other))

-- a mark, the arrow, a word, or any other byte
pub data Token : Type 0 where
  Mark : ℕ → Token
  Arrow : Token
  Word : List ℕ → Token
  BadByte : ℕ → Token

-- the byte -, and the byte > after it
abbrev pub is_arrow : ℕ → ℕ → Bool
is_arrow b c = (b == 45) && (c == 62)

pub record IsWord (w : List ℕ) : Type 0 where
  pub some : w ≢ []
  pub inner : AllByRecursion (λ b. sort_of b ≡ Inner) w
  pub no_arrow : has_arrow w ≡ false

abbrev pub bytes_of : Token → List ℕ
bytes_of (Mark b) = b ∷ []
bytes_of Arrow = 45 ∷ 62 ∷ []
bytes_of (Word w) = w
bytes_of (BadByte b) = b ∷ []

abbrev pub IsToken : Token → Type 0
IsToken (Mark b) = sort_of b ≡ Marked
IsToken Arrow = Unit {0}
IsToken (Word w) = IsWord w
IsToken (BadByte b) = sort_of b ≡ Other

abbrev pub IsGap : List ℕ → Type 0
IsGap gap = AllByRecursion (λ b. sort_of b ≡ White) gap

-- a token and the gap after it
pub record Lexeme : Type 0 where
  pub token : Token
  pub gap : List ℕ

abbrev pub bytes_of_lexeme : Lexeme → List ℕ
bytes_of_lexeme l = bytes_of l.token ++ l.gap

abbrev pub text_of : List Lexeme → List ℕ
text_of ls = flat_map bytes_of_lexeme ls

abbrev pub tokens_of : List Lexeme → List Token
tokens_of ls = map (λ l. l.token) ls

-- the lexeme is no word with an empty gap before a word
abbrev pub IsParted : Lexeme → List Lexeme → Type 0
IsParted l [] = Unit {0}
IsParted l (m ∷ ms) = (v w : List ℕ) → l.token ≡ Word v → m.token ≡ Word w → l.gap ≢ []

abbrev pub AreLexemes : List Lexeme → Type 0
AreLexemes [] = Unit {0}
AreLexemes (l ∷ ls) = IsToken l.token × IsGap l.gap × IsParted l ls × AreLexemes ls

-- the text is a gap, then tokens with a gap after each one, and between two words in a row the gap is not empty
pub record IsLexed (text gap : List ℕ) (lexemes : List Lexeme) : Type 0 where
  pub whole : text ≡ gap ++ text_of lexemes
  pub white : IsGap gap
  pub each : AreLexemes lexemes

abbrev pub Tokens : List ℕ → List Token → Type 0
Tokens text ts = (gap : List ℕ) × (lexemes : List Lexeme) × IsLexed text gap lexemes × (tokens_of lexemes ≡ ts)

-- the offset of the token that comes after the gap and these lexemes
abbrev pub offset_after : List ℕ → List Lexeme → ℕ
offset_after gap front = length (gap ++ text_of front)
