-- What the tokens of a text are.
use Rattle.std.specs.Prelude.{◌≡◌, ℕ, ◌+◌, ◌<◌, cond, ◌&&◌, ◌||◌, List, [], ◌∷◌, ◌++◌, length, take, drop, Some, None, Option, ◌==◌, nat_le}
use Rattle.lines.specs.Lines.{newlines, gap, lexeme}
use Rattle.lines.specs.declared.token.Place.{Place}
use Rattle.lines.specs.declared.token.Token.{Token}
use Rattle.lines.specs.declared.token.Token.TheVariants.{Word, Number, LineEnd}
use Rattle.lines.specs.declared.token.Tokens.{Tokens}

-- what is not yet read
abbrev pub rest : Tokens → List ℕ
rest s = drop s.at s.text.now

-- what is read, blanks and line ends too
abbrev pub read : Tokens → List ℕ
read s = take s.at s.text.now

-- the line that the cursor stands in, counted from 1
abbrev pub line_at : Tokens → ℕ
line_at s = 1 + newlines (read s)

-- both stand in one text
abbrev pub SameText : Tokens → Tokens → Type 0
SameText s u = u.text.now ≡ s.text.now

abbrev pub bytes_of : Token → List ℕ
bytes_of (Word t p) = t.now
bytes_of (Number t p) = t.now
bytes_of (LineEnd t p) = t.now

abbrev pub place_of : Token → Place
place_of (Word t p) = p
place_of (Number t p) = p
place_of (LineEnd t p) = p

pub data Sort : Type 0 where
  word : Sort
  number : Sort
  line_end : Sort

abbrev pub sort_of : Token → Sort
sort_of (Word t p) = word
sort_of (Number t p) = number
sort_of (LineEnd t p) = line_end

-- the sort that a token's text has: a digit or a minus begins a number, and an empty field is a word
abbrev pub text_sort : List ℕ → Sort
text_sort [] = word
text_sort (b ∷ bs) = cond (b == 10) line_end (cond ((nat_le 48 b && nat_le b 57) || b == 45) number word)

-- t is made of a text and its place
pub record Made (text : List ℕ) (p : Place) (t : Token) : Type 0 where
  pub bytes : bytes_of t ≡ text
  pub place : place_of t ≡ p
  pub sorted : sort_of t ≡ text_sort text

-- t is the first token of what s has left, and u stands after it
pub record Stepped (s : Tokens) (t : Token) (u : Tokens) : Type 0 where
  pub text : SameText s u
  pub first : bytes_of t ≡ lexeme (rest s)
  pub sorted : sort_of t ≡ text_sort (bytes_of t)
  pub split : rest s ≡ gap (rest s) ++ (bytes_of t ++ rest u)
  pub onward : length (rest u) < length (rest s)
  -- it begins at the cursor, or after the one blank there, and is the part of the text at its place
  pub offset : (place_of t).offset ≡ length (read s) + length (gap (rest s))
  pub part : bytes_of t ≡ take (length (bytes_of t)) (drop (place_of t).offset s.text.now)
  pub line : (place_of t).line ≡ 1 + newlines (take (place_of t).offset s.text.now)

-- nothing comes next exactly where nothing is left, and then nothing changes
abbrev pub Next : Tokens → Option Token → Tokens → Type 0
Next s (Some t) u = Stepped s t u
Next s None u = (rest s ≡ []) × (u ≡ s)

-- u is s with nothing left
abbrev pub Finished : Tokens → Tokens → Type 0
Finished s u = (rest u ≡ []) × SameText s u

-- x is the text of a field that s went on with, an empty one too, and u stands after it
pub record TakenField (s : Tokens) (x : List ℕ) (u : Tokens) : Type 0 where
  pub some : 0 < length (rest s)
  pub sorted : text_sort x ≡ line_end → ⊥
  pub is : x ≡ lexeme (rest s)
  pub split : rest s ≡ gap (rest s) ++ (x ++ rest u)
  pub text : SameText s u

-- no field comes next
abbrev pub NoField : Tokens → Tokens → Type 0
NoField s u = (0 < length (rest s) → text_sort (lexeme (rest s)) ≡ line_end) × SameText s u
