-- What a reader answers: it reads a value exactly where the text goes on with what is written of that value.
use Rattle.std.specs.Prelude.{◌≡◌, ℕ, ◌+◌, ◌<◌, Bool, true, false, List, [], ◌∷◌, ◌++◌, length, Some, None, decimal, Option, ◌≢◌}
use Rattle.std.specs.List.{AllByRecursion}
use Rattle.lines.specs.Lexing.{rest, line_at, SameText}
use Rattle.lines.specs.Lines.{separates, field}
use Rattle.lines.specs.declared.token.Tokens.{Tokens}

-- a field ends here
abbrev pub Ends : List ℕ → Type 0
Ends [] = Unit {0}
Ends (b ∷ bs) = separates b ≡ true

abbrev pub Anything : {A : Type 0} → A → Type 0
Anything x = Unit {0}

abbrev pub byte : ℕ → Unit {0} → List ℕ
byte b x = b ∷ []

-- what is written of a, and then t
abbrev pub before : {A : Type 0} → (A → List ℕ) → A → List ℕ → List ℕ
before written a t = written a ++ t

-- t, after one blank where one is asked for
abbrev pub blank_if : Bool → List ℕ → List ℕ
blank_if true t = 32 ∷ t
blank_if false t = t

-- what is written of a, after one blank where one is asked for, and then t
abbrev pub led : {A : Type 0} → Bool → (A → List ℕ) → A → List ℕ → List ℕ
led b written a t = blank_if b (written a ++ t)

-- each of a row of values after one blank, and then t
abbrev pub spaced : {A : Type 0} → (A → List ℕ) → List A → List ℕ → List ℕ
spaced written [] t = t
spaced written (a ∷ xs) t = 32 ∷ (written a ++ spaced written xs t)

-- a row of values, split by one blank, and then t
abbrev pub fields_of : {A : Type 0} → (A → List ℕ) → List A → List ℕ → List ℕ
fields_of written [] t = t
fields_of written (a ∷ xs) t = written a ++ spaced written xs t

-- a line of numbers, split by one blank, then its line end, and then t; of no numbers, the line end alone
abbrev pub numbers_line : List ℕ → List ℕ → List ℕ
numbers_line ns t = fields_of decimal ns (10 ∷ t)

-- from s to u: values that are valid are written so, and what follows them stops them.
-- Where the cursor stands after None is left free, but for the text, which is the same.
abbrev pub Reads : {A : Type 0} → (A → Type 0) → (A → List ℕ → List ℕ) → (List ℕ → Type 0) → Tokens → Option A → Tokens → Type 0
Reads valid written stops s (Some a) u = valid a × (rest s ≡ written a (rest u)) × stops (rest u) × SameText s u
Reads {A} valid written stops s None u = ((a : A) (t : List ℕ) → valid a → stops t → rest s ≢ written a t) × SameText s u

-- what was read is all that can be: no other valid value is so written at the start of what was left
abbrev pub Only : {A : Type 0} → (A → Type 0) → (A → List ℕ → List ℕ) → (List ℕ → Type 0) → Tokens → Option A → Tokens → Type 0
Only {A} valid written stops s (Some a) u = (b : A) (t : List ℕ) → valid b → stops t → rest s ≡ written b t → (b ≡ a) × (t ≡ rest u)
Only valid written stops s None u = Unit {0}

-- where something was read, the cursor stands in the next line
abbrev pub NextLine : {A : Type 0} → Tokens → Option A → Tokens → Type 0
NextLine s (Some a) u = line_at u ≡ line_at s + 1
NextLine s None u = Unit {0}

-- a whole line is read, in the one way that it can be
pub record ReadsLine {A : Type 0} (valid : A → Type 0) (written : A → List ℕ → List ℕ) (s : Tokens) (r : Option A) (u : Tokens) : Type 0 where
  pub reads : Reads valid written Anything s r u
  pub only : Only valid written Anything s r u
  pub next : NextLine s r u

-- n valid values
abbrev pub Row : {A : Type 0} → (A → Type 0) → ℕ → List A → Type 0
Row valid n xs = (length xs ≡ n) × AllByRecursion valid xs

-- a field that is not empty is the whole of x
abbrev pub FieldText : List ℕ → Type 0
FieldText x = (0 < length x) × (field x ≡ x)

-- a text is written as it is
abbrev pub itself : List ℕ → List ℕ
itself x = x

-- the last of n fields ends here; where there is none, anything may stand here
abbrev pub EndsAfter : ℕ → List ℕ → Type 0
EndsAfter n t = 0 < n → Ends t

-- what was read into xs, where r says that something was
abbrev pub filled : {A : Type 0} → Option (Unit {0}) → A → Option A
filled (Some x) xs = Some xs
filled None xs = None

-- a number after one blank, then the line end, and then t
abbrev pub last_field : ℕ → List ℕ → List ℕ
last_field n t = 32 ∷ (decimal n ++ (10 ∷ t))
