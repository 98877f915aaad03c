-- What a writer leaves in its buffer.
use Rattle.std.specs.Prelude.{◌^◌, ◌-◌, ◌≡◌, ℕ, suc, ◌<◌, ◌≤◌, min, List, ◌∷◌, ◌++◌, length, take, drop, ℤ, pos, negsuc, Ok, Err, Result}
use Rattle.refusals.specs.declared.Refusal.{Refusal}
use Rattle.refusals.specs.declared.Refusal.TheVariants.{OutputTooLong}
use Rattle.lines.specs.Fixed.{fixed8}
use Rattle.writing.specs.declared.writer.Writer.{Writer}

-- the buffer o after w was written from its start, as far as it has room
abbrev pub overlay : List ℕ → List ℕ → List ℕ
overlay w o = take (length o) w ++ drop (length w) o

-- the writer s stands over the buffer o, and w was written so far; it counts up to the greatest number
pub record Holds (o w : List ℕ) (s : Writer) : Type 0 where
  pub bytes : s.out.now ≡ overlay w o
  pub place : s.at ≡ min (length w) (2 ^ 64 - 1)

-- from s to t, bs was written
pub record Writes (s : Writer) (bs : List ℕ) (t : Writer) : Type 0 where
  pub more : (o w : List ℕ) → Holds o w s → Holds o (w ++ bs) t
  pub lent : t.out.ghost_name ≡ s.out.ghost_name

-- z hundred-millionths in units, with eight decimals and a minus only below zero
abbrev pub signed_fixed8 : ℤ → List ℕ
signed_fixed8 (pos n) = fixed8 n
signed_fixed8 (negsuc n) = 45 ∷ fixed8 (suc n)

-- a text was written from the start of a buffer that has room for it, and what lies behind it is as it was; or it has none, and is as it was
abbrev pub Fitted : List ℕ → List ℕ → Result ℕ Refusal → List ℕ → Type 0
Fitted text before (Ok n) after = (n ≡ length text) × (length text ≤ length before) × (after ≡ text ++ drop (length text) before)
Fitted text before (Err e) after = (e ≡ OutputTooLong) × (length before < length text) × (after ≡ before)

-- a text was written over a buffer as far as that has room, and n counts its bytes, up to the greatest number
pub record Overlaid (text before : List ℕ) (n : ℕ) (after : List ℕ) : Type 0 where
  pub count : n ≡ min (length text) (2 ^ 64 - 1)
  pub bytes : after ≡ overlay text before
