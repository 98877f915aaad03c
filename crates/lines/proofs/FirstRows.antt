-- Rows of values, the first right here and the others each after one blank.
-- Assumes nothing.
use Rattle.std.proofs.Common.{set, ◌-◌, append-nil, Option, ◌≡◌, ℕ, suc, ◌<◌, List, [], ◌∷◌, ◌++◌, length, Some, None, decimal, sym, refl, ap, ◌∙◌, subst, arith}
use borrow.Rule.Slice.PartMut.{put_mid}
use Rattle.std.proofs.lemmas.List.{drop_all}
use Rattle.lines.specs.Lexing.{rest}
use Rattle.lines.specs.Numeral.{Short}
use Rattle.lines.specs.Reading.{Anything, Ends, EndsAfter, Reads, Row, before, byte, fields_of, filled, numbers_line, spaced}
use Rattle.lines.specs.declared.token.Tokens.{Tokens}
use Rattle.lines.proofs.Fields.{OwnFields, one_way, solid_own}
use Rattle.lines.proofs.LineCount.{newlines_fields}
use Rattle.lines.proofs.Readings.{decimal_token}
use Rattle.lines.proofs.Rows.{ends_row, same_row}
use Rattle.lines.proofs.Sequences.{Form, Sequence, form, line_end}

module _ {A : Type 0} {valid : A → Type 0} {written : A → List ℕ} (own : OwnFields valid written) where
  same_fields : (n : ℕ) (xs ms : List A) (r t : List ℕ) → Row valid n xs → Row valid n ms → EndsAfter n r → EndsAfter n t → fields_of written xs r ≡ fields_of written ms t → (xs ≡ ms) × (r ≡ t)
  same_fields n [] [] r t vx vm er et e = (refl, e)
  same_fields n [] (m ∷ ms) r t vx vm er et e = absurd (omega (arith, vx.0, vm.0))
  same_fields n (x ∷ xs) [] r t vx vm er et e = absurd (omega (arith, vx.0, vm.0))
  same_fields n (x ∷ xs) (m ∷ ms) r t vx vm er et e =
      let some : 0 < n = omega (arith, vx.0) in
      same_row own (x ∷ xs) (m ∷ ms) r t vx.1 vm.1 (vx.0 ∙ sym vm.0) (λ h. er some) (et some) (ap (λ s. 32 ∷ s) e)

  fields_form : (n : ℕ) → Form 0 (Row valid n) (fields_of written) (EndsAfter n)
  fields_form n = record {
    splits = λ xs ms r t vx vm er et e. same_fields n xs ms r t vx vm er et e;
    lines = λ xs t ok. newlines_fields own xs t ok.1 ∙ omega arith;
  }

  -- the first is missing, the others are, or all are read
  pub no_start : (n : ℕ) (s u : Tokens) → Reads valid (before written) Ends s None u → Reads (Row valid (suc n)) (fields_of written) (EndsAfter (suc n)) s None u
  no_start n s u none = (elim [ [] ↦ (λ t row ends e. absurd (omega (arith, row.0))) | m ∷ ms ↦ (λ t row ends e. none.0 m (spaced written ms t) row.1.0 (ends_row written ms t (λ h. ends (omega arith))) e) ], none.1)

  pub no_others : (n : ℕ) (s u z : Tokens) (a : A) → Reads valid (before written) Ends s (Some a) u → Reads (Row valid n) (spaced written) (EndsAfter n) u None z → Reads (Row valid (suc n)) (fields_of written) (EndsAfter (suc n)) s None z
  no_others n s u z a got none = (
    elim [
      | [] ↦ (λ t row ends e. absurd (omega (arith, row.0)))
      | m ∷ ms ↦
          (λ t row ends e.
          let tail = ends_row written ms t (λ h. ends (omega arith)) in
          let one = one_way (written a) (written m) (rest u) (spaced written ms t) (solid_own own a got.0) (solid_own own m row.1.0) got.2 tail (sym got.1 ∙ e) in
          none.0 ms t (omega (arith, row.0), row.1.1) (λ some. ends (omega arith)) one.1)
    ],
    none.1 ∙ got.3,
  )

  ends_too : (n : ℕ) (xs : List A) (t u : List ℕ) → length xs ≡ n → Ends u → u ≡ spaced written xs t → EndsAfter n t → Ends t
  ends_too n [] t u long ends e after = subst Ends e ends
  ends_too n (x ∷ xs) t u long ends e after = after (omega arith)

  pub whole_row : (n : ℕ) (s u z : Tokens) (a : A) (xs : List A) → Reads valid (before written) Ends s (Some a) u → Reads (Row valid n) (spaced written) (EndsAfter n) u (Some xs) z → Reads (Row valid (suc n)) (fields_of written) (EndsAfter (suc n)) s (Some (a ∷ xs)) z
  whole_row n s u z a xs got more = (
    (ap suc more.0.0, (got.0, more.0.1)),
    got.1 ∙ ap (λ l. written a ++ l) more.1,
    (λ some. ends_too n xs (rest z) (rest u) more.0.0 got.2 more.1 more.2),
    more.3 ∙ got.3,
  )

-- a buffer after its first place and then the others were written
pub written_over : (out : List ℕ) (a : ℕ) (xs : List ℕ) → 0 < length out → put_mid 1 (length (set out 0 a) - 1) (set out 0 a) xs ≡ a ∷ xs
written_over [] a xs some = absurd (omega arith)
written_over (b ∷ o) a xs some = ap (λ l. a ∷ (xs ++ l)) (drop_all (length (a ∷ o) - 1) o (omega arith)) ∙ ap (λ l. a ∷ l) (append-nil xs)

-- after the first number, the others are read into xs, or are missing
pub row_read : (n m : ℕ) (s u z : Tokens) (a : ℕ) (r : Option (Unit {0})) (xs out : List ℕ) → n ≡ suc m → out ≡ a ∷ xs → Reads Short (before decimal) Ends s (Some a) u → Reads (Row Short m) (spaced decimal) (EndsAfter m) u (filled r xs) z → Reads (Row Short n) (fields_of decimal) (EndsAfter n) s (filled r out) z
row_read n m s u z a (Some e) xs out long is got more = rw (long, is) (whole_row decimal_token m s u z a xs got more)
row_read n m s u z a None xs out long is got more = rw long (no_others decimal_token m s u z a got more)

-- a row of numbers and its line end
pub line_sequence : (n : ℕ) → Sequence 0 (Row Short n) (fields_of decimal) (EndsAfter n) (λ ns. Anything) (λ ns. before (byte 10)) Anything (λ ns u. ns) (Row Short n) numbers_line
line_sequence n = record {
  first = fields_form decimal_token n;
  follows = λ ns u t ok any some. refl;
  made = λ ns u ok any. ok;
  joined = λ ns u t ok any. refl;
  parts = λ ns ok. (ns, tt, refl, ok, tt);
}

pub line_form : (n : ℕ) → Form 1 (Row Short n) numbers_line Anything
line_form n = form (line_sequence n) (λ ns ok. line_end)
