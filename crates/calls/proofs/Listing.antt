-- What is written of a record, piece by piece.
-- Assumes nothing.
use Rattle.std.proofs.Common.{◌≡◌, ℕ, ◌+◌, ◌<◌, ◌≤◌, List, [], ◌∷◌, ◌++◌, length, get_or, take, decimal, sym, refl, ap, ◌∙◌, append_assoc, append-nil, arith}
use lib.Utf8.{encode}
use Rattle.std.specs.Fmt.{IsPlainFormatter, HasWritten, signed_decimal}
use Rattle.std.specs.declared.fmt.Formatter.{Formatter}
use Rattle.std.proofs.Output.{has_written_of_eq, has_written_append, writes_in_calls_nil}
use Rattle.std.proofs.lemmas.Str.Ascii.{encode_ascii}
use Rattle.std.proofs.lemmas.List.{take_all, take_more}
use Rattle.effect.specs.Notations.{Notation}
use Rattle.loads.specs.Letters.{letter_of}
use Rattle.loads.specs.declared.kinds.Kind.{Kind}
use Rattle.loads.specs.declared.kinds.Kind.TheVariants.{Permanent, LongTerm, ShortTerm, Special}
use Rattle.loads.specs.declared.records.Record.{Record}
use Rattle.lines.specs.Reading.{spaced}
use Rattle.lines.proofs.Rows.{spaced_push}
use Rattle.load_lines.specs.Loads.{load_numbers}
use Rattle.calls.specs.Records.{record_start, record_text}

letter_ascii : (k : Kind) → letter_of k < 128
letter_ascii Permanent = omega arith
letter_ascii LongTerm = omega arith
letter_ascii ShortTerm = omega arith
letter_ascii Special = omega arith

module _ {A : Type 0} (written : A → List ℕ) where
  spaced_append : (xs : List A) (s t : List ℕ) → spaced written xs s ++ t ≡ spaced written xs (s ++ t)
  spaced_append [] s t = refl
  spaced_append (x ∷ xs) s t = ap (λ l. 32 ∷ l) (append_assoc (written x) (spaced written xs s) t ∙ ap (λ l. written x ++ l) (spaced_append xs s t))

  pushed : (xs : List A) (i : ℕ) (d : A) → i < length xs → spaced written (take i xs) [] ++ (32 ∷ written (get_or xs i d)) ≡ spaced written (take (i + 1) xs) []
  pushed xs i d more =
      let x = get_or xs i d in
      spaced_append (take i xs) [] (32 ∷ written x) ∙ ap (λ l. spaced written (take i xs) (32 ∷ l)) (sym (append-nil (written x)))
      ∙ sym (spaced_push written (take i xs) x []) ∙ ap (λ l. spaced written l []) (sym (take_more xs i d more))

whole : {E : Type 0} (w : Notation E) (r : Record E) → record_start r.number r.kind ++ (spaced decimal (load_numbers r.load) [] ++ spaced signed_decimal (w.numbers r.load.effect) []) ≡ record_text w r
whole w r =
    let effect = spaced signed_decimal (w.numbers r.load.effect) [] in
    append_assoc (decimal r.number) (32 ∷ (letter_of r.kind ∷ [])) (spaced decimal (load_numbers r.load) [] ++ effect)
    ∙ ap (λ l. decimal r.number ++ (32 ∷ (letter_of r.kind ∷ l))) (spaced_append decimal (load_numbers r.load) [] effect)

module _ {W : Type 0} (took : W → List ℕ → W → Type 0) (f : Formatter W) where
  pub put_none : IsPlainFormatter f → HasWritten took f [] f
  put_none plain = record { wrote = writes_in_calls_nil took f.writer; plain = plain }

  -- the values before place i, and the one there
  pub put_next : {A : Type 0} (written : A → List ℕ) (g h : Formatter W) (xs : List A) (i : ℕ) (d x : A) → i < length xs → x ≡ get_or xs i d → HasWritten took f (spaced written (take i xs) []) g → HasWritten took g (32 ∷ written x) h → HasWritten took f (spaced written (take (i + 1) xs) []) h
  put_next written g h xs i d x more e p q =
      has_written_of_eq took f _ _ h (ap (λ y. spaced written (take i xs) [] ++ (32 ∷ written y)) e ∙ pushed written xs i d more) (has_written_append took f _ g _ h p q)

  pub put_all : {A : Type 0} (written : A → List ℕ) (g : Formatter W) (xs : List A) (i : ℕ) → length xs ≤ i → HasWritten took f (spaced written (take i xs) []) g → HasWritten took f (spaced written xs []) g
  put_all written g xs i all p = has_written_of_eq took f _ _ g (ap (λ l. spaced written l []) (take_all i xs all)) p
