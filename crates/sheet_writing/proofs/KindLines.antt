-- The records of a kind, one by one, and their lines.
-- Assumes nothing.
use Rattle.std.proofs.Common.{cond, ◌≡◌, ℕ, true, false, cond, List, [], ◌∷◌, ◌++◌, decimal, sym, refl, ap, ◌∙◌, append_assoc}
use Rattle.std.specs.Fmt.{signed_decimal}
use Rattle.effect.specs.Notations.{Notation}
use Rattle.loads.specs.declared.kinds.Kind.{Kind}
use Rattle.loads.specs.declared.records.Load.{Load}
use Rattle.loads.specs.declared.records.Record.{Record}
use Rattle.combination.specs.Choices.{is_of_kind}
use Rattle.lines.specs.Reading.{spaced}
use Rattle.load_lines.specs.Loads.{load_end, load_text, load_numbers}
use Rattle.sheet_lines.specs.Bodies.{body_line, body_lines}
use Rattle.lines.proofs.Rows.{spaced_append}
use Rattle.sheet_writing.specs.Sheets.{of_kind}

module _ {E : Type 0} (w : Notation E) where
  text_append : (x : Load E) (s t : List ℕ) → load_text w x s ++ t ≡ load_text w x (s ++ t)
  text_append x s t =
      spaced_append decimal (load_numbers x) (spaced signed_decimal (w.numbers x.effect) s) t ∙ ap (spaced decimal (load_numbers x)) (spaced_append signed_decimal (w.numbers x.effect) s t)

  -- the numbers of a load, the line end, and what follows
  pub load_text_lem : (x : Load E) (t : List ℕ) → load_text w x [] ++ (10 ∷ t) ≡ load_end w x t
  load_text_lem x t = text_append x [] (10 ∷ t)

  body_append : (x : ℕ × Load E) (s t : List ℕ) → body_line w x s ++ t ≡ body_line w x (s ++ t)
  body_append x s t = append_assoc (decimal x.0) (load_end w x.1 s) t ∙ ap (λ l. decimal x.0 ++ l) (text_append x.1 (10 ∷ s) t)

  pub bodies_append : (a b : List (Record E)) → body_lines w (a ++ b) ≡ body_lines w a ++ body_lines w b
  bodies_append [] b = refl
  bodies_append (r ∷ a) b = ap (body_line w (r.number, r.load)) (bodies_append a b) ∙ sym (body_append (r.number, r.load) (body_lines w a) (body_lines w b))

  -- the first record is of the kind, or is not
  pub kind_in : (k : Kind) (r : Record E) (rs : List (Record E)) → is_of_kind k r.kind ≡ true → body_lines w (of_kind k (r ∷ rs)) ≡ body_line w (r.number, r.load) [] ++ body_lines w (of_kind k rs)
  kind_in k r rs e = ap (λ b. body_lines w (cond b (r ∷ of_kind k rs) (of_kind k rs))) e ∙ sym (body_append (r.number, r.load) [] (body_lines w (of_kind k rs)))

  pub kind_out : (k : Kind) (r : Record E) (rs : List (Record E)) → is_of_kind k r.kind ≡ false → body_lines w (of_kind k (r ∷ rs)) ≡ body_lines w (of_kind k rs)
  kind_out k r rs e = ap (λ b. body_lines w (cond b (r ∷ of_kind k rs) (of_kind k rs))) e
