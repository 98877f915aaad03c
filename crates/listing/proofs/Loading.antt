-- One line of a column's text.
-- Assumes nothing.
use Rattle.std.proofs.Common.{◌≡◌, ℕ, ◌+◌, List, [], ◌∷◌, get_or, Some, Ok, Err, Option, Result, sym, refl, ap, ◌∙◌, subst}
use Rattle.column.specs.declared.storeys.Storey.{Storey}
use Rattle.lines.specs.Lexing.{rest, line_at}
use Rattle.lines.specs.NumberLines.{Gives, LineGiven}
use Rattle.lines.specs.Numeral.{Short}
use Rattle.lines.specs.Reading.{Row, numbers_line}
use Rattle.lines.specs.declared.fault.Fault.{Fault}
use Rattle.lines.specs.declared.token.Tokens.{Tokens}
use Rattle.lines.proofs.Rows.{items}
use Rattle.listing.specs.Columns.{Loaded, malformed, refused, set, RowSet, fault}

module _ (s u : Tokens) (xs : List (Option Storey)) (row : Result (List ℕ) Fault) (gives : Gives 4 s (Some row) u) where
  pub malformed_row : (f : Fault) → row ≡ Err f → Loaded (line_at s) (rest s) xs (Err f)
  malformed_row f is =
      let ends = subst (λ r. Gives 4 s (Some r) u) is gives in
      rw ends.fault (malformed ends.some ends.no_line)

  module _ (ns : List ℕ) (is : row ≡ Ok ns) where
    given : LineGiven 4 s ns u
    given = subst (λ r. Gives 4 s (Some r) u) is gives

    pub next_line : line_at u ≡ line_at s + 1
    next_line = given.next

    -- the row as its four numbers
    parts : ns ≡ get_or ns 0 0 ∷ get_or ns 1 0 ∷ get_or ns 2 0 ∷ get_or ns 3 0 ∷ []
    parts = items 4 ns given.valid.0

    pub refused_row : (ys : List (Option Storey)) (line : ℕ) (f : Fault) → line ≡ line_at s → RowSet ns line xs ys (Err f)
        → Loaded (line_at s) (rest s) xs (Err f)
    refused_row ys line f at answer =
        subst (λ k. Loaded (line_at s) (rest s) xs (Err (fault f.refusal k))) (sym (answer.0 ∙ at))
        (refused _ _ _ _ (rest u) f.refusal (subst (Row Short 4) parts given.valid) (given.line ∙ ap (λ l. numbers_line l (rest u)) parts)
        (answer.1.0, answer.1.1, refl))

    pub set_row : (ys : List (Option Storey)) (line : ℕ) → RowSet ns line xs ys (Ok tt) → (r : Result (List (Option Storey)) Fault)
        → Loaded (line_at u) (rest u) ys r → Loaded (line_at s) (rest s) xs r
    set_row ys line answer r loaded =
        set _ _ _ _ (rest u) ys (subst (Row Short 4) parts given.valid) (given.line ∙ ap (λ l. numbers_line l (rest u)) parts) answer
        (subst (λ k. Loaded k (rest u) ys r) given.next loaded)
