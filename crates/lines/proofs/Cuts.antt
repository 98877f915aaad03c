-- Fields, tokens and line ends as parts of a text.
use Rattle.std.proofs.Common.{not, ltb-false, Option, Some, None, ltb, ◌≡◌, ℕ, suc, ◌+◌, ◌<◌, ◌≤◌, Bool, true, false, cond, ◌||◌, eqb, List, [], ◌∷◌, ◌++◌, length, get_or, take, drop, refl, ap, ◌∙◌, arith, length-drop, length-take, ne_eqb, eqb-true}
use Rattle.std.specs.List.{position_or_len}
use Rattle.std.specs.Option.{unwrap_or}
use Rattle.std.proofs.lemmas.List.Sums.{prefix_len-le-length}
use Rattle.std.proofs.lemmas.List.Recursion.{is_position_or_len}
use Rattle.lines.specs.Lines.{newlines, separates, field, begins_blank, gap, lexeme}

pub no_separator : (b : ℕ) → (b ≡ 32 → ⊥) → (b ≡ 10 → ⊥) → separates b ≡ false
no_separator b p q = (λ i. ne_eqb b 32 p i || ne_eqb b 10 q i)

-- a field ends before the first separator
pub field_position : (s : List ℕ) → length (field s) ≡ position_or_len separates s
field_position s = is_position_or_len (λ l. length (field l)) separates refl (λ b bs. step (separates b) b bs) s
  where
    step : (t : Bool) (b : ℕ) (bs : List ℕ) → length (cond t [] (b ∷ field bs)) ≡ cond t 0 (1 + length (field bs))
    step true b bs = refl
    step false b bs = omega arith

-- what `position` found, or the whole length
pub position_or_all : (p : ℕ → Bool) (s : List ℕ) (r : Option ℕ) → r ≡ cond (ltb (position_or_len p s) (length s)) (Some (position_or_len p s)) None → unwrap_or r (length s) ≡ position_or_len p s
position_or_all p s r e = ap (λ o. unwrap_or o (length s)) e ∙ go (ltb (position_or_len p s) (length s)) refl
  where
    go : (t : Bool) → ltb (position_or_len p s) (length s) ≡ t → unwrap_or (cond t (Some (position_or_len p s)) None) (length s) ≡ position_or_len p s
    go true h = refl
    go false h = omega (arith, prefix_len-le-length (λ x. not (p x)) s, ltb-false (position_or_len p s) (length s) h)

take_field : (s : List ℕ) → take (length (field s)) s ≡ field s
take_field [] = refl
take_field (b ∷ bs) = go (separates b) (take_field bs)
  where
    go : (t : Bool) → take (length (field bs)) bs ≡ field bs → take (length (cond t [] (b ∷ field bs))) (b ∷ bs) ≡ cond t [] (b ∷ field bs)
    go true e = refl
    go false e = ap (λ l. b ∷ l) e

pub newlines_append : (a b : List ℕ) → newlines (a ++ b) ≡ newlines a + newlines b
newlines_append [] b = omega arith
newlines_append (x ∷ a) b = ap (λ n. cond (eqb x 10) 1 0 + n) (newlines_append a b) ∙ omega arith

pub newlines_within : (s : List ℕ) → newlines s ≤ length s
newlines_within [] = omega arith
newlines_within (b ∷ bs) = go (eqb b 10) (newlines_within bs)
  where
    go : (t : Bool) → newlines bs ≤ length bs → cond t 1 0 + newlines bs ≤ suc (length bs)
    go true h = omega arith
    go false h = omega arith

newlines_field : (s : List ℕ) → newlines (field s) ≡ 0
newlines_field [] = refl
newlines_field (b ∷ bs) = go (eqb b 32) (eqb b 10) refl (newlines_field bs)
  where
    go : (t u : Bool) → eqb b 10 ≡ u → newlines (field bs) ≡ 0 → newlines (cond (t || u) [] (b ∷ field bs)) ≡ 0
    go true u e h = refl
    go false true e h = refl
    go false false e h = (λ i. cond (e i) 1 0 + h i)

-- what stands before the first token, and the token, as parts of the text
abbrev gap_if : Bool → List ℕ
gap_if t = cond t (32 ∷ []) []

abbrev lexeme_if : Bool → Bool → ℕ → List ℕ → List ℕ
lexeme_if t u b bs = cond t (10 ∷ []) (cond u (field bs) (field (b ∷ bs)))

pub take_gap : (s : List ℕ) → take (length (gap s)) s ≡ gap s
take_gap [] = refl
take_gap (b ∷ bs) = go (eqb b 32) refl
  where
    go : (t : Bool) → eqb b 32 ≡ t → take (length (gap_if t)) (b ∷ bs) ≡ gap_if t
    go true e = ap (λ x. x ∷ []) (eqb-true b 32 e)
    go false e = refl

pub take_lexeme : (s : List ℕ) → take (length (lexeme s)) (drop (length (gap s)) s) ≡ lexeme s
take_lexeme [] = refl
take_lexeme (b ∷ bs) = go (eqb b 10) (eqb b 32) refl refl
  where
    go : (t u : Bool) → eqb b 10 ≡ t → eqb b 32 ≡ u → take (length (lexeme_if t u b bs)) (drop (length (gap_if u)) (b ∷ bs)) ≡ lexeme_if t u b bs
    go true true e f = absurd (omega (arith, eqb-true b 10 e, eqb-true b 32 f))
    go true false e f = ap (λ x. x ∷ []) (eqb-true b 10 e)
    go false true e f = take_field bs
    go false false e f = take_field (b ∷ bs)

pub gap_within : (s : List ℕ) → length (gap s) ≤ length s
gap_within s = omega (arith, ap length (take_gap s), length-take (length (gap s)) s)

pub lexeme_within : (s : List ℕ) → length (gap s) + length (lexeme s) ≤ length s
lexeme_within s =
    omega (arith, gap_within s, ap length (take_lexeme s), length-take (length (lexeme s)) (drop (length (gap s)) s), length-drop (length (gap s)) s)

-- the first token goes on by a byte at least
pub step_some : (s : List ℕ) → 0 < length s → 0 < length (gap s) + length (lexeme s)
step_some [] some = absurd (omega arith)
step_some (b ∷ bs) some = go (eqb b 10) (eqb b 32)
  where
    go : (t u : Bool) → 0 < length (gap_if u) + length (cond t (10 ∷ []) (cond u (field bs) (cond (u || t) [] (b ∷ field bs))))
    go true true = omega arith
    go true false = omega arith
    go false true = omega arith
    go false false = omega arith

pub newlines_gap : (s : List ℕ) → newlines (gap s) ≡ 0
newlines_gap s = go (begins_blank s)
  where
    go : (t : Bool) → newlines (gap_if t) ≡ 0
    go true = refl
    go false = refl

-- a token is a line end, or has none in it
pub newlines_lexeme : (s : List ℕ) → 0 < length s → newlines (lexeme s) ≡ newlines (get_or s 0 0 ∷ [])
newlines_lexeme [] some = absurd (omega arith)
newlines_lexeme (b ∷ bs) some = go (eqb b 10) (eqb b 32)
  where
    go : (t u : Bool) → newlines (lexeme_if t u b bs) ≡ cond t 1 0 + 0
    go true u = refl
    go false true = newlines_field bs
    go false false = newlines_field (b ∷ bs)
