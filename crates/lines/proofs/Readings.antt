-- From the text of a token to the value that it writes.
use Rattle.std.proofs.Common.{◌≡◌, ℕ, ◌<◌, Bool, true, false, cond, not, ◌||◌, eqb, List, [], ◌∷◌, ◌++◌, length, Some, None, decimal, sym, refl, ap, ◌∙◌, subst, arith, length-append, ne_eqb, eqb-true}
use mathlib.Core.Bool.{beq}
use borrow.Author.Tests.{clash}
use Rattle.std.proofs.lemmas.Fmt.{decimal_injective}
use Rattle.lines.specs.Lines.{field, begins_blank, gap, lexeme}
use Rattle.lines.specs.Lexing.{rest, SameText, Sort, word, number, line_end, text_sort, TakenField, NoField}
use Rattle.lines.specs.Numeral.{Short}
use Rattle.lines.specs.Reading.{Ends, FieldText, blank_if, itself, led, Reads}
use Rattle.lines.specs.declared.token.Tokens.{Tokens}
use Rattle.lines.proofs.Numbers.{short_text}
use Rattle.lines.proofs.Fields.{OwnFields, Solid, field_solid, field_ends, field_field, one_way, solid_decimal, solid_field, whole_field}

-- a test whether two flags differ, as the checker reads it
pub flags_differ : (a b : Bool) → not (beq a b) ≡ true → a ≡ b → ⊥
flags_differ true true e = λ _. clash e
flags_differ false false e = λ _. clash e
flags_differ true false e = λ h. clash (sym h)
flags_differ false true e = λ h. clash h

pub flags_agree : (a b : Bool) → not (beq a b) ≡ false → a ≡ b
flags_agree true true e = refl
flags_agree false false e = refl
flags_agree true false e = absurd (clash (sym e))
flags_agree false true e = absurd (clash (sym e))

-- numbers and words are fields
abbrev pub IsField : Sort → Type 0
IsField word = Unit {0}
IsField number = Unit {0}
IsField line_end = ⊥

pub decimal_token : OwnFields Short decimal
decimal_token = record {
  text = λ n short. ((short_text (decimal n) n short refl).0, whole_field (decimal n) (solid_decimal n short));
  same = λ m n p q. decimal_injective m n (omega arith) (omega arith);
}

-- the first token of a text that begins with a field, after a blank or not
pub lexeme_led : (b : Bool) (x t : List ℕ) → Solid x → 0 < length x → Ends t → lexeme (blank_if b (x ++ t)) ≡ x
lexeme_led b [] t solid some ends = absurd (omega arith)
lexeme_led true (c ∷ x) t solid some ends = field_solid (c ∷ x) t solid ends
lexeme_led false (c ∷ x) t solid some ends = go (eqb c 32) (eqb c 10) solid.0 ∙ field_solid (c ∷ x) t solid ends
  where
    go : (p q : Bool) → (p || q) ≡ false → cond q (10 ∷ []) (cond p (field (x ++ t)) (field (c ∷ (x ++ t)))) ≡ field (c ∷ (x ++ t))
    go true q e = absurd (clash (sym e))
    go false true e = absurd (clash (sym e))
    go false false e = refl

starts_led : (b : Bool) (x t : List ℕ) → Solid x → 0 < length x → begins_blank (blank_if b (x ++ t)) ≡ b
starts_led b [] t solid some = absurd (omega arith)
starts_led true (c ∷ x) t solid some = refl
starts_led false (c ∷ x) t solid some = go (eqb c 32) solid.0
  where
    go : (p : Bool) → (p || eqb c 10) ≡ false → p ≡ false
    go true e = absurd (clash (sym e))
    go false e = refl

led_some : (b : Bool) (x t : List ℕ) → 0 < length x → 0 < length (blank_if b (x ++ t))
led_some true x t some = omega arith
led_some false x t some = omega (arith, length-append x t)

led_cancel : (b : Bool) (x t y u : List ℕ) → blank_if b (x ++ t) ≡ blank_if b (y ++ u) → x ++ t ≡ y ++ u
led_cancel true x t y u e = cc
led_cancel false x t y u e = e

gap_led : (b : Bool) (s x u : List ℕ) → begins_blank s ≡ b → s ≡ gap s ++ (x ++ u) → s ≡ blank_if b (x ++ u)
gap_led true s x u e split = split ∙ ap (λ t. cond t (32 ∷ []) [] ++ (x ++ u)) e
gap_led false s x u e split = split ∙ ap (λ t. cond t (32 ∷ []) [] ++ (x ++ u)) e

-- the text of the first token is the field after the gap, unless it is a line end
lexeme_field : (b : Bool) (k : Sort) (s x u : List ℕ) → IsField k → begins_blank s ≡ b → text_sort x ≡ k → x ≡ lexeme s → s ≡ blank_if b (x ++ u) → x ≡ field (x ++ u)
lexeme_field true k [] x u f e sorted is cut = absurd (clash e)
lexeme_field false k [] x u f e sorted is cut = is ∙ ap field cut
lexeme_field true k (c ∷ s) x u f e sorted is cut =
    let ten : eqb c 10 ≡ false = ne_eqb c 10 (λ h. omega (arith, eqb-true c 32 e)) in
    let tail : s ≡ x ++ u = cc in
    is ∙ (λ i. cond (ten i) (10 ∷ []) (cond (e i) (field s) (field (c ∷ s)))) ∙ ap field tail
lexeme_field false k (c ∷ s) x u f e sorted is cut = go (eqb c 10) (is ∙ (λ i. cond (eqb c 10) (10 ∷ []) (cond (e i) (field s) (field (c ∷ s)))))
  where
    go : (q : Bool) → x ≡ cond q (10 ∷ []) (field (c ∷ s)) → x ≡ field (x ++ u)
    go true h = absurd (subst IsField (sym (sym (ap text_sort h) ∙ sorted)) f)
    go false h = h ∙ ap field cut

-- a field after one blank or right here, from the other side of an equation
pub led_one_way : (b : Bool) (x y t u : List ℕ) → Solid x → Solid y → Ends t → Ends u → blank_if b (x ++ t) ≡ blank_if b (y ++ u) → (x ≡ y) × (t ≡ u)
led_one_way b x y t u p q e f same = one_way x y t u p q e f (led_cancel b x t y u same)

-- a field's text as it stands
is_field : (k : Sort) → (k ≡ line_end → ⊥) → IsField k
is_field word h = tt
is_field number h = tt
is_field line_end h = h refl

solid_sort : (x : List ℕ) → 0 < length x → Solid x → text_sort x ≡ line_end → ⊥
solid_sort [] some solid = absurd (omega arith)
solid_sort (c ∷ x) some solid = go (eqb c 32) (eqb c 10) _ solid.0
  where
    go : (p q r : Bool) → (p || q) ≡ false → cond q line_end (cond r number word) ≡ line_end → ⊥
    go true q r e h = clash (sym e)
    go false true r e h = clash (sym e)
    go false false true e h = subst IsField h tt
    go false false false e h = subst IsField h tt

module _ (b : Bool) (s u : Tokens) where
  pub reads_text : (x : List ℕ) → begins_blank (rest s) ≡ b → TakenField s x u → 0 < length x → Reads FieldText (led b itself) Ends s (Some x) u
  reads_text x lead taken some =
      let cut = gap_led b (rest s) x (rest u) lead taken.split in
      let is = lexeme_field b (text_sort x) (rest s) x (rest u) (is_field (text_sort x) taken.sorted) lead refl taken.is cut in
      ((some, ap field is ∙ field_field (x ++ rest u) ∙ sym is), cut, field_ends (x ++ rest u) (rest u) (ap (λ l. l ++ rest u) is), taken.text)

  -- an empty one
  pub reads_empty : (x : List ℕ) → TakenField s x u → length x ≡ 0 → Reads FieldText (led b itself) Ends s None u
  reads_empty x taken none = (
    (λ a t ok ends e.
        let is = taken.is ∙ ap lexeme e ∙ lexeme_led b a t (solid_field a ok.1) ok.0 ends in
        let some = ok.0 in
        omega (arith, ap length is)),
    taken.text,
  )

  pub reads_no_field : NoField s u → Reads FieldText (led b itself) Ends s None u
  reads_no_field none = (
    (λ a t ok ends e.
        let solid = solid_field a ok.1 in
        let is = ap lexeme e ∙ lexeme_led b a t solid ok.0 ends in
        solid_sort a ok.0 solid (sym (ap text_sort is) ∙ none.0 (subst (λ l. 0 < length l) (sym e) (led_some b a t ok.0)))),
    none.1,
  )

  pub reads_text_apart : (begins_blank (rest s) ≡ b → ⊥) → SameText s u → Reads FieldText (led b itself) Ends s None u
  reads_text_apart apart text = ((λ a t ok ends e. apart (ap begins_blank e ∙ starts_led b a t (solid_field a ok.1) ok.0)), text)
