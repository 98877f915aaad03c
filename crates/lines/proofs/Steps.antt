-- One step of the lexer.
use Rattle.std.proofs.Common.{◌≡◌, ℕ, ◌+◌, ◌-◌, ◌<◌, ◌≤◌, List, [], ◌∷◌, ◌++◌, length, get_or, take, drop, sym, ap, ◌∙◌, arith, length-drop, take-append-drop, length-take-le, drop-drop, take-add}
use Rattle.lines.specs.Lines.{newlines, gap, lexeme}
use Rattle.lines.specs.Lexing.{rest, bytes_of, place_of, text_sort, Made, Stepped}
use Rattle.lines.specs.declared.token.Place.{Place}
use Rattle.lines.specs.declared.token.Token.{Token}
use Rattle.lines.specs.declared.token.Tokens.{Tokens}
use Rattle.lines.proofs.Cuts.{take_gap, take_lexeme, lexeme_within, step_some, newlines_append, newlines_gap, newlines_lexeme}

-- where the first token of what is left after `at` begins and ends
module _ (text : List ℕ) (at : ℕ) where
  abbrev pub left : List ℕ
  left = drop at text

  abbrev pub start : ℕ
  start = at + length (gap left)

  abbrev pub end : ℕ
  end = start + length (lexeme left)

  pub end_within : at ≤ length text → end ≤ length text
  end_within here = omega (arith, lexeme_within left, length-drop at text)

  after_gap : drop start text ≡ drop (length (gap left)) left
  after_gap = sym (drop-drop (length (gap left)) at text)

  pub lexeme_is : take (length (lexeme left)) (drop start text) ≡ lexeme left
  lexeme_is = ap (take (length (lexeme left))) after_gap ∙ take_lexeme left

  pub split_is : left ≡ gap left ++ (lexeme left ++ drop end text)
  split_is =
      sym (take-append-drop (length (gap left)) left)
      ∙ (λ i. take_gap left i ++ (sym after_gap ∙ sym (take-append-drop (length (lexeme left)) (drop start text)) ∙ (λ j. lexeme_is j ++ drop-drop (length (lexeme left)) start text j)) i)

  pub start_line : newlines (take start text) ≡ newlines (take at text)
  start_line =
      ap newlines (take-add at (length (gap left)) text) ∙ newlines_append (take at text) (take (length (gap left)) left)
      ∙ ap (λ l. newlines (take at text) + newlines l) (take_gap left) ∙ omega (arith, newlines_gap left)

  pub end_line : 0 < length left → newlines (take end text) ≡ newlines (take at text) + newlines (get_or left 0 0 ∷ [])
  end_line some =
      ap newlines (take-add start (length (lexeme left)) text) ∙ newlines_append (take start text) (take (length (lexeme left)) (drop start text))
      ∙ (λ i. start_line i + (ap newlines lexeme_is ∙ newlines_lexeme left some) i)

-- the same, of the lengths that were counted
module _ (text : List ℕ) (at g n : ℕ) (is-g : g ≡ length (gap (drop at text))) (is-n : n ≡ length (lexeme (drop at text))) where
  end_same : at + g + n ≡ end text at
  end_same = λ i. at + is-g i + is-n i

  pub end_at : at ≤ length text → at + g + n ≤ length text
  end_at here = omega (arith, end_same, end_within text at here)

  pub counts : (line k : ℕ) → 0 < length (drop at text) → line ≡ 1 + newlines (take at text) → k ≡ newlines (get_or (drop at text) 0 0 ∷ []) → line + k ≡ 1 + newlines (take (at + g + n) text)
  counts line k some counted is-k =
      let more = ap (λ e. newlines (take e text)) end_same ∙ end_line text at some in
      omega (arith, counted, is-k, more)

pub stepped : (s u : Tokens) (t : Token) (g n : ℕ) (p : Place) → 0 < length (rest s) → g ≡ length (gap (rest s)) → n ≡ length (lexeme (rest s)) → u.text.now ≡ s.text.now → u.at ≡ s.at + g + n → p.offset ≡ s.at + g → p.line ≡ s.line → Made (take (s.at + g + n - (s.at + g)) (drop (s.at + g) s.text.now)) p t → Stepped s t u
stepped s u t g n p some is-g is-n same at off line made =
    let text = s.text.now in
    let from : s.at + g ≡ start text s.at = ap (λ k. s.at + k) is-g in
    let count : s.at + g + n - (s.at + g) ≡ length (lexeme (rest s)) = omega arith in
    let offset : (place_of t).offset ≡ start text s.at = ap (λ (q : Place). q.offset) made.place ∙ off ∙ from in
    let is : bytes_of t ≡ lexeme (rest s) = made.bytes ∙ (λ i. take (count i) (drop (from i) text)) ∙ lexeme_is text s.at in
    let left : drop (end text s.at) text ≡ rest u = λ i. drop ((sym (at ∙ (λ j. from j + is-n j))) i) (sym same i) in
    record {
      text = same;
      first = is;
      sorted = made.sorted ∙ ap text_sort (sym made.bytes);
      split = split_is text s.at ∙ (λ i. gap (rest s) ++ (sym is i ++ left i));
      onward = omega (arith, some, step_some (rest s) some, length-drop s.at text, length-drop u.at u.text.now, ap length same, end_within text s.at s.inside);
      offset = offset ∙ ap (λ k. k + length (gap (rest s))) (sym (length-take-le s.at text s.inside));
      part = is ∙ sym (lexeme_is text s.at) ∙ (λ i. take (length (sym is i)) (drop (sym offset i) text));
      line = ap (λ (q : Place). q.line) made.place ∙ line ∙ s.counted ∙ ap (λ k. 1 + k) (sym (start_line text s.at)) ∙ ap (λ k. 1 + newlines (take k text)) (sym offset);
    }
