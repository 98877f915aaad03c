-- Lines that are entered one after the other, and blocks of them.
-- Assumes nothing.
use Rattle.std.proofs.Common.{◌≡◌, ℕ, ◌+◌, ◌-◌, ◌<◌, List, [], ◌∷◌, ◌++◌, replicate, IsErrAnd, Ok, Err, Result, sym, refl, ap, ◌∙◌, subst, append_assoc, append-nil, arith}
use lib.ListN.{replicate-append-replicate}
use Rattle.std.proofs.lemmas.Result.{err_from_is_err_and}
use Rattle.effect.specs.Laws.{Operations}
use Rattle.effect.specs.Notations.{Notation}
use Rattle.refusals.specs.declared.Refusal.{Refusal}
use Rattle.refusals.specs.declared.Refusal.TheVariants.{BodyLine}
use Rattle.loads.specs.Letters.{letter_of}
use Rattle.loads.specs.declared.kinds.Kind.{Kind}
use Rattle.loads.specs.declared.records.Load.{Load}
use Rattle.loads.specs.declared.records.Record.{Record}
use Rattle.lines.specs.Lexing.{line_at, rest}
use Rattle.lines.specs.declared.token.Tokens.{Tokens}
use Rattle.sheet.specs.Ledger.{Performs}
use Rattle.sheet.specs.declared.changes.Change.TheVariants.{Enter}
use Rattle.sheet_lines.specs.Bodies.{LegibleBody, body_line}
use Rattle.sheet_lines.specs.declared.fault.TextFault.{TextFault}
use Rattle.sheet_lines.specs.Faults.{in_line}
use Rattle.sheet_lines.specs.declared.fault.Layer.TheVariants.{Sheet as SheetLayer}
use Rattle.sheet_text.specs.Blocks.{Block}
use Rattle.sheet_text.specs.Texts.{Bodies, NoLine, barred, entered, malformed, misread, refused}

-- the fault that a `?` hands on
pub handed_on : {X : Type 0} (r : Result X TextFault) (f : TextFault) → IsErrAnd r (λ y. y ≡ f) → Err f ≡ r
handed_on r f by = let out = err_from_is_err_and r by in sym (out.1 ∙ ap Err out.2)

module _ {E : Type 0} (o : Operations E) (w : Notation E) (p : ℕ) where
  module _ (kind : Kind) (s t : Tokens) (b b' : List (Record E)) (k : ℕ) (at : k ≡ line_at s) where
    -- the next line is malformed
    pub line_malformed : (f : TextFault) → f ≡ misread BodyLine k → NoLine (LegibleBody w) (body_line w) (rest s) → Block o w p (kind ∷ []) s b (Err f) t b'
    line_malformed f is none kinds = subst (λ x. Bodies o w p b (line_at s) (kind ∷ kinds) (rest s) (Err x)) (sym (is ∙ ap (misread BodyLine) at)) (malformed none)

    module _ (n l : ℕ) (x : Load E) (letter : l ≡ letter_of kind) (legible : LegibleBody w (n, x)) (line : rest s ≡ body_line w (n, x) (rest t)) where
      -- the sheet refuses it
      pub line_refused : (e : Refusal) (f : TextFault) → f ≡ barred e k → Performs o p b (Enter (record { number = n; letter = l; load = x })) (Err e) b' → Block o w p (kind ∷ []) s b (Err f) t b'
      line_refused e f is done kinds =
          let bars = (subst (λ m. Performs o p b (Enter (record { number = n; letter = m; load = x })) (Err e) b') letter done).0 in
          subst (λ y. Bodies o w p b (line_at s) (kind ∷ kinds) (rest s) (Err y)) (sym (is ∙ ap (barred e) at)) (refused (n, x) (rest t) e legible line bars)

      -- or accepts it
      pub line_entered : line_at t ≡ line_at s + 1 → Performs o p b (Enter (record { number = n; letter = l; load = x })) (Ok tt) b' → Block o w p (kind ∷ []) s b (Ok tt) t b'
      line_entered next done kinds r more =
          let ok = subst (λ m. Performs o p b (Enter (record { number = n; letter = m; load = x })) (Ok tt) b') letter done in
          entered (n, x) (rest t) b' legible line ok.0 ok.1 (subst (λ m. Bodies o w p b' m kinds (rest t) r) next more)

      pub line_done : line_at t ≡ line_at s + 1 → (d : Result (Unit {0}) Refusal) (r : Result (Unit {0}) TextFault) → r ≡ in_line SheetLayer d k → Performs o p b (Enter (record { number = n; letter = l; load = x })) d b' → Block o w p (kind ∷ []) s b r t b'
      line_done next (Ok u) r is done = subst (λ (y : Result (Unit {0}) TextFault). Block o w p (kind ∷ []) s b y t b') (sym is) (line_entered next done)
      line_done next (Err e) r is done = subst (λ (y : Result (Unit {0}) TextFault). Block o w p (kind ∷ []) s b y t b') (sym is) (line_refused e (barred e k) refl done)

  module _ (xs ys : List Kind) (s : Tokens) (b : List (Record E)) where
    -- a block after another, over the same places
    pub block_then : (q : ℕ) → q ≡ p → (t u : Tokens) (c d : List (Record E)) (r : Result (Unit {0}) TextFault) → Block o w p xs s b (Ok tt) t c → Block o w q ys t c r u d → Block o w p (xs ++ ys) s b r u d
    block_then q same t u c d (Ok v) first second = λ kinds r more.
        let after = subst (λ n. Block o w n ys t c (Ok v) u d) same second in
        subst (λ l. Bodies o w p b (line_at s) l (rest s) r) (sym (append_assoc xs ys kinds)) (first (ys ++ kinds) r (after kinds r more))
    block_then q same t u c d (Err f) first second = λ kinds.
        let after = subst (λ n. Block o w n ys t c (Err f) u d) same second in
        subst (λ l. Bodies o w p b (line_at s) l (rest s) (Err f)) (sym (append_assoc xs ys kinds)) (first (ys ++ kinds) (Err f) (after kinds))

    -- a fault in a block is a fault in a longer one
    pub block_faulty : (t : Tokens) (c : List (Record E)) (f : TextFault) → Block o w p xs s b (Err f) t c → Block o w p (xs ++ ys) s b (Err f) t c
    block_faulty t c f first = λ kinds. subst (λ l. Bodies o w p b (line_at s) l (rest s) (Err f)) (sym (append_assoc xs ys kinds)) (first (ys ++ kinds))

  pub block_none : (s : Tokens) (b : List (Record E)) → Block o w p [] s b (Ok tt) s b
  block_none s b kinds r more = more

  module _ (kind : Kind) (i : ℕ) (s t u : Tokens) (b c d : List (Record E)) (before : Block o w p (replicate i kind) s b (Ok tt) t c) (q : ℕ) (same : q ≡ p) where
    one_more : (r : Result (Unit {0}) TextFault) → Block o w q (kind ∷ []) t c r u d → Block o w p (replicate (i + 1) kind) s b r u d
    one_more r line =
        subst (λ l. Block o w p l s b r u d) (replicate-append-replicate i 1 kind) (block_then (replicate i kind) (kind ∷ []) s b q same t u c d r before line)

    -- one line more of one kind
    pub kind_more : Block o w q (kind ∷ []) t c (Ok tt) u d → Block o w p (replicate (i + 1) kind) s b (Ok tt) u d
    kind_more line = one_more (Ok tt) line

    -- a faulty line among n
    pub kind_faulty : (n : ℕ) (f : TextFault) → i < n → Block o w q (kind ∷ []) t c (Err f) u d → Block o w p (replicate n kind) s b (Err f) u d
    kind_faulty n f more line =
        let all : (i + 1) + (n - (i + 1)) ≡ n = omega arith in
        subst (λ l. Block o w p l s b (Err f) u d) (replicate-append-replicate (i + 1) (n - (i + 1)) kind ∙ ap (λ m. replicate m kind) all)
        (block_faulty (replicate (i + 1) kind) (replicate (n - (i + 1)) kind) s b u d f (one_more (Err f) line))

  -- what comes of a whole block with nothing due after it
  pub block_all : (xs : List Kind) (s t : Tokens) (b c : List (Record E)) (r : Result (List (Record E)) TextFault) → Block o w p xs s b (Ok tt) t c → Bodies o w p c (line_at t) [] (rest t) r → Bodies o w p b (line_at s) xs (rest s) r
  block_all xs s t b c r block end = subst (λ l. Bodies o w p b (line_at s) l (rest s) r) (append-nil xs) (block [] r end)

  pub block_ends : (xs : List Kind) (s t : Tokens) (b c : List (Record E)) (f : TextFault) → Block o w p xs s b (Err f) t c → Bodies o w p b (line_at s) xs (rest s) (Err f)
  block_ends xs s t b c f block = subst (λ l. Bodies o w p b (line_at s) l (rest s) (Err f)) (append-nil xs) (block [])

-- four blocks, each over the places that the one before it leaves
pub four_blocks : {E : Type 0} (o : Operations E) (w : Notation E) (p p₁ p₂ p₃ : ℕ) (x₁ x₂ x₃ x₄ : List Kind) (s t₁ t₂ t₃ t₄ : Tokens) (b b₁ b₂ b₃ b₄ : List (Record E)) (r : Result (Unit {0}) TextFault)
    → Block o w p x₁ s b (Ok tt) t₁ b₁ → p₁ ≡ p → Block o w p₁ x₂ t₁ b₁ (Ok tt) t₂ b₂ → p₂ ≡ p₁ → Block o w p₂ x₃ t₂ b₂ (Ok tt) t₃ b₃ → p₃ ≡ p₂ → Block o w p₃ x₄ t₃ b₃ r t₄ b₄
    → Block o w p (x₁ ++ (x₂ ++ (x₃ ++ x₄))) s b r t₄ b₄
four_blocks o w p p₁ p₂ p₃ x₁ x₂ x₃ x₄ s t₁ t₂ t₃ t₄ b b₁ b₂ b₃ b₄ r first e₁ second e₂ third e₃ fourth =
    block_then o w p x₁ (x₂ ++ (x₃ ++ x₄)) s b p₁ e₁ t₁ t₄ b₁ b₄ r first
    (block_then o w p₁ x₂ (x₃ ++ x₄) t₁ b₁ p₂ e₂ t₂ t₄ b₂ b₄ r second
    (block_then o w p₂ x₃ x₄ t₂ b₂ p₃ e₃ t₃ t₄ b₃ b₄ r third fourth))
