-- Readers one after the other make a reader of what they read together.
-- Assumes nothing.
use Rattle.std.proofs.Common.{◌≡◌, ℕ, ◌+◌, List, Some, None, Option, sym, refl, ap, ◌∙◌, subst, arith}
use Rattle.lines.specs.Lexing.{rest}
use Rattle.lines.specs.Lines.{newlines}
use Rattle.lines.specs.Reading.{Anything, Reads, ReadsLine, before, byte}
use Rattle.lines.specs.declared.token.Tokens.{Tokens}
use Rattle.lines.proofs.LineCount.{lines_passed}

-- what is written of a valid value splits from what follows it in one way, and has k line ends
pub record Form {A : Type 0} (k : ℕ) (valid : A → Type 0) (written : A → List ℕ → List ℕ) (stops : List ℕ → Type 0) : Type 0 where
  pub splits : (a b : A) (t u : List ℕ) → valid a → valid b → stops t → stops u → written a t ≡ written b u → (a ≡ b) × (t ≡ u)
  pub lines : (a : A) (t : List ℕ) → valid a → newlines (written a t) ≡ k + newlines t

-- a value is made of a first part and a second one, which may depend on the first, and is written as the first and then the second
pub record Sequence {A B C : Type 0} (k : ℕ) (valid₁ : A → Type 0) (written₁ : A → List ℕ → List ℕ) (stops₁ : List ℕ → Type 0) (valid₂ : A → B → Type 0) (written₂ : A → B → List ℕ → List ℕ) (stops₂ : List ℕ → Type 0) (make : A → B → C) (valid : C → Type 0) (written : C → List ℕ → List ℕ) : Type 0 where
  pub first : Form k valid₁ written₁ stops₁
  -- the second part stops the first
  pub follows : (a : A) (b : B) (t : List ℕ) → valid₂ a b → stops₂ t → stops₁ (written₂ a b t)
  pub made : (a : A) (b : B) → valid₁ a → valid₂ a b → valid (make a b)
  pub joined : (a : A) (b : B) (t : List ℕ) → valid₁ a → valid₂ a b → written (make a b) t ≡ written₁ a (written₂ a b t)
  pub parts : (c : C) → valid c → (a : A) × (b : B) × (c ≡ make a b) × valid₁ a × valid₂ a b

module _ {A B C : Type 0} {k : ℕ} {valid₁ : A → Type 0} {written₁ : A → List ℕ → List ℕ} {stops₁ : List ℕ → Type 0} {valid₂ : A → B → Type 0} {written₂ : A → B → List ℕ → List ℕ} {stops₂ : List ℕ → Type 0} {make : A → B → C} {valid : C → Type 0} {written : C → List ℕ → List ℕ} (q : Sequence k valid₁ written₁ stops₁ valid₂ written₂ stops₂ make valid written) where
  cut : (c : C) (t : List ℕ) (ok : valid c) → written c t ≡ written₁ (q.parts c ok).0 (written₂ (q.parts c ok).0 (q.parts c ok).1 t)
  cut c t ok = let p = q.parts c ok in ap (λ d. written d t) p.2 ∙ q.joined p.0 p.1 t p.3 p.4

  -- the first part is missing, the second is, or both are read
  pub no_first : (s u : Tokens) → Reads valid₁ written₁ stops₁ s None u → Reads valid written stops₂ s None u
  no_first s u none = (
    (λ c t ok ends e.
        let p = q.parts c ok in
        none.0 p.0 (written₂ p.0 p.1 t) p.3 (q.follows p.0 p.1 t p.4 ends) (e ∙ cut c t ok)),
    none.1,
  )

  pub no_second : (s u z : Tokens) (a : A) → Reads valid₁ written₁ stops₁ s (Some a) u → Reads (valid₂ a) (written₂ a) stops₂ u None z → Reads valid written stops₂ s None z
  no_second s u z a got none = (
    (λ c t ok ends e.
        let p = q.parts c ok in
        let one = q.first.splits p.0 a (written₂ p.0 p.1 t) (rest u) p.3 got.0 (q.follows p.0 p.1 t p.4 ends) got.2 (sym (cut c t ok) ∙ sym e ∙ got.1) in
        none.0 p.1 t (subst (λ x. valid₂ x p.1) one.0 p.4) ends (sym one.1 ∙ ap (λ x. written₂ x p.1 t) one.0)),
    none.1 ∙ got.3,
  )

  pub both : (s u z : Tokens) (a : A) (b : B) → Reads valid₁ written₁ stops₁ s (Some a) u → Reads (valid₂ a) (written₂ a) stops₂ u (Some b) z → Reads valid written stops₂ s (Some (make a b)) z
  both s u z a b got next = (
    q.made a b got.0 next.0,
    got.1 ∙ ap (written₁ a) next.1 ∙ sym (q.joined a b (rest z) got.0 next.0),
    next.2,
    next.3 ∙ got.3,
  )

  -- the whole splits from what follows it in one way, too
  pub form : {j : ℕ} → ((a : A) → valid₁ a → Form j (valid₂ a) (written₂ a) stops₂) → Form (k + j) valid written stops₂
  form {j} second = record {
    splits = λ c d t u vc vd et eu e.
        let p = q.parts c vc in
        let r = q.parts d vd in
        let one = q.first.splits p.0 r.0 (written₂ p.0 p.1 t) (written₂ r.0 r.1 u) p.3 r.3 (q.follows p.0 p.1 t p.4 et) (q.follows r.0 r.1 u r.4 eu) (sym (cut c t vc) ∙ e ∙ cut d u vd) in
        let two = (second p.0 p.3).splits p.1 r.1 t u p.4 (subst (λ x. valid₂ x r.1) (sym one.0) r.4) et eu (one.1 ∙ ap (λ x. written₂ x r.1 u) (sym one.0)) in
        (p.2 ∙ (λ i. make (one.0 i) (two.0 i)) ∙ sym r.2, two.1);
    lines = λ c t ok.
        let p = q.parts c ok in
        omega (arith, ap newlines (cut c t ok), q.first.lines p.0 (written₂ p.0 p.1 t) p.3, (second p.0 p.3).lines p.1 t p.4);
  }

-- a value that another one is made of, and that is written as that one
pub record Wrapping {A C : Type 0} (valid₁ : A → Type 0) (written₁ : A → List ℕ → List ℕ) (make : A → C) (valid : C → Type 0) (written : C → List ℕ → List ℕ) : Type 0 where
  pub made : (a : A) → valid₁ a → valid (make a)
  pub same : (a : A) (t : List ℕ) → valid₁ a → written (make a) t ≡ written₁ a t
  pub part : (c : C) → valid c → (a : A) × (c ≡ make a) × valid₁ a

module _ {A C : Type 0} {valid₁ : A → Type 0} {written₁ : A → List ℕ → List ℕ} {make : A → C} {valid : C → Type 0} {written : C → List ℕ → List ℕ} (q : Wrapping valid₁ written₁ make valid written) where
  wrapped_cut : (c : C) (t : List ℕ) (ok : valid c) → written c t ≡ written₁ (q.part c ok).0 t
  wrapped_cut c t ok = let p = q.part c ok in ap (λ d. written d t) p.1 ∙ q.same p.0 t p.2

  pub no_part : (stops : List ℕ → Type 0) (s u : Tokens) → Reads valid₁ written₁ stops s None u → Reads valid written stops s None u
  no_part stops s u none = (
    (λ c t ok ends e.
        let p = q.part c ok in
        none.0 p.0 t p.2 ends (e ∙ wrapped_cut c t ok)),
    none.1,
  )

  pub wrapped_form : {k : ℕ} {stops : List ℕ → Type 0} → Form k valid₁ written₁ stops → Form k valid written stops
  wrapped_form f = record {
    splits = λ c d t u vc vd et eu e.
        let p = q.part c vc in
        let r = q.part d vd in
        let one = f.splits p.0 r.0 t u p.2 r.2 et eu (sym (wrapped_cut c t vc) ∙ e ∙ wrapped_cut d u vd) in
        (p.1 ∙ ap make one.0 ∙ sym r.1, one.1);
    lines = λ c t ok. ap newlines (wrapped_cut c t ok) ∙ f.lines (q.part c ok).0 t (q.part c ok).2;
  }

-- what is read with one line end is a whole line
module _ {A : Type 0} {valid : A → Type 0} {written : A → List ℕ → List ℕ} (f : Form 1 valid written Anything) where
  pub line : (s u : Tokens) (r : Option A) → Reads valid written Anything s r u → ReadsLine valid written s r u
  line s u (Some a) got = record {
    reads = got;
    only = λ b t ok any e. f.splits b a t (rest u) ok got.0 tt tt (sym e ∙ got.1);
    next = lines_passed s u 1 (ap newlines got.1 ∙ f.lines a (rest u) got.0) got.3;
  }
  line s u None none = record { reads = none; only = tt; next = tt }

-- the line end
pub line_end : Form 1 Anything (before (byte 10)) Anything
line_end = record { splits = λ a b t u va vb et eu e. (refl, (cc)); lines = λ a t ok. refl }
