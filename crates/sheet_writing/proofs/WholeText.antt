-- The whole text of a sheet, part by part.
-- Assumes nothing.
use Rattle.std.proofs.Common.{◌≡◌, ℕ, List, [], ◌++◌, sym, refl, ap, ◌∙◌, append_assoc}
use Rattle.effect.specs.Notations.{Notation}
use Rattle.effect.specs.declared.names.EffectName.{EffectName}
use Rattle.effect.specs.declared.names.EffectName.TheVariants.{N, Nm}
use Rattle.norm.specs.declared.names.NormName.{NormName}
use Rattle.norm.specs.declared.names.NormName.TheVariants.{Sp20, Snip85}
use Rattle.loads.specs.declared.kinds.Kind.TheVariants.{Permanent, LongTerm, ShortTerm, Special}
use Rattle.loads.specs.declared.records.Record.{Record}
use Rattle.load_lines.specs.declared.names.Names.{Names}
use Rattle.sheet_lines.specs.Bodies.{body_lines}
use Rattle.sheet_lines.specs.Heading.{counts_line, names_line}
use Rattle.sheet_lines.specs.declared.counts.Counts.{Counts}
use Rattle.sheet_writing.specs.Sheets.{by_kind, counts_in, of_kind, sheet_text}
use Rattle.sheet_writing.proofs.KindLines.{bodies_append}

names_of : (n : NormName) (e : EffectName) (t : List ℕ) → names_line (record { norm = n; effect = e }) [] ++ t ≡ names_line (record { norm = n; effect = e }) t
names_of Sp20 N t = refl
names_of Sp20 Nm t = refl
names_of Snip85 N t = refl
names_of Snip85 Nm t = refl

pub names_append : (x : Names) (t : List ℕ) → names_line x [] ++ t ≡ names_line x t
names_append x t = names_of x.norm x.effect t

pub counts_append : (c : Counts) (t : List ℕ) → counts_line c [] ++ t ≡ counts_line c t
counts_append c t = simp append_assoc

module _ {E : Type 0} (w : Notation E) (rs : List (Record E)) where
  kinds_append : body_lines w (of_kind Permanent rs) ++ (body_lines w (of_kind LongTerm rs) ++ (body_lines w (of_kind ShortTerm rs) ++ body_lines w (of_kind Special rs))) ≡ body_lines w (by_kind rs)
  kinds_append =
      let l = of_kind LongTerm rs in
      let t = of_kind ShortTerm rs in
      let s = of_kind Special rs in
      let two = sym (bodies_append w t s) in
      let three = ap (λ x. body_lines w l ++ x) two ∙ sym (bodies_append w l (t ++ s)) in
      ap (λ x. body_lines w (of_kind Permanent rs) ++ x) three ∙ sym (bodies_append w (of_kind Permanent rs) (l ++ (t ++ s)))

  pub whole_text : (x : Names)
      → names_line x [] ++ (counts_line (counts_in rs) [] ++ (body_lines w (of_kind Permanent rs) ++ (body_lines w (of_kind LongTerm rs) ++ (body_lines w (of_kind ShortTerm rs) ++ body_lines w (of_kind Special rs))))) ≡ sheet_text w x rs
  whole_text x = names_append x _ ∙ ap (names_line x) (counts_append (counts_in rs) _ ∙ ap (counts_line (counts_in rs)) kinds_append)
