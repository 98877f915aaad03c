-- The first two lines of a sheet's text.
use Rattle.std.specs.Prelude.{ℕ, ◌≤◌, Bool, true, false, List, [], ◌∷◌, ◌++◌, replicate, decimal}
use Rattle.loads.specs.Letters.{letter_of}
use Rattle.loads.specs.declared.kinds.Kind.{Kind}
use Rattle.loads.specs.declared.kinds.Kind.TheVariants.{Permanent, LongTerm, ShortTerm, Special}
use Rattle.lines.specs.Reading.{blank_if}
use Rattle.load_lines.specs.Names.{names_text}
use Rattle.load_lines.specs.declared.names.Names.{Names}
use Rattle.sheet_lines.specs.declared.counts.Counts.{Counts}

-- the two names and the line end, and then t
abbrev pub names_line : Names → List ℕ → List ℕ
names_line x t = names_text x (10 ∷ t)

abbrev pub Few : ℕ → Type 0
Few n = n ≤ 99

abbrev pub LegibleCounts : Counts → Type 0
LegibleCounts c = Few c.permanent × Few c.long_term × Few c.short_term × Few c.special

-- the letter of a kind
abbrev pub kind_text : Kind → Unit {0} → List ℕ
kind_text k u = letter_of k ∷ []

-- the letter of a kind, after one blank where one is asked for, and its count, and then t
abbrev pub count_text : Bool → Kind → ℕ → List ℕ → List ℕ
count_text b k n t = blank_if b (letter_of k ∷ (32 ∷ (decimal n ++ t)))

-- P, L, T and S, each with its count, and the line end, and then t
abbrev pub counts_line : Counts → List ℕ → List ℕ
counts_line c t =
    count_text false Permanent c.permanent (count_text true LongTerm c.long_term (count_text true ShortTerm c.short_term (count_text true Special c.special (10 ∷ t))))

-- the kinds of the bodies, in their order
abbrev pub due : Counts → List Kind
due c = replicate c.permanent Permanent ++ (replicate c.long_term LongTerm ++ (replicate c.short_term ShortTerm ++ replicate c.special Special))
