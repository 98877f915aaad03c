-- The text of a sheet: the names, the counts, and the records kind after kind.
use Rattle.std.specs.Prelude.{ℕ, List, ◌++◌, length}
use Rattle.std.specs.List.{filter}
use Rattle.effect.specs.Notations.{Notation}
use Rattle.loads.specs.declared.kinds.Kind.{Kind}
use Rattle.loads.specs.declared.kinds.Kind.TheVariants.{Permanent, LongTerm, ShortTerm, Special}
use Rattle.loads.specs.declared.records.Record.{Record}
use Rattle.combination.specs.Choices.{is_of_kind}
use Rattle.load_lines.specs.declared.names.Names.{Names}
use Rattle.sheet_lines.specs.Bodies.{body_lines}
use Rattle.sheet_lines.specs.Heading.{names_line, counts_line}
use Rattle.sheet_lines.specs.declared.counts.Counts.{Counts}

module _ {E : Type 0} where
  -- the records of a kind, in the order of their entry
  abbrev pub of_kind : Kind → List (Record E) → List (Record E)
  of_kind k rs = filter (λ r. is_of_kind k r.kind) rs

  -- kind after kind, in the order P, L, T and S
  abbrev pub by_kind : List (Record E) → List (Record E)
  by_kind rs = of_kind Permanent rs ++ (of_kind LongTerm rs ++ (of_kind ShortTerm rs ++ of_kind Special rs))

  abbrev pub counts_in : List (Record E) → Counts
  counts_in rs = record { permanent = length (of_kind Permanent rs); long_term = length (of_kind LongTerm rs); short_term = length (of_kind ShortTerm rs); special = length (of_kind Special rs) }

-- the whole text
abbrev pub sheet_text : {E : Type 0} → Notation E → Names → List (Record E) → List ℕ
sheet_text w names rs = names_line names (counts_line (counts_in rs) (body_lines w (by_kind rs)))
