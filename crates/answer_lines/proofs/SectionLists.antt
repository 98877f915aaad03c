-- The sections of a choice by the percentages that a norm was asked for.
-- Assumes nothing.
use Rattle.std.proofs.Common.{◌≡◌, List, [], ◌∷◌}
use Rattle.loads.specs.declared.kinds.Kind.TheVariants.{LongTerm, ShortTerm}
use Rattle.norm.specs.Percentages.{Percentages}
use Rattle.norm.specs.declared.roles.Role.TheVariants.{Leading, Second, Other}
use Rattle.combination.specs.Choices.{Line, taken}
use Rattle.combination.specs.Computing.{AskedFor}
use Rattle.combination.specs.declared.percents.Table.{Table}
use Rattle.answer_lines.specs.Lines.{sections}
use Rattle.answer_lines.specs.declared.sections.Section.{Section}
use Rattle.answer_lines.specs.declared.sections.Section.TheVariants.{Factors, InRole, Taken}

abbrev pub tabled : Table → List Section
tabled t =
    Factors
    ∷ InRole LongTerm Leading t.long.leading
    ∷ InRole LongTerm Second t.long.second
    ∷ InRole LongTerm Other t.long.other
    ∷ InRole ShortTerm Leading t.short.leading
    ∷ InRole ShortTerm Second t.short.second
    ∷ InRole ShortTerm Other t.short.other
    ∷ Taken
    ∷ []
