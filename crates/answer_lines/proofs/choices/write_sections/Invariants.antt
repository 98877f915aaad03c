use Rattle.std.proofs.Common.{drop}
use Rattle.combination.specs.Choices.{lines_of}
use Rattle.writing.proofs.Onward.{Onward}
use Rattle.answer_lines.specs.Lines.{sections_text}
use Rattle.answer_lines.proofs.choices.write_sections.Given as goal

abbrev pub invariant-loop-section : goal.invariant-loop-section
invariant-loop-section g l = Onward l.initial.out l.out (sections_text (drop l.section-index l.sections) (lines_of l.choice)) (sections_text l.sections (lines_of l.choice))
