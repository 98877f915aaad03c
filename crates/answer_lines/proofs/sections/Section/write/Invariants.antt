use Rattle.std.proofs.Common.{length, drop}
use Rattle.combination.specs.Choices.{lines, lines_of}
use Rattle.writing.proofs.Onward.{Onward}
use Rattle.answer_lines.specs.Lines.{section_text}
use Rattle.answer_lines.proofs.sections.Section.write.Given as goal

abbrev pub invariant-loop-of : goal.invariant-loop-of
invariant-loop-of g l =
    let i = length l.yielded in
    Onward l.initial.out l.out (section_text l.self (lines (drop i l.choice.records.now) (drop i l.choice.picks.now))) (section_text l.self (lines_of l.choice))
