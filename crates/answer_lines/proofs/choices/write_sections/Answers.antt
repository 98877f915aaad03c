use Rattle.combination.specs.Choices.{lines_of}
use Rattle.std.proofs.lemmas.List.{at_drop_more, at_drop_all}
use Rattle.writing.proofs.Onward.{onward_more, onward_all}
use Rattle.answer_lines.specs.Lines.{sections_text}
use Rattle.answer_lines.specs.declared.sections.Section.TheVariants.{Factors}
use Rattle.answer_lines.proofs.choices.write_sections.Goals as goal

pub loop-section-init : goal.loop-section-init
loop-section-init g c = λ z w. w

pub loop-section-preserved : goal.loop-section-preserved
loop-section-preserved g c =
    let ls = lines_of c.args.choice.now in
    onward_more c.loop-section.invariant (at_drop_more (λ ss. sections_text ss ls) c.args.sections.now c.loop-section.section-index Factors c.loop-section-test.true) c.write.ensures

pub returns : goal.returns
returns g c =
    let ls = lines_of c.args.choice.now in
    onward_all c.loop-section.invariant (at_drop_all (λ ss. sections_text ss ls) c.args.sections.now c.loop-section.section-index c.loop-section-test.false)
