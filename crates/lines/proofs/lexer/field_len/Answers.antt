use Rattle.std.proofs.Common.{rules, tests, sym, ◌∙◌}
use Rattle.std.proofs.lemmas.Iterator.{YieldsList-from_slice}
use Rattle.std.proofs.lemmas.Iterator.Search.{position_from_yields_List}
use Rattle.lines.specs.Lines.{separates}
use Rattle.lines.proofs.Cuts.{field_position, position_or_all}
use Rattle.lines.proofs.lexer.field_len.Goals as goal

pub returns : goal.returns
returns c =
    let found = position_from_yields_List separates _ _ c.position.result c.position.ensures.ran (YieldsList-from_slice c.args.bytes.now cc) (λ x b q k. search (rules, tests)) in
    c.unwrap_or.ensures ∙ position_or_all separates c.args.bytes.now c.position.result found ∙ sym (field_position c.args.bytes.now)
