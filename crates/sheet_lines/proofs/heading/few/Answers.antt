use Rattle.std.proofs.Common.{rules}
use Rattle.sheet_lines.proofs.HeadingForm.{few_short, short_form}
use Rattle.sheet_lines.proofs.Narrowed.{filtered}
use Rattle.sheet_lines.proofs.heading.few.Goals as goal

pub returns : goal.returns
returns c = filtered short_form few_short c.args.tokens.now c.field.new.self c.field.result c.filter.result _ (λ a b h. search rules) c.field.ensures c.filter.ensures
