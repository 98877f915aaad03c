use Rattle.std.proofs.Common.{ℕ, List, ◌∷◌, ◌++◌, decimal, ◌/◌, ◌%◌, ap, ◌∙◌, subst}
use Rattle.std.specs.Fmt.{HasWritten, styled_decimal}
use Rattle.lines.proofs.Decimals8.{shown_decimals}
use Rattle.lines.proofs.fixed.Fixed8Display.fmt.Goals as goal

pub returns-clause-writes : goal.returns-clause-writes
returns-clause-writes g c plain ok =
    let n = c.args.self.now.0 in
    let shown = ap (λ s. styled_decimal s (n % 100000000)) c.laid_out.ensures ∙ shown_decimals n in
    subst (λ (bs : List ℕ). HasWritten g.W.Write.write_str_gives c.args.f.now (decimal (n / 100000000) ++ (46 ∷ bs)) c.write.new.self) shown (c.write.ensures.writes plain ok)
