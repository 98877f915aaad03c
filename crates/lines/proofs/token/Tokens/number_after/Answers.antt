use Rattle.lines.proofs.Integers.{numeral_token}
use Rattle.lines.proofs.Spellings.{token_spelling, spelt, no_text}
use Rattle.lines.proofs.token.Tokens.number_after.Goals as goal

pub returns-in_err-text : goal.returns-in_err-text
returns-in_err-text g c = rw c.from_residual.ensures (no_text (token_spelling (numeral_token g.N.Numeral.value g.met.N.Numeral.apart)) c.args.blank c.args.self.now c.field_text.new.self c.in_err-text.ensures)

pub returns : goal.returns
returns g c =
    spelt (token_spelling (numeral_token g.N.Numeral.value g.met.N.Numeral.apart)) c.args.blank c.args.self.now c.field_text.new.self _ c.from_text.result c.in_ok-text.ensures c.from_text.ensures
