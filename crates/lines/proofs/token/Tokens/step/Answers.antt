use Rattle.std.proofs.Common.{[], ◌∷◌, length, get_or, take, refl, ap, ◌∙◌, arith, length-take}
use Rattle.lines.specs.Lines.{gap, lexeme, newlines}
use Rattle.lines.proofs.Cuts.{newlines_within}
use Rattle.lines.proofs.Steps.{end_at, counts, stepped}
use Rattle.lines.proofs.token.Tokens.step.Goals as goal

pub overflow_add-end : goal.overflow_add-end
overflow_add-end c =
    let end = end_at c.args.self.now.text.now c.args.self.now.at c.gap_len.result c.lexeme_len.result (c.gap_len.ensures ∙ ap (λ l. length (gap l)) c.left-left.ensures) (c.lexeme_len.ensures ∙ ap (λ l. length (lexeme l)) c.left-left.ensures) c.args.self.now.inside in
    omega arith

pub overflow_add-self : goal.overflow_add-self
overflow_add-self c =
    let ends = newlines_within (get_or c.left-left.result.now 0 0 ∷ []) in
    omega (arith, c.line_ends.ensures, c.args.self.now.counted, newlines_within (take c.args.self.now.at c.args.self.now.text.now), length-take c.args.self.now.at c.args.self.now.text.now)

pub invariant_of-self : goal.invariant_of-self
invariant_of-self c =
    let g = c.gap_len.ensures ∙ ap (λ l. length (gap l)) c.left-left.ensures in
    let n = c.lexeme_len.ensures ∙ ap (λ l. length (lexeme l)) c.left-left.ensures in
    record { inside = end_at c.args.self.now.text.now c.args.self.now.at c.gap_len.result c.lexeme_len.result g n c.args.self.now.inside; counted = counts c.args.self.now.text.now c.args.self.now.at c.gap_len.result c.lexeme_len.result g n c.args.self.now.line c.line_ends.result c.requires c.args.self.now.counted (c.line_ends.ensures ∙ ap (λ l. newlines (get_or l 0 0 ∷ [])) c.left-left.ensures) }

pub returns : goal.returns
returns c =
    stepped _ _ _ c.gap_len.result c.lexeme_len.result _ c.requires (c.gap_len.ensures ∙ ap (λ l. length (gap l)) c.left-left.ensures) (c.lexeme_len.ensures ∙ ap (λ l. length (lexeme l)) c.left-left.ensures) refl refl refl refl c.token.ensures
