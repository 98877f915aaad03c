use Rattle.std.proofs.Common.{Ok, Err, vec_capacity, sym, ap, ◌∙◌, subst}
use Rattle.refusals.specs.declared.Refusal.TheVariants.{Header}
use Rattle.lines.specs.Lexing.{line_at, rest}
use Rattle.sheet.specs.Held.{held, places_of}
use Rattle.sheet_text.specs.Texts.{ReadFrom, SheetText, TextOf, misread, no_counts, places_in}
use Rattle.sheet_text.proofs.Blocks.{handed_on}
use Rattle.sheet_text.proofs.Wholes.{after_counts, sheet_read}
use Rattle.sheet_text.proofs.sheets.read_sheet.Goals as goal

pub returns-in_default : goal.returns-in_default
returns-in_default g c =
    let o = g.E.Effect.means in
    let w = g.E.Written.writes in
    let p = places_in c.args.places (vec_capacity c.args.memory) in
    let s = c.args.tokens.now in
    let f = c.fault.result in
    let is = c.fault.ensures ∙ ap (misread Header) c.line-line.ensures in
    sheet_read o w p g.met.E.Written.legible (line_at s) (rest s) (Err f) tt
    (subst (λ x. SheetText o w p (line_at s) (rest s) (Err x)) (sym is) (no_counts (λ n t ok e. c.in_default.ensures.reads.0 n t ok tt e)))

pub returns-in_err-read_bodies : goal.returns-in_err-read_bodies
returns-in_err-read_bodies g c =
    let o = g.E.Effect.means in
    let w = g.E.Written.writes in
    let p = places_in c.args.places (vec_capacity c.args.memory) in
    let s = c.args.tokens.now in
    let f = c.in_err-read_bodies.field-0.0 in
    subst (ReadFrom (SheetText o w p (line_at s) (rest s)) (TextOf w (rest s)) p) (handed_on c.from_residual.result f c.from_residual.ensures.1)
    (sheet_read o w p g.met.E.Written.legible (line_at s) (rest s) (Err f) tt
    (after_counts o w p s c.read_counts.new.tokens c.in-Some.counts (places_of c.open-sheet.result) (held c.open-sheet.result) (Err f) c.in-Some.ensures c.open-sheet.ensures.places c.open-sheet.ensures.blank c.in_err-read_bodies.ensures.bodies))

pub returns : goal.returns
returns g c =
    let o = g.E.Effect.means in
    let w = g.E.Written.writes in
    let p = places_in c.args.places (vec_capacity c.args.memory) in
    let s = c.args.tokens.now in
    let sheet = c.read_bodies.new.sheet in
    let bodies = c.in_ok-read_bodies.ensures in
    sheet_read o w p g.met.E.Written.legible (line_at s) (rest s) (Ok sheet) (bodies.places ∙ c.open-sheet.ensures.places)
    (after_counts o w p s c.read_counts.new.tokens c.in-Some.counts (places_of c.open-sheet.result) (held c.open-sheet.result) (Ok (held sheet)) c.in-Some.ensures c.open-sheet.ensures.places c.open-sheet.ensures.blank bodies.bodies)
