use Rattle.std.proofs.Common.{refl}
use Rattle.sheet.specs.Held.{held, places_of}
use Rattle.sheet_text.proofs.Blocks.{line_done, line_malformed}
use Rattle.sheet_text.proofs.bodies.enter_line.Goals as goal

pub returns-in_default : goal.returns-in_default
returns-in_default g c =
    let b = held c.args.sheet.now in
    record {
      block = line_malformed g.E.Effect.means g.E.Written.writes (places_of c.args.sheet.now) c.args.kind c.args.tokens.now c.read_body.new.tokens b b c.line-line.result c.line-line.ensures
          c.fault.result c.fault.ensures (λ x t ok e. c.in_default.ensures.reads.0 x t ok tt e);
      places = refl;
    }

pub returns : goal.returns
returns g c =
    let read = c.in-Some.ensures in
    record {
      block = line_done g.E.Effect.means g.E.Written.writes (places_of c.args.sheet.now) c.args.kind c.args.tokens.now c.read_body.new.tokens (held c.args.sheet.now) (held c.enter.new.self) c.line-line.result c.line-line.ensures
          c.in-Some.number c.letter-letter.result c.in-Some.load c.letter-letter.ensures read.reads.0 read.reads.1 read.next c.enter.result c.in_line.result c.in_line.ensures c.enter.ensures.ledger;
      places = c.enter.ensures.places;
    }
