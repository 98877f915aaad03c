use Rattle.std.proofs.Common.{None}
use Rattle.lines.proofs.Sequences.{no_first, no_second, both, line}
use Rattle.sheet_lines.proofs.HeadingForm.{counts, counts_line_lem, long_term_counts, short_term_counts, special}
use Rattle.sheet_lines.proofs.heading.read_counts.Goals as goal

pub returns-in_err-permanent : goal.returns-in_err-permanent
returns-in_err-permanent c =
    let end = c.count.new.tokens in
    let none = no_first counts c.args.tokens.now end c.in_err-permanent.ensures in
    rw c.from_residual.ensures (line counts_line_lem c.args.tokens.now end None none)

pub returns-in_err-long_term : goal.returns-in_err-long_term
returns-in_err-long_term c =
    let end = c.count-2.new.tokens in
    let no_long = no_first long_term_counts c.count.new.tokens end c.in_err-long_term.ensures in
    let none = no_second counts c.args.tokens.now c.count.new.tokens end c.in_ok-permanent.permanent c.in_ok-permanent.ensures no_long in
    rw c.from_residual-in_err-long_term.ensures (line counts_line_lem c.args.tokens.now end None none)

pub returns-in_err-short_term : goal.returns-in_err-short_term
returns-in_err-short_term c =
    let end = c.count-3.new.tokens in
    let no_short = no_first short_term_counts c.count-2.new.tokens end c.in_err-short_term.ensures in
    let no_long = no_second long_term_counts c.count.new.tokens c.count-2.new.tokens end c.in_ok-long_term.long_term c.in_ok-long_term.ensures no_short in
    let none = no_second counts c.args.tokens.now c.count.new.tokens end c.in_ok-permanent.permanent c.in_ok-permanent.ensures no_long in
    rw c.from_residual-in_err-short_term.ensures (line counts_line_lem c.args.tokens.now end None none)

pub returns-in_err-special : goal.returns-in_err-special
returns-in_err-special c =
    let end = c.count-4.new.tokens in
    let no_special = no_first special c.count-3.new.tokens end c.in_err-special.ensures in
    let no_short = no_second short_term_counts c.count-2.new.tokens c.count-3.new.tokens end c.in_ok-short_term.short_term c.in_ok-short_term.ensures no_special in
    let no_long = no_second long_term_counts c.count.new.tokens c.count-2.new.tokens end c.in_ok-long_term.long_term c.in_ok-long_term.ensures no_short in
    let none = no_second counts c.args.tokens.now c.count.new.tokens end c.in_ok-permanent.permanent c.in_ok-permanent.ensures no_long in
    rw c.from_residual-in_err-special.ensures (line counts_line_lem c.args.tokens.now end None none)

pub returns-in_err-line_end : goal.returns-in_err-line_end
returns-in_err-line_end c =
    let end = c.line_end.new.self in
    let no_special = no_second special c.count-3.new.tokens c.count-4.new.tokens end c.in_ok-special.special c.in_ok-special.ensures c.in_err-line_end.ensures in
    let no_short = no_second short_term_counts c.count-2.new.tokens c.count-3.new.tokens end c.in_ok-short_term.short_term c.in_ok-short_term.ensures no_special in
    let no_long = no_second long_term_counts c.count.new.tokens c.count-2.new.tokens end c.in_ok-long_term.long_term c.in_ok-long_term.ensures no_short in
    let none = no_second counts c.args.tokens.now c.count.new.tokens end c.in_ok-permanent.permanent c.in_ok-permanent.ensures no_long in
    rw c.from_residual-in_err-line_end.ensures (line counts_line_lem c.args.tokens.now end None none)

pub returns : goal.returns
returns c =
    let end = c.line_end.new.self in
    let specials = both special c.count-3.new.tokens c.count-4.new.tokens end c.in_ok-special.special tt c.in_ok-special.ensures c.in_ok-line_end.ensures in
    let shorts = both short_term_counts c.count-2.new.tokens c.count-3.new.tokens end c.in_ok-short_term.short_term c.in_ok-special.special c.in_ok-short_term.ensures specials in
    let longs = both long_term_counts c.count.new.tokens c.count-2.new.tokens end c.in_ok-long_term.long_term (c.in_ok-short_term.short_term, c.in_ok-special.special) c.in_ok-long_term.ensures shorts in
    line counts_line_lem _ _ _ (both counts c.args.tokens.now c.count.new.tokens end c.in_ok-permanent.permanent (c.in_ok-long_term.long_term, c.in_ok-short_term.short_term, c.in_ok-special.special) c.in_ok-permanent.ensures longs)
