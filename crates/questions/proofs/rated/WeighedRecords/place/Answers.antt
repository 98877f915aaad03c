use Rattle.std.proofs.Common.{◌∙◌, sym, get_or, arith, None}
use Rattle.std.proofs.lemmas.List.{get_or_past}
use Rattle.combination.specs.declared.picks.Pick.TheVariants.{Out}
use Rattle.questions.specs.Engine.{joined}
use Rattle.questions.specs.PartChoices.{roles_of}
use Rattle.questions.proofs.Assigned.{role_read}
use Rattle.questions.proofs.Merges.{length_merged, merged_at}
use Rattle.questions.proofs.rated.WeighedRecords.place.Goals as goal

pub returns-in_default : goal.returns-in_default
returns-in_default g c =
    let e = g.E.Effect.means in
    let rs = c.args.self.now.records.now in
    let p = c.args.parts.now in
    sym (get_or_past (joined e rs p) c.args.k Out (omega (arith, c.in_default.ensures.lookup.3, length_merged e rs (λ j. get_or (roles_of p.long) j None) (λ j. get_or (roles_of p.short) j None) (λ j. get_or (roles_of p.special) j None))))

pub returns : goal.returns
returns g c =
    let e = g.E.Effect.means in
    let rs = c.args.self.now.records.now in
    let p = c.args.parts.now in
    let k = c.args.k in
    let found = c.in-Some.ensures.lookup in
    let made = c.place.ensures in
    let long = c.role.ensures ∙ role_read p.long k in
    let short = c.role-2.ensures ∙ role_read p.short k in
    let special = c.role-3.ensures ∙ role_read p.special k in
    let is = found.1 in
    let there = merged_at e rs (λ j. get_or (roles_of p.long) j None) (λ j. get_or (roles_of p.short) j None) (λ j. get_or (roles_of p.special) j None) k c.in-Some.record.now found.3.0 in
    cc
