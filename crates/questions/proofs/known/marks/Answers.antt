use Rattle.std.proofs.Common.{◌≡◌, ◌<◌, ◌≤◌, ◌∙◌, false, get_or, sym, ap₂, ⊎_elim, arith, rules}
use lib.ListN.{length-map}
use Rattle.std.proofs.lemmas.Bool.{cases_lt}
use Rattle.std.proofs.lemmas.List.{get_or_past}
use Rattle.combination.specs.Choices.{is_of_kind}
use Rattle.questions.specs.Parts.{mask}
use Rattle.questions.proofs.Arrays.{each_made}
use Rattle.questions.proofs.known.marks.Goals as goal

pub returns : goal.returns
returns g c k =
    let rs = c.args.loads.now.records.now in
    let kind = c.args.kind in
    ⊎_elim
    (λ (l : k < 32). each_made _ _ (λ k y. y ≡ get_or (mask kind rs) k false) (λ i y q e. (ap₂ (λ a b. (a, b)) e.met.1.0 e.met.1.1, search rules)) _ _ c.from_fn.ensures.items k false l)
    (λ (past : 32 ≤ k). get_or_past c.from_fn.result k false (omega (arith, c.from_fn.ensures.items.long)) ∙ sym (get_or_past (mask kind rs) k false (omega (arith, c.args.loads.now.kept.few, length-map rs (λ r. is_of_kind kind r.kind)))))
    (cases_lt k 32)
