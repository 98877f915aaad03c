-- A sheet that was read from a text has a history, so its report shows the worst.
-- Assumes nothing.
use Rattle.std.proofs.Common.{◌≡◌, ℕ, ◌≤◌, List, [], ◌∷◌, Ok, Err, Result, sym, refl, subst}
use Rattle.effect.specs.Laws.{Operations}
use Rattle.effect.specs.Notations.{Notation}
use Rattle.norm.specs.Percentages.{Percentages}
use Rattle.refusals.specs.declared.Refusal.{Refusal}
use Rattle.loads.specs.declared.kinds.Kind.{Kind}
use Rattle.loads.specs.declared.records.Record.{Record}
use Rattle.combination.specs.declared.answers.Answer.{Answer}
use Rattle.history.specs.History.{NormAnswers, both, Run}
use Rattle.history.specs.Questions.{SpecialAsked}
use Rattle.history.specs.declared.calls.Call.{Call}
use Rattle.history.specs.declared.calls.Call.TheVariants.{Change}
use Rattle.history.specs.Outcomes.{Outcome}
use Rattle.std.specs.Prelude.{Ok, Err, None}
use Rattle.load_lines.specs.declared.names.Names.{Names}
use Rattle.report.specs.Reports.{Reported, report_text}
use Rattle.sheet_lines.specs.declared.fault.TextFault.{TextFault}
use Rattle.sheet_text.specs.Texts.{Bodies, SheetText, WholeText, entry_of}
use Rattle.text_report.specs.TextReports.{FromText, SpecialWorst, written_of}

module _ {E : Type 0} (o : Operations E) (w : Notation E) (norm : NormAnswers) (p : ℕ) where
  -- calls that lead from the records b to those that came of a text
  abbrev Led : List (Record E) → Result (List (Record E)) TextFault → Type 0
  Led b (Ok d) = (cs : List (Call E)) × (outs : List (Outcome E)) × Run o norm p b cs outs d
  Led b (Err f) = Unit {0}

  led_more : (b m : List (Record E)) (c : Call E) (out : Outcome E) (r : Result (List (Record E)) TextFault) → Run o norm p b (c ∷ []) (out ∷ []) m → Led m r → Led b r
  led_more b m c out (Ok d) step led = (c ∷ led.0, out ∷ led.1, (step.0, step.1, subst (λ x. Run o norm p x led.0 led.1 d) (sym step.2) led.2))
  led_more b m c out (Err f) step led = tt

  bodies_led : {b : List (Record E)} {k : ℕ} {kinds : List Kind} {text : List ℕ} {r : Result (List (Record E)) TextFault} → Bodies o w p b k kinds text r → Led b r
  bodies_led (Bodies.finished e) = ([], [], refl)
  bodies_led (Bodies.surplus more) = tt
  bodies_led (Bodies.malformed none) = tt
  bodies_led (Bodies.refused x after e legible is refuses) = tt
  bodies_led {b} {kinds = kind ∷ kinds} {r = r} (Bodies.entered x after b' legible is accepted changed next) = led_more b b' (Change (entry_of kind x)) (Ok None) r (b', (accepted, changed), refl) (bodies_led next)

  sheet_led : {k : ℕ} {text : List ℕ} {r : Result (List (Record E)) TextFault} → SheetText o w p k text r → Led [] r
  sheet_led (SheetText.no_counts none) = tt
  sheet_led (SheetText.counted c after few is bodies) = bodies_led bodies

  pub whole_led : {text : List ℕ} {r : Result (List (Record E)) TextFault} → WholeText o w p text r → Led [] r
  whole_led (WholeText.too_long long) = tt
  whole_led (WholeText.no_names none) = tt
  whole_led (WholeText.named x after short is sheet) = sheet_led sheet

module _ {E : Type 0} (o : Operations E) (w : Notation E) (names : Names) (basic special : Percentages) (p : ℕ) (small : p ≤ 32) (text : List ℕ) (b : List (Record E)) (whole : WholeText o w p text (Ok b)) where
  abbrev norm : NormAnswers
  norm = both basic special

  special_worst : (r : Result (Answer E) Refusal) → SpecialAsked o norm p b r → SpecialWorst o w norm b r
  special_worst (Ok a) asked = let led = whole_led o w norm p whole in asked.1 led.0 led.1 (small, led.2)
  special_worst (Err e) asked = asked.1

  -- the report of the sheet that a text ended in
  pub report_from : (before : List ℕ) (r : Result ℕ Refusal) (after : List ℕ) → Reported o w names norm p b before r after → (out : Result ℕ TextFault) → out ≡ written_of r → FromText o w names norm p text before out after
  report_from before r after shown out is =
      let led = whole_led o w norm p whole in
      FromText.reported b (report_text w names norm b shown.basic shown.special) r whole
      (record { basic = shown.basic; special = shown.special; basic_worst = shown.basic_asked special led.0 led.1 (small, led.2); special_worst = special_worst shown.special shown.special_asked; is = refl })
      shown.written is
