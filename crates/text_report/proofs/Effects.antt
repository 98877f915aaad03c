-- A text under the norm that it names, by its effect type.
-- Assumes nothing.
use Rattle.std.proofs.Common.{◌≡◌, ℕ, List, Ok, Result, sym, subst}
use Rattle.load_lines.specs.declared.names.Names.{Names}
use Rattle.norm.specs.declared.names.NormName.{NormName}
use Rattle.sheet_lines.specs.declared.fault.TextFault.{TextFault}
use Rattle.sheet_text.specs.Starts.{NamesOf}
use Rattle.text_report.specs.Norms.{norm_of}
use Rattle.text_report.specs.TextReports.{FromAnyText, OfEffect}

module _ (pn pm : ℕ) (text before : List ℕ) (out : Result ℕ TextFault) (after : List ℕ) (names : Names) (named : NamesOf text (Ok names)) where
  of_effect : OfEffect (norm_of names.norm) pn pm names text before out after → FromAnyText pn pm text before out after
  of_effect (OfEffect.by_forces e h) = FromAnyText.of_forces names named e h
  of_effect (OfEffect.by_moments e h) = FromAnyText.of_moments names named e h

  pub of_norm : (norm : NormName) → names.norm ≡ norm → OfEffect (norm_of norm) pn pm names text before out after → FromAnyText pn pm text before out after
  of_norm norm is h = of_effect (subst (λ n. OfEffect (norm_of n) pn pm names text before out after) (sym is) h)
