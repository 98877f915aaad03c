-- How a refusal of a text is shown.
use Rattle.std.specs.Prelude.{ℕ, List, Ok, Err, Result}
use Rattle.lines.specs.Faults.{fault_text}
use Rattle.refusals.specs.declared.Refusal.{Refusal}
use Rattle.sheet_lines.specs.declared.fault.Layer.{Layer}
use Rattle.sheet_lines.specs.declared.fault.TextFault.{TextFault}

-- REFUSED n LINE k, as any fault in a line
abbrev pub text_fault_text : TextFault → List ℕ
text_fault_text x = fault_text x.fault

-- the refusal of a line by a layer
abbrev pub fault_of : Layer → Refusal → ℕ → TextFault
fault_of layer e k = record { fault = record { refusal = e; line = k }; layer = layer }

-- an answer in which a refusal is the fault of line k
abbrev pub in_line : {A : Type 0} → Layer → Result A Refusal → ℕ → Result A TextFault
in_line layer (Ok a) k = Ok a
in_line layer (Err e) k = Err (fault_of layer e k)
