-- How a fault is shown.
use Rattle.std.specs.Prelude.{ℕ, List, ◌++◌, codes, decimal}
use Rattle.refusals.specs.Numbers.{number_of}
use Rattle.lines.specs.declared.fault.Fault.{Fault}

-- REFUSED n LINE k: the refusal's number and the line
abbrev pub fault_text : Fault → List ℕ
fault_text x = codes "REFUSED " ++ (decimal (number_of x.refusal) ++ (codes " LINE " ++ decimal x.line))
