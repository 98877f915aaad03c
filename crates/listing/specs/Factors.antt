-- What is said of a case, class, area and storeys.
use Rattle.std.specs.Prelude.{◌≡◌, ℕ, List, Ok, Err, decimal, Result, slice_index}
use Rattle.refusals.specs.Numbers.{refused_text}
use Rattle.reduction.specs.Answer.{Answer}
use Rattle.lines.specs.Faults.{fault_text}
use Rattle.lines.specs.declared.fault.Fault.{Fault}
use Rattle.listing.specs.declared.factors.NoFactor.{NoFactor}
use Rattle.listing.specs.declared.factors.NoFactor.TheVariants.{Refused, Malformed}
use Rattle.listing.specs.declared.factors.Reply.{Reply}

abbrev pub no_factor_text : NoFactor → List ℕ
no_factor_text (Refused e) = refused_text e
no_factor_text (Malformed x) = fault_text x

abbrev pub factor_text : Result ℕ NoFactor → List ℕ
factor_text (Ok f) = decimal f
factor_text (Err e) = no_factor_text e

abbrev pub reply_text : Reply → List ℕ
reply_text r = factor_text r.0

-- r is what the reduction answers to a case
abbrev pub CaseReply : (class area storeys : ℕ) → Result ℕ NoFactor → Type 0
CaseReply class area storeys (Ok f) = Answer class area storeys (Ok f)
CaseReply class area storeys (Err (Refused e)) = Answer class area storeys (Err e)
CaseReply class area storeys (Err (Malformed x)) = ⊥

-- r is what is said of a line with the numbers of a case, or with a fault
abbrev pub LineReply : Result (List ℕ) Fault → Result ℕ NoFactor → Type 0
LineReply (Ok case) r = CaseReply (slice_index case 0) (slice_index case 1) (slice_index case 2) r
LineReply (Err f) r = r ≡ Err (Malformed f)
