-- What is said of an outcome.
use Rattle.std.specs.Prelude.{ℕ, List, Ok, Err, Result, codes}
use Rattle.refusals.specs.Numbers.{refused_text}
use Rattle.refusals.specs.declared.Refusal.{Refusal}
use Rattle.history.specs.Outcomes.{Outcome}

-- that a call is done, or its refusal
abbrev pub said_of : {E : Type 0} → Outcome E → Result (Unit {0}) Refusal
said_of (Ok a) = Ok tt
said_of (Err e) = Err e

-- DONE, or REFUSED with the refusal's number
abbrev pub said_text : Result (Unit {0}) Refusal → List ℕ
said_text (Ok u) = codes "DONE"
said_text (Err e) = refused_text e
