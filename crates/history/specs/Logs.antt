-- What is done with a log.
use Rattle.std.specs.Prelude.{◌≡◌, ◌+◌, ◌≤◌, List, [], ◌∷◌, ◌++◌, length, vec_items, vec_len, vec_capacity, Result, IfOk, IfErr}
use Rattle.loads.specs.declared.records.Record.{Record}
use Rattle.history.specs.declared.logs.Log.{Log}
use Rattle.history.specs.declared.logs.Turn.{Turn}
use Rattle.history.specs.Outcomes.{Outcome}

module _ {E : Type 0} where
  abbrev pub turns_of : Log E → List (Turn E)
  turns_of l = vec_items l.turns

  abbrev pub pages_of : Log E → List (Record E)
  pages_of l = vec_items l.pages

  -- memory is only added
  pub record Grown (l m : Log E) : Type 0 where
    pub turns : vec_capacity l.turns ≤ vec_capacity m.turns
    pub pages : vec_capacity l.pages ≤ vec_capacity m.pages

  -- m begins with a sheet that holds the records b
  pub record Begun (l : Log E) (b : List (Record E)) (m : Log E) : Type 0 where
    pub opened : m.opened ≡ length b
    pub turns : turns_of m ≡ []
    pub pages : pages_of m ≡ []
    pub grown : Grown l m

  -- there is room for one turn more, with 32 records
  pub record Room (l : Log E) : Type 0 where
    pub turn : vec_len l.turns + 1 ≤ vec_capacity l.turns
    pub page : vec_len l.pages + 32 ≤ vec_capacity l.pages

  -- room was made, or there was none
  pub record MadeRoom {X : Type 0} (l : Log E) (r : Result (Unit {0}) X) (m : Log E) : Type 0 where
    pub opened : m.opened ≡ l.opened
    pub turns : turns_of m ≡ turns_of l
    pub pages : pages_of m ≡ pages_of l
    pub grown : Grown l m
    pub room : IfOk r (λ u. Room m)
    pub short : IfErr r (λ e. Room l → ⊥)

  -- m is l with a turn more: its outcome, and the records b
  pub record Noted (l : Log E) (out : Outcome E) (b : List (Record E)) (m : Log E) : Type 0 where
    pub opened : m.opened ≡ l.opened
    pub turns : turns_of m ≡ turns_of l ++ record { outcome = out; held = length b } ∷ []
    pub pages : pages_of m ≡ pages_of l ++ b
    pub grown : Grown l m
