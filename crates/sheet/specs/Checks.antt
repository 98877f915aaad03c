-- What the checks of one call say, by themselves.
use Rattle.std.specs.Prelude.{ℕ, List, Option, ◌≢◌}
use Rattle.effect.specs.Laws.{Operations}
use Rattle.refusals.specs.declared.Refusal.{Refusal}
use Rattle.refusals.specs.declared.Refusal.TheVariants.{RecordNumber, KindLetter, LoadFactor, Reduction, Group, Reach, NumberTaken, NumberMissing, SheetFull, NoSpecialLoad, Header, BodyLine, OutputTooLong, ColumnValue}
use Rattle.loads.specs.Letters.{letter_of}
use Rattle.loads.specs.Rules.{NumberIn, FactorsIn, ReductionIn, ReachIn}
use Rattle.loads.specs.declared.kinds.Kind.{Kind}
use Rattle.loads.specs.declared.records.Record.{Record}
use Rattle.sheet.specs.Ledger.{Against, GroupRule}
use Rattle.sheet.specs.declared.changes.Entry.{Entry}

module _ {E : Type 0} (o : Operations E) where
  -- what is wrong with a record that is handed in; own is the number that the group rule leaves out
  abbrev pub LoadCause : Option ℕ → Entry E → List (Record E) → Refusal → Type 0
  LoadCause own x b RecordNumber = NumberIn x.number → ⊥
  LoadCause own x b KindLetter = (k : Kind) → letter_of k ≢ x.letter
  LoadCause own x b LoadFactor = Against x.letter (λ k. FactorsIn k x.load.upper x.load.lower)
  LoadCause own x b Reduction = Against x.letter (λ k. ReductionIn k x.load.class x.load.area x.load.storeys)
  LoadCause own x b Group = Against x.letter (GroupRule own x.load.group b)
  LoadCause own x b Reach = ReachIn o x.load → ⊥
  LoadCause own x b NumberTaken = ⊥
  LoadCause own x b NumberMissing = ⊥
  LoadCause own x b SheetFull = ⊥
  LoadCause own x b NoSpecialLoad = ⊥
  LoadCause own x b Header = ⊥
  LoadCause own x b BodyLine = ⊥
  LoadCause own x b OutputTooLong = ⊥
  LoadCause own x b ColumnValue = ⊥
