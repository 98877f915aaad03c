-- Entries, and the records that they write.
use Rattle.std.specs.Prelude.{◌≡◌, ℕ, ◌<◌, ◌≤◌, List, length, take, Some, None, Option, ◌≢◌, slice_index_or}
use Rattle.effect.specs.Models.{of_force}
use Rattle.effect.specs.declared.newtons.N.{N}
use Rattle.loads.specs.Letters.{letter_of}
use Rattle.loads.specs.declared.kinds.Kind.{Kind}
use Rattle.loads.specs.declared.records.Record.{Record}
use Rattle.bench_entry.specs.declared.entries.Entry.{Entry}

-- the record of a kind with the numbers of an entry
abbrev pub record_of : Kind → Entry → Record N
record_of k e = record {
  number = e.number;
  kind = k;
  load = record {
    group = e.group;
    upper = e.upper;
    lower = e.lower;
    class = e.class;
    area = e.area;
    storeys = e.storeys;
    effect = of_force e.force;
  };
}

-- an entry writes the record of the kind that its letter stands for
abbrev pub Writes : Entry → Record N → Type 0
Writes e r = (letter_of r.kind ≡ e.letter) × (r ≡ record_of r.kind e)

-- entries write records, one each, in their order
pub record WritesAll (es : List Entry) (rs : List (Record N)) : Type 0 where
  pub number : length rs ≡ length es
  pub each : (k : ℕ) → k < length es → (e : Entry) (r : Record N) → Writes (slice_index_or es k e) (slice_index_or rs k r)

-- no records are written, or more than 32
abbrev pub Unwritten : List Entry → Type 0
Unwritten es = (rs : List (Record N)) → length rs ≤ 32 → WritesAll es rs → ⊥

-- the record that is written, or the letter stands for no kind
abbrev pub Reads : Entry → Option (Record N) → Type 0
Reads e None = (k : Kind) → letter_of k ≢ e.letter
Reads e (Some r) = Writes e r

-- the records that are written, at the front of a list, or none are
abbrev pub ReadsAll : List Entry → Option (List (Record N)) → Type 0
ReadsAll es None = Unwritten es
ReadsAll es (Some rs) = (length es ≤ 32) × WritesAll es (take (length es) rs)
