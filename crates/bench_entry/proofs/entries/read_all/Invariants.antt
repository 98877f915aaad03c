use Rattle.std.proofs.Common.{◌≡◌, ℕ, ◌<◌, length, get_or}
use Rattle.effect.specs.declared.newtons.N.{N}
use Rattle.loads.specs.declared.records.Record.{Record}
use Rattle.bench_entry.specs.Entries.{Writes}
use Rattle.bench_entry.specs.declared.entries.Entry.{Entry}
use Rattle.bench_entry.proofs.entries.read_all.Given as goal

abbrev pub invariant-loop-k : goal.invariant-loop-k
invariant-loop-k l = (length l.records ≡ 32) × ((j : ℕ) → j < l.k → (e : Entry) (r : Record N) → Writes (get_or l.entries j e) (get_or l.records j r))
