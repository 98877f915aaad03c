-- One changed storey, and the loads of a section.
-- Assumes nothing.
use Rattle.std.proofs.Common.{◌≡◌, ℕ, ◌+◌, ◌-◌, ◌<◌, ◌≤◌, take, count_by, is_some, length-take, ◌≢◌, List, Option, length, set, refl, arith, get_or-set_same, get_or-set_other}
use Rattle.std.proofs.lemmas.List.Sums.{count_by-le-length}
use Rattle.column.specs.Answer.{Has, Loads, Replaced}
use Rattle.column.specs.Loads.{InRange, LoadsOf}
use Rattle.column.specs.declared.storeys.Storey.{Storey}

pub in_range : {class area load : ℕ} (x : Storey) → Has class area load x → InRange class area load
in_range x h =
    record {
      class_high = omega (arith, h.same_class, x.class_high);
      area_low = omega (arith, h.same_area, x.area_low);
      area_high = omega (arith, h.same_area, x.area_high);
      load_high = omega (arith, h.same_load, x.load_high);
    }

pub replaced : (xs : List (Option Storey)) (s place : ℕ) (storey : Option Storey) → s ≡ place + 1 → place < length xs → Replaced s storey xs (set xs place storey)
replaced xs s place storey e low =
    let p : s - 1 ≡ place = omega arith in
    record {
      this = rw (p, get_or-set_same) refl;
      others = λ k n ne. let other : (k - 1) ≢ place = λ q. ne (omega (arith, n.0, q, e)) in rw get_or-set_other refl;
      table = rw p refl;
    }

-- what the storeys down to a section come to
pub section : (s last : ℕ) (xs : List (Option Storey)) (full reduced : ℕ) → s ≡ last + 1 → s ≤ 40 → LoadsOf (take (last + 1) xs) full reduced → Loads s xs full reduced
section s last xs full reduced e few l =
    let n : count_by is_some (take (last + 1) xs) ≤ last + 1 = omega (arith, count_by-le-length is_some (take (last + 1) xs), length-take (last + 1) xs) in
    rw e (record {
      full_sum = l.full_sum;
      reduced_sum = l.reduced_sum;
      reduced_low = l.reduced_low;
      full_high = omega (arith, l.full_high);
      none = λ z. (omega (arith, l.full_high), omega (arith, l.full_high, l.reduced_low));
    })
