-- The table of no records: the one choice takes none.
use Rattle.std.proofs.Common.{◌≡◌, ℕ, zero, suc, ◌+◌, ◌<◌, ◌≤◌, false, List, [], ◌∷◌, length, get_or, take, replicate, Some, None, sym, refl, ap, ◌∙◌, subst, ⊎_elim, arith, Option}
use lib.ListN.{length-replicate}
use Rattle.std.proofs.lemmas.List.{take-replicate, get_or-replicate}
use Rattle.std.proofs.lemmas.Bool.{both_ways}
use Rattle.effect.specs.Laws.{Operations, Laws, limit}
use Rattle.questions.specs.PartChoices.{From, Marked, count, taken, leads, seconds, comes}
use Rattle.questions.specs.BestParts.{BestFrom}
use Rattle.questions.specs.Rows.{RowBest}
use Rattle.questions.specs.Tables.{TakesAtMost, TableBest, empty_row, first_row, blank_table}
use Rattle.questions.specs.Items.{Item}
use Rattle.norm.specs.declared.roles.Role.{Role}
use Rattle.questions.specs.declared.choice.Assignment.TheVariants.{Out}
use Rattle.questions.specs.declared.row.Row.{Row}
use Rattle.effect.proofs.AtMost.{at_most_same}
use Rattle.effect.proofs.Derived.{nil_plus}
use Rattle.questions.proofs.Steps.{out_or_taken}

-- the choice takes nothing
AllOut : List (Option Role) → Type 0
AllOut ps = (k : ℕ) → taken (get_or ps k None) ≡ 1 → ⊥

all_out_head : (p : Option Role) (ps : List (Option Role)) → AllOut (p ∷ ps) → p ≡ None
unfolding AllOut
all_out_head p ps h = ⊎_elim (λ e. e) (λ t. absurd (h 0 t)) (out_or_taken p)

all_out_rest : (p : Option Role) (ps : List (Option Role)) → AllOut (p ∷ ps) → AllOut ps
unfolding AllOut
all_out_rest p ps h k t = h (suc k) t

count_out : (f : Option Role → ℕ) → f None ≡ 0 → (ps : List (Option Role)) → AllOut ps → count f ps ≡ 0
count_out f z [] h = refl
count_out f z (p ∷ ps) h = omega (arith, ap f (all_out_head p ps h), count_out f z ps (all_out_rest p ps h))

all_out_replicate : (m : ℕ) → AllOut (replicate m None)
unfolding AllOut
all_out_replicate zero k t = absurd (omega arith)
all_out_replicate (suc m) zero t = absurd (omega arith)
all_out_replicate (suc m) (suc k) t = all_out_replicate m k t

pub blank : (m k : ℕ) → get_or (replicate m false) k false ≡ false
blank zero k = refl
blank (suc m) zero = refl
blank (suc m) (suc k) = blank m k

-- no record is done
pub none_done : (k : ℕ) → Marked (replicate 32 false) k → ⊥
none_done k h = both_ways (get_or (replicate 32 false) k false) (blank 32 k) h

module _ {V : Type 0} {n : Operations V} (laws : Laws n) (items : List (Item V)) where
  comes_out : (its : List (Item V)) (ps : List (Option Role)) → AllOut ps → comes n its ps ≡ n.nil
  comes_out [] ps h = refl
  comes_out (it ∷ its) [] h = refl
  comes_out (it ∷ its) (p ∷ ps) h =
      let out : p ≡ None = all_out_head p ps h in
      let fits : n.reach n.nil ≤ limit = omega (arith, laws.reach_nil) in
      ap (λ (q : Option Role). comes n (it ∷ its) (q ∷ ps)) out
      ∙ ap (n.plus n.nil) (comes_out its ps (all_out_rest p ps h))
      ∙ nil_plus laws n.nil fits

  from_blank : {c l s : ℕ} {ps : List (Option Role)} → From items (replicate 32 false) c l s ps → AllOut ps
  unfolding AllOut
  from_blank f k t = none_done k (f.within k t)

  -- a choice that gives something takes something
  best_none : (c l s : ℕ) → 1 ≤ c + l + s → BestFrom n items (replicate 32 false) c l s None
  best_none c l s h = record { sound = tt; most = most }
    where
      most : (qs : List (Option Role)) → From items (replicate 32 false) c l s qs → ⊥
      most qs f =
          let out : AllOut qs = from_blank f in
          omega (arith, count_out taken refl qs out, count_out leads refl qs out, count_out seconds refl qs out, f.valid.number, f.valid.first, f.valid.next)

  pub bound_blank : TakesAtMost items (replicate 32 false) 0
  bound_blank c l s ps f = omega (arith, count_out taken refl ps (from_blank f), f.valid.number)

  best_nothing : length items ≤ 32 → BestFrom n items (replicate 32 false) 0 0 0 (Some (record { assignments = replicate 32 Out }))
  unfolding AllOut
  best_nothing few = record {
    sound = record {
      valid = record {
        parallel = ap length held ∙ length-replicate (length items) None;
        number = count_out taken refl ps out;
        first = count_out leads refl ps out;
        next = count_out seconds refl ps out;
        apart = λ j k ne tj tk same. absurd (out j tj);
      };
      within = λ k t. absurd (out k t);
    };
    most = λ qs f. at_most_same laws (comes n items qs) (comes n items ps) (comes_out items qs (from_blank f) ∙ sym (comes_out items ps out));
  }
    where
      ps : List (Option Role)
      ps = take (length items) (replicate 32 None)

      held : ps ≡ replicate (length items) None
      held = take-replicate (length items) 32 None few

      out : AllOut ps
      out = subst AllOut (sym held) (all_out_replicate (length items))

  pub start_best : length items ≤ 32 → (c : ℕ) (d : Row) → c ≤ 32 → RowBest n items (replicate 32 false) c (get_or (first_row ∷ replicate 32 empty_row) c d)
  start_best few zero d h = record {
    neither = best_nothing few;
    leading = best_none 0 1 0 (omega arith);
    second = best_none 0 0 1 (omega arith);
    both = best_none 0 1 1 (omega arith);
  }
  start_best few (suc c) d h =
      let less : c < 32 = omega arith in
      subst (RowBest n items (replicate 32 false) (suc c)) (sym (get_or-replicate 32 c empty_row d less)) (record {
        neither = best_none (suc c) 0 0 (omega arith);
        leading = best_none (suc c) 1 0 (omega arith);
        second = best_none (suc c) 0 1 (omega arith);
        both = best_none (suc c) 1 1 (omega arith);
      })

  pub blank_best : length items ≤ 32 → (limit : ℕ) → limit ≤ 32 → TableBest n items (blank_table limit)
  blank_best few limit rows = record { size = refl; flags = refl; few = omega arith; rows_few = rows; bound = bound_blank; each = λ c d h. start_best few c d (omega arith) }
