-- What the laws of an effect type give of the answers of generic code.
use Rattle.std.proofs.Common.{◌≡◌, ℕ, None, Option, Ordering, sym, refl, ◌∙◌, inl, inr}
use Rattle.effect.specs.Laws.{Operations, Laws, AtMost}
use Rattle.effect.specs.Orders.{SumsKeepOrder, Larger, LargerOf, Ordered}
use Rattle.effect.specs.Sums.{Counted}
use Rattle.effect.proofs.AtMost.{at_most_same, at_most_under, at_most_total, not_under}
use Rattle.effect.proofs.Derived.{plus_at_most_left, plus_at_most, times_zero, times_at_most, plus_at_most_cancel}

module _ {V : Type 0} {e : Operations V} (laws : Laws e) where
  pub sums_keep_order : SumsKeepOrder e
  sums_keep_order = record {
    order = at_most_total laws;
    added = plus_at_most_left laws;
    cancelled = plus_at_most_cancel laws;
    both = plus_at_most laws;
  }

  larger_second : (a b : V) → AtMost e a b → Larger e a b b
  larger_second a b h = record { first = h; second = at_most_same laws b b refl; one = inr refl }

  larger_first : (a b : V) → AtMost e b a → Larger e a b a
  larger_first a b h = record { first = at_most_same laws a a refl; second = h; one = inl refl }

  pub second_is_larger : (a b : V) → AtMost e a b → LargerOf e a b b
  second_is_larger a b m = record {
    value = larger_second a b m;
    added = λ c h k. larger_second _ _ (plus_at_most_left laws a b c h k m);
    multiplied = λ p h k. larger_second _ _ (times_at_most laws p a b h k m);
  }

  pub first_is_larger : (a b : V) → AtMost e b a → LargerOf e a b a
  first_is_larger a b m = record {
    value = larger_first a b m;
    added = λ c h k. larger_first _ _ (plus_at_most_left laws b a c k h m);
    multiplied = λ p h k. larger_first _ _ (times_at_most laws p b a k h m);
  }

  pub ordered : (a b : V) (r : Ordering) → r ≡ e.order a b → Ordered e a b r
  ordered a b r s = record {
    answer = s;
    kept = sums_keep_order;
    second = λ l. second_is_larger a b (at_most_under laws a b (sym s ∙ l));
    first = λ n. first_is_larger a b (not_under laws a b (λ l. n (s ∙ l)));
  }

  -- zero is 0 times any value
  pub not_counted : (a : V) (taken : Option ℕ) (r : V) → taken ≡ None → r ≡ e.nil → Counted e a taken r
  not_counted a taken r t s = record {
    if_taken = λ p u. absurd cc;
    if_not = λ _. (s, s ∙ sym (times_zero laws a));
  }
