-- How writings compose.
use Rattle.std.proofs.Common.{◌≡◌, ℕ, zero, suc, List, [], ◌++◌, take, sym, refl, ◌∙◌, subst, append_assoc, append-nil}
use Rattle.writing.specs.declared.writer.Writer.{Writer}
use Rattle.writing.specs.Writing.{Holds, Writes}

pub take_nil : (n : ℕ) → take {A = ℕ} n [] ≡ []
take_nil zero = refl
take_nil (suc n) = refl

pub nothing : (s : Writer) → Writes s [] s
nothing s = record { more = λ o w h. subst (λ l. Holds o l s) (sym (append-nil w)) h; lent = refl }

-- one writing after another
pub then : {s t u : Writer} {a b : List ℕ} → Writes s a t → Writes t b u → Writes s (a ++ b) u
then {u = u} {a = a} {b = b} f g = record {
  more = λ o w h. subst (λ l. Holds o l u) (append_assoc w a b) (g.more o (w ++ a) (f.more o w h));
  lent = g.lent ∙ f.lent;
}

pub so : {s t : Writer} {a b : List ℕ} → a ≡ b → Writes s a t → Writes s b t
so {s = s} {t = t} e h = subst (λ l. Writes s l t) e h
