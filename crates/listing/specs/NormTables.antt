-- The rows of the norms' tables, and how they are shown.
use Rattle.std.specs.Prelude.{ℕ, List, [], ◌∷◌, ◌++◌, codes, decimal, slice_index}
use Rattle.norm.specs.Percentages.{Percentages}
use Rattle.norm.specs.Tables.{sp20, sp20_special, snip85, snip85_special}
use Rattle.norm.specs.Words.{norm_word}
use Rattle.norm.specs.declared.names.NormName.{NormName}
use Rattle.norm.specs.declared.names.NormName.TheVariants.{Sp20, Snip85}
use Rattle.norm.specs.declared.terms.Term.{Term}
use Rattle.norm.specs.declared.terms.Term.TheVariants.{Long, Short}
use Rattle.listing.specs.declared.norm_tables.Combination.{Combination}
use Rattle.listing.specs.declared.norm_tables.Combination.TheVariants.{Basic, Special}
use Rattle.listing.specs.declared.norm_tables.NormRow.{NormRow}

abbrev pub combination_word : Combination → List ℕ
combination_word Basic = codes "BASIC"
combination_word Special = codes "SPECIAL"

abbrev pub word_of_term : Term → List ℕ
word_of_term Long = codes "LONG"
word_of_term Short = codes "SHORT"

-- what a norm answers in a combination
abbrev pub in_combination : Combination → (basic special : Percentages) → Percentages
in_combination Basic basic special = basic
in_combination Special basic special = special

-- the answers of the two norms
abbrev pub percentage_of : NormName → Combination → Percentages
percentage_of Sp20 c = in_combination c sp20 sp20_special
percentage_of Snip85 c = in_combination c snip85 snip85_special

-- the percentages of the roles 1, 2 and 3
abbrev pub percents_by : Percentages → Term → (long short : ℕ) → List ℕ
percents_by p t long short = p t 1 long short ∷ p t 2 long short ∷ p t 3 long short ∷ []

abbrev pub row_of : NormName → Combination → Term → (long short : ℕ) → NormRow
row_of n c t long short = record { norm = n; combination = c; term = t; percents = percents_by (percentage_of n c) t long short }

abbrev pub rows_of : NormName → (long short : ℕ) → List NormRow
rows_of n long short =
    row_of n Basic Long long short ∷ row_of n Basic Short long short ∷ row_of n Special Long long short ∷ row_of n Special Short long short ∷ []

-- norm, combination, term and the percentages of the roles 1, 2 and 3
abbrev pub row_text : NormRow → List ℕ
row_text x =
    norm_word x.norm
    ++ (codes " "
    ++ (combination_word x.combination
    ++ (codes " "
    ++ (word_of_term x.term ++ (codes " " ++ (decimal (slice_index x.percents 0) ++ (codes " " ++ (decimal (slice_index x.percents 1) ++ (codes " " ++ decimal (slice_index x.percents 2))))))))))
