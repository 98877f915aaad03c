-- The norm that a name stands for.
use Rattle.norm.specs.Tables.{sp20, sp20_special, snip85, snip85_special}
use Rattle.norm.specs.declared.names.NormName.{NormName}
use Rattle.norm.specs.declared.names.NormName.TheVariants.{Sp20, Snip85}
use Rattle.history.specs.History.{NormAnswers, both}

abbrev pub norm_of : NormName → NormAnswers
norm_of Sp20 = both sp20 sp20_special
norm_of Snip85 = both snip85 snip85_special
