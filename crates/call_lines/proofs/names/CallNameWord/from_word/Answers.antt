use Rattle.std.proofs.Common.{refl}
use Rattle.words.proofs.Naming.{named}
use Rattle.call_lines.specs.Names.{call_word, call_words}
use Rattle.call_lines.specs.declared.names.CallName.TheVariants.{Change}
use Rattle.call_lines.proofs.names.CallNameWord.from_word.Goals as goal

pub returns-in-Some : goal.returns-in-Some
returns-in-Some c = named call_word call_words c.args.text.now (Change c.in-Some.name) ((c.in-Some.ensures c.in-Some.name).0 refl)
