use Rattle.std.proofs.Common.{◌≡◌, arith, codes, string_bytes}
use Rattle.clap.specs.Words.{Text}
use Rattle.command_line.proofs.Distinct.{same_text}
use Rattle.command_line.proofs.Entered.{word_at}
use Rattle.command_line.proofs.reading.unknown_topic.Goals as goal

pub returns-in-InvalidSubcommand-clause-help : goal.returns-in-InvalidSubcommand-clause-help
returns-in-InvalidSubcommand-clause-help c =
    word_at string_bytes c.args.words.now 1 _ _ _ (λ (word : Text). word ≡ codes "help") (omega arith) c.index-words-1.is c.as_str.ensures.value
    (same_text c.eq.result _ _ c.eq.ensures c.if-eq.true)
