use Rattle.std.proofs.Common.{◌∙◌}
use Rattle.chunk_text.proofs.FormatWords.{no_format, no_text}
use Rattle.chunk_text.proofs.chunk_rows.format_code.Goals as goal

pub returns-in_default : goal.returns-in_default
returns-in_default c = no_text c.args.word.now c.in_default.ensures.cases.0

pub returns-in-Err : goal.returns-in-Err
returns-in-Err c = let e = c.in-Ok.ensures.cases.0 in no_format c.args.word.now (λ f d. c.in-Err.ensures.value f (e ∙ d))
