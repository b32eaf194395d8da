use Rattle.chunk_text.proofs.Documents.{read_again}
use Rattle.chunk_text.proofs.laws.written_is_read.Goals as goal

pub returns : goal.returns
returns c = read_again
