use Rattle.rn_text.proofs.Quoting.LiteralTokens.{literal_reads_back, literal_bytes_read_back}
use Rattle.rn_text.proofs.laws.literals_read_back.Goals as goal

pub returns : goal.returns
returns c = record { characters = literal_reads_back; bytes = literal_bytes_read_back }
