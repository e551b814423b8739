-- What stands over the start of the part stands at the place in the whole.
use Rattle.std.proofs.Common.{arith}
use Rattle.text.proofs.Lent.{wrote_most_behind}
use Rattle.text.proofs.over.put_hex.Goals as goal

pub returns : goal.returns
returns c = wrote_most_behind c.args.at (omega arith) c.hex_over.ensures
