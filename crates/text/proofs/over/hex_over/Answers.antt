-- What was put on a page over the bytes stands over their start.
use Rattle.std.proofs.Common.{rules}
use Rattle.text.proofs.Lent.{put_over}
use Rattle.text.proofs.over.hex_over.Goals as goal

pub returns : goal.returns
returns c = put_over c.new-page.ensures.shows c.put_hex.ensures c.text.ensures (search rules)
