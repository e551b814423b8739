-- What was put on a page over the bytes stands over their start.
use Rattle.std.proofs.Common.{rules}
use Rattle.octets.proofs.Writing.{wrote_of}
use Rattle.text.proofs.Lent.{put_over}
use Rattle.text.proofs.over.word_over.Goals as goal

pub returns : goal.returns
returns c = wrote_of (put_over c.new-page.ensures.shows c.put_word.ensures c.text.ensures (search rules))
