-- The streams are tested place by place.
use mathlib.Core.Path.{◌∙◌}
use native.Mathlib.Omega.{arith}
use borrow.Author.Tests.{tests}
use borrow.Author.Rules.{rules}
use Rattle.std.proofs.lemmas.Iterator.{YieldsList-from_range}
use Rattle.std.proofs.lemmas.Iterator.Search.{all_from_yields_List}
use Rattle.paper.specs.Base.{closed, slot, stream_total}
use Rattle.table_image.specs.Layout.{table_of}
use Rattle.table_soundness.specs.Groups.{is_stream_sound}
use Rattle.table_soundness.proofs.Places.{all_places}
use Rattle.table_soundness.proofs.are_streams_sound.Goals as goal

pub returns : goal.returns
returns c =
    let t = table_of c.args.table.image.now in
    all_from_yields_List (λ i. is_stream_sound t (slot t i)) _ _ _ c.all.ensures.ran (YieldsList-from_range 0 stream_total stream_total (cc) (omega arith)) (λ x b q k. search (rules, tests))
    ∙ all_places closed t.slots stream_total c.args.table.lent.shaped.sixteen (is_stream_sound t)
