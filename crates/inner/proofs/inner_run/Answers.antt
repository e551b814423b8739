-- A fresh table is sound, so the run may begin; a table of another size is not touched.
use mathlib.Core.Path.{ap, ◌∙◌}
use borrow.Author.Rules.{rules}
use borrow.Author.Tests.{eq-eqb, ne_eqb}
use Rattle.ledger.specs.Choice.{◌⇒◌∣◌}
use Rattle.inner.specs.Run.{run_of}
use Rattle.table_image.specs.Layout.{sound_image, image_size}
use Rattle.keeping.proofs.Images.{fresh-image}
use Rattle.inner.proofs.inner_run.Goals as goal

pub returns-then-table-ne-IMAGE_SIZE : goal.returns-then-table-ne-IMAGE_SIZE
unfolding run_of ◌⇒◌∣◌
returns-then-table-ne-IMAGE_SIZE c = rw (ne_eqb _ image_size c.if-table-ne-IMAGE_SIZE.true)

pub run-requires : goal.run-requires
run-requires c = record { sound = ap sound_image (search rules) ∙ fresh-image; roomy = search rules }

pub returns : goal.returns
unfolding run_of ◌⇒◌∣◌
returns c =
    rw (eq-eqb _ image_size c.if-table-ne-IMAGE_SIZE.false, ← c.make_fresh.ensures) c.run.ensures
