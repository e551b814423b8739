-- The slots are tested chunk by chunk.
use Prim.Native.Nat.{ℕ, ◌-◌}
use mathlib.Core.Path.{◌≡◌, refl, subst, ap, ◌∙◌}
use borrow.Author.Rules.{rules}
use borrow.Author.Tests.{tests}
use native.Mathlib.Omega.{arith}
use lib.ListN.{length, drop, length-drop}
use lib.Seq.{take_all}
use Rattle.std.specs.Iterator.Runs.{IsChunksExactRun}
use Rattle.std.specs.Slice.Iter.{chunks_exact_size, chunks_exact_rest}
use Rattle.table_image.specs.Layout.{slots_offset, slot_size, slots_size, tidy_slot}
use Rattle.table_soundness.specs.Groups.{are_slots_tidy}
use Rattle.table_soundness.proofs.Chunks.{all_chunks}
use Rattle.table_soundness.proofs.are_slots_tidy.Goals as goal

pub returns : goal.returns
unfolding are_slots_tidy
returns c =
    let img = c.args.img.now in
    let w = c.all.ensures.runs in
    let rest : chunks_exact_rest w.0.from ≡ drop slots_offset img =
    ap chunks_exact_rest w.1 ∙ c.chunks_exact.ensures.rest ∙ take_all (length img - slots_offset) (drop slots_offset img) (omega (arith, length-drop slots_offset img)) in
    let size : chunks_exact_size w.0.from ≡ slot_size = ap chunks_exact_size w.1 ∙ c.chunks_exact.ensures.size in
    let long : length (chunks_exact_rest w.0.from) ≡ slots_size = omega (arith, ap length rest, length-drop slots_offset img, c.requires.long) in
    let chunks : IsChunksExactRun w.0 slot_size (chunks_exact_rest w.0.from) =
    subst (λ (n : ℕ). IsChunksExactRun w.0 n (chunks_exact_rest w.0.from)) size (c.chunks_exact.ensures.runs w.0 w.0.seen (omega arith)) in
    all_chunks _ _ tidy_slot img _ w.0 rest (λ x b n k. search (rules, tests)) chunks long (λ a r f k. refl) c.all.result w.2
