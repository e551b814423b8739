-- Demand 1, of the call for C: "If it can't be served it gives the one refusal number that our rule paper names, and the stream
-- table and all buffers lent to it stay as they stood before the call." It holds of what is not sound, as that is refused, and of
-- what is, as a served call writes 4,096 bytes at most and so has no refusal in its number.
use Prim.Native.Nat.{ℕ, ◌<◌}
use mathlib.Core.Path.{◌≡◌, refl, sym, ap, subst, ◌∙◌}
use mathlib.Core.Bool.{Bool, true, false, false≢true}
use mathlib.Core.List.{List}
use lib.ListN.{length}
use native.Mathlib.Omega.{arith}
use Rattle.ledger.proofs.Tallies.{chosen, both_of}
use Rattle.paper.specs.Refusals.{not_sound}
use Rattle.paper.specs.Sound.{sound}
use Rattle.paper.specs.Step.{step}
use Rattle.table_image.specs.Layout.{table_of, tidy, sound_image}
use Rattle.call_outcomes.specs.Leaving.{Left, left, refusing, refusal_in, leaving, call_of}
use Rattle.call_outcomes.proofs.Laws.{unsound_gives_sixteen}
use Rattle.keeping.proofs.Images.{table-sound}
use borrow.Author.Tests.{ltb-false, not-true}
use Rattle.promises.proofs.Refused.{refusal-small}
use Rattle.promises.proofs.Whole.{written-few}

-- "The one refusal number that our rule paper names": on a sound image the refusal in the number is that of `step`.
pub refusal-is_the_papers : (img r room : List ℕ) → sound_image img ≡ true → refusal_in (call_of img r room).number ≡ (step (table_of img) r (length room)).refusal
unfolding call_of leaving sound_image
refusal-is_the_papers img r room e =
    chosen P _ _ _ (λ f. absurd (false≢true (sym (not-true _ f) ∙ (both_of (tidy img) (sound (table_of img)) e).0))) (λ f. chosen P _ _ _
    (λ g. omega (arith, refusal-small (table_of img) r (length room)))
    (λ g. omega (arith, ltb-false 0 (step (table_of img) r (length room)).refusal g, written-few (table_of img) (table-sound img e) r (length room))))
  where
    P : Left → Type 0
    P l = refusal_in l.number ≡ (step (table_of img) r (length room)).refusal

-- Whatever is lent: a call with a refusal in its number leaves that number and nothing else, no bytes written, no token, image and
-- room as they stood.
pub refused_leaves_all : (img r room : List ℕ) → 0 < refusal_in (call_of img r room).number
    → call_of img r room ≡ left (refusing (refusal_in (call_of img r room).number)) img room
unfolding call_of leaving
refused_leaves_all img r room = go (sound_image img) refl
  where
    Bare : Left → Type 0
    Bare l = 0 < refusal_in l.number → l ≡ left (refusing (refusal_in l.number)) img room

    same : (n : ℕ) → n < 17 → left (refusing n) img room ≡ left (refusing (refusal_in (refusing n))) img room
    same n h = let z : refusing n ≡ refusing (refusal_in (refusing n)) = omega arith in ap (λ (m : ℕ). left m img room) z

    go : (b : Bool) → sound_image img ≡ b → Bare (call_of img r room)
    go true e = chosen Bare _ _ _ (λ f h. same not_sound (omega arith)) (λ f. chosen Bare _ _ _ (λ g h. same (step (table_of img) r (length room)).refusal (refusal-small (table_of img) r (length room)))
        (λ g h. absurd (omega (arith, h, written-few (table_of img) (table-sound img e) r (length room)))))
    go false e = subst Bare (sym (unsound_gives_sixteen img r room e)) (λ h. same not_sound (omega arith))
