-- Where the number is open the slot is written without it; where it is not, without it is as it was.
use Rattle.std.proofs.Common.{◌<◌, ◌≡◌, ℕ, Option, unwrap_or, eqb, length, ap, sym, ◌∙◌, arith, is_some, ltb-true}
use Rattle.ledger.specs.Tally.{without, first_of}
use Rattle.ledger.proofs.Tallies.{length-without_le}
use Rattle.ledger.proofs.Searches.{without_none, without-first}
use Rattle.ledger.proofs.Places.{is_there, has-place, first-or_length}
use Rattle.paper.specs.Base.{with_stream, waiting}
use Rattle.table_image.specs.Layout.{table_of}
use Rattle.table_numbers.proofs.Laws.{numbers_stored}
use Rattle.table_numbers.proofs.remove_number.Goals as goal

pub returns-in-Some : goal.returns-in-Some
returns-in-Some c =
    let a = c.args in
    let w = waiting (table_of a.img.now) a.i in
    let n = a.n.0 in
    let e : c.in-Some.k ≡ first_of (eqb n) w = ap (λ (r : Option ℕ). unwrap_or r (length w)) (sym c.in-Some.is ∙ c.number_place.ensures) ∙ first-or_length (eqb n) w in
    let h : first_of (eqb n) w < length w = ltb-true _ _ (sym (is_there (eqb n) w) ∙ ap (λ (r : Option ℕ). is_some r) (sym c.number_place.ensures ∙ c.in-Some.is)) in
    rw (c.put_slot.ensures, c.one_number_less-bytes.ensures, e, ← without-first n w h)
    (numbers_stored a.img.now c.requires.lent a.i c.requires.within a.s (without n w) (omega (arith, length-without_le n w, c.requires.lent.shaped.eight a.i)))

pub returns-in_default : goal.returns-in_default
unfolding with_stream
returns-in_default c =
    let a = c.args in
    let w = waiting (table_of a.img.now) a.i in
    let n = a.n.0 in
    rw (c.store_stream.ensures, without_none n w (sym (has-place n w) ∙ ap (λ (r : Option ℕ). is_some r) (sym c.number_place.ensures ∙ c.in_default.is)))
