-- Each byte has two digits, so after some bytes the digits of those stand there, two for each.
use Rattle.std.proofs.Common.{rules, arith, ◌∙◌, sym, ap₂, ℕ, List, [], ◌∷◌, ◌++◌, take}
use Rattle.text.specs.Digits.{hex}
use Rattle.text.proofs.Laws.{hex-next}
use Rattle.text.proofs.Putting.{put_then, put_as, put-more}
use Rattle.text.proofs.Page.put_hex.Goals as goal

pub loop-b-preserved : goal.loop-b-preserved
loop-b-preserved c =
    let l = c.loop-b in
    let old : List ℕ = hex (take l.b-index c.args.bytes.now) in
    let next = hex-next c.args.bytes.now l.b-index (search rules) in
    let two = ap₂ (λ (x y : ℕ). old ++ (x ∷ y ∷ [])) c.digit.ensures c.digit-in-loop-b.ensures ∙ sym next in
    put-more (omega arith) (put_as two (put_then l.invariant c.put_word.ensures))
