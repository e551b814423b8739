-- What comes to a stream is refused or has an effect, by its sight alone.
use Rattle.std.specs.Prelude.{ℕ, Bool, true, not, length, ltb, Err, None, Ok, Option, Result, Some}
use Rattle.ledger.specs.Choice.{◌⇒◌∣◌}
use Rattle.ledger.specs.Tally.{has}
use Rattle.paper.specs.Base.{Slot}
use Rattle.paper.specs.Sight.{Coming, sends, brings, Sight}
use Rattle.paper.specs.Effects.{error_effect, effect_of, event_effect}
use Rattle.paper.specs.ErrorOrder.{verdict_by}
use Rattle.paper.specs.declared.Token.{Token}
use Rattle.paper.specs.declared.Stream.{Stream}
use Rattle.paper.specs.declared.Rule.TheVariants as rule
use Rattle.paper.specs.declared.Event.{Event}
use Rattle.paper.specs.declared.Event.TheVariants as event
use Rattle.paper.specs.declared.Effect.{Effect}
use Rattle.paper.specs.declared.Rule.{Rule}
use Rattle.paper.specs.declared.Service.{Service}
use Rattle.paper.specs.declared.StateRow.{StateRow}

pub data Decision : Type 0 where
  refuses : ℕ → Decision
  does : Effect → Decision

-- A message of this code, by its state row and the verdict on it: the answer to the rule that fails it, or what the row does
-- where it is served.
-- (With no row nothing is: `verdict_by`.)
unfoldable pub effect_by : Option StateRow → Token → ℕ → Stream → Result Service Rule → Effect
effect_by f k code s (Err r) = error_effect code r
effect_by (Some x) k code s (Ok v) = effect_of x k s v
effect_by None k code s (Ok v) = error_effect code rule.NoRow

-- Whether an event with a row may come: W if its number is open on that stream, I if its listener has less than its
-- granted count open, any other always.
abbrev pub is_due : Slot → Event → Bool
is_due x (event.Arrives n) = ltb (length x.waiting) x.stream.granted
is_due x event.Accepted = true
is_due x (event.Gone reason) = true
is_due x (event.Withdrawn n reason) = has n.0 x.waiting
is_due x (event.Resets reason) = true
is_due x event.Confirmed = true

-- (The last argument is the sight's row.)
unfoldable pub decide_by : Sight → Coming → Option StateRow → Decision
decide_by s (sends code a) f = does (effect_by f s.token code s.own.stream (verdict_by s a f))
decide_by s (brings refusal e) None = refuses refusal
decide_by s (brings refusal e) (Some x) =
    not (is_due s.own e) ⇒ refuses refusal ∣ does (event_effect x s.own.stream e)

abbrev pub decide : Sight → Coming → Decision
decide s c = decide_by s c s.row
