-- What the totals program tells: a mark of each call, and how many there were.
use Rattle.std.specs.Prelude.{ℕ, ◌+◌, ◌*◌, ◌≡◌, Bool, true, List, [], ◌∷◌}
use Rattle.std.proofs.Common.{lit≤}
use Rattle.ledger.specs.Tally.{one_if}
use Rattle.table_image.specs.Layout.{sound_image}
use Rattle.call_outcomes.specs.Leaving.{call_made, is_refused}
use Rattle.replay_transcript.specs.Transcript.{totals}
use Rattle.turns.specs.Programs.{Teller}
use Rattle.totals.specs.declared.Totals.{Totals}

-- 'dlpi totals'
abbrev title : List ℕ
title = 100 ∷ 108 ∷ 112 ∷ 105 ∷ 32 ∷ 116 ∷ 111 ∷ 116 ∷ 97 ∷ 108 ∷ 115 ∷ 10 ∷ []

-- '-' of a refused call, '+' of any other
abbrev pub mark : Bool → List ℕ
mark refused = (43 + 2 * one_if refused) ∷ []

-- Its table is sound, and nothing is kept beside it.
abbrev pub totals_tells : Teller Totals
totals_tells = record {
  holds = λ table s. sound_image table ≡ true;
  kept = λ table bytes s. s;
  text = λ table bytes s n. mark (is_refused (call_made table bytes));
  refuses = λ table bytes. is_refused (call_made table bytes);
  most = 1;
  fits = lit≤ tt;
  title = title;
  closing = λ s n m. 10 ∷ totals n m;
}
