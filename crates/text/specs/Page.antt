-- A page: text that grows in lent bytes.
use Rattle.std.specs.Prelude.{ℕ, ◌+◌, ◌≤◌, ◌≡◌, List, ◌++◌, length, take, drop}
use Rattle.text.specs.declared.Page.{Page}

-- the bytes filled so far, and those behind them
pub record Shown : Type 0 where
  pub text : List ℕ
  pub spare : List ℕ

-- what a page shows
unfoldable pub shown : Page → Shown
shown p = record { text = take p.filled p.bytes.now; spare = drop p.filled p.bytes.now }

-- more text, over as many of the bytes behind
abbrev pub put : Shown → List ℕ → Shown
put p bytes = record { text = p.text ++ bytes; spare = drop (length bytes) p.spare }

-- bytes were added to what was shown, no more than so many
pub record Added (most : ℕ) (bytes : List ℕ) (before after : Shown) : Type 0 where
  pub few : length before.spare ≤ length after.spare + most
  pub ends : length before.spare ≡ length after.spare + length bytes
  pub stands : after ≡ put before bytes

-- Bytes were put there, no more than so many. The page is over the same lent bytes, which end as it shows them last.
pub record Put (most : ℕ) (bytes : List ℕ) (before after : Page) : Type 0 where
  pub few : length (shown before).spare ≤ length (shown after).spare + most
  pub ends : length (shown before).spare ≡ length (shown after).spare + length bytes
  pub stands : shown after ≡ put (shown before) bytes
  pub same_reference : after.bytes.ghost_name ≡ before.bytes.ghost_name
