-- The shape of a table, whatever its numbers: what an image has room for.
use Rattle.std.specs.Prelude.{ℕ, ◌≤◌, ◌≡◌, length, get_or}
use Rattle.paper.specs.Base.{stream_total, most_ppas, mac_size, Table, slot, no_ppa}
use Rattle.paper.specs.Saps.{most_open}

-- 16 streams with at most 8 open numbers each, and at most 8 PPAs, each with a MAC of 6 bytes
-- (past the lists' ends `no_ppa` and `closed` have that shape too, so an index needs no bound)
pub record Shaped (t : Table) : Type 0 where
  pub sixteen : length t.slots ≡ stream_total
  pub few : length t.ppas ≤ most_ppas
  pub macs : (k : ℕ) → length (get_or t.ppas k no_ppa).mac ≡ mac_size
  pub eight : (i : ℕ) → length (slot t i).waiting ≤ most_open
