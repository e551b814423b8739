-- The one change for which a stream must have a place: one open indication more.
use Rattle.std.specs.Prelude.{Bool, true, false}
use Rattle.paper.specs.declared.Change.{Change}
use Rattle.paper.specs.declared.Change.TheVariants.{Stays, Becomes, Takes, Loses}

abbrev pub takes : Change → Bool
takes Stays = false
takes (Becomes s) = false
takes (Takes s n) = true
takes (Loses s n last) = false
