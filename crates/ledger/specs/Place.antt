-- A place below so many, or none: what a number says that is as large as that where there is none.
use Rattle.std.specs.Prelude.{ℕ, ◌<◌, ◌≡◌, Option, IfSome, unwrap_or}

pub record PlaceOf (most n : ℕ) (r : Option ℕ) : Type 0 where
  pub is : unwrap_or r most ≡ n
  pub within : IfSome r (λ (i : ℕ). i < most)
