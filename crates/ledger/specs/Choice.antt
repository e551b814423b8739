-- Tests and choices: the words in which the rule paper's orders of tests are written.
use Rattle.std.specs.Prelude.{Bool, true, false}

infixr 5 ◌⇒◌∣◌
-- the first where the test holds, else the second
abbrev pub pick {ℓ} : {A : Type ℓ} → Bool → A → A → A
pick true a b = a
pick false a b = b

abbrev pub both : Bool → Bool → Bool
both true b = b
both false b = false

abbrev pub either : Bool → Bool → Bool
either true b = true
either false b = b

-- where the first holds, so does the second
abbrev pub asks : Bool → Bool → Bool
asks a b = pick a b true

-- an order of tests: `test ⇒ answer ∣ next test ⇒ answer ∣ .. ∣ otherwise`
unfoldable pub ◌⇒◌∣◌ {ℓ} : {A : Type ℓ} → Bool → A → A → A
true ⇒ a ∣ b = a
false ⇒ a ∣ b = b
