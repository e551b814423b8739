-- What is told of a call, and left of a turn, by a program that may leave its text on another page than it was lent: what `Tells`, `Called`
-- and `Turned` in `Programs` say, of what the pages show.
use Rattle.std.specs.Prelude.{ℕ, ◌≡◌, Bool, List}
use Rattle.text.specs.Page.{shown, put, Added}
use Rattle.text.specs.declared.Page.{Page}
use Rattle.call_outcomes.specs.Leaving.{call_made}
use Rattle.turns.specs.Turns.{unread, call_on, after_call, turn_after, after_turn, Fine, Whole}
use Rattle.turns.specs.Programs.{Teller, text_on, refused_on}
use Rattle.turns.specs.declared.Turn.{Turn}

module _ {S : Type 0} (p : Teller S) where
  -- the table is as the call leaves it, its text is added to what is shown, and whether it counts as refused is told
  pub record TellsShown (table bytes : List ℕ) (s : S) (page : Page) (n : ℕ) (table' : List ℕ) (s' : S) (page' : Page) (refused : Bool) : Type 0 where
    pub image : table' ≡ (call_made table bytes).image
    pub kept : s' ≡ p.kept table bytes s
    pub holds : p.holds table' s'
    pub wrote : Added p.most (p.text table bytes s n) (shown page) (shown page')
    pub told : refused ≡ p.refuses table bytes

  -- ---- what is left: after the call of a turn, and after the turn

  pub record CalledShown (table : List ℕ) (s : S) (input : List ℕ) (page : Page) (t : Turn) (table' : List ℕ) (s' : S) (page' : Page) (r : Turn) : Type 0 where
    pub is : r ≡ after_call input (refused_on p table input t) t
    pub fine : Fine r
    pub prints : Whole page'
    pub holds : p.holds table' s'
    pub image : table' ≡ (call_on table input t).image
    pub kept : s' ≡ p.kept table (unread input t) s
    pub stands : shown page' ≡ put (shown page) (text_on p table s input t)

  pub record TurnedShown (table : List ℕ) (s : S) (input : List ℕ) (page : Page) (t : Turn) (table' : List ℕ) (s' : S) (page' : Page) (r : Turn) : Type 0 where
    pub is : r ≡ turn_after input (refused_on p table input t) t
    pub fine : Fine r
    pub prints : Whole page'
    pub holds : p.holds table' s'
    pub image : table' ≡ after_turn t table (call_on table input t).image
    pub kept : s' ≡ after_turn t s (p.kept table (unread input t) s)
    pub stands : shown page' ≡ after_turn t (shown page) (put (shown page) (text_on p table s input t))
