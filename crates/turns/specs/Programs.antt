-- A program by what it keeps beside the table, an S: what it tells of each call, what holds before and after each part of a turn, and
-- what each part leaves.
use Rattle.std.specs.Prelude.{ℕ, ◌+◌, ◌≤◌, ◌<◌, ◌≡◌, Bool, List, length}
use Rattle.text.specs.Page.{shown, put, Put}
use Rattle.text.specs.declared.Page.{Page}
use Rattle.paper.specs.Room.{frame_room_size}
use Rattle.call_outcomes.specs.Leaving.{call_made}
use Rattle.turns.specs.Turns.{buffer_size, most_waiting, most_calls, unread, call_on, after_call, turn_after, after_turn, Fine, Whole, Roomy}
use Rattle.turns.specs.declared.Turn.{Turn}

-- Each is said of the table and the bytes that a call is lent, and of what is kept before it.
pub record Teller (S : Type 0) : Type 1 where
  -- what holds between two calls
  pub holds : List ℕ → S → Type 0
  -- what is kept behind the call
  pub kept : List ℕ → List ℕ → S → S
  -- the text of the call with a number, and whether it is counted as refused
  pub text : List ℕ → List ℕ → S → ℕ → List ℕ
  pub refuses : List ℕ → List ℕ → Bool
  -- no text is longer, and it has room behind what may wait
  pub most : ℕ
  pub fits : most_waiting + most ≤ buffer_size
  -- the first line, and the last one with the counts of calls and of refused ones
  pub title : List ℕ
  pub closing : S → ℕ → ℕ → List ℕ

module _ {S : Type 0} (p : Teller S) where
  -- The call of a turn has the next number.
  abbrev pub text_on : List ℕ → S → List ℕ → Turn → List ℕ
  text_on table s input t = p.text table (unread input t) s (t.calls + 1)

  abbrev pub refused_on : List ℕ → List ℕ → Turn → Bool
  refused_on table input t = p.refuses table (unread input t)

  -- ---- one call

  -- what holds between calls, as much room as any call needs, and room on the page for the text of a call
  pub record CallRoom (table : List ℕ) (s : S) (room : List ℕ) (page : Page) : Type 0 where
    pub holds : p.holds table s
    pub roomy : length room ≡ frame_room_size
    pub prints : p.most ≤ length (shown page).spare

  -- the table is as the call leaves it, its text is put, and whether it counts as refused is told
  pub record Tells (table bytes : List ℕ) (s : S) (page : Page) (n : ℕ) (table' : List ℕ) (s' : S) (page' : Page) (refused : Bool) : Type 0 where
    pub image : table' ≡ (call_made table bytes).image
    pub kept : s' ≡ p.kept table bytes s
    pub holds : p.holds table' s'
    pub wrote : Put p.most (p.text table bytes s n) page page'
    pub told : refused ≡ p.refuses table bytes

  -- ---- a turn: what holds between calls does, and its room, its input and its page are whole

  pub record Standing (table : List ℕ) (s : S) (room input : List ℕ) (page : Page) (t : Turn) : Type 0 where
    pub holds : p.holds table s
    pub roomy : length room ≡ frame_room_size
    pub reads : length input ≡ buffer_size
    pub prints : Whole page
    pub fine : Fine t

  -- with room for what a call prints
  pub record AtTurn (table : List ℕ) (s : S) (room input : List ℕ) (page : Page) (t : Turn) : Type 0 where
    pub holds : p.holds table s
    pub roomy : length room ≡ frame_room_size
    pub reads : length input ≡ buffer_size
    pub prints : Roomy page
    pub fine : Fine t

  -- and a number for it
  pub record AtCall (table : List ℕ) (s : S) (room input : List ℕ) (page : Page) (t : Turn) : Type 0 where
    pub turn : AtTurn table s room input page t
    pub numbered : t.calls < most_calls

  -- ---- what is left: after the call of a turn, after the turn, and after any turns

  pub record Called (table : List ℕ) (s : S) (input : List ℕ) (page : Page) (t : Turn) (table' : List ℕ) (s' : S) (page' : Page) (r : Turn) : Type 0 where
    pub is : r ≡ after_call input (refused_on table input t) t
    pub fine : Fine r
    pub prints : Whole page'
    pub holds : p.holds table' s'
    pub image : table' ≡ (call_on table input t).image
    pub kept : s' ≡ p.kept table (unread input t) s
    pub stands : shown page' ≡ put (shown page) (text_on table s input t)
    pub same_reference : page'.bytes.ghost_name ≡ page.bytes.ghost_name

  pub record Turned (table : List ℕ) (s : S) (input : List ℕ) (page : Page) (t : Turn) (table' : List ℕ) (s' : S) (page' : Page) (r : Turn) : Type 0 where
    pub is : r ≡ turn_after input (refused_on table input t) t
    pub fine : Fine r
    pub prints : Whole page'
    pub holds : p.holds table' s'
    pub image : table' ≡ after_turn t table (call_on table input t).image
    pub kept : s' ≡ after_turn t s (p.kept table (unread input t) s)
    pub stands : shown page' ≡ after_turn t (shown page) (put (shown page) (text_on table s input t))
    pub same_reference : page'.bytes.ghost_name ≡ page.bytes.ghost_name

  pub record Kept (table : List ℕ) (s : S) (page : Page) (t : Turn) : Type 0 where
    pub fine : Fine t
    pub prints : Whole page
    pub holds : p.holds table s
