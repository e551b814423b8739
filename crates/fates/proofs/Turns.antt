-- What a call and a turn of any program leave is, of fates, a table and a register of what was heard, and the text of the lines.
use Prim.Native.Nat.{ℕ}
use mathlib.Core.Path.{◌∙◌}
use mathlib.Core.Bool.{Bool}
use mathlib.Core.List.{List}
use Rattle.text.specs.declared.Page.{Page}
use Rattle.turns.specs.Turns.{unread}
use Rattle.turns.specs.Programs as programs
use Rattle.turns.specs.declared.Turn.{Turn}
use Rattle.turns.proofs.Laws.{part_after_turn}
use Rattle.fates.specs.declared.Fates.{Fates}
use Rattle.fates.specs.Turns.{fates_tell, CallTold, Called, Turned, Kept}

pub call_told : (table bytes : List ℕ) (s : Fates) (page : Page) (n : ℕ) (table' : List ℕ) (s' : Fates) (page' : Page) (refused : Bool)
    → programs.Tells fates_tell table bytes s page n table' s' page' refused
    → CallTold table s.register bytes page table' s'.register page'
call_told table bytes s page n table' s' page' refused w =
    record { told = w.holds; image = w.image; entered = λ i. (w.kept i).register; wrote = w.wrote }

pub called : (table : List ℕ) (s : Fates) (input : List ℕ) (page : Page) (t : Turn) (table' : List ℕ) (s' : Fates) (page' : Page) (r : Turn)
    → programs.Called fates_tell table s input page t table' s' page' r
    → Called table s.register input page t table' s'.register page' r
called table s input page t table' s' page' r w = record {
  is = w.is;
  fine = w.fine;
  prints = w.prints;
  told = w.holds;
  image = w.image;
  entered = λ i. (w.kept i).register;
  stands = w.stands;
  same_reference = w.same_reference;
}

pub turned : (table : List ℕ) (s : Fates) (input : List ℕ) (page : Page) (t : Turn) (table' : List ℕ) (s' : Fates) (page' : Page) (r : Turn)
    → programs.Turned fates_tell table s input page t table' s' page' r
    → Turned table s.register input page t table' s'.register page' r
turned table s input page t table' s' page' r w =
    record {
      is = w.is;
      fine = w.fine;
      prints = w.prints;
      told = w.holds;
      image = w.image;
      entered = (λ i. (w.kept i).register) ∙ part_after_turn (λ (x : Fates). x.register) t s (fates_tell.kept table (unread input t) s);
      stands = w.stands;
      same_reference = w.same_reference;
    }

pub kept : (table : List ℕ) (s : Fates) (page : Page) (t : Turn) → programs.Kept fates_tell table s page t → Kept table s.register page t
kept table s page t w = record { fine = w.fine; prints = w.prints; told = w.holds }
