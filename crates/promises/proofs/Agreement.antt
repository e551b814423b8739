-- What a history says of a stream is what the table holds of it: of a fresh table nothing, and then, call by call, the lines show what
-- the call changes (`Traced`).
use Prim.Native.Nat.{ℕ, ◌<◌}
use mathlib.Core.Path.{◌≡◌, refl, sym, ap, subst, ◌∙◌}
use mathlib.Core.Bool.{true, false≢true}
use mathlib.Core.List.{List, [], ◌∷◌, map}
use Rattle.octets.proofs.Runs.{of_are_bytes}
use Rattle.ledger.proofs.Lists.{replicate-at}
use Rattle.paper.specs.Base.{is_among, bound_states, Slot, Table, fresh, slot, stream, waiting, closed, stream_total}
use Rattle.paper.specs.StateRows.{state_rows}
use Rattle.paper.specs.Step.{step}
use Rattle.fates_book.specs.declared.Line.{Line}
use Rattle.fates_book.specs.Book.{Opening, open_of, newest, posts, left_open, tallies, count_in, grant_by}
use Rattle.fates_book.proofs.Shades.{shades, fairs, rooteds, openings_in, open_posts, left-posts, posts_append, tallies_append, grant_append, fairs_append, rooteds_append}
use Rattle.fates_book.proofs.Counts.{count_posts}
use Rattle.keeping.specs.Soundness.{Sound}
use Rattle.promises.specs.History.{said_by, lines, fates, granted_by}
use Rattle.promises.proofs.Runs.{Call, answered_by, run, history}
use Rattle.promises.proofs.Whole.{read_step}
use Rattle.keeping.proofs.Traces.{Traced}
use Rattle.keeping.proofs.Kept.{good, keeps, fresh-sound}
use Rattle.keeping.proofs.Rows.{state_rows_fit}

-- the lines of one call, from table t on
abbrev pub lines_from : Table → Call → List Line
lines_from t c = said_by (answered_by c.bytes (step t c.bytes c.room))

step-seen : (t : Table) → Sound t → (c : Call) (s : ℕ) → Traced s t (lines_from t c) (step t c.bytes c.room).table
step-seen t k c s =
    subst (λ (ys : List Line). Traced s t ys (step t c.bytes c.room).table) (sym (read_step t k c.bytes c.room))
    ((good state_rows state_rows_fit t k c.bytes (of_are_bytes c.bytes c.are_bytes) c.room).seen s)

pub kept : (t : Table) → Sound t → (c : Call) → Sound (step t c.bytes c.room).table
kept t k c = keeps t k c.bytes (of_are_bytes c.bytes c.are_bytes) c.room

-- of stream s: a table, its fates b so far, its counts and its last grant
pub record Agrees (s : ℕ) (t : Table) (b : List Opening) (ts : ℕ → List ℕ) (g : ℕ) : Type 0 where
  pub sound : Sound t
  pub now : open_of (newest b) ≡ waiting t s
  pub left : left_open b ≡ 0
  pub counts : (k : ℕ) → ts k ≡ map (count_in k) b
  pub grants : is_among bound_states (stream t s) ≡ true → (stream t s).granted ≡ g

agrees_step : (s : ℕ) (t u : Table) (ys : List Line) (b : List Opening) (ts : ℕ → List ℕ) (g : ℕ) → Sound u → Traced s t ys u → Agrees s t b ts g
    → Agrees s u (posts s ys b) (λ k. tallies k s ys (ts k)) (grant_by s ys g)
agrees_step s t u ys b ts g k n a =
    let f : fairs s ys (open_of (newest b)) ≡ true = ap (fairs s ys) a.now ∙ n.fairly in
    record {
      sound = k;
      now = open_posts s ys b ∙ ap (shades s ys) a.now ∙ sym n.shaded;
      left = left-posts s ys b f a.left;
      counts = λ j. ap (tallies j s ys) (a.counts j) ∙ sym (count_posts j s ys b f);
      grants = n.granted g a.grants;
    }

agrees_run : (s : ℕ) (cs : List Call) (t : Table) (b : List Opening) (ts : ℕ → List ℕ) (g : ℕ) → Agrees s t b ts g
    → Agrees s (run t cs) (posts s (lines (history t cs)) b) (λ k. tallies k s (lines (history t cs)) (ts k)) (grant_by s (lines (history t cs)) g)
unfolding run history lines posts tallies
agrees_run s [] t b ts g a = a
agrees_run s (c ∷ cs) t b ts g a =
    let u : Table = (step t c.bytes c.room).table in
    let ys : List Line = lines_from t c in
    let zs : List Line = lines (history u cs) in
    let r : Agrees s (run u cs) (posts s zs (posts s ys b)) (λ k. tallies k s zs (tallies k s ys (ts k))) (grant_by s zs (grant_by s ys g))
    = agrees_run s cs u (posts s ys b) (λ k. tallies k s ys (ts k)) (grant_by s ys g) (agrees_step s t u ys b ts g (kept t a.sound c) (step-seen t a.sound c s) a) in
    record {
      sound = r.sound;
      now = ap (λ (b : List Opening). open_of (newest b)) (posts_append s ys zs b) ∙ r.now;
      left = ap left_open (posts_append s ys zs b) ∙ r.left;
      counts = λ k. tallies_append k s ys zs (ts k) ∙ r.counts k ∙ ap (map (count_in k)) (sym (posts_append s ys zs b));
      grants = λ h. r.grants h ∙ sym (grant_append s ys zs g);
    }

pub agrees : (s : ℕ) (cs : List Call) → Agrees s (run fresh cs) (fates s (history fresh cs)) (λ k. tallies k s (lines (history fresh cs)) []) (granted_by s (history fresh cs))
agrees s cs = agrees_run s cs fresh [] (λ k. []) 0 (record {
  sound = fresh-sound;
  now = ap (λ (x : Slot). x.waiting) (sym (replicate-at stream_total closed s));
  left = refl;
  counts = λ k. refl;
  grants = λ h. absurd (false≢true (sym (ap (λ (x : Slot). is_among bound_states x.stream) (replicate-at stream_total closed s)) ∙ h));
})

-- ---- every line of a history is fair, and comes to an opening

fair_run : (s : ℕ) (cs : List Call) (t : Table) → Sound t → (k : ℕ) → ((slot t s).is_open ≡ true → 0 < k)
    → (fairs s (lines (history t cs)) (waiting t s) ≡ true) × (rooteds s (lines (history t cs)) k ≡ true)
unfolding history lines
fair_run s [] t z k f = (refl, refl)
fair_run s (c ∷ cs) t z k f =
    let u : Table = (step t c.bytes c.room).table in
    let n : Traced s t (lines_from t c) u = step-seen t z c s in
    let r : (fairs s (lines (history u cs)) (waiting u s) ≡ true) × (rooteds s (lines (history u cs)) (openings_in s (lines_from t c) k) ≡ true)
    = fair_run s cs u (kept t z c) (openings_in s (lines_from t c) k) (n.opens k f) in (
      fairs_append s (lines_from t c) (lines (history u cs)) (waiting t s) n.fairly (ap (fairs s (lines (history u cs))) (sym n.shaded) ∙ r.0),
      rooteds_append s (lines_from t c) (lines (history u cs)) k (n.rootedly k f) r.1,
    )

pub fair_history : (s : ℕ) (cs : List Call) → (fairs s (lines (history fresh cs)) [] ≡ true) × (rooteds s (lines (history fresh cs)) 0 ≡ true)
fair_history s cs =
    let r : (fairs s (lines (history fresh cs)) (waiting fresh s) ≡ true) × (rooteds s (lines (history fresh cs)) 0 ≡ true)
    = fair_run s cs fresh fresh-sound 0 (λ e. absurd (false≢true (sym (ap (λ (x : Slot). x.is_open) (replicate-at stream_total closed s)) ∙ e))) in
    (ap (fairs s (lines (history fresh cs))) (ap (λ (x : Slot). x.waiting) (sym (replicate-at stream_total closed s))) ∙ r.0, r.1)
