-- What a harness hears is the history of the tables: on the image of a sound table the call for C is the step of that table,
-- and the number and the room give back its refusal, its token and the bytes that it wrote.
use Prim.Native.Nat.{ℕ, ◌+◌, ◌*◌, ◌%◌, ◌≤◌, ◌<◌}
use mathlib.Core.Path.{◌≡◌, refl, sym, ap, subst, ◌∙◌}
use mathlib.Core.Bool.{true}
use mathlib.Core.List.{List, [], ◌∷◌, ◌++◌, map, append_assoc, append-nil}
use lib.ListN.{length, take, drop}
use lib.Seq.{take_at}
use native.Mathlib.Omega.{arith}
use borrow.Author.Tests.{ltb-false}
use Rattle.ledger.specs.Choice.{◌⇒◌∣◌}
use Rattle.ledger.proofs.Tallies.{both_of, chosen}
use Rattle.octets.specs.Runs.{over}
use Rattle.paper.specs.Base.{Table, fresh}
use Rattle.paper.specs.RecordsOut.{all_bytes}
use Rattle.paper.specs.Refusals.{Outcome, refused}
use Rattle.paper.specs.Step.{step}
use Rattle.paper.specs.Room.{frame_room_size}
use Rattle.table_image.specs.Layout.{table_of, image_of, tidy, sound_image}
use Rattle.table_image.proofs.ImageBack.{image_back}
use Rattle.table_image.proofs.TableBack.{table_back}
use Rattle.call_outcomes.specs.Leaving.{Left, left, refusing, writing, refusal_in, token_in, written_in, leaving, call_of}
use Rattle.call_outcomes.specs.Fresh.{Made, fresh_of}
use Rattle.fates_book.specs.Book.{posts, tallies, grant_by}
use Rattle.fates_book.proofs.Shades.{posts_append, tallies_append, grant_append, fairs, rooteds}
use Rattle.promises.specs.Answers.{errors_told}
use Rattle.keeping.specs.Soundness.{Sound}
use Rattle.promises.specs.History.{Answered, lines, fates, granted_by, said_by}
use Rattle.promises.proofs.Runs.{Call, answered_by, run, history}
use Rattle.promises.specs.Harness.{Lending, left_on, came_back, image_after, heard, Harness, image_in, table_in, heard_in, next_in, and_then, errors_heard}
use Rattle.promises.proofs.Agreement.{Agrees, agrees, kept, fair_history}
use Rattle.keeping.proofs.Images.{image-tidy, table-sound}
use Rattle.keeping.proofs.Lent.{shaped}
use Rattle.promises.proofs.Refused.{refusal-is_all, sound-not-sixteen}
use Rattle.keeping.proofs.Kept.{fresh-sound}
use Rattle.keeping.proofs.Tested.{sound_test}
use Rattle.promises.proofs.Whole.{written-few, read_step, told-step}
use Rattle.fates_book.specs.declared.Line.{Line}
use Rattle.fates_book.proofs.Said.{said}
use Rattle.paper.specs.RecordsIn.{input_of}
use Rattle.paper.proofs.Effects.{errors_in}

-- On the image of a sound table the call for C is the step of that table.
pub call-is-step : (t : Table) → Sound t → (r room : List ℕ) → call_of (image_of t) r room ≡ leaving (image_of t) room (step t r (length room))
unfolding call_of ◌⇒◌∣◌
call-is-step t k r room = rw (image-tidy t k, table_back t (shaped t k))

abbrev pub as_call : Lending → Call
as_call c = record { bytes = c.bytes; are_bytes = c.are_bytes; room = length c.room }

-- ---- one call

abbrev pub outcome : Table → Lending → Outcome
outcome t c = step t c.bytes (length c.room)

pub record IsStep (t : Table) (c : Lending) (l : Left) : Type 0 where
  pub image : l.image ≡ image_of (outcome t c).table
  pub answer : came_back c l ≡ answered_by c.bytes (outcome t c)

-- what is taken apart of a number
same_answer_lem : (c : Lending) (l : Left) (refusal opened : ℕ) (written : List ℕ) → refusal_in l.number ≡ refusal → token_in l.number ≡ opened
    → take (written_in l.number) l.room ≡ written
    → came_back c l ≡ record { lent = c.bytes; refusal = refusal; opened = opened; written = written }
same_answer_lem c l refusal opened written a b w i = record { lent = c.bytes; refusal = a i; opened = b i; written = w i }

none_taken : (l : List ℕ) (n : ℕ) → n ≡ 0 → take n l ≡ []
none_taken l n e = ap (λ (m : ℕ). take m l) e ∙ none l
  where
    none : (l : List ℕ) → take 0 l ≡ []
    none [] = refl
    none (x ∷ l) = refl

is-step : (t : Table) → Sound t → (c : Lending) → IsStep t c (leaving (image_of t) c.room (outcome t c))
unfolding leaving
is-step t k c = chosen (IsStep t c) _ _ _
    (λ e. let z : o ≡ refused t o.refusal = refusal-is_all t c.bytes (length c.room) e in
    let n : o.refusal < 16 = sound-not-sixteen t c.bytes (length c.room) (sound_test t k) in
    record {
      image = ap (λ (o : Outcome). image_of o.table) (sym z);
      answer =
          same_answer_lem c (left (refusing o.refusal) (image_of t) c.room) o.refusal 0 [] (omega arith) (omega arith)
          (none_taken c.room (refusing o.refusal % 65536) (omega arith))
          ∙ ap (answered_by c.bytes) (sym z);
    })
    (λ e. let n : length bs ≤ frame_room_size = written-few t k c.bytes (length c.room) in
    record {
      image = refl;
      answer = same_answer_lem c (left (writing (length bs) o.opened) (image_of o.table) (over bs c.room)) o.refusal o.opened bs (omega (arith, ltb-false 0 o.refusal e)) (omega arith)
          (let w : (length bs + o.opened * 16777216) % 65536 ≡ length bs = omega arith in ap (λ (m : ℕ). take m (over bs c.room)) w ∙ take_at bs (drop (length bs) c.room) (length bs) refl);
    })
  where
    o : Outcome
    o = outcome t c

    bs : List ℕ
    bs = all_bytes o.records

pub one_call : (t : Table) → Sound t → (c : Lending) → IsStep t c (left_on (image_of t) c)
one_call t k c = subst (IsStep t c) (sym (call-is-step t k c.bytes c.room)) (is-step t k c)

-- On a sound image the call is the step of the table in it.
pub sound-call : (img : List ℕ) → sound_image img ≡ true → (c : Lending) → IsStep (table_of img) c (left_on img c)
unfolding sound_image
sound-call img e c = subst (λ (l : List ℕ). IsStep (table_of img) c (left_on l c)) (image_back img (both_of (tidy img) _ e).0) (one_call (table_of img) (table-sound img e) c)

-- ---- calls in turn

pub images_are_the_run : (t : Table) → Sound t → (cs : List Lending) → image_after (image_of t) cs ≡ image_of (run t (map as_call cs))
unfolding image_after run
images_are_the_run t k [] = refl
images_are_the_run t k (c ∷ cs) = ap (λ (img : List ℕ). image_after img cs) (one_call t k c).image ∙ images_are_the_run (outcome t c).table (kept t k (as_call c)) cs

pub heard-is_history : (t : Table) → Sound t → (cs : List Lending) → heard (image_of t) cs ≡ history t (map as_call cs)
unfolding heard history
heard-is_history t k [] = refl
heard-is_history t k (c ∷ cs) =
    ap (λ (a : Answered). a ∷ heard (left_on (image_of t) c).image cs) (one_call t k c).answer
    ∙ ap (λ (img : List ℕ). answered_by c.bytes (outcome t c) ∷ heard img cs) (one_call t k c).image
    ∙ ap (λ (h : List Answered). answered_by c.bytes (outcome t c) ∷ h) (heard-is_history (outcome t c).table (kept t k (as_call c)) cs)

-- ---- of a harness

-- bytes that `kungthevi_fresh` took hold the image of a fresh table
pub fresh-taken : (lent : List ℕ) → (fresh_of lent).number ≡ 0 → (fresh_of lent).image ≡ image_of fresh
unfolding fresh_of
fresh-taken lent = chosen (λ (m : Made). m.number ≡ 0 → m.image ≡ image_of fresh) _ _ _ (λ e z. refl) (λ e z. absurd (omega arith))

module _ (x : Harness) where
  abbrev pub calls_of : List Call
  calls_of = map as_call x.calls

  pub image-is : image_in x ≡ image_of (run fresh calls_of)
  image-is = ap (λ (img : List ℕ). image_after img x.calls) (fresh-taken x.lent x.taken) ∙ images_are_the_run fresh fresh-sound x.calls

  pub history_is : heard_in x ≡ history fresh calls_of
  history_is = ap (λ (img : List ℕ). heard img x.calls) (fresh-taken x.lent x.taken) ∙ heard-is_history fresh fresh-sound x.calls

  pub table_is : table_in x ≡ run fresh calls_of
  table_is = ap table_of image-is ∙ table_back (run fresh calls_of) (shaped (run fresh calls_of) (agrees 0 calls_of).sound)

  -- what the harness heard of a stream is what the table holds of it
  pub agreed : (s : ℕ) → Agrees s (table_in x) (fates s (heard_in x)) (λ k. tallies k s (lines (heard_in x)) []) (granted_by s (heard_in x))
  agreed s = subst (λ (t : Table). Agrees s t (fates s (heard_in x)) (λ k. tallies k s (lines (heard_in x)) []) (granted_by s (heard_in x))) (sym table_is)
      (subst (λ (h : List Answered). Agrees s (run fresh calls_of) (fates s h) (λ k. tallies k s (lines h) []) (granted_by s h)) (sym history_is) (agrees s calls_of))

  -- one call more is a step of the table that it holds
  pub next-is : (c : Lending) → IsStep (table_in x) c (left_on (image_in x) c)
  next-is c = subst (λ (img : List ℕ). IsStep (table_in x) c (left_on img c)) (sym (image-is ∙ ap image_of (sym table_is))) (one_call (table_in x) (agreed 0).sound c)

  -- and tells the errors that its records tell
  pub errors_heard_lem : (c : Lending) → errors_heard x c ≡ errors_in (outcome (table_in x) c).records
  errors_heard_lem c = ap (λ (a : Answered). errors_told a.written) (next-is c).answer ∙ told-step (table_in x) (agreed 0).sound c.bytes (length c.room)

  pub refusal-heard : (c : Lending) → (next_in x c).refusal ≡ (outcome (table_in x) c).refusal
  refusal-heard c = ap (λ (a : Answered). a.refusal) (next-is c).answer

  -- and says what they say
  pub lines-heard : (c : Lending) → said_by (next_in x c) ≡ said (input_of c.bytes) (outcome (table_in x) c).opened (outcome (table_in x) c).records
  lines-heard c = ap said_by (next-is c).answer ∙ read_step (table_in x) (agreed 0).sound c.bytes (length c.room)

  -- each line is fair, and comes to an opening
  pub fair_heard : (s : ℕ) → (fairs s (lines (heard_in x)) [] ≡ true) × (rooteds s (lines (heard_in x)) 0 ≡ true)
  fair_heard s = subst (λ (h : List Answered). (fairs s (lines h) [] ≡ true) × (rooteds s (lines h) 0 ≡ true)) (sym history_is) (fair_history s calls_of)

-- ---- one call more

pub image-more : (x : Harness) (c : Lending) → image_in (and_then x c) ≡ (left_on (image_in x) c).image
unfolding image_after
image-more x c = go (fresh_of x.lent).image x.calls
  where
    go : (img : List ℕ) (cs : List Lending) → image_after img (cs ++ (c ∷ [])) ≡ (left_on (image_after img cs) c).image
    go img [] = refl
    go img (b ∷ cs) = go (left_on img b).image cs

heard-more : (img : List ℕ) (cs : List Lending) (c : Lending) → heard img (cs ++ (c ∷ [])) ≡ heard img cs ++ (came_back c (left_on (image_after img cs) c) ∷ [])
unfolding heard image_after
heard-more img [] c = refl
heard-more img (b ∷ cs) c = ap (λ (h : List Answered). came_back b (left_on img b) ∷ h) (heard-more (left_on img b).image cs c)

lines_append : (h g : List Answered) → lines (h ++ g) ≡ lines h ++ lines g
unfolding lines
lines_append [] g = refl
lines_append (a ∷ h) g = ap (λ (ys : List Line). said_by a ++ ys) (lines_append h g) ∙ sym (append_assoc (said_by a) (lines h) (lines g))

pub lines_more : (x : Harness) (c : Lending) → lines (heard_in (and_then x c)) ≡ lines (heard_in x) ++ said_by (next_in x c)
unfolding lines
lines_more x c =
    ap lines (heard-more (fresh_of x.lent).image x.calls c)
    ∙ lines_append (heard_in x) (next_in x c ∷ [])
    ∙ ap (λ (ys : List Line). lines (heard_in x) ++ ys) (append-nil (said_by (next_in x c)))

pub fates-more : (x : Harness) (c : Lending) (s : ℕ) → fates s (heard_in (and_then x c)) ≡ posts s (said_by (next_in x c)) (fates s (heard_in x))
fates-more x c s = ap (λ (ys : List Line). posts s ys []) (lines_more x c) ∙ posts_append s (lines (heard_in x)) (said_by (next_in x c)) []

pub counts_more : (x : Harness) (c : Lending) (k s : ℕ) → tallies k s (lines (heard_in (and_then x c))) [] ≡ tallies k s (said_by (next_in x c)) (tallies k s (lines (heard_in x)) [])
counts_more x c k s = ap (λ (ys : List Line). tallies k s ys []) (lines_more x c) ∙ tallies_append k s (lines (heard_in x)) (said_by (next_in x c)) []

pub grant_more : (x : Harness) (c : Lending) (s : ℕ) → granted_by s (heard_in (and_then x c)) ≡ grant_by s (said_by (next_in x c)) (granted_by s (heard_in x))
grant_more x c s = ap (λ (ys : List Line). grant_by s ys 0) (lines_more x c) ∙ grant_append s (lines (heard_in x)) (said_by (next_in x c)) 0
