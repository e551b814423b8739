-- The count granted begins at 0 with each opening, and each bind that is served sets it: a bind's one line is its BIND_ACK's.
use Rattle.std.proofs.Common.{Ok}
use Prim.Native.Nat.{ℕ}
use mathlib.Core.Path.{◌≡◌, refl, sym, ap, ◌∙◌}
use mathlib.Core.Bool.{true}
use mathlib.Core.List.{List, [], ◌∷◌}
use borrow.Author.Tests.{eq-eqb}
use Rattle.paper.specs.Base.{is_among, bound_states, Table, stream}
use Rattle.paper.specs.Effects.{orders_in, ups_in, told, effect_of}
use Rattle.paper.specs.Messages.{code_in}
use Rattle.paper.specs.RecordsOut.{in_order}
use Rattle.paper.specs.Refusals.{Outcome}
use Rattle.paper.specs.Saps.{grant_of}
use Rattle.paper.specs.StateRows.{state_rows}
use Rattle.paper.specs.declared.BindRequest.{BindRequest}
use Rattle.paper.specs.declared.Request.TheVariants as request
use Rattle.paper.proofs.Fair.{binds}
use Rattle.paper.proofs.Walk.{Replied, failing, serving}
use Rattle.fates_book.specs.declared.Line.{Line}
use Rattle.fates_book.specs.declared.Line.TheVariants.{Given}
use Rattle.fates_book.specs.Lines.{telling}
use Rattle.fates_book.specs.Book.{grant_by}
use Rattle.fates_book.proofs.Telling.{grant_telling}
use Rattle.promises.specs.History.{said_by, granted_by, opens_stream}
use Rattle.promises.specs.Harness.{Lending, Harness, table_in, heard_in, next_in, and_then, CompleteIn, errors_heard}
use Rattle.promises.proofs.Endings.{AnswerTells, heard_answered, message_says}
use Rattle.promises.proofs.Harness.{agreed, grant_more}
use Rattle.promises.proofs.Openings.{opening_says}
use Rattle.promises.proofs.Verdicts.{erring_tells}

-- With each opening it begins anew.
pub opening_grants_none : (x : Harness) (c : Lending) (s : ℕ) → opens_stream s (next_in x c) ≡ true → granted_by s (heard_in (and_then x c)) ≡ 0
opening_grants_none x c s h = grant_more x c s ∙ ap (λ (ys : List Line). grant_by s ys (granted_by s (heard_in x))) (opening_says x c s h) ∙ rw (eq-eqb s s refl)

tells_bind : (t : Table) (i l n : ℕ) (m r : List ℕ) {b : BindRequest} {o : Outcome} → Replied state_rows t i m r (Ok (request.Bind b)) o
    → AnswerTells i l n (Given i (grant_of b.mode b.most) ∷ []) o
unfolding told in_order orders_in ups_in effect_of
tells_bind t i l n m r (failing {w = w} v) e = erring_tells t i (code_in m) w e
tells_bind t i l n m r (serving v h (binds a)) e = refl

-- A bind that is answered without an error says what it was granted and nothing else,
pub bind_says : (x : Harness) (c : Lending) (s : ℕ) (b : BindRequest) → CompleteIn x c s (request.Bind b)
    → errors_heard x c ≡ [] → telling (said_by (next_in x c)) ≡ Given s (grant_of b.mode b.most) ∷ []
bind_says x c s b m = message_says x c s (request.Bind b) _ m (tells_bind (table_in x) s m.size m.data_length _ _ (heard_answered x c s _ m))

-- sets the count to what the paper grants,
pub bind_grants : (x : Harness) (c : Lending) (s : ℕ) (b : BindRequest) → CompleteIn x c s (request.Bind b)
    → errors_heard x c ≡ [] → granted_by s (heard_in (and_then x c)) ≡ grant_of b.mode b.most
bind_grants x c s b m e =
    grant_more x c s
    ∙ sym (grant_telling s (said_by (next_in x c)) (granted_by s (heard_in x)))
    ∙ ap (λ (ys : List Line). grant_by s ys (granted_by s (heard_in x))) (bind_says x c s b m e)
    ∙ rw (eq-eqb s s refl)

-- and in the states that hold a binding it is the count in the table.
pub granted_in_the_table : (x : Harness) (s : ℕ) → is_among bound_states (stream (table_in x) s) ≡ true → granted_by s (heard_in x) ≡ (stream (table_in x) s).granted
granted_in_the_table x s h = sym ((agreed x s).grants h)
