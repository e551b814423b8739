-- The bytes of records one behind the other: of one, of a call's in order, of goodbyes. They are joined as any pieces are.
use mathlib.Core.Path.{◌≡◌, sym, ap, ◌∙◌, refl}
use mathlib.Core.List.{[], ◌∷◌, append-nil, List, ◌++◌, map}
use Prim.Native.Nat.{ℕ, ◌*◌}
use lib.ListN.{length}
use native.Mathlib.Omega.{arith}
use Rattle.paper.specs.RecordsOut.{Record, disconnect_size, bytes_of, all_bytes, in_order}
use Rattle.paper.specs.Openings.{goodbye}
use Rattle.octets.specs.Writing.{WroteMost}
use Rattle.octets.proofs.Writing.{wrote-same}
use Rattle.ledger.proofs.Lists.{joined_append}

pub one_record : (r : Record) → all_bytes (r ∷ []) ≡ bytes_of r
one_record r = append-nil (bytes_of r)

pub two_records : (a b : Record) → bytes_of a ++ bytes_of b ≡ all_bytes (a ∷ b ∷ [])
two_records a b = ap (λ (l : List ℕ). bytes_of a ++ l) (sym (one_record b))

pub bytes_in_order : (a f u : List Record) → all_bytes (in_order a f u) ≡ all_bytes a ++ all_bytes f ++ all_bytes u
unfolding in_order
bytes_in_order a f u = joined_append bytes_of (a ++ f) u ∙ ap (λ (l : List ℕ). l ++ all_bytes u) (joined_append bytes_of a f)

-- one that is the same as the one to be written was written
pub one_wrote : {most n : ℕ} {room room' : List ℕ} (r s : Record) → r ≡ s → WroteMost most (bytes_of r) 0 n room room'
    → WroteMost most (all_bytes (s ∷ [])) 0 n room room'
one_wrote r s e w = wrote-same (ap bytes_of e ∙ sym (one_record s)) w

-- each goodbye is a d
pub goodbyes-long : (i : ℕ) (w : List ℕ) → length (all_bytes (map (goodbye i) w)) ≡ length w * disconnect_size
goodbyes-long i [] = refl
goodbyes-long i (n ∷ w) = omega (arith, goodbyes-long i w)
