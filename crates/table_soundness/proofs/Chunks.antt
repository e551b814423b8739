-- The slots of an image are the chunks of its last bytes: all are tidy exactly if each chunk is.
use Prim.Native.Nat.{ℕ, suc, ◌+◌, ◌*◌, ◌≤◌, ◌<◌, ◌/◌}
use mathlib.Core.Path.{◌≡◌, refl, sym, subst, ap, ◌∙◌}
use mathlib.Core.Bool.{Bool, true, false}
use mathlib.Core.List.{List, [], ◌∷◌}
use lib.ListN.{length, get_or, take, drop}
use lib.Seq.{drop-drop}
use native.Mathlib.Omega.{arith}
use denote.Ref.{Bor}
use denote.Param.Members.{Mut, Called}
use Rattle.std.specs.declared.option.Option.{Option}
use Rattle.std.specs.declared.option.Option.TheVariants.{None, Some}
use Rattle.std.specs.Option.{IsSomeAnd, IfSome}
use Rattle.std.specs.Bool.{MatchBool}
use Rattle.std.specs.List.{slice_get, IsSubsliceAt}
use Rattle.std.specs.Iterator.Runs.{Run, IsChunksExactRun, CallKeepsClosure, AllItemsGive, AnyItemGives}
use Rattle.std.proofs.iter.runs.Lists.{nth_read}
use Rattle.std.proofs.iter.runs.Made.{at-is}
use Rattle.ledger.specs.Tally.{all_of}
use Rattle.ledger.proofs.Tallies.{to_both, all_within}
use Rattle.ledger.proofs.Lists.{listed-length}
use Rattle.paper.specs.Base.{stream_total}
use Rattle.table_image.specs.Layout.{slot_size, slots_offset, slots_size, slot_part, slot_parts}
use Rattle.table_soundness.proofs.Slots.{slot-of_parts}

all_below : {A : Type 0} (p : A → Bool) (d : A) (l : List A) → ((k : ℕ) → k < length l → p (get_or l k d) ≡ true) → all_of p l ≡ true
all_below p d [] h = refl
all_below p d (x ∷ l) h = to_both _ _ (h 0 (omega arith)) (all_below p d l (λ k b. h (suc k) (omega arith)))

one_at : {A : Type 0} (l : List A) (k : ℕ) → k < length l → (x : A) × (slice_get l k ≡ Some x)
one_at [] k h = absurd (omega arith)
one_at (x ∷ l) k h = (get_or (x ∷ l) k x, nth_read (x ∷ l) k x h)

surely : {A : Type 0} (P : A → Type 0) (o : Option A) (x : A) → o ≡ Some x → IfSome o P → IsSomeAnd o P
surely P o x e h = subst (λ r. IsSomeAnd r P) (sym e) (subst (λ r. IfSome r P) e h)

module _ {S F : Type 0} {steps : S → Option (Bor (List ℕ)) → S → Type 0} (g : Mut F (Bor (List ℕ) × Unit {0}) Bool) (f : F) (q : List ℕ → Bool) (img xs : List ℕ) (p : Run steps) where
  module _ (e : xs ≡ drop slots_offset img) (computes : (x : Bor (List ℕ)) (b : Bool) → length x.now ≡ slot_size → Called g f (x, tt) b f → b ≡ q x.now) (chunks : IsChunksExactRun p slot_size xs) where
    tells : (b : Bool) (k : ℕ) (o : Option (Bor (List ℕ))) → k < stream_total
        → IfSome o (λ x. (length x.now ≡ slot_size) × (k * slot_size + slot_size ≤ length xs) × IsSubsliceAt slot_size xs (k * slot_size) x.now)
        → IsSomeAnd o (λ x. Called g f (x, tt) b f) → q (get_or (slot_parts img) k []) ≡ b
    tells b k None w h c = absurd c
    tells b k (Some x) w h c =
        let z : slots_offset + k * slot_size ≡ k * slot_size + slots_offset = omega arith in
        ap q (slot-of_parts img k w ∙ ap (λ (i : ℕ). take slot_size (drop i img)) (sym z) ∙ ap (take slot_size) (sym (drop-drop (k * slot_size) slots_offset img)) ∙ ap (λ (l : List ℕ). take slot_size (drop (k * slot_size) l)) (sym e) ∙ sym h.2.0)
        ∙ sym (computes x b h.0 c)

    pub all_chunks : length xs ≡ slots_size → CallKeepsClosure g f → (r : Bool) → MatchBool r ((p.whole ≡ true) × AllItemsGive p g f true) (AnyItemGives p g f false) → r ≡ all_of q (slot_parts img)
    all_chunks long keeps true h =
        let many : p.len ≡ stream_total = chunks.1 h.0 ∙ ap (λ (n : ℕ). n / slot_size) long in
        sym (all_below q [] (slot_parts img) (λ k b.
        let w : k < stream_total = omega (arith, listed-length (slot_part img) 0 stream_total) in
        let x = one_at p.items k (omega (arith, p.long)) in
        tells true k (p.at k) w (chunks.2 k) (surely _ (p.at k) x.0 (at-is p k ∙ x.1) (h.1 keeps k))))
    all_chunks long keeps false h =
        let y = h keeps in
        let w : y.0 < stream_total = omega (arith, chunks.0) in
        let n : q (get_or (slot_parts img) y.0 []) ≡ false = tells false y.0 (p.at y.0) w (chunks.2 y.0) y.2 in
        go (all_of q (slot_parts img)) refl n w
      where
        go : (r : Bool) → all_of q (slot_parts img) ≡ r → {k : ℕ} → q (get_or (slot_parts img) k []) ≡ false → k < stream_total → false ≡ r
        go true a {k} n w = sym n ∙ all_within q (slot_parts img) k [] a (omega (arith, listed-length (slot_part img) 0 stream_total))
        go false a n w = refl
