-- Laws of the text of fates: one piece behind the other, and how long each is.
use Prim.Native.Nat.{ℕ, zero, suc, ◌+◌, ◌-◌, ◌*◌, ◌≤◌, ◌<◌}
use native.Mathlib.Omega.{arith}
use mathlib.Core.Path.{◌≡◌, refl, sym, ap, ◌∙◌}
use mathlib.Core.Bool.{true}
use mathlib.Core.List.{List, [], ◌∷◌, ◌++◌, append_assoc, append-nil, map}
use lib.ListN.{length, get_or, drop, length-append, length-drop}
use lib.Dec.{eqb}
use borrow.Author.Tests.{eqb-true, eq-eqb, ne_eqb}
use Rattle.ledger.specs.Choice.{◌⇒◌∣◌}
use Rattle.ledger.proofs.Tallies.{chosen}
use Rattle.octets.specs.Numbers.{be32_at}
use Rattle.text.specs.Page.{Shown, shown}
use Rattle.text.specs.declared.Page.{Page}
use Rattle.text.proofs.Laws.{decimal-most}
use Rattle.text.proofs.Putting.{added, put_added, added_then, Leads, all_leads, less_leads, all_added, ToCome, leads, leads_to_come}
use Rattle.replay_transcript.proofs.Laws.{message_out}
use Rattle.paper.specs.declared.Input.{Input}
use Rattle.paper.specs.RecordsOut.{accept_size, disconnect_size, size_out}
use Rattle.paper.proofs.Sizes.{size-within}
use Rattle.fates_book.specs.declared.End.{End}
use Rattle.fates_book.specs.declared.End.TheVariants.{Accepted, Denied, Withdrawn, Dropped}
use Rattle.fates_book.specs.declared.Line.{Line}
use Rattle.fates_book.specs.declared.Line.TheVariants.{Began, Went}
use Rattle.fates_book.specs.Lines.{asker, parting, end_line, up_line, line_at, records_in, lines_in, opening_lines}
use Rattle.std.specs.List.{range_with_len, sum}
use Rattle.std.proofs.lemmas.List.Sums.{sum_by-cons}
use Rattle.paper.specs.Saps.{most_open}
use Rattle.fates_register.specs.Register.{free_from, page_of, places_of, open_on, entered, entered_all}
use Rattle.fates_register.proofs.Laws.{entered_append}
use Rattle.fates_report.specs.Report.{word_call, word_of, word_still_open, spaced_number, numbers, indication_line, open_lines, end_text, line_text}
use Rattle.fates_report.specs.Report.{all_text, end_texts, open_on_all, spaced_size, fate_size, indication_size, per_byte, Saying, SayingOf, Telling, TellingOf}

-- ---- numbers

pub numbers_end : (k j c : ℕ) (l : List ℕ) → k ≤ j → numbers (k - j) (c + j) l ≡ []
unfolding numbers
numbers_end k j c l h =
    let e : k - j ≡ zero = omega arith in
    rw e

pub numbers_next : (k j c : ℕ) (l : List ℕ) → j < k → numbers (k - j) (c + j) l ≡ spaced_number (get_or l (c + j) 0) ++ numbers (k - (j + 1)) (c + (j + 1)) l
unfolding numbers
numbers_next k j c l h =
    let e : k - j ≡ suc (k - (j + 1)) = omega arith in
    let f : c + j + 1 ≡ c + (j + 1) = omega arith in
    rw (e, f)

numbers-most : (k c : ℕ) (l : List ℕ) → length (numbers k c l) ≤ spaced_size * k
unfolding numbers
numbers-most zero c l = omega arith
numbers-most (suc k) c l =
    omega (arith, decimal-most (get_or l c 0), length-append (spaced_number (get_or l c 0)) (numbers k (c + 1) l), numbers-most k (c + 1) l)

-- ---- those still open

pub open_end : (k i c : ℕ) (l : List ℕ) → k ≤ 0 → open_lines k i c l ≡ []
unfolding open_lines
open_end zero i c l h = refl
open_end (suc k) i c l h = absurd (omega arith)

pub open_none : (k i c : ℕ) (l : List ℕ) → get_or l c 0 ≡ 0 → open_lines k i c l ≡ []
unfolding open_lines ◌⇒◌∣◌
open_none zero i c l h = refl
open_none (suc k) i c l h = rw (eq-eqb (get_or l c 0) 0 h)

pub open_next : (k i c : ℕ) (l : List ℕ) → 0 < k → (get_or l c 0 ≡ 0 → ⊥)
    → open_lines k i c l ≡ indication_line i c word_still_open l ++ open_lines (k - 1) i (c + 2) l
unfolding open_lines ◌⇒◌∣◌
open_next zero i c l h n = absurd (omega arith)
open_next (suc k) i c l h n =
    let e : suc k - 1 ≡ k = omega arith in
    rw (e, ne_eqb (get_or l c 0) 0 n)

-- ---- stream after stream, up to n

pub ends-end : (n i : ℕ) (l : List ℕ) → n ≤ i → end_texts (n - i) i l ≡ []
unfolding end_texts
ends-end n i l h =
    let e : n - i ≡ zero = omega arith in
    ap (λ (k : ℕ). end_texts k i l) e

pub ends_next : (n i : ℕ) (l : List ℕ) → i < n → end_texts (n - i) i l ≡ end_text i l ++ end_texts (n - (i + 1)) (i + 1) l
unfolding end_texts
ends_next n i l h =
    let e : n - i ≡ suc (n - (i + 1)) = omega arith in
    ap (λ (k : ℕ). end_texts k i l) e

-- how many are open on them, one stream behind the other
pub all_open : (n i : ℕ) (l : List ℕ) → sum (map (λ (j : ℕ). open_on j l) (range_with_len i n)) ≡ open_on_all n i l
unfolding open_on_all
all_open zero i l = refl
all_open (suc n) i l = sum_by-cons (λ (j : ℕ). j) (open_on i l) (map (λ (j : ℕ). open_on j l) (range_with_len (i + 1) n)) ∙ ap (λ (k : ℕ). open_on i l + k) (all_open n (i + 1) l)

free_most : (k c : ℕ) (l : List ℕ) → free_from k c l ≤ c + k * 2
unfolding free_from
free_most zero c l = omega arith
free_most (suc k) c l = chosen (λ (r : ℕ). r ≤ c + suc k * 2) _ _ _ (λ e. omega arith) (λ e. omega (arith, free_most k (c + 2) l))

pub open-most : (n i : ℕ) (l : List ℕ) → open_on_all n i l ≤ n * most_open
unfolding open_on_all
open-most zero i l = omega arith
open-most (suc n) i l = omega (arith, free_most most_open (places_of i) l, open-most n (i + 1) l)

-- ---- how long the line of a record is

word_most : (e : End) → length (word_of e) ≤ fate_size
word_most Accepted = omega arith
word_most Denied = omega arith
word_most Withdrawn = omega arith
word_most Dropped = omega arith

indication-most : (i c : ℕ) (word l : List ℕ) → length word ≤ fate_size → length (indication_line i c word l) ≤ indication_size
indication-most i c word l h =
    let a = word_call ++ spaced_number i in
    let b = a ++ numbers 1 (page_of i) l in
    let d = b ++ numbers 2 c l in
    omega (
      arith,
      decimal-most i,
      numbers-most 1 (page_of i) l,
      numbers-most 2 c l,
      length-append a (numbers 1 (page_of i) l),
      length-append b (numbers 2 c l),
      length-append d word,
      length-append (d ++ word) (10 ∷ []),
    )

-- short enough: all lines but that of an opening are
abbrev Short : List ℕ → Line → Type 0
Short l y = length (line_text y l) ≤ indication_size

went_most : (i n : ℕ) (e : End) (l : List ℕ) → Short l (Went i n e)
unfolding line_text
went_most i n e l =
    chosen (λ (t : List ℕ). length t ≤ indication_size) _ _ _ (λ q. indication-most i _ (word_of e) l (word_most e)) (λ q. omega arith)

end-most : (i n : ℕ) (e : End) (l : List ℕ) → Short l (end_line i n e)
unfolding end_line line_text
end-most i n e l = chosen (Short l) _ _ _ (λ q. omega arith) (λ q. went_most i n e l)

up-most : (b l : List ℕ) → Short l (up_line b)
unfolding up_line line_text
up-most b l =
    chosen (Short l) _ _ _ (λ q. omega arith)
    (λ q. chosen (Short l) _ _ _ (λ q. omega arith) (λ q. chosen (Short l) _ _ _ (λ q. end-most _ _ Withdrawn l) (λ q. omega arith)))

-- what says something is an order a, an order d or a message
accept_out : (k : ℕ) → eqb k 97 ≡ true → size_out k ≡ accept_size
unfolding size_out ◌⇒◌∣◌
accept_out k e = ap size_out (eqb-true k 97 e)

disconnect_out : (k : ℕ) → eqb k 100 ≡ true → size_out k ≡ disconnect_size
unfolding size_out ◌⇒◌∣◌
disconnect_out k e = ap size_out (eqb-true k 100 e)

pub said_most : (q : Input) (b l : List ℕ) → length (line_text (line_at q b) l) ≤ per_byte * size_out (get_or b 0 0)
unfolding line_at line_text
said_most q b l =
    let k : ℕ = get_or b 0 0 in
    chosen Fits _ _ _ (λ e. omega (arith, went_most (asker q) (be32_at b 2) Accepted l, accept_out k e))
    (λ e. chosen Fits _ _ _ (λ e. omega (arith, end-most (get_or b 1 0) (be32_at b 2) (parting q) l, disconnect_out k e))
    (λ e. chosen Fits _ _ _ (λ e. omega (arith, up-most b l, message_out k e)) (λ e. omega arith)))
  where
    Fits : Line → Type 0
    Fits y = length (line_text y l) ≤ per_byte * size_out (get_or b 0 0)

-- ---- the records of a call

-- where no records are left there are no lines
lines_end : (k : ℕ) (q : Input) (b : List ℕ) → length b ≤ 0 → lines_in k q b ≡ []
unfolding records_in
lines_end zero q b h = refl
lines_end (suc k) q [] h = refl
lines_end (suc k) q (x ∷ b) h = absurd (omega arith)

-- else that of the first record, and those of the rest
lines_next : (k : ℕ) (q : Input) (b : List ℕ) → 0 < length b → lines_in (suc k) q b ≡ line_at q b ∷ lines_in k q (drop (size_out (get_or b 0 0)) b)
unfolding records_in
lines_next k q [] h = absurd (omega arith)
lines_next k q (x ∷ b) h = refl

-- k lines at most are still to be told, of the records that are left
pub record StillSaying (first : Shown) (ys : List Line) (l₀ : List ℕ) (q : Input) (b : List ℕ) (page : Shown) (l : List ℕ) : Type 0 where
  pub k : ℕ
  pub enough : length b ≤ k
  pub text : Leads first (all_text ys l₀) page (all_text (lines_in k q b) l)
  pub register : entered_all ys l₀ ≡ entered_all (lines_in k q b) l

pub all_saying : (page : Shown) (q : Input) (b l : List ℕ) → StillSaying page (lines_in (length b) q b) l q b page l
all_saying page q b l = record {
  k = length b;
  enough = omega arith;
  text = all_leads page (all_text (lines_in (length b) q b) l);
  register = refl;
}

-- a line was told
pub less-saying : {first : Shown} {ys : List Line} {l₀ : List ℕ} {q : Input} {b : List ℕ} {page : Shown} {l : List ℕ} {page' : Shown} {most : ℕ}
    {l' : List ℕ} (y : Line)
    → StillSaying first ys l₀ q b page l → 0 < length b → y ≡ line_at q b
    → Saying most (line_text y l) (entered y l) page page' l'
    → StillSaying first ys l₀ q (drop (size_out (get_or b 0 0)) b) page' l'
unfolding all_text entered_all
less-saying {first} {ys} {l₀} {q} {b} {page} {l} {page'} {most} {l'} y t h p w = go t.k t.enough t.text t.register
  where
    go : (k : ℕ) → length b ≤ k → Leads first (all_text ys l₀) page (all_text (lines_in k q b) l)
        → entered_all ys l₀ ≡ entered_all (lines_in k q b) l → StillSaying first ys l₀ q (drop (size_out (get_or b 0 0)) b) page' l'
    go zero a c r = absurd (omega (arith, h, a))
    go (suc k) a c r =
        let size : ℕ = size_out (get_or b 0 0) in
        let rest : List Line = lines_in k q (drop size b) in
        let all : lines_in (suc k) q b ≡ y ∷ rest = rw p (lines_next k q b h) in
        record {
          k = k;
          enough = omega (arith, a, size-within (get_or b 0 0), length-drop size b);
          text =
              less_leads (line_text y l) (all_text rest l') c
              (ap (λ (x : List Line). all_text x l) all ∙ ap (λ (x : List ℕ). line_text y l ++ all_text rest x) (sym w.entered)) w.wrote;
          register = r ∙ ap (λ (x : List Line). entered_all x l) all ∙ ap (entered_all rest) (sym w.entered);
        }

-- all are told
pub none_saying : {first : Shown} {ys : List Line} {l₀ : List ℕ} {q : Input} {b : List ℕ} {page : Shown} {l : List ℕ} {most : ℕ}
    → StillSaying first ys l₀ q b page l → length b ≤ 0 → length first.spare ≤ length page.spare + most → SayingOf most ys first page l₀ l
unfolding all_text entered_all
none_saying {q = q} {b} {l = l} t h f =
    let none = lines_end t.k q b h in
    record {
      wrote = all_added f t.text (ap (λ (x : List Line). all_text x l) none);
      entered = sym (t.register ∙ ap (λ (x : List Line). entered_all x l) none);
    }

-- ---- the same of a page

pub saying : {most : ℕ} {text kept : List ℕ} {page page' : Page} {l : List ℕ} → Telling most text kept page page' l
    → Saying most text kept (shown page) (shown page') l
saying t = record { wrote = added t.wrote; entered = t.entered }

pub record StillTelling (first : Page) (ys : List Line) (l₀ : List ℕ) (q : Input) (b : List ℕ) (page : Page) (l : List ℕ) : Type 0 where
  pub k : ℕ
  pub enough : length b ≤ k
  pub text : ToCome first (all_text ys l₀) page (all_text (lines_in k q b) l)
  pub register : entered_all ys l₀ ≡ entered_all (lines_in k q b) l

still_saying : {first : Page} {ys : List Line} {l₀ : List ℕ} {q : Input} {b : List ℕ} {page : Page} {l : List ℕ}
    → StillTelling first ys l₀ q b page l → StillSaying (shown first) ys l₀ q b (shown page) l
still_saying t = record { k = t.k; enough = t.enough; text = leads t.text; register = t.register }

still_telling : {first : Page} {ys : List Line} {l₀ : List ℕ} {q : Input} {b : List ℕ} {page : Page} {l : List ℕ}
    → StillSaying (shown first) ys l₀ q b (shown page) l → page.bytes.ghost_name ≡ first.bytes.ghost_name → StillTelling first ys l₀ q b page l
still_telling t same = record { k = t.k; enough = t.enough; text = leads_to_come t.text same; register = t.register }

pub all_telling : (page : Page) (q : Input) (b l : List ℕ) → StillTelling page (lines_in (length b) q b) l q b page l
all_telling page q b l = still_telling (all_saying (shown page) q b l) refl

pub less-telling : {first : Page} {ys : List Line} {l₀ : List ℕ} {q : Input} {b : List ℕ} {page : Page} {l : List ℕ} {page' : Page} {most : ℕ}
    {l' : List ℕ} (y : Line)
    → StillTelling first ys l₀ q b page l → 0 < length b → y ≡ line_at q b
    → Telling most (line_text y l) (entered y l) page page' l'
    → StillTelling first ys l₀ q (drop (size_out (get_or b 0 0)) b) page' l'
less-telling y t h p w =
    still_telling (less-saying y (still_saying t) h p (saying w)) (w.wrote.same_reference ∙ t.text.same_reference)

pub none_telling : {first : Page} {ys : List Line} {l₀ : List ℕ} {q : Input} {b : List ℕ} {page : Page} {l : List ℕ} {most : ℕ}
    → StillTelling first ys l₀ q b page l → length b ≤ 0 → length (shown first).spare ≤ length (shown page).spare + most → TellingOf most ys first page l₀ l
none_telling t h f =
    let said = none_saying (still_saying t) h f in
    record { wrote = put_added said.wrote t.text.same_reference; entered = said.entered }

-- ---- a call

text_append : (xs ys : List Line) (l : List ℕ) → all_text (xs ++ ys) l ≡ all_text xs l ++ all_text ys (entered_all xs l)
unfolding all_text entered_all
text_append [] ys l = refl
text_append (x ∷ xs) ys l =
    ap (λ (t : List ℕ). line_text x l ++ t) (text_append xs ys (entered x l))
    ∙ sym (append_assoc (line_text x l) (all_text xs (entered x l)) (all_text ys (entered_all xs (entered x l))))

-- some lines were told, and others behind them
pub lines-said : {first second third : Shown} {l₁ l₂ : List ℕ} {m n : ℕ} (l₀ : List ℕ) (xs ys : List Line)
    → SayingOf m xs first second l₀ l₁ → SayingOf n ys second third l₁ l₂
    → SayingOf (m + n) (xs ++ ys) first third l₀ l₂
lines-said l₀ xs ys a b =
    rw (text_append xs ys l₀, entered_append xs ys l₀, ← a.entered) (record { wrote = added_then a.wrote b.wrote; entered = b.entered })

pub lines-told : {first second third : Page} {l₁ l₂ : List ℕ} {m n : ℕ} (l₀ : List ℕ) (xs ys : List Line)
    → TellingOf m xs first second l₀ l₁ → TellingOf n ys second third l₁ l₂
    → TellingOf (m + n) (xs ++ ys) first third l₀ l₂
lines-told l₀ xs ys a b =
    let said = lines-said l₀ xs ys (saying a) (saying b) in
    record { wrote = put_added said.wrote (b.wrote.same_reference ∙ a.wrote.same_reference); entered = said.entered }

-- where a stream was opened, its line alone
pub opened_text : (t : ℕ) (l : List ℕ) → (t ≡ 0 → ⊥) → all_text (opening_lines t) l ≡ line_text (Began (t - 1)) l
unfolding all_text
opened_text zero l h = absurd (h refl)
opened_text (suc i) l h =
    let e : suc i - 1 ≡ i = omega arith in
    append-nil (line_text (Began i) l) ∙ ap (λ (k : ℕ). line_text (Began k) l) (sym e)

pub opened_register : (t : ℕ) (l : List ℕ) → (t ≡ 0 → ⊥) → entered_all (opening_lines t) l ≡ entered (Began (t - 1)) l
unfolding entered_all
opened_register zero l h = absurd (h refl)
opened_register (suc i) l h =
    let e : suc i - 1 ≡ i = omega arith in
    ap (λ (k : ℕ). entered (Began k) l) (sym e)
