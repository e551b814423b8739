-- Laws of what pages show, and of pages: bytes behind others are put as one, by any name, and of no more than as many as are known. What
-- holds of what is shown holds of pages over the same lent bytes.
use Prim.Native.Nat.{ℕ, ◌+◌, ◌≤◌}
use native.Mathlib.Omega.{arith}
use mathlib.Core.Path.{◌≡◌, refl, sym, ap, ◌∙◌}
use mathlib.Core.List.{List, [], ◌++◌, append_assoc, append-nil}
use lib.ListN.{length, drop, length-append}
use lib.Seq.{drop-drop}
use Rattle.text.specs.Page.{Shown, shown, put, Added, Put}
use Rattle.text.specs.declared.Page.{Page}

pub put_nothing : (p : Shown) → put p [] ≡ p
put_nothing p i = record { text = append-nil p.text i; spare = p.spare }

pub put_join : (p : Shown) (a b : List ℕ) → put (put p a) b ≡ put p (a ++ b)
put_join p a b i = record {
  text = append_assoc p.text a b i;
  spare = (drop-drop (length b) (length a) p.spare ∙ ap (λ (n : ℕ). drop n p.spare) (sym (length-append a b))) i;
}

-- ---- what is shown

pub none_added : (most : ℕ) (p : Shown) → Added most [] p p
none_added most p = record { few = omega arith; ends = omega arith; stands = sym (put_nothing p) }

pub added_then : {x y z : Shown} {a b : List ℕ} {most more : ℕ} → Added most a x y → Added more b y z → Added (most + more) (a ++ b) x z
added_then {x} {a = a} {b} p q = record {
  few = omega (arith, p.few, q.few);
  ends = omega (arith, p.ends, q.ends, length-append a b);
  stands = q.stands ∙ ap (λ (y : Shown). put y b) p.stands ∙ put_join x a b;
}

pub added_as : {x y : Shown} {a b : List ℕ} {most : ℕ} → a ≡ b → Added most a x y → Added most b x y
added_as e p = rw e at p

pub added-more : {x y : Shown} {a : List ℕ} {most more : ℕ} → most ≤ more → Added most a x y → Added more a x y
added-more h p = record { few = omega (arith, p.few); ends = p.ends; stands = p.stands }

-- ---- pages

pub added : {x y : Page} {a : List ℕ} {most : ℕ} → Put most a x y → Added most a (shown x) (shown y)
added p = record { few = p.few; ends = p.ends; stands = p.stands }

pub put_added : {x y : Page} {a : List ℕ} {most : ℕ} → Added most a (shown x) (shown y) → y.bytes.ghost_name ≡ x.bytes.ghost_name → Put most a x y
put_added p same = record { few = p.few; ends = p.ends; stands = p.stands; same_reference = same }

pub none_put : (most : ℕ) (p : Page) → Put most [] p p
none_put most p = put_added (none_added most (shown p)) refl

pub put_then : {x y z : Page} {a b : List ℕ} {most more : ℕ} → Put most a x y → Put more b y z → Put (most + more) (a ++ b) x z
put_then p q = put_added (added_then (added p) (added q)) (q.same_reference ∙ p.same_reference)

pub put_as : {x y : Page} {a b : List ℕ} {most : ℕ} → a ≡ b → Put most a x y → Put most b x y
put_as e p = rw e at p

pub put-more : {x y : Page} {a : List ℕ} {most more : ℕ} → most ≤ more → Put most a x y → Put more a x y
put-more h p = put_added (added-more h (added p)) p.same_reference

-- ---- a text that is put piece by piece

-- what is still to come leads, from what is shown, to the same as the whole did
pub record Leads (first : Shown) (whole : List ℕ) (page : Shown) (rest : List ℕ) : Type 0 where
  pub end : length first.spare + length rest ≡ length page.spare + length whole
  pub text : put first whole ≡ put page rest

pub all_leads : (p : Shown) (whole : List ℕ) → Leads p whole p whole
all_leads p whole = record { end = refl; text = refl }

-- a piece was added
pub less_leads : {first p q : Shown} {whole all : List ℕ} {most : ℕ} (a rest : List ℕ) → Leads first whole p all → all ≡ a ++ rest → Added most a p q
    → Leads first whole q rest
less_leads {p = p} a rest w e h = record {
  end = omega (arith, w.end, ap length e, length-append a rest, h.ends);
  text = w.text ∙ ap (put p) e ∙ sym (put_join p a rest) ∙ ap (λ (q : Shown). put q rest) (sym h.stands);
}

-- nothing is to come
pub all_added : {first p : Shown} {whole rest : List ℕ} {most : ℕ} → length first.spare ≤ length p.spare + most → Leads first whole p rest → rest ≡ []
    → Added most whole first p
all_added {p = p} h w e = record {
  few = h;
  ends = omega (arith, w.end, ap length e);
  stands = sym (w.text ∙ ap (put p) e ∙ put_nothing p);
}

-- the same of a page
pub record ToCome (first : Page) (whole : List ℕ) (page : Page) (rest : List ℕ) : Type 0 where
  pub end : length (shown first).spare + length rest ≡ length (shown page).spare + length whole
  pub text : put (shown first) whole ≡ put (shown page) rest
  pub same_reference : page.bytes.ghost_name ≡ first.bytes.ghost_name

pub leads : {first p : Page} {whole rest : List ℕ} → ToCome first whole p rest → Leads (shown first) whole (shown p) rest
leads w = record { end = w.end; text = w.text }

pub leads_to_come : {first p : Page} {whole rest : List ℕ} → Leads (shown first) whole (shown p) rest → p.bytes.ghost_name ≡ first.bytes.ghost_name
    → ToCome first whole p rest
leads_to_come w same = record { end = w.end; text = w.text; same_reference = same }

pub all_to_come : (p : Page) (whole : List ℕ) → ToCome p whole p whole
all_to_come p whole = leads_to_come (all_leads (shown p) whole) refl

pub less_to_come : {first p q : Page} {whole all : List ℕ} {most : ℕ} (a rest : List ℕ) → ToCome first whole p all → all ≡ a ++ rest → Put most a p q
    → ToCome first whole q rest
less_to_come a rest w e h = leads_to_come (less_leads a rest (leads w) e (added h)) (h.same_reference ∙ w.same_reference)

pub all_put : {first p : Page} {whole rest : List ℕ} {most : ℕ} → length (shown first).spare ≤ length (shown p).spare + most
    → ToCome first whole p rest → rest ≡ [] → Put most whole first p
all_put h w e = put_added (all_added h (leads w) e) w.same_reference
