-- Bytes put on a page: what fits, what does not, and one step behind another. Assumes nothing.
use Prim.Native.Nat.{ℕ, suc, ◌+◌, ◌-◌, ◌≤◌, ◌<◌, ◌/◌, ◌%◌}
use mathlib.Core.Path.{◌≡◌, refl, sym, ap, ◌∙◌, subst}
use mathlib.Core.List.{List, [], ◌∷◌, ◌++◌, append_assoc, map}
use native.Mathlib.Nat.{add-zero}
use native.Mathlib.Omega.{arith}
use borrow.Author.Tests.{lt-leb, lt-ltb, le-ltb}
use borrow.Rule.Slice.PartMut.{put_mid}
use lib.ListN.{length, length-append, set, take, drop, get_or, drop_of_length-le}
use lib.Seq.{sets, sets-eq, length-sets, drop-drop}
use Rattle.paper.specs.Canonical.{hex_letter, hex_onto}
use Rattle.text.proofs.Places.{here}
use Rattle.quoting.specs.declared.page.Page.{Page}
use Rattle.quoting.specs.Page.{page, full, filled, Step, Puts}

pub sets_append : (a b l : List ℕ) (i : ℕ) → sets l i (a ++ b) ≡ sets (sets l i a) (i + length a) b
sets_append [] b l i = rw add-zero
sets_append (x ∷ a) b l i =
    let e : suc i + length a ≡ i + suc (length a) = omega arith in
    sets_append a b (set l i x) (suc i) ∙ ap (λ (k : ℕ). sets (sets (set l i x) (suc i) a) k b) e

pub page_full : (out : List ℕ) (at : ℕ) (w : List ℕ) → length out < at + length w → page out at w ≡ full
unfolding page
page_full out at w h = rw (lt-leb (at + length w) (length out) h)

module _ (p q : Page) (w : List ℕ) (lies : q.out.ghost_name ≡ p.out.ghost_name) where
  -- nothing is put where there is no room, whatever follows
  pub no_room : length p.out.now < p.at + length w → length q.out.now < q.at → Puts p (λ next. w ++ next) q
  no_room h k =
      record {
        lies = lies;
        same = λ next.
            let a : length p.out.now < p.at + length (w ++ next) = simp length-append (omega arith) in
            let b : length q.out.now < q.at + length next = omega arith in
            page_full p.out.now p.at (w ++ next) a ∙ sym (page_full q.out.now q.at next b);
      }

  -- what is stored is put
  pub stored : q.out.now ≡ sets p.out.now p.at w → q.at ≡ p.at + length w → Puts p (λ next. w ++ next) q
  unfolding page
  stored e f =
      record {
        lies = lies;
        same = λ next.
            let n : p.at + length (w ++ next) ≡ q.at + length next = simp length-append (omega arith) in
            let l : length p.out.now ≡ length q.out.now = sym (ap length e ∙ length-sets p.out.now p.at w) in
            rw (n, l, sets_append w next p.out.now p.at, ← e, ← f);
      }

-- the same behind a test for room, which leaves the page as it is
pub stored_there : (p r q : Page) (w : List ℕ) → r ≡ p → q.out.ghost_name ≡ r.out.ghost_name → q.out.now ≡ sets r.out.now r.at w → q.at ≡ r.at + length w
    → Puts p (λ next. w ++ next) q
stored_there p r q w is lies e f = subst (λ (x : Page). Puts x (λ next. w ++ next) q) is (stored r q w lies e f)

-- a part that is written over is stored there
pub part_stored : (l w part : List ℕ) (at end : ℕ) → part ≡ w → end ≡ at + length w → at + length w ≤ length l → put_mid at (end - at) l part ≡ sets l at w
part_stored l w part at end is e h =
    let n : end - at ≡ length w = omega arith in
    rw (is, n) (ap (λ (x : List ℕ). take at l ++ (w ++ x)) (drop-drop (length w) at l) ∙ sym (append_assoc (take at l) w _) ∙ sym (sets-eq w l at h))

-- bytes stored one after another: one more, and all of them
module _ (f : ℕ → ℕ) (out part : List ℕ) (at i : ℕ) where
  pub stores_more : (b : ℕ) → i < length part → b ≡ f (get_or part i 0)
      → sets (set out (at + i) b) (at + (i + 1)) (map f (drop (i + 1) part)) ≡ sets out (at + i) (map f (drop i part))
  stores_more b h is =
      let e : at + (i + 1) ≡ suc (at + i) = omega arith in
      rw (is, here part i h, e)

  pub stores_end : length part ≤ i → sets out (at + i) (map f (drop i part)) ≡ out
  stores_end h = rw (drop_of_length-le part h)

-- ---- one step behind another

pub nothing : (p : Page) (f : List ℕ → List ℕ) → Step p f p f
nothing p f = record { lies = refl; same = λ next. refl }

pub puts_as : {p q : Page} {g h : List ℕ → List ℕ} (f : List ℕ → List ℕ) → ((next : List ℕ) → f next ≡ g next) → Step p g q h → Step p f q h
puts_as {p} f e s = record { lies = s.lies; same = λ next. ap (filled p) (e next) ∙ s.same next }

-- what is left is put, all of it or the front of it
pub step_as : {p q : Page} {f g h : List ℕ → List ℕ} → Step p f q g → ((next : List ℕ) → g next ≡ h next) → Step p f q h
step_as {q = q} s e = record { lies = s.lies; same = λ next. s.same next ∙ ap (filled q) (e next) }

pub step_then : {p q r : Page} {f g : List ℕ → List ℕ} (h k : List ℕ → List ℕ) → Step p f q g → ((next : List ℕ) → g next ≡ h (k next)) → Puts q h r → Step p f r k
step_then {q = q} h k s e t = record { lies = t.lies ∙ s.lies; same = λ next. s.same next ∙ ap (filled q) (e next) ∙ t.same (k next) }

pub puts_then : {p q r : Page} {k : List ℕ → List ℕ} (f g : List ℕ → List ℕ) → Puts p f q → Step q g r k → Step p (λ next. f (g next)) r k
puts_then f g s t = record { lies = t.lies ∙ s.lies; same = λ next. s.same (g next) ∙ t.same next }

-- put on a page that lies in the bytes of another and goes on where that does
pub puts_within : {p q first last : Page} {f : List ℕ → List ℕ} → first.out.now ≡ p.out.now → first.at ≡ p.at → Puts first f last
    → q.out.ghost_name ≡ p.out.ghost_name → (last.out.ghost_name ≡ first.out.ghost_name → q.out.now ≡ last.out.now) → q.at ≡ last.at → Puts p f q
puts_within {f = f} e a s lies g b = record { lies = lies; same = λ next. rw (← e, ← a, g s.lies, b) (s.same next) }

-- with more behind it, that is still left
pub ahead : {p q : Page} {f : List ℕ → List ℕ} (g : List ℕ → List ℕ) → Puts p f q → Step p (λ next. f (g next)) q g
ahead g s = record { lies = s.lies; same = λ next. s.same (g next) }

-- ---- a byte in hex, of one digit or of two

module _ (b : ℕ) where
  pub hex_one : b < 16 → (x : ℕ) → x ≡ hex_letter (b % 16) → {p q : Page} → Puts p (λ next. x ∷ next) q → Puts p (hex_onto b) q
  unfolding hex_onto
  hex_one s x e h =
      let z : b % 16 ≡ b = omega arith in
      puts_as _ (λ next. rw (lt-ltb b 16 s, e, z)) h

  pub hex_two : 16 ≤ b → (x y : ℕ) → x ≡ hex_letter (b / 16) → y ≡ hex_letter (b % 16) → {p q r : Page}
      → Puts p (λ next. x ∷ next) q → Puts q (λ next. y ∷ next) r → Puts p (hex_onto b) r
  unfolding hex_onto
  hex_two s x y e f h k = puts_as _ (λ next. rw (le-ltb b 16 s, e, f)) (puts_then (λ next. x ∷ next) (λ next. y ∷ next) h k)
