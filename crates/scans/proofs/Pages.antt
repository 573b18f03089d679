-- Keys or cards written into a lent output, stretch by stretch: what is known between two stretches, and where the writing ends.
use mathlib.Core.Path.{◌≡◌, sym, ap, ap₂, ◌∙◌}
use mathlib.Core.Bool.{Bool, true, false}
use mathlib.Core.List.{List, [], ◌++◌, map, map-append}
use Prim.Native.Nat.{ℕ, min, ◌+◌, ◌≤◌, ◌<◌}
use native.Mathlib.Decide.{dec_lt}
use native.Mathlib.Omega.{arith}
use borrow.Author.Tests.{lt-ltb, le-ltb}
use lib.ListN.{length, take, drop, length-append, length-drop, length-map}
use lib.Seq.{paste, take_all, take_at, drop_at, take-append-le, drop-append-add, take-take, take-add, drop-drop, length-take-le}
use Rattle.std.proofs.Common.{if◌then◌else◌}
use Rattle.lists.proofs.Maps.{map-take}
use Rattle.gaps.proofs.Natural.{part-kept}
use Rattle.scans.specs.declared.Written.{Written}
use Rattle.scans.specs.Scans.{Wrote, shorter, cards_over}

-- w of the keys ks are written into out, which is now left, and the others are a stretch and the later ones
pub record Halfway (ks out left : List ℕ) (w : ℕ) (stretch later : List ℕ) : Type 0 where
  pub few : w ≤ length ks
  pub rest : drop w ks ≡ stretch ++ later
  pub output : left ≡ take w ks ++ drop w out

-- the later keys begin with a stretch
pub halfway-later : {ks out left later : List ℕ} {w : ℕ} → Halfway ks out left w [] later → (stretch rest : List ℕ) → later ≡ stretch ++ rest → Halfway ks out left w stretch rest
halfway-later h stretch rest e = record { few = h.few; rest = h.rest ∙ e; output = h.output }

module _ (ks out left later src : List ℕ) (w n : ℕ) (h : Halfway ks out left w (take n src) later) (l : n ≤ length src) where
  enough : w + n ≤ length ks
  enough =
      omega (arith, h.few, length-drop w ks, ap length h.rest, length-append (take n src) later, length-take-le n src l)

  -- j keys of the stretch are copied
  copied : (j : ℕ) → j ≤ n → paste left w src j ≡ take (w + j) ks ++ drop (w + j) out
  copied j k =
      let long : length (take w ks) ≡ w = length-take-le w ks h.few in
      let first : take w left ≡ take w ks = ap (take w) h.output ∙ take_at (take w ks) (drop w out) w long in
      let next : take j src ≡ take j (drop w ks) =
      sym (take-take j n src k) ∙ sym (take-append-le j (take n src) later (omega (arith, length-take-le n src l))) ∙ ap (take j) (sym h.rest) in
      let last : drop (w + j) left ≡ drop (w + j) out =
      ap (drop (w + j)) h.output ∙ ap (λ (m : ℕ). drop (m + j) (take w ks ++ drop w out)) (sym long) ∙ drop-append-add (take w ks) (drop w out) j ∙ drop-drop j w out in
      ap₂ {C = List ℕ} (λ p q. p ++ q) (ap₂ {C = List ℕ} (λ p q. p ++ q) first next ∙ sym (take-add w j ks)) last

  -- THE WHOLE STRETCH
  pub halfway-more : (left' : List ℕ) (j : ℕ) → j ≡ n → left' ≡ paste left w src j → Halfway ks out left' (w + j) [] later
  halfway-more left' j k e = record {
    few = omega (arith, enough);
    rest = sym (drop-drop j w ks) ∙ ap (drop j) h.rest ∙ drop_at (take n src) later j (length-take-le n src l ∙ sym k);
    output = e ∙ copied j (omega arith);
  }

  -- THE ROOM OF m IS FULL before the stretch ends
  pub page-full : (left' : List ℕ) (m room : ℕ) → w + room ≡ m → room < n → left' ≡ paste left w src room → Wrote m ks out (record { keys = w + room; more = true }) left'
  page-full left' m room e k q =
      let long : length (take m ks) ≡ m = length-take-le m ks (omega (arith, enough)) in
      record {
        written = e ∙ sym long;
        more = sym (lt-ltb (length (take m ks)) (length ks) (omega (arith, enough)));
        output = q ∙ copied room (omega arith) ∙ ap₂ {C = List ℕ} (λ i j. take i ks ++ drop j out) e (e ∙ sym long);
      }

-- NO KEY IS LEFT
pub page-ended : {ks out left later : List ℕ} {w : ℕ} (m : ℕ) → Halfway ks out left w [] later → later ≡ [] → w ≤ m → Wrote m ks out (record { keys = w; more = false }) left
page-ended {ks} {out} {left} {later} {w} m h e k =
    let all : w ≡ length ks = omega (arith, h.few, length-drop w ks, ap length (h.rest ∙ e)) in
    let page : take m ks ≡ ks = take_all m ks (omega arith) in
    let long : length (take m ks) ≡ length ks = ap length page in
    record {
      written = all ∙ sym long;
      more = sym (le-ltb (length (take m ks)) (length ks) (omega arith));
      output = h.output ∙ ap₂ {C = List ℕ} (λ p j. p ++ drop j out) (take_all w ks (omega arith) ∙ sym page) (all ∙ sym long);
    }

-- the room, as the code finds it
pub min-shorter : (a b : ℕ) → min a b ≡ shorter a b
min-shorter a b =
    elim (dec_lt a b) [
      | yes h ↦
          let e : min a b ≡ a = omega arith in
          e ∙ sym (ap (λ (t : Bool). if t then a else b) (lt-ltb a b h))
      | no h ↦
          let k : b ≤ a = omega arith in
          let e : min a b ≡ b = omega arith in
          e ∙ sym (ap (λ (t : Bool). if t then a else b) (le-ltb a b k))
    ]

-- THE CARDS of the keys ks are written in the same way
pub cards-written : (f : ℕ → ℕ) {n : ℕ} (ks : List ℕ) {out left : List ℕ} {r : Written} → Wrote n (map f ks) out r left → left ≡ cards_over f (take n ks) out
cards-written f {n} ks {out} h =
    let e : take n (map f ks) ≡ map f (take n ks) = sym (map-take f n ks) in
    h.output ∙ ap₂ {C = List ℕ} (λ p j. p ++ drop j out) e (ap length e ∙ length-map (take n ks) f)

pub cards-stretch : (f : ℕ → ℕ) (slots : List ℕ) {cards : List ℕ} → cards ≡ map f slots → (ks later : List ℕ) (n a : ℕ) → ks ≡ take n (drop a slots) ++ later
    → map f ks ≡ take n (drop a cards) ++ map f later
cards-stretch f slots h ks later n a e =
    ap (map f) e ∙ map-append f (take n (drop a slots)) later ∙ ap (λ (p : List ℕ). p ++ map f later) (sym (part-kept f slots h a n))
