-- The table, where nothing was found before it: by the counts of the segments it is right, or refused by 14.
use Rattle.std.proofs.Common.{Ok}
use mathlib.Core.Path.{◌≡◌, refl, sym, ◌∙◌}
use mathlib.Core.Bool.{Bool, true, false}
use mathlib.Core.List.{List, []}
use Prim.Native.Nat.{ℕ, ◌/◌, ◌^◌, ◌≤◌, ◌<◌}
use native.Mathlib.Nat.{pow-le-pow_right}
use native.Mathlib.Omega.{arith}
use lib.Dec.{T}
use lib.ListN.{length, get_or}
use Rattle.lists.proofs.Members.{at_mem}
use Rattle.slots.specs.Segments.{Segments, height_of, segments_of}
use Rattle.slots.specs.Shown.{CountsOf}
use Rattle.slots.proofs.Windows.{pow_pos}
use Rattle.slots.proofs.Render.{sizes-segments}
use Rattle.levels.specs.Tables.{table_of, same}
use Rattle.levels.proofs.Same.{same→eq}
use Rattle.judging.specs.Answers.{Answers}
use Rattle.forecast.specs.declared.Forecast.{Forecast}
use Rattle.rules.specs.declared.Refusal.TheVariants.{WrongTable}
use Rattle.rules.specs.Refusals.{refusal_number}
use Rattle.rules.specs.Lent.{Lent, lend, right_table}
use Rattle.rules.specs.Checks.{check_cards, then_forecast, then_table, check_list}
use Rattle.demands.proofs.Requests.Checked.{Passed, passed, proper-segments, forecast-passed}
use Rattle.demands.proofs.Requests.CardsChecked.{cards-tested}
use Rattle.demands.proofs.Requests.Tabled.{table-wrong, table-passes}
use Rattle.checks.specs.declared.Listing.{Listing}
use Rattle.checks.specs.Listings.{Looked, Counting}

module _
    (profile : ℕ) (slots table : List ℕ) (m n : ℕ) (l : Listing) (counts : List ℕ) (look : Looked profile slots m (Ok l)) (list : m ≡ 0 → check_list profile slots ≡ 0) (e : n ≡ length slots / 64)
    (counting : Counting slots (Ok l) counts)
  where
    none : m ≡ 0
    none = sym look.0

    p : Passed profile slots
    p = passed profile slots (list none)

    size : n ≡ 2 ^ height_of (length slots)
    size = omega (arith, e, p.number)

    many : length (segments_of slots) ≡ n
    many = (proper-segments profile slots p).size ∙ sym size

    -- what the test of the table asks
    pub table-asks : (1 ≤ n) × (n ≤ 64) × (n ≤ length counts) × ((k : ℕ) → k < n → get_or counts k 0 ≤ 64)
    table-asks =
        let top : 2 ^ height_of (length slots) ≤ 2 ^ 6 = pow-le-pow_right {n = 2} (omega arith) {i = height_of (length slots)} {j = 6} p.to in
        let most : 2 ^ height_of (length slots) ≤ 64 = top in (
          omega (arith, size, pow_pos (height_of (length slots))),
          omega (arith, size, most),
          omega (arith, size, most, counting.long),
          λ k h. let q : k < length (segments_of slots) = omega (arith, many) in
              omega (arith, counting.each k q, sizes-segments slots (2 ^ height_of (length slots)) p.number (get_or (segments_of slots) k []) (at_mem (segments_of slots) k [] q)),
        )

    -- what it tells, whatever the cards
    module _ (cards : List ℕ) (b : Bool) (tells : (h : ℕ) (ss : Segments) → n ≡ 2 ^ h → length ss ≡ n → CountsOf ss counts → Answers (table ≡ table_of h ss) b) where
      answers : Answers (table ≡ right_table slots) b
      answers = tells (height_of (length slots)) (segments_of slots) size many counting.each

      pub right-looked : b ≡ true → Looked profile slots (then_table m (lend slots cards table)) (Ok l)
      right-looked t = (sym (table-passes m (lend slots cards table) none (answers.yes (rw t tt))), look.1)

      pub wrong-looked : b ≡ false → refusal_number WrongTable ≡ then_table m (lend slots cards table)
      wrong-looked f =
          sym
          (table-wrong m (lend slots cards table) none (differ (same table (right_table slots)) (same→eq table (right_table slots))))
        where
          differ : (c : Bool) → (T c → table ≡ right_table slots) → c ≡ false
          differ false h = refl
          differ true h = absurd (rw f at (answers.no (h tt)))

-- AFTER ALL THE TESTS, without a forecast and with one: where the tests before pass, the list does
module _ (profile : ℕ) (L : Lent) where
  pub cards-list : check_cards profile L ≡ 0 → check_list profile L.slots ≡ 0
  cards-list e = (cards-tested profile L e).0

  pub both-list : (F : Forecast) → then_forecast (check_cards profile L) profile L.slots F ≡ 0 → check_list profile L.slots ≡ 0
  both-list F e = cards-list (forecast-passed (check_cards profile L) profile L.slots F e).0
