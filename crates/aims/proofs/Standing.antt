-- What is known of a list and forecast that pass the check: the rules' own statements of it, and the bounds that code needs.
use mathlib.Core.Path.{◌≡◌, ap, ap₂, ◌∙◌, subst}
use mathlib.Core.List.{List, []}
use Prim.Native.Nat.{ℕ, ◌*◌, ◌^◌, ◌≤◌, ◌<◌}
use native.Mathlib.Nat.{pow-le-pow_right}
use native.Mathlib.Omega.{arith}
use lib.ListN.{length, get_or}
use Rattle.lists.proofs.Filtered.{only-length}
use Rattle.slots.specs.Segments.{is_key, keys, segments_of}
use Rattle.slots.specs.Shown.{Shows}
use Rattle.levels.specs.Tables.{table_of}
use Rattle.levels.proofs.Tables.{same-height}
use Rattle.seats.specs.Bounds.{Indexed}
use Rattle.seats.proofs.Indexes.{keys-few}
use Rattle.forecast.specs.declared.Forecast.{Forecast}
use Rattle.forecast.specs.Cells.{used_cells}
use Rattle.forecast.specs.Tidy.{Tidy, Roomy}
use Rattle.forecast.proofs.Became.{is-became}
use Rattle.rules.specs.Shares.{Shares, Lawful, shares}
use Rattle.rules.specs.Profiles.{number_of}
use Rattle.rules.specs.Checks.{check_list}
use Rattle.rules.specs.Calls.{room_of}
use Rattle.rules.proofs.Sharing.Table.{lawful}
use Rattle.rules.proofs.Sharing.Profiles.{profile-named}
use Rattle.demands.proofs.Requests.StaysGood.{Good}
use Rattle.demands.proofs.Requests.Checked.{Passed, passed, list-passes, checked, keys-shown, forecast-shown}
use Rattle.demands.proofs.Requests.Shown.{shows-passed}
use Rattle.shares.specs.declared.Shape.{Shape}
use Rattle.shares.specs.Rows.{shares_at, Fetched}
use Rattle.climbs.specs.Climbs.{Tabled}
use Rattle.aims.specs.Aims.{Known, Stands}

module _ {slots : List ℕ} {F : Forecast} {k : Shape} {n : ℕ} (s : Stands slots F k n) where
  -- the number of its profile
  abbrev number : ℕ
  number = number_of k.profile

  list-stands : check_list number slots ≡ 0
  list-stands = list-passes number slots F s.passes

  passed-stands : Passed number slots
  passed-stands = passed number slots list-stands

  -- the height is from 1 to 6
  pub height-stands : (1 ≤ k.height) × (k.height ≤ 6)
  height-stands = (omega (arith, passed-stands.from, s.height), omega (arith, passed-stands.to, s.height))

  pub lawful-stands : Lawful (shares_at k)
  lawful-stands = lawful k.profile k.height height-stands.0 height-stands.1

  -- the list with its forecast is good, and the slots show their segments
  pub good-stands : Good (shares_at k) (room_of slots F)
  good-stands =
      subst (λ (S : Shares). Good S (room_of slots F)) (ap₂ {C = Shares} shares (profile-named k.profile) s.height) (checked number slots F s.passes).2

  pub shows-stands : Shows (segments_of slots) slots
  shows-stands = shows-passed number slots list-stands

  pub segments-stand : length (segments_of slots) ≡ 2 ^ k.height
  segments-stand = good-stands.proper.size

  -- 64 slots for each, at most 64 segments
  pub long-stands : length slots ≡ 64 * 2 ^ k.height
  long-stands = passed-stands.number ∙ ap (λ (h : ℕ). 64 * 2 ^ h) s.height

  pub small-stands : length slots ≤ 4096
  small-stands = omega (arith, long-stands, pow-le-pow_right {n = 2} (omega arith) {i = k.height} {j = 6} height-stands.1)

  -- and n keys
  pub keys-stand : length (keys (segments_of slots)) ≡ n
  keys-stand = ap length (keys-shown number slots passed-stands) ∙ s.many

  pub few-stands : n ≤ 4096
  few-stands = omega (arith, s.many, only-length is_key slots, small-stands)

  -- the forecast has room for its cells, and is tidy
  pub cells-stand : length (used_cells F) ≤ 12
  cells-stand = omega (arith, good-stands.ruled.few, height-stands)

  pub tidy-stands : Roomy F → Tidy F
  tidy-stands r = subst Tidy (forecast-shown number slots F s.passes r) (is-became (used_cells F) cells-stand).tidy

-- THE TABLE, by the height of the shape
pub right-stands : {slots bounds table : List ℕ} {F : Forecast} {k : Shape} {n : ℕ} → Stands slots F k n → Indexed (segments_of slots) slots bounds table
    → table ≡ table_of k.height (segments_of slots)
right-stands {slots = slots} {k = k} s ix =
    ix.right ∙ ap (λ (h : ℕ). table_of h (segments_of slots)) (same-height (length (segments_of slots)) ix.height k.height ix.size (segments-stand s))

-- WHAT A CLIMB ASKS for, of a segment of the list and the keys that it gets and loses
pub climb-asks : {slots bounds table : List ℕ} {k : Shape} {n : ℕ} → Known slots bounds table k n → {seg grown gone : ℕ} → seg < length (segments_of slots)
    → gone ≤ length (get_or (segments_of slots) seg []) → grown ≤ 1
    → (1 ≤ k.height) × (k.height ≤ 6) × (seg < 2 ^ k.height) × Fetched (shares_at k) k × Tabled k.height seg gone table × (grown ≤ 1)
climb-asks {slots} K h m g =
    let size = segments-stand K.stands in
    let high = height-stands K.stands in (
      high.0,
      high.1,
      omega (arith, size),
      K.stands.shape,
      record { segments = segments_of slots; size = size; few = keys-few K.index; right = right-stands K.stands K.index; there = m },
      g,
    )
