-- What passes the check is good and is what its slots and cells show; what is good, written out, passes the check.
use mathlib.Core.Path.{◌≡◌, refl, ap, ap₂, ◌∙◌}
use mathlib.Core.Bool.{Bool, true, false, not}
use mathlib.Core.Logic.{inl, inr, ◌≢◌}
use mathlib.Core.List.{List}
use Prim.Native.Nat.{ℕ, ◌*◌, ◌^◌, ◌≤◌}
use native.Mathlib.Omega.{arith}
use lib.Dec.{T, ltb, eqb, eqb→eq, nltb→le}
use borrow.Author.Tests.{le-ltb, eq-eqb, ne_eqb}
use lib.ListN.{length}
use Rattle.std.proofs.Common.{if◌then◌else◌}
use Rattle.lists.proofs.Tests.{neqb→ne, is_true}
use Rattle.slots.specs.Segments.{keys, live, height_of, segments_of, render}
use Rattle.slots.specs.Orders.{order_of, is_kept}
use Rattle.slots.proofs.HeightLaws.{height-is, height-cases}
use Rattle.slots.proofs.Orders.{Ordered, Solid, kept→}
use Rattle.slots.proofs.Render.{keys-segments, length-segments, sizes-segments, listed-segments, render-segments, length-render, live-render, segments-render, kept-render}
use Rattle.levels.specs.Tables.{table_of}
use Rattle.forecast.specs.declared.Forecast.{Forecast}
use Rattle.forecast.specs.Cells.{used_cells, forecast_of}
use Rattle.forecast.specs.Faults.{fault_of, is_sound}
use Rattle.forecast.proofs.Laws.{used-forecast_of}
use Rattle.forecast.proofs.Faults.{sound-ruled, sound-whole, ruled-sound}
use Rattle.rules.specs.Profiles.{is_profile, profile_of}
use Rattle.rules.specs.Shares.{shares, capacity, cells_of}
use Rattle.rules.specs.Placing.{Room}
use Rattle.rules.specs.Lent.{right_table}
use Rattle.rules.specs.Checks.{shares_of, then_forecast, check_list, check_both}
use Rattle.rules.specs.Calls.{room_of}
use Rattle.forecast.specs.Tidy.{Roomy}
use Rattle.rules.specs.Readings.{Proper}
use Rattle.demands.proofs.Requests.StaysGood.{Good}

-- WHAT PASSES
pub record Passed (profile : ℕ) (slots : List ℕ) : Type 0 where
  pub known : T (is_profile profile)
  pub from : 1 ≤ height_of (length slots)
  pub to : height_of (length slots) ≤ 6
  pub number : length slots ≡ 64 * 2 ^ height_of (length slots)
  pub ordered : Ordered slots
  pub solid : Solid slots
  pub room : length (live slots) ≤ capacity (shares_of profile slots)

pub passed : (profile : ℕ) (slots : List ℕ) → check_list profile slots ≡ 0 → Passed profile slots
unfolding check_list
passed profile slots e =
    go (is_profile profile) refl (eqb (height_of (length slots)) 0) (neqb→ne (height_of (length slots)) 0) (is_kept (order_of slots)) (kept→ slots)
    (ltb (capacity (shares_of profile slots)) (length (live slots))) (nltb→le _ _) e
  where
    go : (n : Bool) → is_profile profile ≡ n → (a : Bool) → (T (not a) → height_of (length slots) ≢ 0) → (b : Bool) → (T b → Ordered slots × Solid slots)
        → (c : Bool) → (T (not c) → length (live slots) ≤ capacity (shares_of profile slots)) → ◌≡◌ {A = ℕ} (if not n then 15 else if a then 1 else if not b then 2 else if c then 3 else 0) 0 → Passed profile slots
    go false k a p b q c r e = absurd (omega arith)
    go true k true p b q c r e = absurd (omega arith)
    go true k false p false q c r e = absurd (omega arith)
    go true k false p true q true r e = absurd (omega arith)
    go true k false p true q false r e =
        elim (height-cases (length slots)) [
          | inl z ↦ absurd (p tt z.0)
          | inr z ↦ record { known = rw k tt; from = z.0; to = z.1; number = z.2; ordered = (q tt).0; solid = (q tt).1; room = r tt }
        ]

-- then the forecast: n is the number by the tests before
module _ (n profile : ℕ) (slots : List ℕ) (F : Forecast) where
  pub forecast-stays : n ≢ 0 → then_forecast n profile slots F ≡ n
  unfolding then_forecast
  forecast-stays e = rw (ne_eqb n 0 e)

  pub forecast-wrong : n ≡ 0 → is_sound (fault_of (cells_of (shares_of profile slots)) (segments_of slots) F) ≡ false → then_forecast n profile slots F ≡ 4
  unfolding then_forecast
  forecast-wrong e w = rw (eq-eqb n 0 e, w)

  pub forecast-passes : n ≡ 0 → is_sound (fault_of (cells_of (shares_of profile slots)) (segments_of slots) F) ≡ true → then_forecast n profile slots F ≡ 0
  unfolding then_forecast
  forecast-passes e r = rw (eq-eqb n 0 e, r)

  pub forecast-passed : then_forecast n profile slots F ≡ 0 → (n ≡ 0) × T (is_sound (fault_of (cells_of (shares_of profile slots)) (segments_of slots) F))
  unfolding then_forecast
  forecast-passed e = go (eqb n 0) (eqb→eq _ _) (neqb→ne _ _) (is_sound (fault_of (cells_of (shares_of profile slots)) (segments_of slots) F)) e
    where
      go : (a : Bool) → (T a → n ≡ 0) → (T (not a) → n ≢ 0) → (b : Bool) → ◌≡◌ {A = ℕ} (if not a then n else if not b then 4 else 0) 0 → (n ≡ 0) × T b
      go true p q true e = (p tt, tt)
      go true p q false e = absurd (omega arith)
      go false p q b e = absurd (q tt e)

-- list and forecast
pub both-pass : (profile : ℕ) (slots : List ℕ) (F : Forecast) → check_both profile slots F ≡ 0 → (check_list profile slots ≡ 0) × T (is_sound (fault_of (cells_of (shares_of profile slots)) (segments_of slots) F))
unfolding check_both
both-pass profile slots F e = forecast-passed (check_list profile slots) profile slots F e

pub list-passes : (profile : ℕ) (slots : List ℕ) (F : Forecast) → check_both profile slots F ≡ 0 → check_list profile slots ≡ 0
list-passes profile slots F e = (both-pass profile slots F e).0

module _ (profile : ℕ) (slots : List ℕ) (P : Passed profile slots) where
  pub proper-segments : Proper (shares_of profile slots) (segments_of slots)
  proper-segments = record {
    size = length-segments slots (2 ^ height_of (length slots)) P.number;
    listed = listed-segments slots (2 ^ height_of (length slots)) P.number P.ordered;
  }

  pub keys-shown : keys (segments_of slots) ≡ live slots
  keys-shown = keys-segments slots (2 ^ height_of (length slots)) P.number

  pub slots-rendered : render 0 (segments_of slots) ≡ slots
  slots-rendered = render-segments slots (2 ^ height_of (length slots)) P.number P.solid

module _ (profile : ℕ) (slots : List ℕ) (F : Forecast) (e : check_both profile slots F ≡ 0) where
  pub checked : (1 ≤ height_of (length slots)) × (height_of (length slots) ≤ 6) × Good (shares_of profile slots) (room_of slots F)
  checked = (
    (passed profile slots (both-pass profile slots F e).0).from,
    (passed profile slots (both-pass profile slots F e).0).to,
    record {
      proper = proper-segments profile slots p;
      sizes = sizes-segments slots (2 ^ height_of (length slots)) p.number;
      room = rw (keys-shown profile slots p) p.room;
      ruled = (sound-ruled (cells_of (shares_of profile slots)) (segments_of slots) F (both-pass profile slots F e).1).0;
      placed = (sound-ruled (cells_of (shares_of profile slots)) (segments_of slots) F (both-pass profile slots F e).1).1;
    },
  )
    where
      p : Passed profile slots
      p = passed profile slots (both-pass profile slots F e).0

  pub checked-known : T (is_profile profile)
  checked-known = (passed profile slots (both-pass profile slots F e).0).known

  pub slots-shown : render 0 (segments_of slots) ≡ slots
  slots-shown = slots-rendered profile slots (passed profile slots (both-pass profile slots F e).0)

  pub forecast-shown : Roomy F → forecast_of (used_cells F) ≡ F
  forecast-shown r =
      sound-whole (cells_of (shares_of profile slots)) (segments_of slots) F (both-pass profile slots F e).1 r (omega (arith, (passed profile slots (both-pass profile slots F e).0).to))

-- WHAT IS GOOD
module _ (profile : ℕ) (known : T (is_profile profile)) (h : ℕ) (from : 1 ≤ h) (to : h ≤ 6) (R : Room) (G : Good (shares (profile_of profile) h) R) where
  pub length-good : length (render 0 R.segments) ≡ 64 * 2 ^ h
  length-good = length-render 0 R.segments G.sizes ∙ ap (λ (n : ℕ). 64 * n) G.proper.size

  pub height-render : height_of (length (render 0 R.segments)) ≡ h
  height-render = ap height_of length-good ∙ height-is h from to

  -- its right table is that of its segments
  pub table-render : right_table (render 0 R.segments) ≡ table_of h R.segments
  table-render = ap₂ {C = List ℕ} table_of height-render (segments-render R.segments G.sizes G.proper.listed.live)

  pub room-render : room_of (render 0 R.segments) (forecast_of R.cells) ≡ R
  room-render = λ i. record {
    segments = segments-render R.segments G.sizes G.proper.listed.live i;
    cells = used-forecast_of R.cells i;
  }

  pub list-render : check_list profile (render 0 R.segments) ≡ 0
  unfolding check_list
  list-render =
      rw (
        is_true (is_profile profile) known,
        height-render,
        ne_eqb h 0 (λ e. absurd (omega arith)),
        is_true (is_kept (order_of (render 0 R.segments))) (kept-render R.segments G.sizes G.proper.listed),
        live-render R.segments G.proper.listed.live,
        le-ltb (capacity (shares (profile_of profile) h)) (length (keys R.segments)) G.room,
      ) refl

  pub check-render : check_both profile (render 0 R.segments) (forecast_of R.cells) ≡ 0
  unfolding check_both
  check-render =
      forecast-passes (check_list profile (render 0 R.segments)) profile (render 0 R.segments) (forecast_of R.cells) list-render
      (rw (height-render, segments-render R.segments G.sizes G.proper.listed.live)
      (is_true (is_sound (fault_of (cells_of (shares (profile_of profile) h)) R.segments (forecast_of R.cells)))
      (ruled-sound (cells_of (shares (profile_of profile) h)) R.segments R.cells (omega arith) G.ruled G.placed)))
