-- What is known of a list that passes the check of the list alone: it shows its segments, two or more.
use mathlib.Core.Path.{◌≡◌, sym}
use mathlib.Core.List.{List}
use Prim.Native.Nat.{ℕ, ◌^◌, ◌≤◌}
use native.Mathlib.Nat.{pow-le-pow_right}
use native.Mathlib.Omega.{arith}
use lib.ListN.{length}
use Rattle.slots.specs.Segments.{height_of, segments_of}
use Rattle.slots.specs.Shown.{Shows}
use Rattle.slots.proofs.Render.{sizes-segments}
use Rattle.rules.specs.Checks.{check_list}
use Rattle.demands.proofs.Requests.Checked.{Passed, passed, proper-segments, slots-rendered}

module _ (profile : ℕ) (slots : List ℕ) (e : check_list profile slots ≡ 0) where
  -- the slots show the segments that are read from them
  pub shows-passed : Shows (segments_of slots) slots
  shows-passed =
      let p : Passed profile slots = passed profile slots e in
      record {
        whole = sym (slots-rendered profile slots p);
        fits = sizes-segments slots (2 ^ height_of (length slots)) p.number;
        listed = (proper-segments profile slots p).listed;
      }

  -- there are at least two of them
  pub long-passed : 128 ≤ length slots
  long-passed =
      let p : Passed profile slots = passed profile slots e in
      omega (arith, p.number, pow-le-pow_right {n = 2} (omega arith) {i = 1} {j = height_of (length slots)} p.from)
