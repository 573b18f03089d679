-- A list made empty: it passes the check with its cards and its table, and has no key.
use mathlib.Core.Path.{◌≡◌, sym, ap, ◌∙◌}
use mathlib.Core.Logic.{inl, inr}
use mathlib.Core.List.Memᴰ.{cases_cons as mem-cases}
use mathlib.Core.List.Memᴰ.{not-nil as nowhere}
use mathlib.Core.List.{List, []}
use Prim.Native.Nat.{ℕ, zero, suc, ◌*◌, ◌^◌, ◌≤◌}
use native.Mathlib.Omega.{arith}
use lib.Dec.{T}
use borrow.Author.Tests.{eq-eqb, ne_eqb}
use lib.ListN.{length, replicate, length-replicate}
use Rattle.lists.specs.Lists.{All}
use Rattle.lists.proofs.Tests.{is_true}
use Rattle.slots.specs.Segments.{live, height_of, render}
use Rattle.slots.proofs.HeightLaws.{height-is}
use Rattle.slots.proofs.Render.{live-render, render-empty}
use Rattle.levels.specs.Tables.{table_size}
use Rattle.levels.proofs.Tables.{table_empty, no_keys}
use Rattle.forecast.specs.Cells.{forecast_of}
use Rattle.rules.specs.declared.Profile.{Profile}
use Rattle.rules.specs.Profiles.{is_profile, profile_of}
use Rattle.rules.specs.Shares.{shares}
use Rattle.rules.specs.Cards.{cards_beside}
use Rattle.rules.specs.Lent.{Lent, lend, right_table, laid}
use Rattle.rules.specs.Checks.{check}
use Rattle.rules.specs.Calls.{Made, make}
use Rattle.demands.specs.Demand2.{empty_room}
use Rattle.demands.proofs.Cards.Beside.{beside-zeros}
use Rattle.demands.proofs.Requests.StaysGood.{Good}
use Rattle.demands.proofs.Requests.Checked.{table-render, check-render}
use Rattle.demands.proofs.Requests.Tabled.{laid-passes}

no_size : (n m : ℕ) → All (λ (x : List ℕ). length x ≤ m) (replicate n [])
no_size zero m x i = absurd (nowhere i)
no_size (suc n) m x i = elim (mem-cases i) [ inl e ↦ rw e (omega arith) | inr k ↦ no_size n m x k ]

pub good-empty : (p : Profile) (h : ℕ) → Good (shares p h) (empty_room h)
good-empty p h = record {
  proper = record { size = length-replicate (2 ^ h) []; listed = record { rising = rw (no_keys (2 ^ h)) tt; live = rw (no_keys (2 ^ h)) (λ k m. absurd (nowhere m)) } };
  sizes = no_size (2 ^ h) 64;
  room = rw (no_keys (2 ^ h)) (omega arith);
  ruled = record { few = omega arith; counts = λ c m. absurd (nowhere m); live = λ c m. absurd (nowhere m); apart = λ i j p q e. absurd (omega arith) };
  placed = λ c m. absurd (nowhere m);
}

-- a list with no key, no card and its table
abbrev pub empty_lent : ℕ → Lent
empty_lent h = laid (λ k. 0) (render 0 (replicate (2 ^ h) []))

module _ (profile : ℕ) (known : T (is_profile profile)) (h : ℕ) (from : 1 ≤ h) (to : h ≤ 6) where
  abbrev G : Good (shares (profile_of profile) h) (empty_room h)
  G = good-empty (profile_of profile) h

  zeros : right_table (render 0 (replicate (2 ^ h) [])) ≡ replicate (table_size h) 0
  zeros = table-render profile known h from to (empty_room h) G ∙ table_empty h

  module _ (L : Lent) (e : length L.slots ≡ 64 * 2 ^ h) (b : length L.cards ≡ length L.slots) (t : length L.table ≡ table_size h) where
    height : height_of (length L.slots) ≡ h
    height = ap height_of e ∙ height-is h from to

    pub made-is : make profile L ≡ record { lent = empty_lent h; forecast = forecast_of []; number = 0 }
    unfolding make
    made-is =
        rw (
          is_true (is_profile profile) known,
          ne_eqb (height_of (length L.slots)) 0 (λ z. absurd (omega (arith, height))),
          eq-eqb (length L.cards) (length L.slots) b,
          eq-eqb (length L.table) (table_size (height_of (length L.slots))) (t ∙ ap table_size (sym height)),
        ) (λ i. record { lent = lend (rows i) (cards i) (entries i); forecast = forecast_of []; number = 0 })
      where
        rows : replicate {A = ℕ} (length L.slots) 0 ≡ render 0 (replicate (2 ^ h) [])
        rows = ap (λ (n : ℕ). replicate {A = ℕ} n 0) e ∙ sym (render-empty {A = ℕ} 0 (2 ^ h))

        cards : replicate {A = ℕ} (length L.cards) 0 ≡ cards_beside (λ k. 0) (render 0 (replicate (2 ^ h) []))
        cards = ap (λ (n : ℕ). replicate {A = ℕ} n 0) b ∙ sym (beside-zeros (λ k. 0) (length L.slots)) ∙ ap (cards_beside (λ k. 0)) rows

        entries : replicate {A = ℕ} (length L.table) 0 ≡ right_table (render 0 (replicate (2 ^ h) []))
        entries = ap (λ (n : ℕ). replicate {A = ℕ} n 0) t ∙ sym zeros

    pub made-length : length (make profile L).lent.slots ≡ 64 * 2 ^ h
    made-length = ap (λ (m : Made). length m.lent.slots) made-is ∙ ap length (render-empty {A = ℕ} 0 (2 ^ h)) ∙ length-replicate (64 * 2 ^ h) 0

    pub made-passes : check profile (make profile L).lent (make profile L).forecast ≡ 0
    made-passes = rw made-is (laid-passes profile (λ k. 0) (render 0 (replicate (2 ^ h) [])) (forecast_of []) (check-render profile known h from to (empty_room h) G))

    pub made-keys : live (make profile L).lent.slots ≡ []
    made-keys = rw made-is (live-render (replicate (2 ^ h) []) G.proper.listed.live ∙ no_keys (2 ^ h))
