-- Rows 1 to 3 and 5 to 8: the test that is made of a list, and the row's words about single slots, say the same.
use mathlib.Core.Path.{◌≡◌, refl, sym, ap, subst, ◌∙◌}
use mathlib.Core.Bool.{not}
use mathlib.Core.Logic.{inl, inr, ◌≢◌, ◌↔◌}
use mathlib.Core.List.{List, Memᴰ as Mem}
use Prim.Native.Nat.{ℕ, ◌*◌, ◌^◌, ◌≤◌}
use native.Mathlib.Nat.{mul_comm}
use native.Mathlib.Omega.{arith}
use lib.Dec.{T, T_not, leb, ltb, eqb, eqb→eq, ltb→lt, nltb→le, leb→le, nleb→lt}
use lib.ListN.{length}
use Rattle.lists.proofs.Tests.{double-not, neqb→ne}
use Rattle.slots.specs.Segments.{keys, live, height_of, segments_of}
use Rattle.slots.specs.Keys.{member}
use Rattle.slots.specs.Orders.{order_of, is_kept}
use Rattle.slots.proofs.HeightLaws.{height-cases}
use Rattle.slots.proofs.Orders.{Ordered, Solid, broken, kept→}
use Rattle.slots.proofs.Marks.{present}
use Rattle.slots.proofs.Keys.{member→mem, mem→member}
use Rattle.rules.specs.Profiles.{is_profile, profile_of, most}
use Rattle.rules.specs.Shares.{shares, capacity}
use Rattle.rules.specs.Checks.{shares_of}
use Rattle.demands.specs.Rows.{PresentIn, row1, row15, row2, row3, row5, row6, row7, row8}
use Rattle.rules.proofs.Sharing.Table.{whole}
use Rattle.rules.proofs.Sharing.Profiles.{one-or-two}
use Rattle.demands.proofs.Requests.Checked.{Passed, keys-shown}
use Rattle.demands.proofs.Refusals.RowsInOrder.{Decides}

module _ (slots : List ℕ) where
  -- row 1
  pub decides-1 : Decides (eqb (height_of (length slots)) 0) (row1 slots)
  decides-1 = (
    λ t. elim (height-cases (length slots)) [ inl z ↦ z.1 | inr z ↦ absurd (omega (arith, z.0, eqb→eq (height_of (length slots)) 0 t)) ],
    λ t w. elim (height-cases (length slots)) [ inl z ↦ neqb→ne _ _ t z.0 | inr z ↦ w (height_of (length slots)) z.0 z.1 z.2 ],
  )

  -- row 2
  pub decides-2 : Decides (not (is_kept (order_of slots))) (row2 slots)
  decides-2 = (broken slots, λ t w. go (kept→ slots (double-not (is_kept (order_of slots)) t)) w)
    where
      go : Ordered slots × Solid slots → (row2 slots).when → ⊥
      go k (inl f) = omega (arith, k.0 f.0 f.1 f.2.0 f.2.1 f.2.2, f.2.3)
      go k (inr f) = f.2.3 (k.1 f.0 f.1 f.2.0 f.2.1 f.2.2)

-- row 15
pub decides-15 : (profile : ℕ) → Decides (not (is_profile profile)) (row15 profile)
decides-15 profile = (
  λ t. ((λ e. T_not (is_profile profile) t (rw e tt)), λ e. T_not (is_profile profile) t (rw e tt)),
  λ t w. elim (one-or-two profile (double-not (is_profile profile) t)) [ inl e ↦ w.0 e | inr e ↦ w.1 e ],
)

module _ (profile : ℕ) (slots : List ℕ) where
  -- what a list of a lawful length may hold, whatever h tells its length
  pub most-keys : (h : ℕ) → 1 ≤ h → h ≤ 6 → height_of (length slots) ≡ h → capacity (shares_of profile slots) ≡ most (profile_of profile) * 2 ^ h
  most-keys h from to e =
      ap (λ (n : ℕ). capacity (shares (profile_of profile) n)) e ∙ ap (λ (n : ℕ). 2 ^ h * n) (whole (profile_of profile) h from to).0
      ∙ mul_comm (2 ^ h) (most (profile_of profile))

  room : 1 ≤ height_of (length slots) → height_of (length slots) ≤ 6 → capacity (shares_of profile slots) ≡ most (profile_of profile) * 2 ^ height_of (length slots)
  room from to = most-keys (height_of (length slots)) from to refl

  abbrev h : ℕ
  h = height_of (length slots)

  same-room : 1 ≤ h → h ≤ 6 → length slots ≡ 64 * 2 ^ h → (k : ℕ) → length slots ≡ 64 * 2 ^ k → most (profile_of profile) * 2 ^ k ≡ capacity (shares_of profile slots)
  same-room from to number k e =
      let same : 2 ^ k ≡ 2 ^ h = omega arith in
      ap (λ (n : ℕ). most (profile_of profile) * n) same ∙ sym (room from to)

  -- row 3, of a list of a lawful length
  pub decides-3 : T (not (eqb (height_of (length slots)) 0)) → Decides (ltb (capacity (shares_of profile slots)) (length (live slots))) (row3 profile slots)
  decides-3 n =
      elim (height-cases (length slots)) [
        | inl z ↦ absurd (neqb→ne _ _ n z.0)
        | inr z ↦ (
          λ t. (height_of (length slots), z.2, omega (arith, room z.0 z.1, ltb→lt (capacity (shares_of profile slots)) (length (live slots)) t)),
          λ t w. omega (arith, same-room z.0 z.1 z.2 w.0 w.1, nltb→le (capacity (shares_of profile slots)) (length (live slots)) t, w.2),
        )
      ]

-- row 5
pub decides-5 : (y : ℕ) → Decides (eqb y 0) (row5 y)
decides-5 y = (eqb→eq y 0, neqb→ne y 0)

module _ (profile : ℕ) (slots : List ℕ) (P : Passed profile slots) where
  -- row 8, of a list that has passed its check
  pub decides-8 : Decides (leb (capacity (shares_of profile slots)) (length (keys (segments_of slots)))) (row8 profile slots)
  decides-8 = (
    λ t. (height_of (length slots), P.number, omega (arith, room profile slots P.from P.to, shown, leb→le (capacity (shares_of profile slots)) (length (keys (segments_of slots))) t)),
    λ t w. omega (arith, same-room profile slots P.from P.to P.number w.0 w.1, shown, nleb→lt (capacity (shares_of profile slots)) (length (keys (segments_of slots))) t, w.2),
  )
    where
      shown : length (keys (segments_of slots)) ≡ length (live slots)
      shown = ap (length {A = ℕ}) (keys-shown profile slots P)

  module _ (y : ℕ) (key : y ≢ 0) where
    -- a key of the segments stands in a slot, and the other way round
    pub in-slot : Mem y (keys (segments_of slots)) ↔ PresentIn slots y
    in-slot = (
      λ m. (present slots y key).1 (subst (Mem y) (keys-shown profile slots P) m),
      λ p. subst (Mem y) (sym (keys-shown profile slots P)) ((present slots y key).0 p),
    )

    -- row 6
    pub decides-6 : Decides (member y (keys (segments_of slots))) (row6 slots y)
    decides-6 = (
      λ t. in-slot.0 (member→mem y (keys (segments_of slots)) t),
      λ t p. T_not (member y (keys (segments_of slots))) t (mem→member y (keys (segments_of slots)) (in-slot.1 p)),
    )

    -- row 7
    pub decides-7 : Decides (not (member y (keys (segments_of slots)))) (row7 slots y)
    decides-7 = (decides-6.1, λ t w. w (decides-6.0 (double-not (member y (keys (segments_of slots))) t)))
