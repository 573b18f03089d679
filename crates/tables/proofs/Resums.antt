-- Sums made anew, a level at a time: those that are still to be made lie over entries a to z.
use mathlib.Core.Path.{◌≡◌, refl, sym, ap, ap₂, ◌∙◌}
use mathlib.Core.Logic.{◌⊎◌, inl, inr}
use mathlib.Core.List.{List}
use Prim.Native.Nat.{ℕ, zero, suc, ◌+◌, ◌-◌, ◌*◌, ◌/◌, ◌^◌, ◌≤◌, ◌<◌}
use native.Mathlib.Nat.{pow-succ', pow-zero, le-mul_of_pos_right}
use native.Mathlib.Decide.{dec_lt}
use native.Mathlib.Omega.{arith}
use lib.ListN.{length, get_or, take}
use lib.Seq.{get_or-take, length-take-le, ext_get_or}
use Rattle.slots.proofs.Windows.{pow_pos}
use Rattle.tables.specs.Kept.{Loose}
use Rattle.tables.specs.Tree.{Sums, SumsBut, Resummed}

-- ONE LEVEL: made as far as x
pub record Resumming (n a x : ℕ) (t t' : List ℕ) : Type 0 where
  pub long : length t' ≡ length t
  pub sums : (k : ℕ) → a ≤ k → k < x → get_or t' k 0 ≡ get_or t (2 * (k - n)) 0 + get_or t (2 * (k - n) + 1) 0
  pub others : (k : ℕ) → (k < a) ⊎ (x ≤ k) → get_or t' k 0 ≡ get_or t k 0

-- LEVEL BY LEVEL
-- Entries a to z are of the level that begins at base and has 2^up entries; an entry of it has the counts of `each` segments.
pub record Standing (n a z : ℕ) : Type 0 where
  pub up : ℕ
  pub base : ℕ
  pub each : ℕ
  pub room : base + 2 * 2 ^ up ≡ 2 * n
  pub share : each * 2 ^ up ≡ n
  pub from : base ≤ a
  pub order : a ≤ z
  pub to : z < base + 2 ^ up

pub standing-start : (n a z h : ℕ) → n ≡ 2 ^ h → a ≤ z → z < n → Standing n a z
standing-start n a z h p q l = record { up = h; base = 0; each = 1; room = omega arith; share = omega arith; from = omega arith; order = q; to = omega arith }

module _ (n a z : ℕ) (s : Standing n a z) where
  pub each-most : s.each ≤ n
  each-most = omega (arith, s.share, le-mul_of_pos_right s.each (pow_pos s.up))

  -- one level up, where this is not the root's: its entries stand after all halves
  pub standing-up : z + 2 < 2 * n → (t : Standing n (n + a / 2) (n + z / 2)) × (t.each ≡ 2 * s.each) × (2 * (z / 2) + 1 < n + a / 2)
  standing-up l = go s.up s.room s.share s.to
    where
      go : (k : ℕ) → s.base + 2 * 2 ^ k ≡ 2 * n → s.each * 2 ^ k ≡ n → z < s.base + 2 ^ k
          → (t : Standing n (n + a / 2) (n + z / 2)) × (t.each ≡ 2 * s.each) × (2 * (z / 2) + 1 < n + a / 2)
      go zero r q u = absurd (omega (arith, pow-zero 2, s.from, s.order))
      go (suc k) r q u =
          let d : 2 ^ suc k ≡ 2 * 2 ^ k = pow-succ' 2 k in
          let f : s.base ≤ a = s.from in
          let o : a ≤ z = s.order in
          let w : z / 2 + 2 ^ k < n = omega arith in
          let v : n ≤ a / 2 + 2 * 2 ^ k = omega arith in (
            record {
              up = k;
              base = n + s.base / 2;
              each = 2 * s.each;
              room = omega arith;
              share = omega (arith, ap (λ (m : ℕ). s.each * m) d);
              from = omega arith;
              order = omega arith;
              to = omega arith;
            },
            refl,
            omega arith,
          )

  -- the root alone is no half
  pub standing-root : 2 * n ≤ z + 2 → 2 * n ≤ a + 2
  standing-root l = omega (arith, s.room, s.to, s.from, pow_pos s.up)

-- From t₀ on, with the sums made up to the level of a to z.
pub record Rising (n first last : ℕ) (t₀ t : List ℕ) (a z : ℕ) : Type 0 where
  pub standing : Standing n a z
  pub long : length t ≡ length t₀
  pub low : (k : ℕ) → k < n → get_or t k 0 ≡ get_or t₀ k 0
  pub small : (k : ℕ) → get_or t k 0 ≤ 4096 * standing.each
  pub sums : SumsBut n first last t₀ → SumsBut n a z t

pub rising-start : (n a z : ℕ) (t : List ℕ) → Loose n t → a ≤ z → z < n → Rising n a z t t a z
unfolding standing-start
rising-start n a z t L q l = record {
  standing = standing-start n a z L.height L.size q l;
  long = refl;
  low = λ k b. refl;
  small = λ k. omega (arith, L.small k);
  sums = λ s. s;
}

module _ (n first last : ℕ) (t₀ t : List ℕ) (a z : ℕ) (R : Rising n first last t₀ t a z) where
  pub rising-small : n ≤ 64 → (k : ℕ) → get_or t k 0 ≤ 262144
  rising-small q k = omega (arith, R.small k, each-most n a z R.standing)

  module _ (t' : List ℕ) (l : z + 2 < 2 * n) (r : Resummed n (n + a / 2) (n + z / 2) t t') where
    abbrev U : (u : Standing n (n + a / 2) (n + z / 2)) × (u.each ≡ 2 * R.standing.each) × (2 * (z / 2) + 1 < n + a / 2)
    U = standing-up n a z R.standing l

    summed : (i : ℕ) → a / 2 ≤ i → i ≤ z / 2 → get_or t' (n + i) 0 ≡ get_or t (2 * i) 0 + get_or t (2 * i + 1) 0
    summed i p q =
        let d : n + i - n ≡ i = omega arith in
        r.sums (n + i) (omega arith) (omega arith) ∙ ap (λ (j : ℕ). get_or t (2 * j) 0 + get_or t (2 * j + 1) 0) d

    kept : (i : ℕ) → (i < a / 2) ⊎ (z / 2 < i) → get_or t' (n + i) 0 ≡ get_or t (n + i) 0
    kept i (inl b) = r.others (n + i) (inl (omega arith))
    kept i (inr b) = r.others (n + i) (inr (omega arith))

    -- an entry with its halves, in the level or beside it
    place : (i : ℕ) → ((a / 2 ≤ i) × (i ≤ z / 2)) ⊎ ((i < a / 2) ⊎ (z / 2 < i))
    place i = elim (dec_lt i (a / 2)) [ yes b ↦ inr (inl b) | no b ↦ elim (dec_lt (z / 2) i) [ yes d ↦ inr (inr d) | no d ↦ inl (omega arith, omega arith) ] ]

    few : (k : ℕ) → get_or t' k 0 ≤ 4096 * U.0.each
    few k =
        elim (dec_lt k (n + a / 2)) [
          | yes b ↦ omega (arith, r.others k (inl b), R.small k, U.1)
          | no b ↦
              elim (dec_lt (n + z / 2) k) [
                | yes d ↦ omega (arith, r.others k (inr d), R.small k, U.1)
                | no d ↦ omega (arith, r.sums k (omega arith) (omega arith), R.small (2 * (k - n)), R.small (2 * (k - n) + 1), U.1)
              ]
        ]

    halves : (i : ℕ) → (2 * i + 1 < n + a / 2) ⊎ (n + z / 2 < 2 * i) → get_or t' (2 * i) 0 + get_or t' (2 * i + 1) 0 ≡ get_or t (2 * i) 0 + get_or t (2 * i + 1) 0
    halves i (inl b) = ap₂ {C = ℕ} ◌+◌ (r.others (2 * i) (inl (omega arith))) (r.others (2 * i + 1) (inl b))
    halves i (inr b) = ap₂ {C = ℕ} ◌+◌ (r.others (2 * i) (inr b)) (r.others (2 * i + 1) (inr (omega arith)))

    outside : (i : ℕ) → (i < a / 2) ⊎ (z / 2 < i) → (2 * i + 1 < a) ⊎ (z < 2 * i)
    outside i (inl b) = inl (omega arith)
    outside i (inr b) = inr (omega arith)

    pub rising-more : Rising n first last t₀ t' (n + a / 2) (n + z / 2)
    rising-more = record {
      standing = U.0;
      long = r.long ∙ R.long;
      low = λ k b. r.others k (inl (omega arith)) ∙ R.low k b;
      small = few;
      sums = λ s i q o.
          elim (place i) [
            | inl b ↦ summed i b.0 b.1 ∙ sym (halves i (inl (omega (arith, U.2))))
            | inr b ↦ kept i b ∙ R.sums s i q (outside i b) ∙ sym (halves i o)
          ];
    }

  module _ (l : 2 * n ≤ z + 2) where
    pub rising-sums : SumsBut n first last t₀ → Sums n t
    rising-sums s i q = R.sums s i q (inl (omega (arith, standing-root n a z R.standing l)))

  pub rising-first : n ≤ length t → take n t ≡ take n t₀
  rising-first h =
      ext_get_or 0 (take n t) (take n t₀) (length-take-le n t h ∙ sym (length-take-le n t₀ (omega (arith, R.long))))
      (λ k b. let d : k < n = omega (arith, length-take-le n t h) in get_or-take n t k 0 d ∙ R.low k d ∙ sym (get_or-take n t₀ k 0 d))
