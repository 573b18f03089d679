-- The record that bytes begin with, by its tests: a short one, a wrong mark, each kind.
use mathlib.Core.Path.{◌≡◌}
use mathlib.Core.Logic.{◌≢◌}
use mathlib.Core.List.{List}
use Prim.Native.Nat.{ℕ, ◌≤◌, ◌<◌}
use native.Mathlib.Decide.{dec_lt, ℕ_discrete}
use native.Mathlib.Omega.{arith}
use lib.ListN.{length, get_or}
use borrow.Author.Tests.{le-ltb, lt-ltb, eq-eqb, ne_eqb}
use Rattle.rules.specs.declared.Request.TheVariants.{Insert, Delete, Bad}
use Rattle.rules.specs.Runs.{asking, record_of, key_of}
use Rattle.records.specs.Asked.{carrying}

module _ (bs : List ℕ) where
  pub too_short : length bs < 11 → record_of bs ≡ asking Bad 0 11
  unfolding record_of
  too_short n =
      elim (ℕ_discrete (get_or bs 2 0) 4) [
        | yes e ↦ simp (eq-eqb (get_or bs 2 0) 4 e, lt-ltb (length bs) 15 (omega arith))
        | no e ↦ simp (ne_eqb (get_or bs 2 0) 4 e, lt-ltb (length bs) 11 n)
      ]

  module _ (long : 11 ≤ length bs) where
    pub first-wrong : get_or bs 0 0 ≢ 0xA5 → record_of bs ≡ asking Bad 0 11
    unfolding record_of
    first-wrong m =
        elim (ℕ_discrete (get_or bs 2 0) 4) [
          | yes e ↦ elim (dec_lt (length bs) 15) [
            | yes n ↦ simp (eq-eqb (get_or bs 2 0) 4 e, lt-ltb (length bs) 15 n)
            | no n ↦ simp (eq-eqb (get_or bs 2 0) 4 e, le-ltb (length bs) 15 (omega arith), ne_eqb (get_or bs 0 0) 0xA5 m)
          ]
          | no e ↦ simp (ne_eqb (get_or bs 2 0) 4 e, le-ltb (length bs) 11 long, ne_eqb (get_or bs 0 0) 0xA5 m)
        ]

    module _ (a : get_or bs 0 0 ≡ 0xA5) where
      pub second-wrong : get_or bs 1 0 ≢ 0x5A → record_of bs ≡ asking Bad 0 11
      unfolding record_of
      second-wrong m =
          elim (ℕ_discrete (get_or bs 2 0) 4) [
            | yes e ↦ elim (dec_lt (length bs) 15) [
              | yes n ↦ simp (eq-eqb (get_or bs 2 0) 4 e, lt-ltb (length bs) 15 n)
              | no n ↦ simp (eq-eqb (get_or bs 2 0) 4 e, le-ltb (length bs) 15 (omega arith), eq-eqb (get_or bs 0 0) 0xA5 a, ne_eqb (get_or bs 1 0) 0x5A m)
            ]
            | no e ↦ simp (ne_eqb (get_or bs 2 0) 4 e, le-ltb (length bs) 11 long, eq-eqb (get_or bs 0 0) 0xA5 a, ne_eqb (get_or bs 1 0) 0x5A m)
          ]

      module _ (b : get_or bs 1 0 ≡ 0x5A) where
        pub kind-four : get_or bs 2 0 ≡ 4 → record_of bs ≡ carrying bs
        unfolding record_of
        kind-four e =
            elim (dec_lt (length bs) 15) [
              | yes n ↦ simp (e, lt-ltb (length bs) 15 n)
              | no n ↦ simp (e, le-ltb (length bs) 15 (omega arith), eq-eqb (get_or bs 0 0) 0xA5 a, eq-eqb (get_or bs 1 0) 0x5A b)
            ]

        pub kind-one : get_or bs 2 0 ≡ 1 → record_of bs ≡ asking (Insert (key_of bs)) 0 11
        unfolding record_of
        kind-one e = simp (e, le-ltb (length bs) 11 long, eq-eqb (get_or bs 0 0) 0xA5 a, eq-eqb (get_or bs 1 0) 0x5A b)

        pub kind-two : get_or bs 2 0 ≡ 2 → record_of bs ≡ asking (Delete (key_of bs)) 0 11
        unfolding record_of
        kind-two e = simp (e, le-ltb (length bs) 11 long, eq-eqb (get_or bs 0 0) 0xA5 a, eq-eqb (get_or bs 1 0) 0x5A b)

        pub kind-else : get_or bs 2 0 ≢ 4 → get_or bs 2 0 ≢ 1 → get_or bs 2 0 ≢ 2 → record_of bs ≡ asking Bad 0 11
        unfolding record_of
        kind-else f o t =
            simp (
              ne_eqb (get_or bs 2 0) 4 f,
              le-ltb (length bs) 11 long,
              eq-eqb (get_or bs 0 0) 0xA5 a,
              eq-eqb (get_or bs 1 0) 0x5A b,
              ne_eqb (get_or bs 2 0) 1 o,
              ne_eqb (get_or bs 2 0) 2 t,
            )
