-- A forecast has no fault exactly where its cells keep the rule and name their markers' segments; else its first fault is a true one.
use mathlib.Core.Path.{◌≡◌, sym, ap, ◌∙◌, subst}
use mathlib.Core.Bool.{Bool, true, false, not}
use mathlib.Core.Logic.{◌⊎◌, inl, inr, ◌≢◌}
use mathlib.Core.Option.{Option, none, some}
use mathlib.Core.List.{List, Memᴰ as Mem}
use Prim.Native.Nat.{ℕ, ◌≤◌, ◌<◌}
use native.Mathlib.Decide.{dec_lt}
use native.Mathlib.Omega.{arith}
use lib.Dec.{T, T_not, not_T, ltb, ltb→lt, nltb→le}
use lib.ListN.{length, get_or, length-take, get_or-eq_default}
use lib.Seq.{get_or-take, length-take-le, ext_get_or}
use Rattle.std.proofs.Common.{if◌then◌else◌}
use Rattle.std.specs.Prelude.{Result, Ok, Err, ⊤}
use Rattle.lists.specs.Lists.{All, padded}
use Rattle.lists.specs.Search.{first}
use Rattle.lists.proofs.Tests.{double-not}
use Rattle.lists.proofs.Members.{mem-at, at_mem}
use Rattle.lists.proofs.Search.{Firsts, firsts}
use Rattle.lists.proofs.Fill.{get_or-padded, length-padded}
use Rattle.slots.specs.Segments.{Segments}
use Rattle.slots.specs.Keys.{segment_of}
use Rattle.cells.specs.declared.Cell.{Cell}
use Rattle.cells.specs.Cells.{zero_cell}
use Rattle.cells.proofs.Ruled.{marker_at, Counted, Ruled, Placed}
use Rattle.forecast.specs.declared.Forecast.{Forecast}
use Rattle.forecast.specs.declared.Fault.{Fault}
use Rattle.forecast.specs.declared.Fault.TheVariants.{TooMany}
use Rattle.forecast.specs.Cells.{cells, used_cells, forecast_of}
use Rattle.forecast.specs.Faults.{fault_at, is_sound, fault_of}
use Rattle.forecast.proofs.Laws.{used-forecast_of, length-forecast_of, forecast_of-used, forecast_of-cells}
use Rattle.forecast.proofs.Stepping.{roomy-12, roomy-whole}
use Rattle.forecast.specs.Tidy.{Marker, Roomy}
use Rattle.forecast.proofs.Readings.{nth, BadBy, too_many, no_count, over_count, repeated, not_live, misplaced, not_zero, Good, Fine, Says, read_at}

module _ (P : ℕ) (ss : Segments) (F : Forecast) where
  -- at most P cells are used, and each cell is fine
  record AllFine : Type 0 where
    few : F.used ≤ P
    fine : (i : ℕ) → i < length (cells F) → Fine P ss F i

  fine-at : (i : ℕ) (r : Result ⊤ Fault) → T (is_sound r) → Says P ss F i r → Fine P ss F i
  fine-at i (Ok x) t s = s
  fine-at i (Err f) t s = absurd t

  bad-at : (i : ℕ) (r : Result ⊤ Fault) → T (not (is_sound r)) → Says P ss F i r → BadBy P ss F
  bad-at i (Ok x) t s = absurd t
  bad-at i (Err f) t s = s

  -- the first fault: there is none and all is fine, or there is one and something is bad
  read_all : (T (is_sound (fault_of P ss F)) × AllFine) ⊎ (T (not (is_sound (fault_of P ss F))) × BadBy P ss F)
  unfolding fault_of
  read_all = go (ltb P F.used) (ltb→lt _ _) (nltb→le _ _) (first bad 0 (length (cells F))) (firsts bad 0 (length (cells F)))
    where
      bad : ℕ → Bool
      bad i = not (is_sound (fault_at P ss F i))

      go : (b : Bool) → (T b → P < F.used) → (T (not b) → F.used ≤ P) → (r : Option ℕ) → Firsts bad 0 (length (cells F)) r
          → (T (is_sound (if b then Err TooMany else elim r [ none ↦ Ok tt | some i ↦ fault_at P ss F i ])) × AllFine)
          ⊎ (T (not (is_sound (if b then Err TooMany else elim r [ none ↦ Ok tt | some i ↦ fault_at P ss F i ]))) × BadBy P ss F)
      go true p q r f = inr (tt, too_many (p tt))
      go false p q none f = inl (tt, record { few = q tt; fine = λ i h. fine-at i (fault_at P ss F i) (double-not (is_sound (fault_at P ss F i)) (f i (omega arith) (omega arith))) (read_at P ss F i h) })
      go false p q (some k) f = inr (f.0.1, bad-at k (fault_at P ss F k) f.0.1 (read_at P ss F k (omega arith)))

  -- no fault: all is fine
  sound-fine : T (is_sound (fault_of P ss F)) → AllFine
  sound-fine t = elim read_all [ inl r ↦ r.1 | inr r ↦ absurd (T_not (is_sound (fault_of P ss F)) r.0 t) ]

  -- nothing bad: no fault
  unbad-sound : ¬ BadBy P ss F → T (is_sound (fault_of P ss F))
  unbad-sound n = elim read_all [ inl r ↦ r.0 | inr r ↦ absurd (n r.1) ]

  -- a fault: something is bad
  pub fault-bad : T (not (is_sound (fault_of P ss F))) → BadBy P ss F
  fault-bad t = elim read_all [ inl r ↦ absurd (T_not (is_sound (fault_of P ss F)) t r.0) | inr r ↦ r.1 ]

  -- a used cell, where there is room for it, is one of the list
  used-at : (i : ℕ) → i < F.used → nth F i ≡ get_or (used_cells F) i zero_cell
  used-at i h = sym (get_or-take F.used (cells F) i zero_cell h)

  used_all : (Q : Cell → Type 0) → ((i : ℕ) → i < F.used → i < length (cells F) → Q (nth F i)) → All Q (used_cells F)
  used_all Q f c m = at (mem-at c (used_cells F) zero_cell m)
    where
      at : (t : ℕ) × (t < length (used_cells F)) × (get_or (used_cells F) t zero_cell ≡ c) → Q c
      at (t, h, e) =
          let u : t < F.used = omega (arith, length-take F.used (cells F)) in
          let l : t < length (cells F) = omega (arith, length-take F.used (cells F)) in
          subst Q (used-at t u ∙ e) (f t u l)

  -- the cells of a forecast without fault keep the rule and name their markers' segments
  pub sound-ruled : T (is_sound (fault_of P ss F)) → Ruled P (Marker ss) (used_cells F) × Placed (segment_of ss) (used_cells F)
  sound-ruled t = (
    record {
      few = let k : F.used ≤ P = (sound-fine t).few in omega (arith, length-take F.used (cells F));
      counts = used_all (Counted P) (λ i u l. (good i u l).counted);
      live = used_all (λ c. Marker ss c.marker) (λ i u l. (good i u l).live);
      apart = λ i j h k e. elim (dec_lt i j) [ yes l ↦ absurd (differ i j l k e) | no l ↦ elim (dec_lt j i) [ yes m ↦ absurd (differ j i m h (sym e)) | no m ↦ omega arith ] ];
    },
    used_all (λ c. c.segment ≡ segment_of ss c.marker) (λ i u l. (good i u l).placed),
  )
    where
      good : (i : ℕ) → i < F.used → i < length (cells F) → Good P ss F i
      good i u l = ((sound-fine t).fine i l).used u

      differ : (i j : ℕ) → i < j → j < length (used_cells F) → marker_at (used_cells F) i ≢ marker_at (used_cells F) j
      differ i j l h e =
          let u : j < F.used = omega (arith, length-take F.used (cells F)) in
          let v : i < F.used = omega arith in
          (good j u (omega (arith, length-take F.used (cells F)))).new i l
          (ap (λ (c : Cell). c.marker) (used-at i v) ∙ e ∙ ap (λ (c : Cell). c.marker) (sym (used-at j u)))

  -- and the forecast is those cells, written into their room
  pub sound-whole : T (is_sound (fault_of P ss F)) → Roomy F → P ≤ 12 → forecast_of (used_cells F) ≡ F
  sound-whole t r p = sym (roomy-whole F r (used_cells F) (sym used) (sym shown))
    where
      few : F.used ≤ P
      few = (sound-fine t).few

      n : length (cells F) ≡ 12
      n = roomy-12 F r

      used : length (used_cells F) ≡ F.used
      used = length-take-le F.used (cells F) (omega (arith, few, n))

      full : length (padded 12 zero_cell (used_cells F)) ≡ 12
      full = length-padded 12 zero_cell (used_cells F) (omega (arith, few, used))

      same : (i : ℕ) → i < 12 → get_or (used_cells F) i zero_cell ≡ nth F i
      same i h =
          elim (dec_lt i F.used) [
            | yes u ↦ sym (used-at i u)
            | no u ↦ get_or-eq_default (used_cells F) zero_cell (omega (arith, used)) ∙ sym (((sound-fine t).fine i (omega (arith, n))).unused (omega arith))
          ]

      shown : padded 12 zero_cell (used_cells F) ≡ cells F
      shown = ext_get_or zero_cell (padded 12 zero_cell (used_cells F)) (cells F) (full ∙ sym n) (λ i h. get_or-padded 12 zero_cell (used_cells F) i ∙ same i (omega (arith, full)))

  -- cells that keep the rule, with zeros after them, are not bad
  not-bad : F.used ≤ P → F.used ≤ length (cells F) → Ruled P (Marker ss) (used_cells F) → Placed (segment_of ss) (used_cells F)
      → ((i : ℕ) → F.used ≤ i → i < length (cells F) → nth F i ≡ zero_cell) → ¬ BadBy P ss F
  not-bad few room R p z = at
    where
      long : length (used_cells F) ≡ F.used
      long = length-take-le F.used (cells F) room

      mem : (i : ℕ) → i < F.used → Mem (nth F i) (used_cells F)
      mem i h = subst (λ (c : Cell). Mem c (used_cells F)) (sym (used-at i h)) (at_mem (used_cells F) i zero_cell (omega (arith, long)))

      at : BadBy P ss F → ⊥
      at (too_many h) = omega arith
      at (no_count i h n) = omega (arith, (R.counts (nth F i) (mem i h)).0)
      at (over_count i h n) = omega (arith, (R.counts (nth F i) (mem i h)).1)
      at (repeated i j l h k e) =
          let k : j < F.used = omega arith in
          omega (arith, R.apart j i (omega (arith, long)) (omega (arith, long)) (ap (λ (c : Cell). c.marker) (sym (used-at j k)) ∙ e ∙ ap (λ (c : Cell). c.marker) (used-at i h)))
      at (not_live i h a b) = elim (R.live (nth F i) (mem i h)) [ inl e ↦ a e | inr m ↦ b m ]
      at (misplaced i h m n) = n (p (nth F i) (mem i h))
      at (not_zero i h l n) = n (z i h l)

  -- something bad: there is a fault
  pub bad-fault : Roomy F → P ≤ 12 → BadBy P ss F → T (not (is_sound (fault_of P ss F)))
  bad-fault r p b =
      let n : length (cells F) ≡ 12 = roomy-12 F r in
      not_T (is_sound (fault_of P ss F)) (λ t.
      let A : AllFine = sound-fine t in
      let few : F.used ≤ P = A.few in
      not-bad few (omega arith) (sound-ruled t).0 (sound-ruled t).1 (λ i h l. (A.fine i l).unused h) b)

-- cells that keep the rule and name their markers' segments, written into their room, have no fault
pub ruled-sound : (P : ℕ) (ss : Segments) (cs : List Cell) → P ≤ 12 → Ruled P (Marker ss) cs → Placed (segment_of ss) cs → T (is_sound (fault_of P ss (forecast_of cs)))
ruled-sound P ss cs p R l =
    unbad-sound P ss F
    (not-bad P ss F (omega (arith, few, used)) (omega (arith, few, used, long)) (subst (Ruled P (Marker ss)) (sym (used-forecast_of cs)) R)
    (subst (Placed (segment_of ss)) (sym (used-forecast_of cs)) l) zeros)
  where
    F : Forecast
    F = forecast_of cs

    few : length cs ≤ P
    few = R.few

    used : F.used ≡ length cs
    used = forecast_of-used cs

    long : length (cells F) ≡ 12
    long = length-forecast_of cs (omega (arith, few))

    zeros : (i : ℕ) → F.used ≤ i → i < length (cells F) → nth F i ≡ zero_cell
    zeros i h k =
        ap (λ (ds : List Cell). get_or ds i zero_cell) (forecast_of-cells cs) ∙ get_or-padded 12 zero_cell cs i ∙ get_or-eq_default cs zero_cell (omega (arith, used))
