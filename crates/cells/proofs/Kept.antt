-- Each step keeps the forecast's rule.
use mathlib.Core.Path.{◌≡◌, refl, sym, ap, ◌∙◌, subst}
use mathlib.Core.Logic.{inl, inr, ◌≢◌}
use mathlib.Core.List.Memᴰ.{cases_cons as mem-cases}
use mathlib.Core.List.{List, [], ◌∷◌, map}
use Prim.Native.Nat.{ℕ, zero, suc, ◌+◌, ◌-◌, ◌≤◌, ◌<◌}
use native.Mathlib.Decide.{dec_lt}
use native.Mathlib.Omega.{arith}
use lib.ListN.{length, take, get_or, set, length-set}
use Rattle.lists.specs.Lists.{All, without}
use Rattle.lists.proofs.Members.{mem-at, at_mem, mem-set, mem-take, map-all}
use Rattle.lists.proofs.Fill.{without-past, mem-without}
use Rattle.cells.specs.declared.Cell.{Cell}
use Rattle.cells.specs.Cells.{cell, zero_cell, cell_at}
use Rattle.cells.specs.Steps.{raised, tailed, noted, dropped, aimed, retargeted}
use Rattle.cells.proofs.Laws.{found-marks, marked-found, noted-raised, noted-spent, noted-new, noted-full, raised-head, raised-past, tailed-gone, tailed-less, dropped-is, retargeted-is}
use Rattle.cells.proofs.Ruled.{marker_at, Apart, Counted, Ruled, Placed, From, ruled-from}
use Rattle.cells.proofs.Origins.{from-set, from-swap, from-take, from-without, from-aimed}

module _ (P : ℕ) (L : ℕ → Type 0) (cs : List Cell) (R : Ruled P L cs) where
  -- one cell is set
  counts-set : (ds : List Cell) (i : ℕ) (c : Cell) → i < length ds → All (Counted P) ds → Counted P c → All (Counted P) (set ds i c)
  counts-set ds i c h a n d m = elim (mem-set ds i c d h m) [ inl e ↦ subst (Counted P) (sym e) n | inr o ↦ a d o ]

  -- a count below P is raised
  pub raised-ruled : (i : ℕ) → i < length cs → (get_or cs i zero_cell).count < P → Ruled P L (raised i cs)
  raised-ruled i h k = elim (dec_lt 0 i) [ yes l ↦ past l | no l ↦ subst (λ (j : ℕ). Ruled P L (raised j cs)) (omega arith) (head (omega arith)) ]
    where
      past : 0 < i → Ruled P L (raised i cs)
      past l =
          subst (Ruled P L) (sym (raised-past i cs l))
          (ruled-from P L _ cs (from-swap i cs _ _ h l refl refl) R
          (counts-set (set cs i (get_or cs (i - 1) zero_cell)) (i - 1) _ (omega (arith, length-set cs i (get_or cs (i - 1) zero_cell)))
          (counts-set cs i _ h R.counts (R.counts _ (at_mem cs (i - 1) zero_cell (omega arith)))) (omega arith, omega arith)))

      head : i ≡ 0 → Ruled P L (raised 0 cs)
      head e =
          subst (Ruled P L) (sym (raised-head cs))
          (ruled-from P L _ cs (from-set cs 0 _ (omega arith) refl) R (counts-set cs 0 _ (omega arith) R.counts (omega arith, subst (λ (j : ℕ). (get_or cs j zero_cell).count + 1 ≤ P) e (omega arith))))

  -- the tail's count drops
  pub tailed-ruled : Ruled P L (tailed cs)
  tailed-ruled = elim (dec_lt 1 (get_or cs (length cs - 1) zero_cell).count) [ yes l ↦ less l | no l ↦ gone (omega arith) ]
    where
      gone : (get_or cs (length cs - 1) zero_cell).count ≤ 1 → Ruled P L (tailed cs)
      gone l =
          subst (Ruled P L) (sym (tailed-gone cs l)) (ruled-from P L (take (length cs - 1) cs) cs (from-take (length cs - 1) cs) R (λ d m. R.counts d (mem-take (length cs - 1) cs d m)))

      inside : (ds : List Cell) → 1 < (get_or ds (length ds - 1) zero_cell).count → length ds - 1 < length ds
      inside [] l = absurd (omega arith)
      inside (d ∷ ds) l = omega arith

      less : 1 < (get_or cs (length cs - 1) zero_cell).count → Ruled P L (tailed cs)
      less l =
          subst (Ruled P L) (sym (tailed-less cs l))
          (ruled-from P L _ cs (from-set cs (length cs - 1) _ (inside cs l) refl) R
          (counts-set cs (length cs - 1) _ (inside cs l) R.counts (omega arith, omega (arith, (R.counts _ (at_mem cs (length cs - 1) zero_cell (inside cs l))).1))))

  -- a new cell at the head
  new-ruled : (x s : ℕ) → L x → 1 ≤ P → length cs ≤ cell_at x cs → length cs < P → Ruled P L (cell x s 1 ∷ cs)
  new-ruled x s l p h k = record {
    few = k;
    counts = λ d m. elim (mem-cases m) [ inl e ↦ subst (Counted P) (sym e) (omega arith, p) | inr n ↦ R.counts d n ];
    live = λ d m. elim (mem-cases m) [ inl e ↦ subst (λ (c : Cell). L c.marker) (sym e) l | inr n ↦ R.live d n ];
    apart = apart;
  }
    where
      other : (i : ℕ) → i < length cs → marker_at cs i ≢ x
      other i l e = absurd (omega (arith, marked-found x cs i l e))

      apart : Apart (cell x s 1 ∷ cs)
      apart zero zero p q e = refl
      apart zero (suc j) p q e = absurd (other j (omega arith) (sym e))
      apart (suc i) zero p q e = absurd (other i (omega arith) e)
      apart (suc i) (suc j) p q e = ap suc (R.apart i j (omega arith) (omega arith) e)

-- an insert notes its predecessor
pub noted-ruled : (P : ℕ) (L : ℕ → Type 0) (x s : ℕ) (cs : List Cell) → Ruled P L cs → L x → 1 ≤ P → Ruled P L (noted P x s cs)
noted-ruled P L x s cs R l p =
    elim (dec_lt (cell_at x cs) (length cs)) [
      | yes h ↦
          elim (dec_lt (get_or cs (cell_at x cs) zero_cell).count P) [
            | yes k ↦ subst (Ruled P L) (sym (noted-raised P x s cs h k)) (raised-ruled P L cs R (cell_at x cs) h k)
            | no k ↦ subst (Ruled P L) (sym (noted-spent P x s cs h (omega arith))) (tailed-ruled P L cs R)
          ]
      | no h ↦
          elim (dec_lt (length cs) P) [
            | yes k ↦ subst (Ruled P L) (sym (noted-new P x s cs (omega arith) k)) (new-ruled P L cs R x s l p (omega arith) k)
            | no k ↦ subst (Ruled P L) (sym (noted-full P x s cs (omega arith) (omega arith))) (tailed-ruled P L cs R)
          ]
    ]

-- a delete drops its key's cell: the key need be live no more
pub dropped-ruled : (P : ℕ) (L L' : ℕ → Type 0) (y : ℕ) (cs : List Cell) → Ruled P L cs → ((k : ℕ) → L k → k ≢ y → L' k) → Ruled P L' (dropped y cs)
dropped-ruled P L L' y cs R f =
    subst (Ruled P L') (sym (dropped-is y cs)) (elim (dec_lt (cell_at y cs) (length cs)) [ yes h ↦ gone h | no h ↦ subst (Ruled P L') (sym (without-past (cell_at y cs) cs (omega arith))) (none (omega arith)) ])
  where
    -- the rule with what is live narrowed to what is not y
    but : (ds : List Cell) → Ruled P L ds → ((i : ℕ) → i < length ds → marker_at ds i ≢ y) → Ruled P L' ds
    but ds S n = record { few = S.few; counts = S.counts; live = λ c m. f c.marker (S.live c m) (λ e. at c e (mem-at c ds zero_cell m)); apart = S.apart }
      where
        at : (c : Cell) → c.marker ≡ y → (t : ℕ) × (t < length ds) × (get_or ds t zero_cell ≡ c) → ⊥
        at c e (t, h, q) = n t h (ap (λ (d : Cell). d.marker) q ∙ e)

    none : length cs ≤ cell_at y cs → Ruled P L' cs
    none h = but cs R (λ i l e. absurd (omega (arith, marked-found y cs i l e)))

    gone : cell_at y cs < length cs → Ruled P L' (without (cell_at y cs) cs)
    gone h =
        let F : (f : From (without (cell_at y cs) cs) cs) × ((k : ℕ) → f.origin k ≢ cell_at y cs) = from-without (cell_at y cs) cs h in
        but (without (cell_at y cs) cs) (ruled-from P L _ cs F.0 R (λ d m. R.counts d (mem-without (cell_at y cs) cs d m)))
        (λ i l e. F.1 i (R.apart _ _ (F.0.inside i l) h (sym (F.0.same i l) ∙ e ∙ sym (found-marks y cs h))))

-- every cell is aimed at its marker's segment
pub retargeted-ruled : (place : ℕ → ℕ) (P : ℕ) (L : ℕ → Type 0) (cs : List Cell) → Ruled P L cs → Ruled P L (retargeted place cs) × Placed place (retargeted place cs)
retargeted-ruled place P L cs R =
    subst (λ (ds : List Cell). Ruled P L ds × Placed place ds) (sym (retargeted-is place cs)) (
      ruled-from P L (map (aimed place) cs) cs (from-aimed place cs) R (map-all (Counted P) (aimed place) cs R.counts),
      map-all (λ c. c.segment ≡ place c.marker) (aimed place) cs (λ c m. refl),
    )
