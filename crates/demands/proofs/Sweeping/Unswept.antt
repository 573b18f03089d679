-- Without a sweep no cell has to be retargeted: the keys that were live are still in their segments.
use mathlib.Core.Path.{◌≡◌, refl, sym, ap, ap₂, ◌∙◌, subst}
use mathlib.Core.Bool.{Bool, not}
use mathlib.Core.Logic.{◌⊎◌, inl, inr, ◌≢◌}
use mathlib.Core.List.Memᴰ.{cases_cons as mem-cases}
use mathlib.Core.List.Memᴰ.{head as here}
use mathlib.Core.List.Memᴰ.{tail as there}
use mathlib.Core.List.{List, [], ◌∷◌, map}
use Prim.Native.Nat.{ℕ, zero, suc, ◌-◌, ◌<◌}
use native.Mathlib.Decide.{dec_lt}
use native.Mathlib.Omega.{arith}
use lib.Dec.{T}
use lib.ListN.{length, get_or, set}
use lib.Seq.{set_out}
use Rattle.std.proofs.Common.{if◌then◌else◌}
use Rattle.lists.specs.Search.{place_by}
use Rattle.lists.proofs.Tests.{same_test}
use Rattle.lists.proofs.Members.{at_mem, mem-take, mem-set}
use Rattle.lists.proofs.Fill.{mem-without}
use Rattle.slots.specs.Segments.{Segments, keys}
use Rattle.slots.specs.Keys.{member, put, cut, predecessor, segment_of}
use Rattle.slots.proofs.Rising.{put-mem, mem-put, cut-mem, mem-cut}
use Rattle.slots.proofs.Keys.{member→mem, mem→member, not-member, segment-front, segment-place}
use Rattle.cells.specs.declared.Cell.{Cell}
use Rattle.cells.specs.Cells.{zero_cell, cell_at}
use Rattle.cells.specs.Steps.{raised, tailed, noted, dropped, aimed, retargeted}
use Rattle.cells.proofs.Laws.{noted-raised, noted-spent, noted-new, noted-full, raised-head, raised-past, tailed-gone, tailed-less, dropped-is, retargeted-is}
use Rattle.cells.proofs.Ruled.{Placed}
use Rattle.forecast.specs.Tidy.{Marker}
use Rattle.rules.specs.Shares.{Shares, cells_of}
use Rattle.rules.specs.Placing.{Room, home, put_in, cut_from}
use Rattle.demands.proofs.Requests.StaysGood.{Good}
use Rattle.demands.proofs.Sharing.Weighing.{noted-good, dropped-good}

-- CELLS THAT NAME THEIR SEGMENTS
module _ (place : ℕ → ℕ) where
  abbrev Aims : Cell → Type 0
  Aims c = c.segment ≡ place c.marker

  aimed_same : (c : Cell) → Aims c → aimed place c ≡ c
  aimed_same c e = λ i. record { marker = c.marker; segment = sym e i; count = c.count }

  -- cells that name their markers' segments stay as they are
  pub placed_same : (cs : List Cell) → Placed place cs → retargeted place cs ≡ cs
  placed_same cs p = retargeted-is place cs ∙ go cs p
    where
      go : (cs : List Cell) → Placed place cs → map (aimed place) cs ≡ cs
      go [] p = refl
      go (c ∷ cs) p = ap₂ {C = List Cell} ◌∷◌ (aimed_same c (p c (here refl))) (go cs (λ d m. p d (there m)))

  placed-set : (cs : List Cell) (i : ℕ) (c : Cell) → Placed place cs → (i < length cs → Aims c) → Placed place (set cs i c)
  placed-set cs i c p q =
      elim (dec_lt i (length cs)) [
        | yes h ↦ λ d m. elim (mem-set cs i c d h m) [ inl e ↦ subst Aims (sym e) (q h) | inr n ↦ p d n ]
        | no h ↦ subst (Placed place) (sym (set_out cs i c (omega arith))) p
      ]

  placed_at : (cs : List Cell) → Placed place cs → (i : ℕ) → i < length cs → Aims (get_or cs i zero_cell)
  placed_at cs p i h = p (get_or cs i zero_cell) (at_mem cs i zero_cell h)

  raised-placed : (i : ℕ) (cs : List Cell) → i < length cs → Placed place cs → Placed place (raised i cs)
  raised-placed i cs h p = elim (dec_lt 0 i) [ yes l ↦ past l | no l ↦ subst (λ (j : ℕ). Placed place (raised j cs)) (omega arith) (head (omega arith)) ]
    where
      past : 0 < i → Placed place (raised i cs)
      past l =
          subst (Placed place) (sym (raised-past i cs l))
          (placed-set (set cs i (get_or cs (i - 1) zero_cell)) (i - 1) _ (placed-set cs i _ p (λ k. placed_at cs p (i - 1) (omega arith))) (λ k. placed_at cs p i h))

      head : 0 < length cs → Placed place (raised 0 cs)
      head k = subst (Placed place) (sym (raised-head cs)) (placed-set cs 0 _ p (λ k. placed_at cs p 0 k))

  tailed-placed : (cs : List Cell) → Placed place cs → Placed place (tailed cs)
  tailed-placed cs p =
      elim (dec_lt 1 (get_or cs (length cs - 1) zero_cell).count) [
        | yes l ↦ subst (Placed place) (sym (tailed-less cs l)) (placed-set cs (length cs - 1) _ p (λ k. placed_at cs p (length cs - 1) k))
        | no l ↦ subst (Placed place) (sym (tailed-gone cs (omega arith))) (λ d m. p d (mem-take (length cs - 1) cs d m))
      ]

  -- an insert's note of its predecessor, in its segment
  pub noted-placed : (P x s : ℕ) (cs : List Cell) → Placed place cs → s ≡ place x → Placed place (noted P x s cs)
  noted-placed P x s cs p e =
      elim (dec_lt (cell_at x cs) (length cs)) [
        | yes h ↦
            elim (dec_lt (get_or cs (cell_at x cs) zero_cell).count P) [
              | yes k ↦ subst (Placed place) (sym (noted-raised P x s cs h k)) (raised-placed (cell_at x cs) cs h p)
              | no k ↦ subst (Placed place) (sym (noted-spent P x s cs h (omega arith))) (tailed-placed cs p)
            ]
        | no h ↦
            elim (dec_lt (length cs) P) [
              | yes k ↦
                  subst (Placed place) (sym (noted-new P x s cs (omega arith) k))
                  (λ d m. elim (mem-cases m) [ inl q ↦ subst Aims (sym q) e | inr n ↦ p d n ])
              | no k ↦ subst (Placed place) (sym (noted-full P x s cs (omega arith) (omega arith))) (tailed-placed cs p)
            ]
      ]

  -- a delete's drop of a cell
  pub dropped-placed : (y : ℕ) (cs : List Cell) → Placed place cs → Placed place (dropped y cs)
  dropped-placed y cs p = subst (Placed place) (sym (dropped-is y cs)) (λ d m. p d (mem-without (cell_at y cs) cs d m))

-- THE SEGMENT OF A KEY
-- one element changed for one with the same test
place_set : {A : Type 0} (p : A → Bool) (xs : List A) (s : ℕ) (x d : A) → p x ≡ p (get_or xs s d) → place_by p (set xs s x) ≡ place_by p xs
place_set p [] s x d e = refl
place_set p (y ∷ xs) zero x d e = ap (λ (b : Bool). if b then 0 else suc (place_by p xs)) e
place_set p (y ∷ xs) (suc s) x d e = ap (λ (n : ℕ). if p y then 0 else suc n) (place_set p xs s x d e)

segment-set : (ss : Segments) (s : ℕ) (new : List ℕ) (k : ℕ) → (k ≡ 0) ⊎ (member k new ≡ member k (get_or ss s [])) → segment_of (set ss s new) k ≡ segment_of ss k
segment-set ss s new zero e = segment-front (set ss s new) ∙ sym (segment-front ss)
segment-set ss s new (suc k) (inl e) = absurd (omega arith)
segment-set ss s new (suc k) (inr e) =
    segment-place (set ss s new) (suc k) (omega arith) ∙ place_set (member (suc k)) ss s new [] e ∙ sym (segment-place ss (suc k) (omega arith))

member-put : (y k : ℕ) (ks : List ℕ) → k ≢ y → member k (put y ks) ≡ member k ks
member-put y k ks n =
    same_test (member k (put y ks)) (member k ks)
    (λ t. elim (put-mem y ks k (member→mem k (put y ks) t)) [ inl e ↦ absurd (n e) | inr m ↦ mem→member k ks m ])
    (λ t. mem→member k (put y ks) (mem-put y ks k (member→mem k ks t)))

member-cut : (y k : ℕ) (ks : List ℕ) → k ≢ y → member k (cut y ks) ≡ member k ks
member-cut y k ks n =
    same_test (member k (cut y ks)) (member k ks) (λ t. mem→member k ks (cut-mem y ks k (member→mem k (cut y ks) t)))
    (λ t. mem→member k (cut y ks) (mem-cut y ks k (member→mem k ks t) n))

-- a live key's, or the front's, where a new key is put in
pub segment-put : (y : ℕ) (ss : Segments) → T (not (member y (keys ss))) → (k : ℕ) → Marker ss k → segment_of (put_in y ss) k ≡ segment_of ss k
segment-put y ss t k (inl e) = segment-set ss (home y ss) _ k (inl e)
segment-put y ss t k (inr m) = segment-set ss (home y ss) _ k (inr (member-put y k (get_or ss (home y ss) []) (not-member y (keys ss) t k m)))

-- another key's, or the front's, where one is taken out
pub segment-cut : (y : ℕ) (ss : Segments) (k : ℕ) → (k ≡ 0) ⊎ (k ≢ y) → segment_of (cut_from y ss) k ≡ segment_of ss k
segment-cut y ss k (inl e) = segment-set ss (segment_of ss y) _ k (inl e)
segment-cut y ss k (inr n) = segment-set ss (segment_of ss y) _ k (inr (member-cut y k (get_or ss (segment_of ss y) []) n))

-- REQUESTS WITHOUT A SWEEP
-- an insert leaves the cells as noted
pub unswept-insert : (S : Shares) (y : ℕ) (R : Room) → Good S R → T (not (member y (keys R.segments)))
    → retargeted (segment_of (put_in y R.segments)) (noted (cells_of S) (predecessor y R.segments) (home y R.segments) R.cells)
    ≡ noted (cells_of S) (predecessor y R.segments) (home y R.segments) R.cells
unswept-insert S y R G t =
    placed_same (segment_of (put_in y ss)) cs (λ c m. p c m ∙ sym (segment-put y ss t c.marker ((noted-good S y R G).live c m)))
  where
    ss : Segments
    ss = R.segments

    cs : List Cell
    cs = noted (cells_of S) (predecessor y R.segments) (home y R.segments) R.cells

    p : Placed (segment_of R.segments) (noted (cells_of S) (predecessor y R.segments) (home y R.segments) R.cells)
    p = noted-placed (segment_of R.segments) (cells_of S) (predecessor y R.segments) (home y R.segments) R.cells G.placed refl

-- a delete leaves the cells that it did not drop as they were
pub unswept-delete : (S : Shares) (y : ℕ) (R : Room) → Good S R → retargeted (segment_of (cut_from y R.segments)) (dropped y R.cells) ≡ dropped y R.cells
unswept-delete S y R G =
    placed_same (segment_of (cut_from y R.segments)) (dropped y R.cells)
    (λ c m. dropped-placed (segment_of R.segments) y R.cells G.placed c m ∙ sym (segment-cut y R.segments c.marker (inr ((dropped-good S y R G).live c m).1)))
