-- `mark_cell` puts one cell's mark among the others, if its marker will be one of the window's keys.
use Rattle.std.proofs.Common.{◌≡◌, ℕ, ◌+◌, ◌-◌, ◌<◌, ◌≤◌, List, ◌∷◌, ◌++◌, map, length, take, drop, ap, ap₂, ◌∙◌, inl, inr, arith, length-take-le}
use Rattle.std.proofs.lemmas.Grind.{common_steps}
use native.Mathlib.Decide.{dec_lt}
use lib.Seq.{take-take, take_at}
use Rattle.lists.specs.Lists.{insert_at}
use Rattle.std.proofs.lemmas.List.{map-append}
use Rattle.lists.proofs.Inserted.{length_inserted}
use Rattle.lists.proofs.Maps.{map-take, map-drop}
use Rattle.stretches.specs.Marks.{places_of, weights_of}
use Rattle.marks.specs.Marking.{after}
use Rattle.marks.proofs.CellMarks.{one_none, one-put}
use Rattle.marks.proofs.Standing.{front-none, outside-none, stands-in, inside_one}
use Rattle.marks.proofs.mark_cell.Goals as goal
use Rattle.marks.proofs.mark_cell.Goals.{then-marker-eq0-via-then-marker-eq0, then-marker-eq0-via-else-marker-eq0+then-not-contains}

-- an element put into a list, of all the list is mapped to
mapped : {A B : Type 0} (f : A → B) (k : ℕ) (v : A) (xs : List A) → map f (insert_at k v xs) ≡ insert_at k (f v) (map f xs)
unfolding insert_at
mapped f k v xs =
    map-append f (take k xs) (v ∷ drop k xs) ∙ ap₂ (λ l r. l ++ (f v ∷ r)) (map-take f k xs) (map-drop f k xs)

-- put into the first n and one place more
put-part : {A B : Type 0} (f : A → B) (n k : ℕ) (v : A) (xs ys : List A) → n < length xs → k ≤ n
    → ys ≡ insert_at k v (take (length (take (n + 1) xs) - 1) (take (n + 1) xs)) → map f (take (n + 1) (ys ++ drop (n + 1) xs)) ≡ insert_at k (f v) (map f (take n xs))
put-part f n k v xs ys h l e =
    let m : length (take (n + 1) xs) - 1 ≡ n = omega (arith, length-take-le (n + 1) xs (omega arith)) in
    let q : ys ≡ insert_at k v (take n xs) = e ∙ ap (λ (i : ℕ). insert_at k v (take i (take (n + 1) xs))) m ∙ ap (insert_at k v) (take-take n (n + 1) xs (omega arith)) in
    let w : length ys ≡ n + 1 = ap length q ∙ length_inserted v k (take n xs) (omega (arith, length-take-le n xs (omega arith))) ∙ omega (arith, length-take-le n xs (omega arith)) in
    ap (map f) (take_at ys (drop (n + 1) xs) (n + 1) w ∙ q) ∙ mapped f k v (take n xs)

pub returns-then-marker-eq0 : goal.returns-then-marker-eq0
returns-then-marker-eq0 c =
    let a = c.args in
    record {
      range = omega arith;
      marks = λ ss q m. one_none a.cell (after a.w ss) _ _
          (elim c.then-marker-eq0.branch [
            | then-marker-eq0-via-then-marker-eq0 w ↦ front-none a.list.now a.counts.now a.w ss q a.cell.marker w.if-marker-eq0.true
            | then-marker-eq0-via-else-marker-eq0+then-not-contains w ↦ outside-none a.list.now a.counts.now a.w ss q a.cell m w.if-marker-eq0.false
                (elim (dec_lt a.cell.segment a.w.first) [ yes l ↦ inl l | no l ↦ inr (grind (arith, common_steps)) ])
          ]);
    }

pub returns-clause-marks : goal.returns-clause-marks
returns-clause-marks c ss q m =
    let p = c.place_of-p in
    let a = c.args in
    let few : c.mark_from-k.result ≤ a.n = omega (arith, length-take-le a.n a.row.now (omega arith)) in
    one-put a.cell (after a.w ss) (places_of (take a.n a.row.now)) (weights_of (take a.n a.row.now)) _ _ p.result c.mark_from-k.result
    (inside_one a.list.now a.counts.now a.w ss q a.cell m c.if-marker-eq0.false (grind (arith, common_steps)) (grind (arith, common_steps)))
    (p.ensures ss q (stands-in a.list.now a.counts.now a.w ss q a.cell m c.if-marker-eq0.false))
    c.mark_from-k.ensures.place (put-part (λ m. m.place) a.n _ _ _ _ (omega arith) few c.put_in.ensures) (put-part (λ m. m.weight) a.n _ _ _ _ (omega arith) few c.put_in.ensures)
