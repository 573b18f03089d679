-- `put_in` puts a mark in front of another: those from its place on move back by one, and the last goes.
use Rattle.std.proofs.Common.{◌≡◌, ℕ, ◌+◌, ◌-◌, ◌≤◌, List, length, get_or, take, drop, set, subst, add-one, arith, append-nil, length-take-le, take-suc, refl}
use lib.ListN.{drop_of_length-le}
use lib.Seq.{append_snoc, set_at, take-take}
use Rattle.std.specs.List.{copy_within}
use Rattle.std.proofs.lemmas.List.{drop-take}
use Rattle.lists.specs.Lists.{insert_at}
use Rattle.marks.proofs.put_in.Goals as goal

shifted : {A : Type 0} (z : A) (k last : ℕ) (v : A) (xs : List A) → length xs ≡ last + 1 → k ≤ last → set (copy_within xs k last (k + 1)) k v ≡ insert_at k v (take last xs)
unfolding insert_at
shifted z k last v xs l h =
    let e : length xs ≤ k + 1 + (last - k) = omega arith in
    let s : k + (last - k) ≡ last = omega arith in
    let d : drop k (take last xs) ≡ take (last - k) (drop k xs) = subst (λ (n : ℕ). drop k (take n xs) ≡ take (last - k) (drop k xs)) s (drop-take k (last - k) xs) in
    rw (
      drop_of_length-le xs e,
      append-nil,
      add-one k,
      take-suc xs k z (omega arith),
      append_snoc (take k xs) (get_or xs k z) (take (last - k) (drop k xs)),
      set_at (take k xs) (get_or xs k z) (take (last - k) (drop k xs)) v k (length-take-le k xs (omega arith)),
      take-take k last xs h,
      d,
    ) refl

pub returns : goal.returns
returns c = rw c.copy_within.ensures.after (shifted (record { place = 0; weight = 0 }) c.args.k (length c.args.xs.now - 1) c.args.v c.args.xs.now (omega arith) (omega arith))
