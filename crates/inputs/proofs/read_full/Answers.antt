-- What a read adds stands after what was there.
use Rattle.std.proofs.Common.{◌≡◌, ℕ, ◌+◌, ◌-◌, ◌≤◌, List, ◌++◌, rules, arith, length, take, drop, sym, ap, ◌∙◌, subst, le_refl, drop_at, length-take-le}
use Rattle.std.proofs.lemmas.Slice.{take-put_mid_below}
use Rattle.std.specs.declared.option.Option.{Option}
use Rattle.std.specs.Io.KnownBytes.{Consumes}
use Rattle.std.proofs.KnownBytes.{Consumes-trans, Consumes-kept}
use borrow.Rule.Slice.PartMut.{put_mid, post_of}
use lib.Seq.{take-add, take-append-le}
use Rattle.inputs.proofs.read_full.Goals as goal

-- the front of a list stays where its end is written
front_kept : (a : ℕ) (xs ys : List ℕ) → a ≤ length xs → take a (put_mid a (length xs - a) xs ys) ≡ take a xs
front_kept a xs ys within = take-put_mid_below _ _ _ _ _ (le_refl _) within

-- and after it stands what was written
front_more : (a n : ℕ) (xs ys : List ℕ) → a ≤ length xs → n ≤ length ys
    → take a xs ++ take n ys ≡ take (a + n) (put_mid a (length xs - a) xs ys)
front_more a n xs ys within fits =
    let whole = put_mid a (length xs - a) xs ys in
    let after = post_of a (length xs - a) xs in
    let part : take n (drop a whole) ≡ take n ys =
    ap (take n) (drop_at (take a xs) (ys ++ after) a (length-take-le a xs within)) ∙ take-append-le n ys after fits in
    ap (λ l. l ++ take n ys) (sym (front_kept a xs ys within)) ∙ ap (λ l. take a whole ++ l) (sym part) ∙ sym (take-add a n whole)

read_more : (a b c : Option (List ℕ)) (at n : ℕ) (xs ys : List ℕ) → at ≤ length xs → n ≤ length ys
    → Consumes a b (take at xs) → Consumes b c (take n ys) → Consumes a c (take (at + n) (put_mid at (length xs - at) xs ys))
read_more a b c at n xs ys within fits before read =
    subst (Consumes a c) (front_more at n xs ys within fits) (Consumes-trans a b c _ _ before read)

read_none : (a b c : Option (List ℕ)) (at n : ℕ) (xs ys : List ℕ) → n ≡ 0 → at ≤ length xs → n ≤ length ys
    → Consumes a b (take at xs) → Consumes b c (take n ys) → Consumes a c (take at (put_mid at (length xs - at) xs ys))
read_none a b c at n xs ys none within fits before read =
    let same : at + n ≡ at = omega (arith, none) in
    subst (λ k. Consumes a c (take k (put_mid at (length xs - at) xs ys))) same (read_more a b c at n xs ys within fits before read)

pub loop-done-preserved : goal.loop-done-preserved
loop-done-preserved g c = record {
  within = search rules;
  bytes = read_more _ _ _ _ _ _ _ c.loop-done.invariant.within c.in-Ok.ensures.bound.0 c.loop-done.invariant.bytes c.in-Ok.ensures.bytes.0;
}

pub returns-in-Ok-eq0-clause-bytes : goal.returns-in-Ok-eq0-clause-bytes
returns-in-Ok-eq0-clause-bytes g c =
    read_none _ _ _ _ _ _ _ c.in-Ok-eq0.field-0-test c.loop-done.invariant.within c.in-Ok-eq0.ensures.bound.0 c.loop-done.invariant.bytes c.in-Ok-eq0.ensures.bytes.0

pub returns-in-Err-clause-bytes : goal.returns-in-Err-clause-bytes
returns-in-Err-clause-bytes g c =
    subst (Consumes _ _) (sym (front_kept _ _ _ c.loop-done.invariant.within)) (Consumes-kept _ _ _ _ c.loop-done.invariant.bytes c.in-Err.ensures.bytes)
