-- `stretches::crossing::nearest` meets its contract: a second look at the same number changes nothing.
use mathlib.Core.Path.{◌≡◌, sym, ap, ap₂, ◌∙◌}
use Prim.Native.Nat.{ℕ, ◌-◌, max, min}
use Rattle.stretches.specs.Tries.{Modest, tried_in, nearer_of, past_crossing, nearest_of}
use Rattle.stretches.proofs.Looks.{nearer-modest, one-look, tried-in}
use Rattle.stretches.proofs.crossing.nearest.Goals as goal
use Rattle.stretches.proofs.crossing.nearest.Goals.{After-nearer-near}

-- the two numbers looked at, and the first look
module _ (c : After-nearer-near) where
  abbrev past : ℕ
  past = past_crossing c.args.s.left c.args.s.right c.args.c c.args.m

  past_is : c.past_crossing-past.result ≡ past
  past_is = c.past_crossing-past.ensures.0

  lower-is : c.clamp-lower.result ≡ max c.args.s.first (min (past - 1) c.args.s.last)
  lower-is = c.clamp-lower.ensures ∙ ap (λ (p : ℕ). max c.args.s.first (min (p - 1) c.args.s.last)) past_is

  upper_is : c.clamp-upper.result ≡ max c.args.s.first (min past c.args.s.last)
  upper_is = c.clamp-upper.ensures ∙ ap (λ (p : ℕ). max c.args.s.first (min p c.args.s.last)) past_is

  near-modest : Modest c.nearer-near.result
  near-modest =
      let t = c.try_at in
      nearer-modest c.args.found t.result c.nearer-near.result c.nearer-near.ensures c.requires.0 t.ensures.1 t.ensures.2

  near-is : c.nearer-near.result ≡ nearer_of c.args.found (tried_in c.args.s c.args.c c.args.m (past - 1))
  near-is =
      let a = c.args in
      let t = c.try_at in
      c.nearer-near.ensures ∙ ap (nearer_of a.found) (tried-in a.s a.c a.m _ (past - 1) t.result lower-is t.ensures.0)

pub returns-then-lower-upper : goal.returns-then-lower-upper
returns-then-lower-upper c =
    let a = c.args in
    record {
      range = near-modest (goal.at.returns-then-lower-upper c).After-nearer-near;
      nearest = near-is (goal.at.returns-then-lower-upper c).After-nearer-near ∙ sym (one-look a.found a.s a.c a.m c.requires.2 (sym (lower-is (goal.at.returns-then-lower-upper c).After-nearer-near) ∙ c.if-lower-upper.true ∙ upper_is (goal.at.returns-then-lower-upper c).After-nearer-near));
    }

pub nearer-requires : goal.nearer-requires
nearer-requires c = let p = near-modest (goal.at.nearer-requires c).After-nearer-near in (p.num, p.den, c.try_at-2.ensures.1, c.try_at-2.ensures.2)

pub returns : goal.returns
unfolding nearest_of
returns c =
    let a = c.args in
    let t = c.try_at-2 in record {
      range = nearer-modest c.nearer-near.result t.result c.nearer.result c.nearer.ensures (near-modest (goal.at.returns c).After-nearer-near) t.ensures.1 t.ensures.2;
      nearest = c.nearer.ensures ∙ ap₂ nearer_of (near-is (goal.at.returns c).After-nearer-near) (tried-in a.s a.c a.m _ (past (goal.at.returns c).After-nearer-near) t.result (upper_is (goal.at.returns c).After-nearer-near) t.ensures.0);
    }
