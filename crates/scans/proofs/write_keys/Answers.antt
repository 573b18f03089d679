-- `write_keys` writes the keys from a place on, and their cards, until an output is full or they end. The loop's invariant: `w` keys are written, and those
-- left are those from key `from` of segment `s` on; the same of their cards.
use mathlib.Core.Path.{◌≡◌, ap, ◌∙◌}
use mathlib.Core.List.{map}
use Prim.Native.Nat.{◌+◌, ◌-◌, ◌*◌, ◌≤◌}
use native.Mathlib.Omega.{arith}
use lib.ListN.{length, drop, get_or, length-drop}
use Rattle.slots.specs.Segments.{keys}
use Rattle.scans.specs.Scans.{keys_from, shorter}
use Rattle.scans.proofs.Pages.{halfway-later, halfway-more, page-full, page-ended, min-shorter, cards-written, cards-stretch}
use Rattle.scans.proofs.Stretches.{stretch-counted, keys-next, none_from}
use Rattle.scans.proofs.write_keys.Goals as goal

pub returns-then-n-left-clause-keys : goal.returns-then-n-left-clause-keys
returns-then-n-left-clause-keys c = λ ss sh e.
    let a = c.args in
    let l = c.loop-s in
    let full : l.w + c.min-n.result ≡ c.min-room.result = omega arith in
    page-full (keys_from a.first a.at ss) a.output.now l.output (keys (drop (l.s + 1) ss)) (drop (64 * l.s + l.from) a.list.now) l.w _
    (halfway-later (l.invariant.2 ss sh e) _ _ (stretch-counted ss a.list.now sh a.counts.now e l.s l.from (omega arith) (omega arith)))
    (simp length-drop (omega arith)) _ _ _ (full ∙ c.min-room.ensures ∙ min-shorter _ _) c.if-n-left.true c.copy.ensures.slots

pub returns-then-n-left-clause-cards : goal.returns-then-n-left-clause-cards
returns-then-n-left-clause-cards c = λ f ss sh e k.
    let a = c.args in
    let l = c.loop-s in
    let full : l.w + c.min-n.result ≡ c.min-room.result = omega arith in
    cards-written f (keys_from a.first a.at ss)
    (page-full (map f (keys_from a.first a.at ss)) a.output_cards.now l.output_cards (map f (keys (drop (l.s + 1) ss))) (drop (64 * l.s + l.from) a.cards.now) l.w _
    (halfway-later (l.invariant.3 f ss sh e k) _ _
    (cards-stretch f a.list.now k _ _ _ _ (stretch-counted ss a.list.now sh a.counts.now e l.s l.from (omega arith) (omega arith))))
    (simp length-drop (omega arith)) _ _ _ (full ∙ c.min-room.ensures ∙ min-shorter _ _) c.if-n-left.true c.copy.ensures.cards)

pub loop-s-preserved : goal.loop-s-preserved
loop-s-preserved c =
    let a = c.args in
    let l = c.loop-s in
    let all : c.min-n.result ≡ get_or a.counts.now l.s 0 - l.from = omega arith in (
      omega arith,
      omega arith,
      λ ss sh e.
          halfway-later
          (halfway-more (keys_from a.first a.at ss) a.output.now l.output (keys (drop (l.s + 1) ss)) (drop (64 * l.s + l.from) a.list.now) l.w _
          (halfway-later (l.invariant.2 ss sh e) _ _ (stretch-counted ss a.list.now sh a.counts.now e l.s l.from (omega arith) (omega arith)))
          (simp length-drop (omega arith)) _ _ all c.copy.ensures.slots)
          _ _ (keys-next ss (l.s + 1)),
      λ f ss sh e k.
          halfway-later
          (halfway-more (map f (keys_from a.first a.at ss)) a.output_cards.now l.output_cards (map f (keys (drop (l.s + 1) ss))) (drop (64 * l.s + l.from) a.cards.now) l.w _
          (halfway-later (l.invariant.3 f ss sh e k) _ _
          (cards-stretch f a.list.now k _ _ _ _ (stretch-counted ss a.list.now sh a.counts.now e l.s l.from (omega arith) (omega arith))))
          (simp length-drop (omega arith)) _ _ all c.copy.ensures.cards)
          _ _ (ap (map f) (keys-next ss (l.s + 1))),
    )

pub returns-clause-keys : goal.returns-clause-keys
returns-clause-keys c = λ ss sh e.
    let a = c.args in
    let l = c.loop-s in
    let fits : l.w ≤ shorter (length a.output.now) (length a.output_cards.now) = omega (arith, c.min-room.ensures ∙ min-shorter _ _) in
    page-ended _ (l.invariant.2 ss sh e) (none_from ss a.list.now sh l.s l.from (omega arith)) fits

pub returns-clause-cards : goal.returns-clause-cards
returns-clause-cards c = λ f ss sh e k.
    let a = c.args in
    let l = c.loop-s in
    let fits : l.w ≤ shorter (length a.output.now) (length a.output_cards.now) = omega (arith, c.min-room.ensures ∙ min-shorter _ _) in
    cards-written f (keys_from a.first a.at ss) (page-ended _ (l.invariant.3 f ss sh e k) (ap (map f) (none_from ss a.list.now sh l.s l.from (omega arith))) fits)
