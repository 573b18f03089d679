-- `mark_from` finds the first mark that is at a place or past it, or answers how many there are.
use Rattle.std.proofs.Common.{◌≡◌, leb, length, refl, sym, ap, ◌∙◌, rules, tests}
use Rattle.std.specs.Prelude.{position, unwrap_or}
use Rattle.std.proofs.lemmas.Iterator.{YieldsList-from_slice}
use Rattle.std.proofs.lemmas.Iterator.Search.{position_from_yields_List}
use Rattle.lists.proofs.Maps.{place_map}
use Rattle.stretches.proofs.NextMark.{place-or}
use Rattle.stretches.proofs.passing.mark_from.Goals as goal

pub returns-clause-place : goal.returns-clause-place
returns-clause-place c =
    let marks = c.args.marks.now in
    let e : c.position.result ≡ position (λ m. leb c.args.place m.place) marks =
    position_from_yields_List (λ m. leb c.args.place m.place) _ _ _ c.position.ensures.ran (YieldsList-from_slice marks cc) (λ x b q k. search (rules, tests)) in
    c.unwrap_or.ensures ∙ ap (λ o. unwrap_or o (length marks)) e ∙ place-or (λ m. leb c.args.place m.place) marks refl
    ∙ sym (place_map (leb c.args.place) (λ m. m.place) marks)
