-- `bits` gathers the bits of all.
use Rattle.std.proofs.Common.{bit_or, sym, ◌∙◌, rules, tests}
use Rattle.std.proofs.lemmas.Iterator.{YieldsList-from_slice}
use Rattle.std.proofs.lemmas.Iterator.Consumers.{fold_from_yields_List}
use Rattle.reading.proofs.Eights.{none_of}
use Rattle.reading.proofs.gaps.bits.Goals as goal

pub returns : goal.returns
returns c z =
    let gathers = fold_from_yields_List _ (λ all x. bit_or all x) 0 c.fold.result c.fold.ensures.ran (YieldsList-from_slice c.args.part.now cc) (λ a x b q k. search (rules, tests)) in
    (none_of 0 c.args.part.now (sym gathers ∙ z)).1
