-- Make, check, lookup and scan: from what the calls below them promise to what they give, where the sizes fit.
use Prim.Native.Nat.{ℕ, ◌≤◌}
use mathlib.Core.Path.{◌≡◌, refl, ap, ◌∙◌}
use mathlib.Core.List.{List, [], ◌∷◌}
use lib.ListN.{length}
use Rattle.forecast.specs.declared.Forecast.{Forecast}
use Rattle.rules.specs.Lent.{Lent}
use Rattle.rules.specs.Checks as checks
use Rattle.rules.specs.Runs.{one}
use Rattle.answers.specs.Admits.{MakeAdmits, CheckAdmits, LookupAdmits, ScanAdmits}
use Rattle.answers.specs.Answers.{MakeReply, CheckAnswer, LookupAnswer, ScanAnswer, make_number, check_number, lookup_paper, scan_paper}
use Rattle.given.specs.declared.Told.{Told}
use Rattle.given.specs.Calls.{not_forecast, short, make, check, lookup, scan, over, Gives}
use Rattle.given.proofs.Sizes.{fitted, forecast-sized, reply-sized}
use Rattle.telling.specs.Told.{found_words, scanned_words}
use Rattle.words.specs.Words.{forecast_in, forecast_words, saturated}
use Rattle.words.proofs.Called.{check-same}

module _ (profile : ℕ) (L : Lent) (forecast : List ℕ) (l : length forecast ≡ 37) where
  pub make-given : (m : MakeReply) (n : ℕ) (left : Lent) (forecast' : List ℕ) → MakeAdmits profile L m left → forecast' ≡ forecast_words m.forecast
      → n ≡ make_number m.answer → Gives (make profile L.slots L.cards L.table forecast) n (left.slots ∷ left.cards ∷ left.table ∷ forecast' ∷ [])
  unfolding make
  make-given m n left forecast' a w q =
      let words = w ∙ ap forecast_words a.forecast in
      fitted (not_forecast forecast) _ _ (forecast-sized forecast l) (record { number = q ∙ a.answer; slices = λ i. (a.lent_left i).slots ∷ (a.lent_left i).cards ∷ (a.lent_left i).table ∷ words i ∷ [] })

  pub check-given : (F : Forecast) (k : CheckAnswer) (n : ℕ) → F ≡ saturated (forecast_in forecast) → CheckAdmits profile L F k → n ≡ check_number k
      → Gives (check profile L.slots L.cards L.table forecast) n []
  unfolding check
  check-given F k n q a m =
      fitted (not_forecast forecast) _ _ (forecast-sized forecast l) (record { number = m ∙ a.answer ∙ ap (checks.check profile L) q ∙ check-same profile L (forecast_in forecast); slices = refl })

module _ (profile : ℕ) (L : Lent) (key : ℕ) (reply : List ℕ) where
  pub lookup-given : 3 ≤ length reply → (k : LookupAnswer) (t : Told) (n : ℕ) (reply' : List ℕ) → LookupAdmits profile L key k → t ≡ found_words (lookup_paper k) → n ≡ t.number
      → reply' ≡ over (t.first ∷ t.second ∷ t.third ∷ []) reply → Gives (lookup profile L.slots L.cards L.table key reply) n (reply' ∷ [])
  unfolding lookup
  lookup-given l k t n reply' a q m w =
      let is = q ∙ ap found_words a.answer in
      let said = w ∙ ap (λ (x : Told). over (x.first ∷ x.second ∷ x.third ∷ []) reply) is in
      fitted (short reply 3) _ _ (reply-sized reply 3 l) (record { number = m ∙ ap (λ (x : Told). x.number) is; slices = λ i. said i ∷ [] })

  pub scan-given : 2 ≤ length reply → (output cards : List ℕ) (k : ScanAnswer) (t : Told) (n : ℕ) (output' cards' reply' : List ℕ) → ScanAdmits profile L key output cards k output' cards'
      → t ≡ scanned_words (scan_paper k) → n ≡ t.number → reply' ≡ over (t.first ∷ t.second ∷ []) reply
      → Gives (scan profile L.slots L.cards L.table key output cards reply) n (output' ∷ cards' ∷ reply' ∷ [])
  unfolding scan
  scan-given l output cards k t n output' cards' reply' a q m w =
      let number = m ∙ ap (λ (x : Told). x.number) q ∙ a.number in
      let written = ap (λ (x : Told). x.first) q ∙ a.written in
      let more = ap (λ (x : Told). x.second) q ∙ ap one a.more in
      let said = w ∙ (λ i. over (written i ∷ more i ∷ []) reply) in
      fitted (short reply 2) _ _ (reply-sized reply 2 l) (record { number = number; slices = λ i. a.output i ∷ a.cards_output i ∷ said i ∷ [] })
