-- Insert and delete: from what the calls below them promise to what they give, where the sizes fit.
use Prim.Native.Nat.{ℕ, ◌≤◌}
use mathlib.Core.Path.{◌≡◌, sym, ap, ◌∙◌, subst}
use mathlib.Core.Logic.{inl, inr, ◌≢◌}
use mathlib.Core.Bool.{◌||◌}
use mathlib.Core.List.{List, [], ◌∷◌}
use lib.Dec.{T, eqb, eqb→eq}
use lib.ListN.{length}
use Rattle.lists.proofs.Tests.{tested, neqb→ne, nor}
use Rattle.forecast.specs.declared.Forecast.{Forecast}
use Rattle.rules.specs.declared.Request.{Request}
use Rattle.rules.specs.declared.Request.TheVariants.{Insert, Delete}
use Rattle.rules.specs.Placing.{Answer}
use Rattle.rules.specs.Lent.{Lent, lend}
use Rattle.rules.specs.Calls as rules
use Rattle.demands.specs.Rows.{insert_rows, delete_rows}
use Rattle.demands.proofs.Refusals.Numbers as below
use Rattle.answers.specs.Admits.{InsertAdmits, DeleteAdmits}
use Rattle.answers.specs.Answers.{InsertReply, DeleteReply, insert_paper, delete_paper}
use Rattle.given.specs.declared.Told.{Told}
use Rattle.given.specs.Calls.{Given, sized, not_forecast, short, insert, delete, left_by, over, Gives}
use Rattle.given.proofs.Sizes.{fitted, forecast-sized, reply-sized}
use Rattle.given.proofs.Leaves.{told-each}
use Rattle.telling.specs.Told.{answer_words}
use Rattle.words.specs.Words.{forecast_in, forecast_words, saturated}
use Rattle.words.proofs.WordLaws.{words-again, forecast_in-roomy}
use Rattle.words.proofs.Called.{request-same}
use Rattle.posts.specs.Posts.{one_word, two_words, Posted}
use Rattle.replies.specs.Back.{works_on, handed_back}
use Rattle.replies.proofs.Back.{plain, works-not, handed, kept}

-- A REQUEST on the forecast that the words show, with the card v: its answer, what is left of what was lent, and the words left. They are the same
-- where the request is done, and where it is refused those lent are left.
module _ (profile : ℕ) (q : Request) (v : ℕ) (L : Lent) (forecast : List ℕ) where
  abbrev C : rules.Called
  C = rules.request profile q v L (forecast_in forecast)

  record Asked (a : Answer) (left : Lent) (forecast' : List ℕ) : Type 0 where
    answer : a ≡ C.answer
    lent : left ≡ C.lent
    words : forecast' ≡ forecast_words C.forecast

  asked : (F : Forecast) (c : rules.Called) (n : ℕ) (forecast' : List ℕ) → length forecast ≡ 37 → T (plain C.answer.number) → F ≡ saturated (forecast_in forecast)
      → c ≡ rules.request profile q v L F → n ≡ c.answer.number → forecast' ≡ handed_back n c.forecast forecast → Asked c.answer c.lent forecast'
  asked F c n forecast' l few f e en w =
      let is : c ≡ rules.request profile q v L (saturated (forecast_in forecast)) = e ∙ ap (rules.request profile q v L) f in
      let same = request-same profile q v L (forecast_in forecast) (forecast_in-roomy forecast) in
      let answer = ap (λ (d : rules.Called). d.answer) is ∙ same.answer in
      let number : n ≡ C.answer.number = en ∙ ap (λ (x : Answer). x.number) answer in
      record {
        answer = answer;
        lent = ap (λ (d : rules.Called). d.lent) is ∙ same.lent;
        words = elim (tested (eqb n 0)) [
          | inl d ↦
              (let z : n ≡ 0 = eqb→eq n 0 d in
              w ∙ handed n c.forecast forecast (ap works_on z) ∙ ap forecast_words (ap (λ (d : rules.Called). d.forecast) is ∙ same.done (sym number ∙ z)))
          | inr d ↦
              (let z : n ≢ 0 = neqb→ne n 0 d in
              w ∙ kept n c.forecast forecast (works-not n (subst (λ (k : ℕ). T (plain k)) (sym number) few) z)
              ∙ sym (ap forecast_words (same.left (λ y. z (number ∙ y))) ∙ words-again forecast l))
        ];
      }

-- what the call gives whose reply has the m words `words`
module _ (profile : ℕ) (q : Request) (v : ℕ) (words : Told → List ℕ) (m : ℕ) (list cards table forecast reply : List ℕ) where
  abbrev D : rules.Called
  D = C profile q v (lend list cards table) forecast

  abbrev Outcome : Given
  Outcome = record { number = D.answer.number; left = left_by D (over (words (answer_words D.answer)) reply) }

  request-given : (F : Forecast) (c : rules.Called) (n : ℕ) (forecast' reply' : List ℕ) → length forecast ≡ 37 → m ≤ length reply → T (plain D.answer.number)
      → F ≡ saturated (forecast_in forecast) → c ≡ rules.request profile q v (lend list cards table) F → Posted words (answer_words c.answer) c.forecast forecast reply n forecast' reply'
      → Gives (sized (not_forecast forecast || short reply m) (list ∷ cards ∷ table ∷ forecast ∷ reply ∷ []) Outcome) n (c.lent.slots ∷ c.lent.cards ∷ c.lent.table ∷ forecast' ∷ reply' ∷ [])
  request-given F c n forecast' reply' l k few f e p =
      let d = asked profile q v (lend list cards table) forecast F c n forecast' l few f e p.number p.forecast_left in
      let said = p.reply_left ∙ ap (λ (x : Answer). over (words (answer_words x)) reply) d.answer in
      fitted (not_forecast forecast || short reply m) _ _ (nor (not_forecast forecast) (short reply m) (forecast-sized forecast l) (reply-sized reply m k)) (record { number = p.number ∙ ap (λ (x : Answer). x.number) d.answer; slices = λ i. (d.lent i).slots ∷ (d.lent i).cards ∷ (d.lent i).table ∷ d.words i ∷ said i ∷ [] })

module _ (profile : ℕ) (list cards table forecast : List ℕ) (key : ℕ) (reply : List ℕ) (l : length forecast ≡ 37) where
  pub insert-given : (card : ℕ) (F : Forecast) (k : InsertReply) (n : ℕ) (list' cards' table' forecast' reply' : List ℕ) → 1 ≤ length reply → F ≡ saturated (forecast_in forecast)
      → InsertAdmits profile (lend list cards table) F key card k (lend list' cards' table') → Posted one_word (answer_words (insert_paper k.answer)) k.forecast forecast reply n forecast' reply'
      → Gives (insert profile list cards table forecast key card reply) n (list' ∷ cards' ∷ table' ∷ forecast' ∷ reply' ∷ [])
  unfolding insert
  insert-given card F k n list' cards' table' forecast' reply' m f a =
      request-given profile (Insert key) card one_word 1 list cards table forecast reply F (record { answer = insert_paper k.answer; lent = lend list' cards' table'; forecast = k.forecast }) n forecast' reply' l m
      (told-each plain (insert_rows profile (lend list cards table) (forecast_in forecast) key) _ tt (below.insert_tells profile (lend list cards table) (forecast_in forecast) key card (forecast_in-roomy forecast))) f
      (λ i. record { answer = a.answer i; lent = a.lent_left i; forecast = a.forecast i })

  pub delete-given : (F : Forecast) (k : DeleteReply) (n : ℕ) (list' cards' table' forecast' reply' : List ℕ) → 2 ≤ length reply → F ≡ saturated (forecast_in forecast)
      → DeleteAdmits profile (lend list cards table) F key k (lend list' cards' table') → Posted two_words (answer_words (delete_paper k.answer)) k.forecast forecast reply n forecast' reply'
      → Gives (delete profile list cards table forecast key reply) n (list' ∷ cards' ∷ table' ∷ forecast' ∷ reply' ∷ [])
  unfolding delete
  delete-given F k n list' cards' table' forecast' reply' m f a =
      request-given profile (Delete key) 0 two_words 2 list cards table forecast reply F (record { answer = delete_paper k.answer; lent = lend list' cards' table'; forecast = k.forecast }) n forecast' reply' l m
      (told-each plain (delete_rows profile (lend list cards table) (forecast_in forecast) key) _ tt (below.delete_tells profile (lend list cards table) (forecast_in forecast) key (forecast_in-roomy forecast))) f
      (λ i. record { answer = a.answer i; lent = a.lent_left i; forecast = a.forecast i })
