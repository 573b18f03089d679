-- What a call has written into the words that a C program lends.
use Rattle.std.specs.Prelude.{ℕ, ◌≡◌, List, [], ◌∷◌}
use Rattle.forecast.specs.declared.Forecast.{Forecast}
use Rattle.rules.specs.declared.Tally.{Tally}
use Rattle.rules.specs.declared.Totals.{Totals}
use Rattle.words.specs.Totals.{totals_words}
use Rattle.given.specs.declared.Told.{Told}
use Rattle.given.specs.Calls.{over, reply_words}
use Rattle.replies.specs.Back.{handed_back}

-- the words of a reply of one word, and of two
abbrev pub one_word : Told → List ℕ
one_word t = t.first ∷ []

abbrev pub two_words : Told → List ℕ
two_words t = t.first ∷ t.second ∷ []

-- Of a request that tells t: its number, its words over the reply, and the forecast F handed back.
pub record Posted (words : Told → List ℕ) (t : Told) (F : Forecast) (forecast reply : List ℕ) (n : ℕ) (forecast' reply' : List ℕ) : Type 0 where
  pub number : n ≡ t.number
  pub forecast_left : forecast' ≡ handed_back n F forecast
  pub reply_left : reply' ≡ over (words t) reply

pub record RunPosted (stop : ℕ) (F : Forecast) (tally : Tally) (sums : Totals) (forecast reply forecast' totals' reply' : List ℕ) : Type 0 where
  pub forecast_left : forecast' ≡ handed_back stop F forecast
  pub totals_left : totals' ≡ totals_words sums
  pub reply_left : reply' ≡ over (reply_words tally) reply
