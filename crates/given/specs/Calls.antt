-- The calls for C programs: what each returns, and what it leaves in each slice that it may write to, in the order of its arguments. Each is
-- the call of `rules`, with forecast and totals as words.
use Rattle.std.specs.Prelude.{ℕ, ◌≡◌, Bool, not, ◌||◌, List, [], ◌∷◌, ◌++◌, eqb, ltb, length, drop, if◌then◌else◌}
use Rattle.rules.specs.declared.Tally.{Tally}
use Rattle.rules.specs.Looking.{Found, Scanned}
use Rattle.rules.specs.Runs.{one}
use Rattle.rules.specs.Checks as checks
use Rattle.rules.specs.Lent.{lend}
use Rattle.rules.specs.Calls as rules
use Rattle.words.specs.Words.{forecast_in, forecast_words}
use Rattle.words.specs.Totals.{totals_in, totals_words}

pub record Given : Type 0 where
  pub number : ℕ
  pub left : List (List ℕ)

-- A forecast that is not 37 words, totals that are not 4, or a reply shorter than listed: 100, tested before all else, and nothing touched.
abbrev pub sized : Bool → List (List ℕ) → Given → Given
sized wrong lent o = if wrong then record { number = 100; left = lent } else o

abbrev pub not_forecast : List ℕ → Bool
not_forecast ws = not (eqb (length ws) 37)

abbrev pub not_totals : List ℕ → Bool
not_totals ws = not (eqb (length ws) 4)

abbrev pub short : List ℕ → ℕ → Bool
short reply n = ltb (length reply) n

-- The listed words over the first of a reply; the words beyond stay.
abbrev pub over : List ℕ → List ℕ → List ℕ
over ws reply = ws ++ drop (length ws) reply

unfoldable pub make : ℕ → List ℕ → List ℕ → List ℕ → List ℕ → Given
make profile list cards table forecast =
    let m : rules.Made = rules.make profile (lend list cards table) in
    sized (not_forecast forecast) (list ∷ cards ∷ table ∷ forecast ∷ [])
    (record { number = m.number; left = m.lent.slots ∷ m.lent.cards ∷ m.lent.table ∷ forecast_words m.forecast ∷ [] })

unfoldable pub check : ℕ → List ℕ → List ℕ → List ℕ → List ℕ → Given
check profile list cards table forecast =
    sized (not_forecast forecast) [] (record { number = checks.check profile (lend list cards table) (forecast_in forecast); left = [] })

-- reply: present, segment, card
unfoldable pub lookup : ℕ → List ℕ → List ℕ → List ℕ → ℕ → List ℕ → Given
lookup profile list cards table key reply =
    let f : Found = rules.lookup profile (lend list cards table) key in
    sized (short reply 3) (reply ∷ []) (record { number = f.number; left = over (one f.present ∷ f.segment ∷ f.card ∷ []) reply ∷ [] })

-- What an insert or a delete leaves, with this reply.
abbrev pub left_by : rules.Called → List ℕ → List (List ℕ)
left_by c reply = c.lent.slots ∷ c.lent.cards ∷ c.lent.table ∷ forecast_words c.forecast ∷ reply ∷ []

-- reply: moves
unfoldable pub insert : ℕ → List ℕ → List ℕ → List ℕ → List ℕ → ℕ → ℕ → List ℕ → Given
insert profile list cards table forecast key card reply =
    let c : rules.Called = rules.insert profile (lend list cards table) (forecast_in forecast) key card in
    sized (not_forecast forecast || short reply 1) (list ∷ cards ∷ table ∷ forecast ∷ reply ∷ [])
    (record { number = c.answer.number; left = left_by c (over (c.answer.moves ∷ []) reply) })

-- reply: moves, sparse
unfoldable pub delete : ℕ → List ℕ → List ℕ → List ℕ → List ℕ → ℕ → List ℕ → Given
delete profile list cards table forecast key reply =
    let c : rules.Called = rules.delete profile (lend list cards table) (forecast_in forecast) key in
    sized (not_forecast forecast || short reply 2) (list ∷ cards ∷ table ∷ forecast ∷ reply ∷ [])
    (record { number = c.answer.number; left = left_by c (over (c.answer.moves ∷ one c.answer.sparse ∷ []) reply) })

-- reply: written, more
unfoldable pub scan : ℕ → List ℕ → List ℕ → List ℕ → ℕ → List ℕ → List ℕ → List ℕ → Given
scan profile list cards table from output output-cards reply =
    let s : Scanned = rules.scan profile (lend list cards table) from output output-cards in
    sized (short reply 2) (output ∷ output-cards ∷ reply ∷ [])
    (record { number = s.number; left = s.output ∷ s.cards ∷ over (s.written ∷ one s.more ∷ []) reply ∷ [] })

-- reply: worked, refused, moves, place; the number is the stop number
abbrev pub reply_words : Tally → List ℕ
reply_words t = t.worked ∷ t.refused ∷ t.moves ∷ t.place ∷ []

unfoldable pub run : ℕ → List ℕ → List ℕ → List ℕ → List ℕ → List ℕ → ℕ → List ℕ → List ℕ → Given
run profile list cards table forecast requests allowance totals reply =
    let w : rules.Worked = rules.run profile (lend list cards table) (forecast_in forecast) requests allowance (totals_in totals) in
    sized (not_forecast forecast || (not_totals totals || short reply 4)) (list ∷ cards ∷ table ∷ forecast ∷ totals ∷ reply ∷ [])
    (record {
      number = w.reply.stop;
      left =
          w.lent.slots
          ∷ w.lent.cards
          ∷ w.lent.table
          ∷ forecast_words w.forecast
          ∷ totals_words w.totals
          ∷ over (reply_words w.reply.tally) reply
          ∷ [];
    })

-- What each call promises: the number that it returns and what it leaves are those of its definition.
pub record Gives (o : Given) (r : ℕ) (left : List (List ℕ)) : Type 0 where
  pub number : r ≡ o.number
  pub slices : left ≡ o.left
