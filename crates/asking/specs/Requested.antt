-- What a single request promises: its answer and all that it leaves are those of the request's definition in `rules`.
use Rattle.std.specs.Prelude.{ℕ, ◌≤◌, ◌≡◌, Bool, false, not, ◌&&◌, ltb}
use Rattle.slots.specs.Segments.{height_of}
use Rattle.forecast.specs.declared.Forecast.{Forecast}
use Rattle.rules.specs.declared.Request.{Request}
use Rattle.rules.specs.Refusals.{verdict_number, Verdict}
use Rattle.rules.specs.Profiles.{profile_of}
use Rattle.rules.specs.Shares.{shares, sparse_below}
use Rattle.rules.specs.Placing.{Answer}
use Rattle.rules.specs.Lent.{Lent}
use Rattle.rules.specs.Calls as rules
use Rattle.tallies.specs.Counted.{is_accepted}
use Rattle.asking.specs.declared.Reply.{Reply}

-- Whether the list is told sparse: by the keys left where it has a height, and never where the request is refused.
pub record TellsSparse (profile : ℕ) (grows : Bool) (v : Verdict) (keys long : ℕ) (r : Bool) : Type 0 where
  pub is : 1 ≤ height_of long → r ≡ (not grows && is_accepted v && ltb keys (sparse_below (shares (profile_of profile) (height_of long))))
  pub refused : is_accepted v ≡ false → r ≡ false

-- insert and delete alike, before they are told apart
abbrev pub answer_of : Reply → Answer
answer_of r = record { number = verdict_number r.verdict; moves = r.moves; sparse = r.sparse }

-- v is the card that comes with the request
pub record Requested (profile : ℕ) (q : Request) (v : ℕ) (L : Lent) (F : Forecast) (r : Reply) (left : Lent) : Type 0 where
  pub answer : answer_of r ≡ (rules.request profile q v L F).answer
  pub forecast : r.forecast ≡ (rules.request profile q v L F).forecast
  pub lent_left : left ≡ (rules.request profile q v L F).lent
