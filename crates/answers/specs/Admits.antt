-- What each public call promises: its answer and all that it leaves are those of the call's definition in `rules`.
use Rattle.std.specs.Prelude.{ℕ, ◌≡◌, List}
use Rattle.forecast.specs.declared.Forecast.{Forecast}
use Rattle.rules.specs.Lent.{Lent}
use Rattle.rules.specs.Checks.{check}
use Rattle.rules.specs.Calls as rules
use Rattle.answers.specs.Answers.{MakeReply, CheckAnswer, LookupAnswer, ScanAnswer, InsertReply, DeleteReply, make_number, check_number, lookup_paper, scan_paper, insert_paper, delete_paper}

-- make: the profile's number, what is lent (slots, cards and table), the reply, and what is left of it
pub record MakeAdmits (profile : ℕ) (L : Lent) (r : MakeReply) (left : Lent) : Type 0 where
  pub answer : make_number r.answer ≡ (rules.make profile L).number
  pub forecast : r.forecast ≡ (rules.make profile L).forecast
  pub lent_left : left ≡ (rules.make profile L).lent

pub record CheckAdmits (profile : ℕ) (L : Lent) (F : Forecast) (r : CheckAnswer) : Type 0 where
  pub answer : check_number r ≡ check profile L F

pub record LookupAdmits (profile : ℕ) (L : Lent) (y : ℕ) (r : LookupAnswer) : Type 0 where
  pub answer : lookup_paper r ≡ rules.lookup profile L y

-- scan: a is the key to scan from; what is left of the two outputs
pub record ScanAdmits (profile : ℕ) (L : Lent) (a : ℕ) (out cards : List ℕ) (r : ScanAnswer) (left left-cards : List ℕ) : Type 0 where
  pub number : (scan_paper r).number ≡ (rules.scan profile L a out cards).number
  pub written : (scan_paper r).written ≡ (rules.scan profile L a out cards).written
  pub more : (scan_paper r).more ≡ (rules.scan profile L a out cards).more
  pub output : left ≡ (rules.scan profile L a out cards).output
  pub cards_output : left-cards ≡ (rules.scan profile L a out cards).cards

-- insert: the key, and the card that comes with it
pub record InsertAdmits (profile : ℕ) (L : Lent) (F : Forecast) (y v : ℕ) (r : InsertReply) (left : Lent) : Type 0 where
  pub answer : insert_paper r.answer ≡ (rules.insert profile L F y v).answer
  pub forecast : r.forecast ≡ (rules.insert profile L F y v).forecast
  pub lent_left : left ≡ (rules.insert profile L F y v).lent

pub record DeleteAdmits (profile : ℕ) (L : Lent) (F : Forecast) (y : ℕ) (r : DeleteReply) (left : Lent) : Type 0 where
  pub answer : delete_paper r.answer ≡ (rules.delete profile L F y).answer
  pub forecast : r.forecast ≡ (rules.delete profile L F y).forecast
  pub lent_left : left ≡ (rules.delete profile L F y).lent
