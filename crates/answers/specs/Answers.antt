-- The answers and replies of the public calls, and the paper's number and values of each answer.
use Rattle.std.specs.Prelude.{ℕ, Bool, true, false, Option, Some, None, Result, Ok, Err, ⊤}
use Rattle.scans.specs.declared.Written.{Written}
use Rattle.rules.specs.declared.Refusal.{Refusal}
use Rattle.rules.specs.Refusals.{refusal_number, Verdict, verdict_number}
use Rattle.rules.specs.Placing.{Answer, refused}
use Rattle.rules.specs.Looking.{Found, not_found}
use Rattle.answers.specs.declared.Entry.{Entry}
use Rattle.answers.specs.declared.Deleted.{Deleted}
use Rattle.answers.specs.declared.Reply.{Reply}

abbrev pub MakeAnswer : Type 0
MakeAnswer = Verdict

abbrev pub MakeReply : Type 0
MakeReply = Reply ⊤

abbrev pub make_number : MakeAnswer → ℕ
make_number = verdict_number

abbrev pub CheckAnswer : Type 0
CheckAnswer = Verdict

abbrev pub check_number : CheckAnswer → ℕ
check_number = verdict_number

abbrev pub LookupAnswer : Type 0
LookupAnswer = Result (Option Entry) Refusal

abbrev pub lookup_paper : LookupAnswer → Found
lookup_paper (Err x) = not_found (refusal_number x)
lookup_paper (Ok (Some e)) = record { number = 0; present = true; segment = e.segment; card = e.card }
lookup_paper (Ok None) = not_found 0

abbrev pub ScanAnswer : Type 0
ScanAnswer = Result Written Refusal

-- a scan's number, how many keys are written, and whether more remain
pub record ScanPaper : Type 0 where
  pub number : ℕ
  pub written : ℕ
  pub more : Bool

abbrev pub scan_paper : ScanAnswer → ScanPaper
scan_paper (Err x) = record { number = refusal_number x; written = 0; more = false }
scan_paper (Ok w) = record { number = 0; written = w.keys; more = w.more }

abbrev pub InsertAnswer : Type 0
InsertAnswer = Result ℕ Refusal

abbrev pub InsertReply : Type 0
InsertReply = Reply ℕ

abbrev pub insert_paper : InsertAnswer → Answer
insert_paper (Err x) = refused (refusal_number x)
insert_paper (Ok n) = record { number = 0; moves = n; sparse = false }

abbrev pub DeleteAnswer : Type 0
DeleteAnswer = Result Deleted Refusal

abbrev pub DeleteReply : Type 0
DeleteReply = Reply Deleted

abbrev pub delete_paper : DeleteAnswer → Answer
delete_paper (Err x) = refused (refusal_number x)
delete_paper (Ok d) = record { number = 0; moves = d.moves; sparse = d.sparse }
