-- The paper's values of an answer as words: yes is 1, no is 0.
use Rattle.rules.specs.Placing.{Answer}
use Rattle.rules.specs.Looking.{Found}
use Rattle.rules.specs.Runs.{one}
use Rattle.answers.specs.Answers.{ScanPaper}
use Rattle.given.specs.declared.Told.{Told}

-- present, segment, card
abbrev pub found_words : Found → Told
found_words f = record { number = f.number; first = one f.present; second = f.segment; third = f.card }

-- written, more
abbrev pub scanned_words : ScanPaper → Told
scanned_words p = record { number = p.number; first = p.written; second = one p.more; third = 0 }

-- moves, sparse
abbrev pub answer_words : Answer → Told
answer_words a = record { number = a.number; first = a.moves; second = one a.sparse; third = 0 }
