-- Document 01, "Request records and runs", with the records of document 02, (ii), on a list and forecast that have passed their check.
use Rattle.std.specs.Prelude.{ℕ, zero, suc, ◌+◌, ◌*◌, ◌^◌, ◌%◌, Bool, true, false, not, List, [], ◌∷◌, ltb, eqb, length, take, drop, get_or, if◌then◌else◌}
use Rattle.rules.specs.declared.Request.{Request}
use Rattle.rules.specs.declared.Request.TheVariants.{Insert, Delete, Bad}
-- A record: what it asks for, the card that comes with it, and its number of bytes.
pub use Rattle.rules.specs.declared.Record.{Record}
use Rattle.rules.specs.declared.Tally.{Tally}
use Rattle.rules.specs.declared.Totals.{Totals}
use Rattle.rules.specs.Shares.{Shares}
use Rattle.rules.specs.Placing.{Room, Outcome, outcome}
use Rattle.rules.specs.Cards.{cards_after}

-- A number, high byte first.
abbrev pub high_first : ℕ → List ℕ → ℕ
high_first n [] = n
high_first n (b ∷ bs) = high_first (256 * n + b) bs

-- House form, 11 bytes: the two-byte mark 0xA5 0x5A, a kind (1 insert, 2 delete), the key, high byte first. Kind 4, 15 bytes, inserts with
-- a card: the kind 1 form and then four bytes, high byte first. Kind 1 means card 0.
abbrev pub key_of : List ℕ → ℕ
key_of bs = high_first 0 (take 8 (drop 3 bs))

abbrev pub card_of : List ℕ → ℕ
card_of bs = high_first 0 (take 4 (drop 11 bs))

abbrev pub size_of : ℕ → ℕ
size_of kind = if eqb kind 4 then 15 else 11

abbrev pub asking : Request → ℕ → ℕ → Record
asking q v n = record { request = q; card = v; size = n }

-- The record that the bytes begin with; Bad for a short record, a wrong mark or a wrong kind.
unfoldable pub record_of : List ℕ → Record
record_of bs =
    let kind : ℕ = get_or bs 2 0 in
    if ltb (length bs) (size_of kind) then asking Bad 0 11
    else if not (eqb (get_or bs 0 0) 0xA5) then asking Bad 0 11
    else if not (eqb (get_or bs 1 0) 0x5A) then asking Bad 0 11
    else if eqb kind 1 then asking (Insert (key_of bs)) 0 11
    else if eqb kind 2 then asking (Delete (key_of bs)) 0 11
    else if eqb kind 4 then asking (Insert (key_of bs)) (card_of bs) 15
    else asking Bad 0 11

abbrev pub is_bad : Request → Bool
is_bad (Insert y) = false
is_bad (Delete y) = false
is_bad Bad = true

-- The records in order, each where the one before it ends; n bounds their number.
abbrev pub records : ℕ → List ℕ → List Record
records zero bs = []
records (suc n) [] = []
records (suc n) (b ∷ bs) = record_of (b ∷ bs) ∷ records n (drop (record_of (b ∷ bs)).size (b ∷ bs))

unfoldable pub records_of : List ℕ → List Record
records_of bytes = records (length bytes) bytes

-- What a run has counted: records worked (refused ones included), refused, moves, sweeps, and the byte place where the next begins.
abbrev pub nothing : Tally
nothing = record { worked = 0; refused = 0; moves = 0; sweeps = 0; place = 0 }

abbrev pub one : Bool → ℕ
one b = if b then 1 else 0

-- One record more, of so many bytes.
abbrev pub tallied : Outcome → ℕ → Tally → Tally
tallied o size t = record {
  worked = t.worked + 1;
  refused = t.refused + one (ltb 0 o.answer.number);
  moves = t.moves + o.answer.moves;
  sweeps = t.sweeps + one o.swept;
  place = t.place + size;
}

-- What a run leaves, the card of each key then, what it has counted, and its stop number.
pub record Ran : Type 0 where
  pub room : Room
  pub cards : ℕ → ℕ
  pub tally : Tally
  pub stop : ℕ

abbrev pub stopped : ℕ → Room → (ℕ → ℕ) → Tally → Ran
stopped n R c t = record { room = R; cards = c; tally = t; stop = n }

-- A run works the records in order; refusals 5 to 8 count as refused and it goes on. It stops at a bad record, and before the first record
-- whose moves would take its total over the allowance. The record that stopped it is not counted.
unfoldable pub work : Shares → ℕ → List Record → Room → (ℕ → ℕ) → Tally → Ran
work S allowance [] R c t = stopped 0 R c t
work S allowance (r ∷ rs) R c t =
    let o : Outcome = outcome S r.request R in
    let rest : Ran = work S allowance rs o.room (cards_after o r.request r.card c) (tallied o r.size t) in
    if is_bad r.request then stopped 9 R c t
    else if ltb allowance (t.moves + o.answer.moves) then stopped 10 R c t
    else rest

unfoldable pub ran : Shares → ℕ → List ℕ → Room → (ℕ → ℕ) → Ran
ran S allowance bytes R c = work S allowance (records_of bytes) R c nothing

-- The totals that a run adds to. Each counts modulo 2^32.
abbrev pub added : Totals → Tally → Totals
added T t = record {
  worked = (T.worked + t.worked) % 2 ^ 32;
  refused = (T.refused + t.refused) % 2 ^ 32;
  moved = (T.moved + t.moves) % 2 ^ 32;
  sweeps = (T.sweeps + t.sweeps) % 2 ^ 32;
}
