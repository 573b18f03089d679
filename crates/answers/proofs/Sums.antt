-- Sums 10 and 11 of document 01, in either profile, as consequences of what the calls promise.
use mathlib.Core.Path.{◌≡◌, refl, sym, ap, ◌∙◌, subst}
use mathlib.Core.Bool.{Bool, true, false}
use mathlib.Core.Logic.{◌⊎◌, inl, inr, ◌≢◌, ◌↔◌}
use mathlib.Core.List.{List, [], ◌∷◌, Memᴰ as Mem}
use Prim.Native.Nat.{ℕ, ◌<◌}
use native.Mathlib.Omega.{arith}
use lib.Dec.{T, eqb, eqb→eq}
use lib.ListN.{length}
use Rattle.std.specs.Prelude.{Ok, Err}
use Rattle.lists.proofs.Computed.{all-at}
use Rattle.slots.specs.Segments.{live, height_of, segments_of}
use Rattle.forecast.specs.declared.Forecast.{Forecast}
use Rattle.forecast.specs.Cells.{forecast_of}
use Rattle.rules.specs.declared.Refusal.TheVariants.{WrongLength}
use Rattle.rules.specs.declared.Request.{Request}
use Rattle.rules.specs.declared.Request.TheVariants.{Insert, Delete}
use Rattle.rules.specs.Profiles.{is_profile}
use Rattle.rules.specs.Lent.{Lent, cards_of}
use Rattle.rules.specs.Checks.{check_cards, check_read, check}
use Rattle.rules.specs.Looking.{not_found, Scanned, scanned}
use Rattle.rules.specs.Calls.{Made, Called, request, unchanged, scan}
use Rattle.demands.proofs.Requests.Checked.{passed, keys-shown}
use Rattle.demands.proofs.Requests.Tabled.{read-passed}
use Rattle.demands.proofs.Requests.SingleCalls.{request-unchecked}
use Rattle.demands.proofs.Sets.SetScan.{scanned-number, scan-none}
use Rattle.answers.specs.Answers.{MakeReply, CheckAnswer, LookupAnswer, ScanAnswer, InsertReply, DeleteReply, scan_paper}
use Rattle.answers.specs.Admits.{MakeAdmits, CheckAdmits, LookupAdmits, ScanAdmits, InsertAdmits, DeleteAdmits}
use Rattle.demands.proofs.Refusals.CheckCases.{wrong-length, read_first, check-first, lookup_refused, scan-passed}
use Rattle.answers.proofs.Replies.{make_refused, refused-admits}
use Rattle.answers.proofs.Papers.{make-told, check-told, lookup-told, scan-told, insert-told, delete-told}
use Rattle.answers.proofs.OneOutcome.{scan-one}

-- SUM 10: a length of 0, 64, 192 or 8,192 slots is refused by 1, whatever the cards and the table, and all that is lent stays
abbrev pub wrong_lengths : List ℕ
wrong_lengths = 0 ∷ 64 ∷ 192 ∷ 8192 ∷ []

module _ (profile : ℕ) (known : is_profile profile ≡ true) (L : Lent) (m : Mem (length L.slots) wrong_lengths) where
  no-height : height_of (length L.slots) ≡ 0
  unfolding height_of
  no-height = eqb→eq _ _ (all-at (λ n. eqb (height_of n) 0) wrong_lengths tt (length L.slots) m)

  one : check_cards profile L ≡ 1
  one = wrong-length profile L known no-height

  refused : check_cards profile L ≢ 0
  refused = omega (arith, one)

  read_one : check_read profile L ≡ 1
  read_one = read_first profile L refused ∙ one

  check-one : (F : Forecast) → check profile L F ≡ 1
  check-one F = check-first profile L F refused ∙ one

  request-one : (q : Request) (v : ℕ) (F : Forecast) → request profile q v L F ≡ unchanged L F 1
  request-one q v F = request-unchecked profile q v L F (omega (arith, check-one F)) ∙ ap (unchanged L F) (check-one F)

  pub make-wrong : (r : MakeReply) (left : Lent) → MakeAdmits profile L r left → (r.answer ≡ Err WrongLength) × (r.forecast ≡ forecast_of []) × (left ≡ L)
  make-wrong r left a =
      let e = make_refused profile L known no-height in
      (make-told r.answer (Err WrongLength) (a.answer ∙ ap (λ (d : Made). d.number) e), a.forecast ∙ ap (λ (d : Made). d.forecast) e, a.lent_left ∙ ap (λ (d : Made). d.lent) e)

  pub check-wrong : (F : Forecast) (r : CheckAnswer) → CheckAdmits profile L F r → r ≡ Err WrongLength
  check-wrong F r a = check-told r (Err WrongLength) (a.answer ∙ check-one F)

  pub lookup-wrong : (y : ℕ) (r : LookupAnswer) → LookupAdmits profile L y r → r ≡ Err WrongLength
  lookup-wrong y r a = lookup-told r (Err WrongLength) (a.answer ∙ lookup_refused profile L y (omega (arith, read_one)) ∙ ap not_found read_one)

  pub scan-wrong : (a : ℕ) (out cards : List ℕ) (r : ScanAnswer) (left left-cards : List ℕ) → ScanAdmits profile L a out cards r left left-cards
      → (r ≡ Err WrongLength) × (left ≡ out) × (left-cards ≡ cards)
  scan-wrong a out cards r left left-cards p =
      scan-one profile L a out cards r (Err WrongLength) left out left-cards cards p (refused-admits profile L a out cards WrongLength read_one)

  pub insert-wrong : (F : Forecast) (y v : ℕ) (r : InsertReply) (left : Lent) → InsertAdmits profile L F y v r left → (r.answer ≡ Err WrongLength) × (r.forecast ≡ F) × (left ≡ L)
  insert-wrong F y v r left a =
      let e = request-one (Insert y) v F in
      (insert-told r.answer (Err WrongLength) (a.answer ∙ ap (λ (d : Called). d.answer) e), a.forecast ∙ ap (λ (d : Called). d.forecast) e, a.lent_left ∙ ap (λ (d : Called). d.lent) e)

  pub delete-wrong : (F : Forecast) (y : ℕ) (r : DeleteReply) (left : Lent) → DeleteAdmits profile L F y r left → (r.answer ≡ Err WrongLength) × (r.forecast ≡ F) × (left ≡ L)
  delete-wrong F y r left a =
      let e = request-one (Delete y) 0 F in
      (delete-told r.answer (Err WrongLength) (a.answer ∙ ap (λ (d : Called). d.answer) e), a.forecast ∙ ap (λ (d : Called). d.forecast) e, a.lent_left ∙ ap (λ (d : Called). d.lent) e)

-- a live key above a exists
abbrev Exceeds : List ℕ → ℕ → Type 0
Exceeds ks a = (k : ℕ) × Mem k ks × (a < k)

-- no key written, and whether more remain
abbrev nothing-written : Bool → ScanAnswer
nothing-written more = Ok (record { keys = 0; more = more })

-- SUM 11: a scan with an empty output writes 0 keys, and says that more remain exactly if a live key above a exists
module _ (profile : ℕ) (L : Lent) (a : ℕ) (out cards : List ℕ) (empty : (out ≡ []) ⊎ (cards ≡ [])) where
  abbrev s : Scanned
  s = scanned a (cards_of L) (segments_of L.slots) out cards

  pub scan-empty : (r : ScanAnswer) (left left-cards : List ℕ) → check_read profile L ≡ 0 → ScanAdmits profile L a out cards r left left-cards
      → ((r ≡ nothing-written false) ⊎ (r ≡ nothing-written true)) × ((r ≡ nothing-written true) ↔ ((k : ℕ) × Mem k (live L.slots) × (a < k)))
  scan-empty r left left-cards e p = go s.more refl
    where
      told : T s.more ↔ Exceeds (live L.slots) a
      told = subst (λ (ks : List ℕ). T s.more ↔ Exceeds ks a) (keys-shown profile L.slots (passed profile L.slots (read-passed profile L e).0)) (scan-none a (cards_of L) (segments_of L.slots) out cards empty).1

      is : scan profile L a out cards ≡ s
      is = scan-passed profile L a out cards e

      number : (scan_paper r).number ≡ 0
      number = p.number ∙ ap (λ (z : Scanned). z.number) is ∙ scanned-number a (cards_of L) (segments_of L.slots) out cards

      written : (scan_paper r).written ≡ 0
      written = p.written ∙ ap (λ (z : Scanned). z.written) is ∙ (scan-none a (cards_of L) (segments_of L.slots) out cards empty).0

      more : (scan_paper r).more ≡ s.more
      more = p.more ∙ ap (λ (z : Scanned). z.more) is

      is-told : (b : Bool) → s.more ≡ b → r ≡ nothing-written b
      is-told b q = scan-told r (nothing-written b) (λ i. record { number = number i; written = written i; more = (more ∙ q) i })

      go : (b : Bool) → s.more ≡ b → ((r ≡ nothing-written false) ⊎ (r ≡ nothing-written true)) × ((r ≡ nothing-written true) ↔ Exceeds (live L.slots) a)
      go true q = (inr (is-told true q), (λ _. told.0 (rw q tt), λ _. is-told true q))
      go false q = (inl (is-told false q), (λ n. absurd (other (sym (is-told false q) ∙ n)), λ k. absurd (rw q at (told.1 k))))
        where
          other : nothing-written false ≡ nothing-written true → ⊥
          other n = subst T (sym (ap (λ (x : ScanAnswer). (scan_paper x).more) n)) tt
