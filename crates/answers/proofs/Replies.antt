-- What make of the rules comes to, by the profile and the lengths of slots, cards and table; a lookup of a list that passes; a scan that the
-- check refuses.
use mathlib.Core.Path.{◌≡◌, sym, ap, ◌∙◌}
use mathlib.Core.Bool.{true, false}
use mathlib.Core.Logic.{◌≢◌}
use mathlib.Core.List.{List, []}
use Prim.Native.Nat.{ℕ}
use native.Mathlib.Omega.{arith}
use borrow.Author.Tests.{eq-eqb, ne_eqb}
use lib.ListN.{length, replicate}
use Rattle.std.specs.Prelude.{Err}
use Rattle.slots.specs.Segments.{Segments, keys, height_of}
use Rattle.slots.specs.Keys.{member, segment_of}
use Rattle.levels.specs.Tables.{table_size}
use Rattle.forecast.specs.Cells.{forecast_of}
use Rattle.rules.specs.declared.Refusal.{Refusal}
use Rattle.rules.specs.Refusals.{refusal_number}
use Rattle.rules.specs.Profiles.{is_profile}
use Rattle.rules.specs.Lent.{Lent, lend}
use Rattle.rules.specs.Checks.{check_read}
use Rattle.rules.specs.Looking.{not_found, looked_up, Scanned}
use Rattle.rules.specs.Calls.{not_made, make}
use Rattle.demands.proofs.Refusals.Told.{refusal-some}
use Rattle.demands.proofs.Refusals.CheckCases.{scan_refused}
use Rattle.answers.specs.Admits.{ScanAdmits}

-- MAKE
module _ (profile : ℕ) (L : Lent) where
  abbrev h : ℕ
  h = height_of (length L.slots)

  pub make-unknown : is_profile profile ≡ false → make profile L ≡ not_made L 15
  unfolding make
  make-unknown k = rw k

  pub make_refused : is_profile profile ≡ true → h ≡ 0 → make profile L ≡ not_made L 1
  unfolding make
  make_refused k e = rw (k, eq-eqb h 0 e)

  pub make-wrong-cards : is_profile profile ≡ true → h ≢ 0 → length L.cards ≢ length L.slots → make profile L ≡ not_made L 12
  unfolding make
  make-wrong-cards k n c = rw (k, ne_eqb h 0 n, ne_eqb (length L.cards) (length L.slots) c)

  pub make-wrong-table : is_profile profile ≡ true → h ≢ 0 → length L.cards ≡ length L.slots → length L.table ≢ table_size h → make profile L ≡ not_made L 14
  unfolding make
  make-wrong-table k n c t = rw (k, ne_eqb h 0 n, eq-eqb (length L.cards) (length L.slots) c, ne_eqb (length L.table) (table_size h) t)

  pub make-done : is_profile profile ≡ true → h ≢ 0 → length L.cards ≡ length L.slots → length L.table ≡ table_size h
      → make profile L ≡ record { lent = lend (replicate (length L.slots) 0) (replicate (length L.cards) 0) (replicate (length L.table) 0); forecast = forecast_of []; number = 0 }
  unfolding make
  make-done k n c t = rw (k, ne_eqb h 0 n, eq-eqb (length L.cards) (length L.slots) c, eq-eqb (length L.table) (table_size h) t)

-- LOOKUP, of a list that passes; c is the card of each key
module _ (y : ℕ) (c : ℕ → ℕ) (ss : Segments) where
  pub looked-zero : y ≡ 0 → looked_up y c ss ≡ not_found 5
  unfolding looked_up
  looked-zero e = rw (eq-eqb y 0 e)

  pub looked-live : y ≢ 0 → member y (keys ss) ≡ true → looked_up y c ss ≡ record { number = 0; present = true; segment = segment_of ss y; card = c y }
  unfolding looked_up
  looked-live n e = rw (ne_eqb y 0 n, e)

  pub looked-absent : y ≢ 0 → member y (keys ss) ≡ false → looked_up y c ss ≡ not_found 0
  unfolding looked_up
  looked-absent n e = rw (ne_eqb y 0 n, e)

-- SCAN
-- where the check refuses, a scan tells the number, and the outputs are as they were
pub refused-admits : (profile : ℕ) (L : Lent) (a : ℕ) (out cards : List ℕ) (x : Refusal) → check_read profile L ≡ refusal_number x
    → ScanAdmits profile L a out cards (Err x) out cards
refused-admits profile L a out cards x e =
    let p = scan_refused profile L a out cards (omega (arith, refusal-some x)) in
    record {
      number = sym e ∙ sym (ap (λ (s : Scanned). s.number) p);
      written = sym (ap (λ (s : Scanned). s.written) p);
      more = sym (ap (λ (s : Scanned). s.more) p);
      output = sym (ap (λ (s : Scanned). s.output) p);
      cards_output = sym (ap (λ (s : Scanned). s.cards) p);
    }
