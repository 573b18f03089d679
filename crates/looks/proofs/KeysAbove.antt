-- The keys above a key begin where a search for it ends; written into outputs with their cards, they are what a scan gives.
use mathlib.Core.Path.{◌≡◌, sym, ap, ap₂, ◌∙◌, subst}
use mathlib.Core.Bool.{Bool, true, false, not}
use mathlib.Core.List.Memᴰ.{append_left as in_left}
use mathlib.Core.List.{List, [], ◌++◌, map, Memᴰ as Mem}
use Prim.Native.Nat.{ℕ, suc, ◌+◌, ◌<◌}
use native.Mathlib.Numerals.{add-one}
use native.Mathlib.Decide.{dec_lt}
use native.Mathlib.Omega.{arith}
use lib.Dec.{T, ltb}
use borrow.Author.Tests.{lt-ltb, le-ltb}
use lib.ListN.{length, take, drop, get_or, length-take, take-append-drop}
use lib.Seq.{take-take, take_all}
use Rattle.std.specs.Prelude.{Ok}
use Rattle.slots.specs.declared.Place.{Place}
use Rattle.slots.specs.Segments.{Segments, keys, segments_of}
use Rattle.slots.specs.Keys.{Rising, Listed, member, above}
use Rattle.slots.specs.Shown.{seat, Located}
use Rattle.slots.proofs.Rising.{above-parts, above-mem}
use Rattle.slots.proofs.Keys.{Between, member→mem, keys-parts, rising_part}
use Rattle.slots.proofs.ByPlace.{place-old, drop-new, drop-old}
use Rattle.slots.proofs.Seats.{seat-between, seat-member}
use Rattle.rules.specs.Cards.{card_in}
use Rattle.rules.specs.Lent.{Lent, cards_of}
use Rattle.rules.specs.Checks.{check_read}
use Rattle.rules.specs.Looking.{Scanned, scanned}
use Rattle.rules.specs.Calls.{scan}
use Rattle.demands.proofs.Cards.Beside.{beside-alone}
use Rattle.demands.proofs.Requests.Shown.{shows-passed}
use Rattle.demands.proofs.Requests.Tabled.{read-passed}
use Rattle.demands.proofs.Refusals.CheckCases.{scan-passed}
use Rattle.demands.proofs.Sets.SetLaws.{above-beyond}
use Rattle.demands.proofs.Sets.SetScan.{page, scanned-number, scanned-written, scanned-more, scanned-output, scanned-cards}
use Rattle.answers.specs.Admits.{ScanAdmits}
use Rattle.scans.specs.declared.Written.{Written}
use Rattle.scans.specs.Scans.{Wrote, keys_from, shorter, cards_over}

-- WHERE THEY BEGIN
module _ (y : ℕ) (ss : Segments) (listed : Listed ss) (some : 0 < length ss) where
  there : List ℕ
  there = get_or ss (seat y ss) []

  rises : Rising there
  unfolding there
  rises = rising_part ss (seat y ss) (seat-between y ss listed some).0 listed.rising

  -- those of the segment where the search ends, and of the later ones
  above-seat : above y (keys ss) ≡ above y there ++ keys (drop (seat y ss + 1) ss)
  unfolding there
  above-seat =
      let b : Between y ss (seat y ss) = seat-between y ss listed some in
      ap (above y) (keys-parts ss (seat y ss) b.0) ∙ above-parts y (keys (take (seat y ss) ss)) there (keys (drop (suc (seat y ss)) ss)) b.1 b.2
      ∙ ap (λ (n : ℕ). above y there ++ keys (drop n ss)) (sym (add-one (seat y ss)))

  module _ (r : Place) (l : Located y ss r) where
    -- the keys held there
    pub held-there : r.held ≡ length (get_or ss r.segment [])
    held-there = l.held ∙ ap (λ (s : ℕ). length (get_or ss s [])) (sym l.segment)

    told-there : member y there ≡ r.present
    unfolding there
    told-there = seat-member y ss listed some ∙ sym l.present

    -- a key that is not live: from its place on
    pub above-absent : r.present ≡ false → above y (keys ss) ≡ keys_from r.segment r.at ss
    unfolding there
    above-absent p =
        let t : T (not (member y there)) = rw (told-there, p) tt in
        above-seat ∙ ap (λ (ks : List ℕ). ks ++ keys (drop (seat y ss + 1) ss)) (sym (drop-new y there rises t)) ∙ ap₂ {C = List ℕ} (λ s n. keys_from s n ss) (sym l.segment) (sym l.at)

    -- a live key: after its place
    pub above-present : r.present ≡ true → above y (keys ss) ≡ keys_from r.segment (r.at + 1) ss
    unfolding there
    above-present p =
        let m : Mem y there = member→mem y there (rw (told-there, p) tt) in
        above-seat ∙ ap (λ (ks : List ℕ). ks ++ keys (drop (seat y ss + 1) ss)) (sym (drop-old y there rises m)) ∙ ap₂ {C = List ℕ} (λ s n. keys_from s (n + 1) ss) (sym l.segment) (sym l.at)

    -- which is one of the keys there
    pub at-present : r.present ≡ true → r.at < r.held
    unfolding there
    at-present p =
        let m : Mem y there = member→mem y there (rw (told-there, p) tt) in
        omega (arith, place-old y there rises m, l.at, l.held)

-- WHAT A SCAN GIVES
-- cut to the shorter of two sizes, a list is cut to one and then to the other
take-shorter : (m n : ℕ) (xs : List ℕ) → take (shorter m n) xs ≡ take n (take m xs)
take-shorter m n xs =
    elim (dec_lt m n) [
      | yes p ↦ rw (lt-ltb m n p) (sym (take_all n (take m xs) (omega (arith, length-take m xs))))
      | no p ↦ rw (le-ltb m n (omega arith)) (sym (take-take n m xs (omega arith)))
    ]

module _ (profile : ℕ) (L : Lent) (e : check_read profile L ≡ 0) (a : ℕ) (out cards ks : List ℕ) (q : above a (keys (segments_of L.slots)) ≡ ks) where
  abbrev ss : Segments
  ss = segments_of L.slots

  abbrev room : ℕ
  room = shorter (length out) (length cards)

  scan-is : scan profile L a out cards ≡ scanned a (cards_of L) (segments_of L.slots) out cards
  scan-is = scan-passed profile L a out cards e

  -- what is written is the rules' page
  page-is : take room ks ≡ page a (cards_of L) ss out cards
  page-is = take-shorter (length out) (length cards) ks ∙ ap (λ (f : List ℕ). take (length cards) (take (length out) f)) (sym q ∙ above-beyond a (keys ss))

  -- all of it live, so beside it stand its cards
  page-cards : map (card_in (cards_of L)) (take room ks) ≡ map (cards_of L) (take room ks)
  page-cards = beside-alone (cards_of L) (take room ks) (λ k m. omega (arith, (above-mem a (keys ss) k (rw q (subst (Mem k) (take-append-drop room ks) (in_left (drop room ks) m)))).0))

  pub wrote-admits : (d : Written) (left left-cards : List ℕ) → Wrote room ks out d left → left-cards ≡ cards_over (card_in (cards_of L)) (take room ks) cards
      → ScanAdmits profile L a out cards (Ok d) left left-cards
  wrote-admits d left left-cards w v =
      let rising : Rising (keys ss) = (shows-passed profile L.slots (read-passed profile L e).0).listed.rising in
      record {
        number = sym (ap (λ (s : Scanned). s.number) scan-is ∙ scanned-number a (cards_of L) ss out cards);
        written = w.written ∙ ap (λ (f : List ℕ). length f) page-is ∙ sym (ap (λ (s : Scanned). s.written) scan-is ∙ scanned-written a (cards_of L) ss out cards);
        more =
            w.more ∙ ap₂ {C = Bool} (λ (f g : List ℕ). ltb (length f) (length g)) page-is (sym q ∙ above-beyond a (keys ss))
            ∙ sym (ap (λ (s : Scanned). s.more) scan-is ∙ scanned-more a (cards_of L) ss out cards rising);
        output = w.output ∙ ap (λ (f : List ℕ). f ++ drop (length f) out) page-is ∙ sym (ap (λ (s : Scanned). s.output) scan-is ∙ scanned-output a (cards_of L) ss out cards);
        cards_output =
            v ∙ ap (λ (f : List ℕ). f ++ drop (length (take room ks)) cards) page-cards ∙ ap (λ (f : List ℕ). map (cards_of L) f ++ drop (length f) cards) page-is
            ∙ sym (ap (λ (s : Scanned). s.cards) scan-is ∙ scanned-cards a (cards_of L) ss out cards);
      }
