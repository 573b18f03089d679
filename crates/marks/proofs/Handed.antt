-- What a sweep hands over for its marks: of a good list, with the forecast that a request leaves, the record asked for holds.
use Rattle.std.proofs.Common.{◌≡◌, ℕ, ◌<◌, ◌≤◌, true, false, not, T, List, take, drop, sym, refl, subst}
use Rattle.lists.specs.Lists.{All}
use Rattle.slots.specs.Segments.{keys}
use Rattle.slots.specs.Keys.{member, predecessor, segment_of}
use Rattle.slots.specs.Shown.{Shows, CountsOf}
use Rattle.cells.specs.Steps.{noted, dropped}
use Rattle.forecast.specs.declared.Forecast.{Forecast}
use Rattle.forecast.specs.Cells.{used_cells}
use Rattle.rules.specs.Shares.{Shares, cells_of}
use Rattle.rules.specs.Placing.{Room, home}
use Rattle.demands.proofs.Requests.StaysGood.{Good}
use Rattle.demands.proofs.Sharing.Weighing.{noted-good, dropped-good, fitting-noted, fitting-dropped}
use Rattle.demands.proofs.Sweeping.Unswept.{noted-placed, dropped-placed}
use Rattle.marks.specs.declared.Window.{Window}
use Rattle.marks.specs.Marking.{Aims, Marking}

module _
    (S : Shares) (R : Room) (G : Good S R) (low : S.height ≤ 6) (slots counts : List ℕ) (sh : Shows R.segments slots)
    (counted : CountsOf R.segments counts) (F : Forecast) (f n y : ℕ)
  where
    abbrev putting : Window
    putting = record { first = f; n = n; key = y; grows = true }

    abbrev taking : Window
    taking = record { first = f; n = n; key = y; grows = false }

    -- an insert, with its predecessor noted
    pub marking-insert : used_cells F ≡ noted (cells_of S) (predecessor y R.segments) (home y R.segments) R.cells → 0 < y → T (not (member y (keys R.segments)))
        → Marking slots counts F (record { first = f; n = n; key = y; grows = true }) R.segments
    marking-insert e z t = record {
      asked = record { shows = sh; counted = counted; put_in = λ u. (z, t); taken_out = λ u. absurd u };
      fitting = fitting-noted S y R G low F e;
      cells =
          subst (All (Aims putting R.segments)) (sym e)
          (λ c m. record {
            live = (noted-good S y R G).live c m;
            place = noted-placed (segment_of R.segments) (cells_of S) (predecessor y R.segments) (home y R.segments) R.cells G.placed refl c m;
            other = λ u. absurd u;
          });
    }

    -- a delete in a window of its key, with the key's cell dropped
    pub marking-delete : used_cells F ≡ dropped y R.cells → T (member y (keys (take n (drop f R.segments))))
        → Marking slots counts F (record { first = f; n = n; key = y; grows = false }) R.segments
    marking-delete e t = record {
      asked = record { shows = sh; counted = counted; put_in = λ u. absurd u; taken_out = λ u. t };
      fitting = fitting-dropped S y R G low F e;
      cells =
          subst (All (Aims taking R.segments)) (sym e)
          (λ c m. record {
            live = ((dropped-good S y R G).live c m).0;
            place = dropped-placed (segment_of R.segments) y R.cells G.placed c m;
            other = λ u. ((dropped-good S y R G).live c m).1;
          });
    }
