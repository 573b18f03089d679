-- The difference of two readings of the totals.
use Rattle.std.specs.Prelude.{ℕ, ◌+◌, ◌-◌, ◌%◌, ◌^◌}
use Rattle.rules.specs.declared.Totals.{Totals}

-- What must be added to `earlier` to give `later`, modulo 2^32.
abbrev pub growth : ℕ → ℕ → ℕ
growth later earlier = (later + 2 ^ 32 - earlier) % 2 ^ 32

abbrev pub since : Totals → Totals → Totals
since later earlier = record {
  worked = growth later.worked earlier.worked;
  refused = growth later.refused earlier.refused;
  moved = growth later.moved earlier.moved;
  sweeps = growth later.sweeps earlier.sweeps;
}
