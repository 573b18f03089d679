-- What the answer to a question promises.
use Rattle.std.specs.Prelude.{Bool, T}

-- The answer to whether P holds.
pub record Answers (P : Type 0) (r : Bool) : Type 0 where
  pub yes : T r → P
  pub no : P → T r
