-- What MINUTES-1 (docs/RULES.md) asks of minutes, without how they are reckoned.
use Rattle.std.specs.Prelude.{◌≡◌, ℕ, ◌+◌, ◌*◌, ◌%◌, ◌≤◌, ◌<◌}
use Rattle.durations.specs.Minutes.{minutes_between}

-- MINUTES-1: minutes are "the nearest" to the seconds: at most half a minute above or below them;
-- "an exact half minute goes to the even one"
pub record Nearest (seconds minutes : ℕ) : Type 0 where
  pub not-above : 60 * minutes ≤ seconds + 30
  pub not-below : seconds ≤ 60 * minutes + 30
  pub half-above : 60 * minutes ≡ seconds + 30 → minutes % 2 ≡ 0
  pub half-below : seconds ≡ 60 * minutes + 30 → minutes % 2 ≡ 0

pub record MinutesLaws : Type 0 where
  -- restored so many seconds after the agreement
  pub nearest : (since seconds : ℕ) → Nearest seconds (minutes_between since (since + seconds))
  -- VALUE-5: "an agreement later than the restoration gives 0 minutes"
  pub later : (since now : ℕ) → now < since → minutes_between since now ≡ 0
  -- no other number of minutes is
  pub only : (seconds m n : ℕ) → Nearest seconds m → Nearest seconds n → m ≡ n
