-- What one month ahead of a day is. Document 02, W-202. Assumes nothing.
use Rattle.std.specs.Prelude.{ℕ, ◌+◌, ◌*◌, ◌<◌, ◌≡◌, ◌⊎◌}
use Rattle.paper.specs.Days.{year_of, month_of, day_of, month_days}

-- e lies in the month behind that of d; its day number is that of d, or it is the month's last and below that of d
pub record Ahead (d e : ℕ) : Type 0 where
  pub month : year_of e * 12 + month_of e ≡ year_of d * 12 + month_of d + 1
  pub day : (day_of e ≡ day_of d) ⊎ ((day_of e ≡ month_days (year_of e) (month_of e)) × (day_of e < day_of d))
