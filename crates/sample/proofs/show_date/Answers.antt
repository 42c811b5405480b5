-- 1 January 2018 is a real day.
use borrow.Author.Rules.{rules}
use mathlib.Core.Path.{refl}
use Rattle.base.specs.Pick.{pick}
use Rattle.paper.specs.Days.{real_day, month_days, leap}
use Rattle.sample.proofs.show_date.Goals as goal

pub due_at-requires : goal.due_at-requires
unfolding real_day month_days leap pick
due_at-requires c = record { at_in_bounds = search rules; today_value = refl }
