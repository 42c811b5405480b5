-- A sheet with K's number rule reads the header. Assumes nothing.
use mathlib.Core.Path.{◌≡◌, sym, ◌∙◌}
use mathlib.Core.Bool.{true, true≢false}
use Rattle.base.proofs.Cases.{by-test}
use Rattle.sheet.specs.declared.Sheet.{Sheet}
use Rattle.sheet.proofs.Laws.{Sane}

pub headed : (sh : Sheet) → Sane sh → sh.interval ≡ true → sh.header ≡ true
headed sh sane i = by-test sh.header (λ e. e) (λ e. absurd (true≢false (sym i ∙ sane.no_interval e)))
