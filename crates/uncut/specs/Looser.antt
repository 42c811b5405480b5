-- When a style of texts reads every text that another one reads, though perhaps otherwise. Document 01, "Lines", tail, of two sheets. Assumes nothing.
use Rattle.std.specs.Prelude.{◌≤◌, ◌≡◌, true, false}
use Rattle.sheet.specs.declared.Style.{Style}

-- z reads every text that y reads, though perhaps otherwise: it cuts what is too long, takes every byte, and may read a name where y reads none
pub record Looser (y z : Style) : Type 0 where
  pub av : y.av ≡ z.av
  pub may : y.may ≡ true → z.may ≡ true
  pub names : y.names ≡ true → z.names ≡ true
  pub most : y.most ≤ z.most
  pub cuts : z.cuts ≡ true
  pub clean : z.clean ≡ false
