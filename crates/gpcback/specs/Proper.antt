-- Heads and movements that can be written: numbers that fit their digits, kept bytes as many as there is room for. Document 02, W-204.
-- Assumes nothing.
use Rattle.std.specs.Prelude.{◌≤◌, ◌<◌, ◌≡◌, true, List, [], ◌∷◌, length}
use Rattle.paper.specs.Accounts.{Account}
use Rattle.gpc.specs.Signed.{Fourteen}
use Rattle.gpc.specs.Turnovers.{is_code, most12}
use Rattle.gpc.specs.Records.{Head, Movement, Thing, a_head, a_movement, strange}

-- six digits and ten
pub record ProperAccount (a : Account) : Type 0 where
  pub prefix : a.prefix < 1000000
  pub base : a.base < 10000000000

-- a head
pub record ProperHead (h : Head) : Type 0 where
  pub account : ProperAccount h.account
  pub before : length h.before ≡ 26
  pub old : Fourteen h.old
  pub new : Fourteen h.new
  pub debit : Fourteen h.debit
  pub credit : Fourteen h.credit
  pub behind : length h.behind ≡ 23

-- a movement
pub record ProperMovement (m : Movement) : Type 0 where
  pub account : ProperAccount m.account
  pub other : ProperAccount m.other
  pub before : length m.before ≡ 13
  pub amount : m.amount ≤ most12
  pub code : is_code m.code ≡ true
  pub variable : m.variable < 10000000000
  pub behind : length m.behind ≡ 57

-- one thing
abbrev pub Proper : Thing → Type 0
Proper (a_head h) = ProperHead h
Proper (a_movement m) = ProperMovement m
Proper strange = ⊥

-- all of them
abbrev pub AllProper : List Thing → Type 0
AllProper [] = Unit {0}
AllProper (t ∷ ts) = Proper t × AllProper ts

-- none of them is strange
abbrev pub NoStrange : List Thing → Type 0
NoStrange [] = Unit {0}
NoStrange (t ∷ ts) = (t ≡ strange → ⊥) × NoStrange ts
