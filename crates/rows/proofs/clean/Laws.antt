-- Texts that lie in a stretch of lent bytes: what holds of all its bytes holds of theirs. Assumes nothing.
use mathlib.Core.Path.{◌≡◌, sym, ap, ◌∙◌}
use mathlib.Core.Bool.{Bool, true, false}
use mathlib.Core.List.{List}
use Prim.Native.Nat.{ℕ, ◌+◌, ◌-◌, ◌≤◌}
use native.Mathlib.Omega.{arith}
use lib.ListN.{take, drop}
use lib.Seq.{drop-drop, take-take}
use Rattle.base.specs.Seek.{all}
use Rattle.base.proofs.Cases.{by-lt}
use Rattle.base.proofs.Lists.{drop-take}
use Rattle.base.proofs.Seek.{never, all_take, all_drop}
use Rattle.paper.specs.Bytes.{is_clean}
use Rattle.text.specs.declared.span.Span.{Span}
use Rattle.text.specs.span.Held.{Within}
use Rattle.rows.specs.declared.clean.Stretch.{Stretch}
use Rattle.rows.specs.declared.read.ItemRow.{ItemRow}
use Rattle.rows.specs.read.Told.{text_of_span}
use Rattle.rows.specs.read.Sized.{Inside}
use Rattle.rows.specs.clean.Stretches.{Lies, Reaches, HoldsParts, CleanParts}
use Rattle.rows.proofs.read.Laws.{text-within, upto_is, front-is}

-- the lent bytes up to a place, as the code cuts them, from another place on
abbrev Cut : List ℕ → ℕ → ℕ → List ℕ
Cut t from to = drop from (take (to - 0) (drop 0 t))

-- ---- one text

module _ (t : List ℕ) (p : Span) (w : Within t p) where
  pub clean-here : (r : Bool) → r ≡ all is_clean (Cut t p.at (p.at + p.len)) → r ≡ all is_clean (text_of_span t p)
  clean-here r e = e ∙ ap (all is_clean) (front-is t p w)

  -- .. that lies in a clean stretch
  lies-clean : (a : Stretch) → Lies a p → all is_clean (Cut t a.from a.to) ≡ true → all is_clean (text_of_span t p) ≡ true
  unfolding all
  lies-clean a l e =
      by-lt 0 p.len
      (λ some.
      let (low, high) = l some in
      let k = p.at - a.from in
      let at : a.from + k ≡ p.at = omega arith in
      let rest : a.to - a.from - k ≡ a.to - p.at = omega arith in
      let c : all is_clean (take (a.to - a.from) (drop a.from t)) ≡ true = rw (upto_is t a.from a.to) at e in
      let d : all is_clean (take (a.to - p.at) (drop p.at t)) ≡ true = rw (drop-take k (a.to - a.from) (drop a.from t), drop-drop k a.from t, at, rest) at (all_drop is_clean k (take (a.to - a.from) (drop a.from t)) c) in
      rw (text-within t p w) (shorter p.len (a.to - p.at) (drop p.at t) (omega arith) d))
      (λ none. let z : p.len ≡ 0 = omega arith in rw (text-within t p w, z))
    where
      shorter : (n m : ℕ) (s : List ℕ) → n ≤ m → all is_clean (take m s) ≡ true → all is_clean (take n s) ≡ true
      shorter n m s h c = rw (take-take n m s h) at (all_take is_clean n (take m s) c)

-- ---- stretches

-- drawn out to a text
pub drawn-order : (a : Stretch) (from to : ℕ) → a.from ≤ a.to → from ≤ a.from → a.to ≤ to → from ≤ to
drawn-order a from to m l h = omega arith

module _ (a r : Stretch) (p : Span) where
  pub drawn-reaches : r.from ≤ a.from → a.to ≤ r.to → Reaches a r
  drawn-reaches l h = record { down = l; up = h }

  pub drawn-lies : r.from ≤ p.at → p.at + p.len ≤ r.to → Lies r p
  drawn-lies l h some = (l, h)

  lies-on : Reaches a r → Lies a p → Lies r p
  lies-on g l some = let (low, high) = l some in (omega (arith, g.down), omega (arith, g.up))

pub same-reaches : (a : Stretch) → Reaches a a
same-reaches a = record { down = omega arith; up = omega arith }

pub empty-lies : (a : Stretch) (p : Span) → p.len ≡ 0 → Lies a p
empty-lies a p e some = absurd (omega arith)

-- the first part, and on to the others
pub all_lie : (x : ItemRow) (a b c d : Stretch) → a.from ≡ x.part1.at → a.to ≡ x.part1.at + x.part1.len
    → Reaches a b → Lies b x.part2 → Reaches b c → Lies c x.part3 → Reaches c d → Lies d x.part4 → HoldsParts d x
all_lie x a b c d from to ab second bc third cd fourth =
    let first : Lies a x.part1 = λ some. (omega arith, omega arith) in
    record {
      first = lies-on c d x.part1 cd (lies-on b c x.part1 bc (lies-on a b x.part1 ab first));
      second = lies-on c d x.part2 cd (lies-on b c x.part2 bc second);
      third = lies-on c d x.part3 cd third;
      fourth = fourth;
    }

pub ruleset drawn = (drawn-order, drawn-reaches, drawn-lies, same-reaches, empty-lies)

-- a clean stretch has clean parts; of any other nothing is told
module _ (t : List ℕ) (x : ItemRow) where
  pub stretch-clean : Inside t x → (a : Stretch) → HoldsParts a x → (r : Bool) → r ≡ all is_clean (Cut t a.from a.to) → r ≡ true → CleanParts t x
  stretch-clean i a h r e q =
      let c = sym e ∙ q in
      record {
        first = lies-clean t x.part1 i.first a h.first c;
        second = lies-clean t x.part2 i.second a h.second c;
        third = lies-clean t x.part3 i.third a h.third c;
        fourth = lies-clean t x.part4 i.fourth a h.fourth c;
      }

  -- no part has bytes where the stretch has none
  pub none-clean : Inside t x → (a : Stretch) → HoldsParts a x → a.from ≡ a.to → true ≡ true → CleanParts t x
  unfolding all
  none-clean i a h e _ =
      record {
        first = none x.part1 i.first h.first;
        second = none x.part2 i.second h.second;
        third = none x.part3 i.third h.third;
        fourth = none x.part4 i.fourth h.fourth;
      }
    where
      none : (p : Span) → Within t p → Lies a p → all is_clean (text_of_span t p) ≡ true
      none p w l =
          by-lt 0 p.len
          (λ some. let (low, high) = l some in absurd (omega arith))
          (λ empty. let z : p.len ≡ 0 = omega arith in rw (text-within t p w, z))

  pub untold : false ≡ true → CleanParts t x
  untold q = never (sym q)
