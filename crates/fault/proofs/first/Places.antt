-- The first line's walk place by place: a field that is there, one that the line is too short for, and the walk from each on. Assumes nothing.
use mathlib.Core.Path.{◌≡◌, refl, sym, ap, ◌∙◌}
use mathlib.Core.Bool.{true, false}
use mathlib.Core.List.{List, ◌∷◌}
use Prim.Native.Nat.{ℕ, ◌+◌, ◌-◌, ◌≤◌, ◌<◌}
use native.Mathlib.Omega.{arith}
use lib.ListN.{length, take, drop, length-drop, length-take}
use lib.Seq.{drop-drop, length-take-le}
use Rattle.std.proofs.Common.{Result, Ok, Err}
use Rattle.refusal.specs.declared.Refusal.{Refusal}
use Rattle.base.proofs.Cases.{pick_true, pick-false}
use Rattle.sheet.specs.declared.Sheet.{Sheet}
use Rattle.paper.specs.Numerals.{digits}
use Rattle.paper.specs.Spells.{Context}
use Rattle.numeral.specs.Told.{told}
use Rattle.why.specs.Rule.{Rule, rule, first_broken}
use Rattle.why.specs.Forms.{are_digits, spelled}
use Rattle.why.specs.Names.{Name, field_number, interval_start}
use Rattle.why.specs.Fields.{day_rules, name_rules, end_rules, rules_of}
use Rattle.why.specs.Walk.{Walked, spot, why_first}
use Rattle.why.proofs.Few.{few-digits, few-day, few-name}
use Rattle.fault.specs.declared.line.Fault.{Fault}
use Rattle.fault.specs.field.Ruled.{Ruling, broken, ruling}
use Rattle.fault.specs.line.Walks.{Walk, walk, stop, in_line}
use Rattle.fault.specs.line.Stages.{from_rest, from_end, from_start, from_client, from_name, from_date}
use Rattle.fault.proofs.field.Rulings.{all-kept, digits-then, digits-broke, spelled_is}
use Rattle.fault.proofs.line.Steps.{is-fault, on-kept, on-broke}

-- ---- too few bytes: 4 by the field's form

pub short-digits : (n : ℕ) (rs : List Rule) (t : List ℕ) → length t < n → ruling (first_broken (rule 4 40 (are_digits n n) ∷ rs) t) ≡ Err (broken 4 40 0 0)
unfolding ruling
short-digits n rs t l = ap ruling (few-digits n rs t l)

pub short-day : (t : List ℕ) → length t < 6 → ruling (first_broken day_rules t) ≡ Err (broken 4 40 0 0)
unfolding ruling
short-day t l = ap ruling (few-day t l)

pub short-name : (n : ℕ) (t : List ℕ) → length t < n → ruling (first_broken (name_rules n) t) ≡ Err (broken 4 40 0 0)
unfolding ruling
short-name n t l = ap ruling (few-name n t l)

-- ---- a field by place

module _ (sh : Sheet) (today : ℕ) (c : Context) (w : List ℕ) (x : Walk) (name : Name) (at n : ℕ) (j : ℕ → List ℕ → Walked) where
  module _ (l : at + n ≤ length w) (r : Ruling) (q : r ≡ ruling (first_broken (rules_of sh today c w name) (take n (drop at w)))) (p : Walk) (g : p ≡ in_line r at n (field_number name)) where
    whole : length (take n (drop at w)) ≡ n
    whole = length-take-le n (drop at w) (omega (arith, length-drop at w))

    told-there : in_line (ruling (first_broken (rules_of sh today c w name) (take n (drop at w)))) at (length (take n (drop at w))) (field_number name) ≡ p
    told-there = sym (g ∙ (ap (λ (s : Ruling). in_line s at n (field_number name)) q ∙ rw whole))

    pub spot-kept : (u : Unit {0}) → p ≡ Ok u → x ≡ walk (j (at + n) (drop (at + n) w)) → x ≡ walk (spot sh today c w n name at (drop at w) j)
    unfolding spot
    spot-kept u y h =
        h ∙ sym (ap walk (on-kept name at (length (take n (drop at w))) (j (at + n) (drop n (drop at w))) (first_broken (rules_of sh today c w name) (take n (drop at w))) u (told-there ∙ y) ∙ ap (j (at + n)) (drop-drop n at w)))

    pub spot-broke : (y : Fault) → p ≡ Err y → x ≡ Err y → x ≡ walk (spot sh today c w n name at (drop at w) j)
    unfolding spot
    spot-broke y f h =
        h ∙ sym (on-broke name at (length (take n (drop at w))) (j (at + n) (drop n (drop at w))) (first_broken (rules_of sh today c w name) (take n (drop at w))) y (told-there ∙ f))

  -- .. that the line is too short for
  module _ (g : at ≤ length w) (l : length w < at + n) where
    fewer : length (take n (drop at w)) ≡ length w - at
    fewer = omega (arith, length-take n (drop at w), length-drop at w)

    pub spot-short : ((t : List ℕ) → length t < n → ruling (first_broken (rules_of sh today c w name) t) ≡ Err (broken 4 40 0 0))
        → x ≡ Err (stop 4 40 at (length w - at) (field_number name) 0 0) → x ≡ walk (spot sh today c w n name at (drop at w) j)
    unfolding spot in_line
    spot-short few h =
        let k : length (take n (drop at w)) < n = omega (arith, length-take n (drop at w), length-drop at w) in
        h ∙ (ap (λ (k : ℕ). Err (stop 4 40 at k (field_number name) 0 0)) (sym fewer) ∙ sym (on-broke name at (length (take n (drop at w))) (j (at + n) (drop n (drop at w))) (first_broken (rules_of sh today c w name) (take n (drop at w))) _
        (ap (λ (s : Ruling). in_line s at (length (take n (drop at w))) (field_number name)) (few (take n (drop at w)) k))))

-- ---- the walk from a field on, in any context

module _ (sh : Sheet) (today : ℕ) (c : Context) (w : List ℕ) (x : Walk) where
  pub on-rest : ((t : ℕ) (d : Context) → x ≡ walk (from_rest sh t d w 46 (drop 46 w))) → x ≡ walk (from_rest sh today c w 46 (drop 46 w))
  on-rest f = f today c

  pub on-client : ((t : ℕ) (d : Context) → x ≡ walk (from_client sh t d w 30 (drop 30 w))) → x ≡ walk (from_client sh today c w 30 (drop 30 w))
  on-client f = f today c

  pub on-start : ((t : ℕ) (d : Context) → x ≡ walk (from_start sh t d w 40 (drop 40 w))) → x ≡ walk (from_start sh today c w 40 (drop 40 w))
  on-start f = f today c

  pub on-name : ((t : ℕ) (d : Context) → x ≡ walk (from_name sh t d w 10 (drop 10 w))) → x ≡ walk (from_name sh today c w 10 (drop 10 w))
  on-name f = f today c

  -- the interval's start, read as a number
  module _ (l : 43 ≤ length w) (n : Result ℕ Refusal) (t : told n ≡ digits 3 3 (take 3 (drop 40 w))) where
    pub start-there : (v : ℕ) → n ≡ Ok v → ((t : ℕ) (d : Context) → spelled (take 3 (drop 40 w)) ≡ v → x ≡ walk (from_end sh t d w 43 (drop 43 w)))
        → x ≡ walk (from_start sh today c w 40 (drop 40 w))
    unfolding rules_of in_line
    start-there v e f =
        spot-kept sh today c w x interval_start 40 3 (from_end sh today c w) l (Ok tt)
        (digits-then n (take 3 (drop 40 w)) 3 3 t (Ok tt) _ v e (all-kept (Ok tt) (take 3 (drop 40 w)) refl)) (Ok tt) refl tt refl
        (f today c (spelled_is n (take 3 (drop 40 w)) 3 3 t v e))

    pub start-broke : (m : Refusal) → n ≡ Err m → x ≡ Err (stop 4 40 40 3 4 0 0) → x ≡ walk (from_start sh today c w 40 (drop 40 w))
    unfolding rules_of field_number in_line
    start-broke m e h =
        spot-broke sh today c w x interval_start 40 3 (from_end sh today c w) l (Err (broken 4 40 0 0))
        (digits-broke n (take 3 (drop 40 w)) 3 3 t (Err (broken 4 40 0 0)) _ m e refl) (Err (stop 4 40 40 3 4 0 0)) refl (stop 4 40 40 3 4 0 0) refl h

  -- where the sheet reads the line, and where it does not
  pub first_read : sh.header ≡ true → ((t : ℕ) (d : Context) → x ≡ walk (from_date sh t d w 4 (drop 4 w))) → x ≡ walk (why_first sh today c w)
  unfolding why_first
  first_read o f = f today c ∙ sym (ap walk (pick_true _ _ o))

  pub first-unread : sh.header ≡ false → x ≡ Ok tt → x ≡ walk (why_first sh today c w)
  unfolding why_first walk
  first-unread o h = h ∙ sym (ap walk (pick-false _ _ o))

-- the interval's end, behind its start
pub end_known : (sh : Sheet) (w z : List ℕ) (start : ℕ) (r : Ruling) → spelled (take 3 (drop 40 w)) ≡ start → r ≡ ruling (first_broken (end_rules sh.interval start) z)
    → r ≡ ruling (first_broken (end_rules sh.interval (spelled (take 3 (drop 40 w)))) z)
end_known sh w z start r e h = rw e h

pub ruleset places = (is-fault, spot-kept, spot-broke, spot-short)

pub ruleset ends = (short-digits, on-rest, end_known, places)

pub ruleset starts = (is-fault, short-digits, start-there, start-broke, spot-short)

pub ruleset clients = (short-digits, on-start, places)

pub ruleset names = (short-name, on-client, places)

pub ruleset dates = (short-day, on-name, places)

pub ruleset firsts = (first_read, first-unread)
