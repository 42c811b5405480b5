-- The first line: a header that is read has the day that is read of its line alone. Assumes nothing.
use mathlib.Core.Path.{◌≡◌, refl, sym, ap, ◌∙◌}
use mathlib.Core.Bool.{true, false}
use mathlib.Core.List.{List}
use Prim.Native.Nat.{ℕ}
use native.Mathlib.Omega.{arith}
use lib.Dec.{ltb}
use lib.ListN.{length, take, drop}
use borrow.Author.Tests.{not-true, not-false}
use Rattle.base.proofs.Cases.{by-test, either, pick_true, pick-false}
use Rattle.sheet.specs.declared.Sheet.{Sheet}
use Rattle.paper.specs.Read.{Field, value, fault}
use Rattle.paper.specs.Warnings.{Notice}
use Rattle.paper.specs.Numerals.{digits}
use Rattle.paper.specs.Days.{short_day}
use Rattle.paper.specs.Batch.{Header}
use Rattle.paper.specs.Entries.{head, Places, Listed, Said, got, no, said, plain, on_field, place, to_end}
use Rattle.paper.specs.FirstLine.{text_field, read_to, read_rest, read_first}
use Rattle.paper.proofs.Passing.{same_parts}
use Rattle.register.specs.Register.{Register, fits}
use Rattle.against.specs.Against.{day_of, is_other}

-- a refusal is no reading
pub no-got : {A B : Type 0} {n off : ℕ} {x : A} → ◌≡◌ {A = Said A} (no n off) (got x) → B
no-got e = absurd (let z : ◌≡◌ {A = ℕ} 0 1 = cc in omega arith)

-- ---- what stands behind the date

-- if it has a header, that is of the day d
abbrev Dated : ℕ → Listed → Type 0
Dated d r = (h : Header) (w : List Notice) (p : Places) → r ≡ said (head h) w p → d ≡ h.date

head-date : {x h : Header} {v w : List Notice} {p q : Places} → said (head x) v p ≡ said (head h) w q → x.date ≡ h.date
head-date {x} {h} e = let y = (same_parts e).0 in let z : x ≡ h = cc in ap (λ (u : Header). u.date) z

module _ (d : ℕ) where
  none-dated : (n off : ℕ) → Dated d (no n off)
  none-dated n off h w p e = no-got e

  on-dated : {A : Type 0} (at : ℕ) (x : Field A) {k : A → Listed} → ((v : A) → Dated d (k v)) → Dated d (on_field at x k)
  unfolding on_field
  on-dated at (value v) f = f v
  on-dated at (fault n) f = none-dated n at

  place-dated : {A : Type 0} (n : ℕ) (read : List ℕ → Field A) (at : ℕ) (s : List ℕ) {k : A → ℕ → List ℕ → Listed}
      → ((v : A) (a : ℕ) (r : List ℕ) → Dated d (k v a r)) → Dated d (place n read at s k)
  unfolding place
  place-dated n read at s f =
      either (Dated d) (ltb (length s) n) (λ _. none-dated 4 at) (λ _. on-dated at (read (take n s)) (λ v. f v _ _))

abbrev behind : Sheet → ℕ → ℕ → List ℕ → Listed
behind sh date a1 s1 =
    place 20 text_field a1 s1 λ name a2 s2.
    place 10 (digits 10 10) a2 s2 λ client a3 s3.
    place 3 (digits 3 3) a3 s3 λ from a4 s4.
    place 3 (read_to sh.interval from) a4 s4 λ to a5 s5.
    to_end (read_rest sh.short) a5 s5 λ rest.
    plain (head (record { date = date; name = name; client = client; from = from; to = to }))

behind-dated : (sh : Sheet) (d a1 : ℕ) (s1 : List ℕ) → Dated d (behind sh d a1 s1)
behind-dated sh d a1 s1 =
    place-dated d 20 text_field a1 s1 λ name a2 s2.
    place-dated d 10 (digits 10 10) a2 s2 λ client a3 s3.
    place-dated d 3 (digits 3 3) a3 s3 λ from a4 s4.
    place-dated d 3 (read_to sh.interval from) a4 s4 λ to a5 s5.
    on-dated d a5 (read_rest sh.short s5) λ rest h w p e.
    head-date e

-- ---- the date

module _ (h : Header) (w : List Notice) (p : Places) where
  on-day : (x : Field ℕ) (k : ℕ → Listed) → ((d : ℕ) → Dated d (k d)) → on_field 4 x k ≡ said (head h) w p
      → on_field 4 x (λ d. got d) ≡ got h.date
  unfolding on_field
  on-day (value d) k f e = ap got (f d h w p e)
  on-day (fault n) k f e = no-got e

  place-day : (s : List ℕ) (k : ℕ → ℕ → List ℕ → Listed) → ((d a : ℕ) (r : List ℕ) → Dated d (k d a r))
      → place 6 short_day 4 s k ≡ said (head h) w p → place 6 short_day 4 s (λ d a r. got d) ≡ got h.date
  unfolding place
  place-day s k f e =
      by-test (ltb (length s) 6)
      (λ y. no-got (sym (pick_true _ _ y) ∙ e))
      (λ n. pick-false _ _ n ∙ on-day (short_day (take 6 s)) _ (λ d. f d _ _) (sym (pick-false _ _ n) ∙ e))

  pub first-day : (sh : Sheet) (s : List ℕ) → sh.header ≡ true → read_first sh s ≡ said (head h) w p → day_of s ≡ got h.date
  unfolding read_first day_of
  first-day sh s headed e = place-day (drop 4 s) (behind sh) (behind-dated sh) (sym (pick_true _ _ headed) ∙ e)

-- ---- a day that the register is for, and another

module _ (reg : Register) where
  pub other-day : (r : Said ℕ) → is_other reg r ≡ true → (d : ℕ) × (r ≡ got d) × (fits reg d ≡ false)
  unfolding is_other
  other-day (got d) e = (d, refl, not-true (fits reg d) e)
  other-day (no n off) e = absurd (let z : ◌≡◌ {A = ℕ} 0 1 = cc in omega arith)

  pub is-other : (r : Said ℕ) (d : ℕ) → r ≡ got d → fits reg d ≡ false → is_other reg r ≡ true
  unfolding is_other
  is-other r d e o = rw (e, o)

  pub its-day : (r : Said ℕ) (d : ℕ) → r ≡ got d → is_other reg r ≡ false → fits reg d ≡ true
  unfolding is_other
  its-day r d e o = not-false (fits reg d) (rw e at o)
