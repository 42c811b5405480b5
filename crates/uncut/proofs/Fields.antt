-- Each field of a line: what the narrower sheet reads the wider one reads as the same value. Assumes nothing.
use mathlib.Core.Path.{◌≡◌, refl, sym, ◌∙◌}
use mathlib.Core.Bool.{Bool, true, false}
use mathlib.Core.List.{List, [], ◌∷◌}
use Prim.Native.Nat.{ℕ, ◌+◌, ◌-◌, ◌*◌, ◌≤◌, ◌<◌}
use native.Mathlib.Omega.{arith}
use lib.Dec.{eqb, ltb}
use lib.ListN.{length}
use borrow.Author.Tests.{eqb-true, ltb-true, leb-true, lt-ltb, le-ltb, le-leb}
use Rattle.base.specs.Pick.{pick}
use Rattle.base.specs.Seek.{all, seek}
use Rattle.base.proofs.Cases.{by-test, by-lt, either, either_way, pick-not, pick_true, pick-false}
use Rattle.base.proofs.Seek.{all_cons, free_all}
use Rattle.sheet.specs.declared.Sheet.{Sheet}
use Rattle.sheet.specs.Sheets.{kind_allowed, bank_allowed}
use Rattle.paper.specs.Read.{Field, value, fault}
use Rattle.paper.specs.Bytes.{is_digit, comma}
use Rattle.paper.specs.Numerals.{digits_on, digits}
use Rattle.paper.specs.Accounts.{Account, two_parts, one_part, read_account, read_payer}
use Rattle.paper.specs.Days.{day_number, short_day, read_day, past, due_allowed, read_due}
use Rattle.paper.specs.Terms.{collection, day_here, bank_due}
use Rattle.paper.specs.Amounts.{read_amount, amount_proper, read_item_amount}
use Rattle.paper.specs.BankField.{read_due_bank}
use Rattle.paper.specs.FileLine.{read_kind, read_number, read_code}
use Rattle.uncut.proofs.Tests.{besides}
use Rattle.uncut.proofs.Takes.{Takes, alike, refused, read-on, not_on}

-- a value is kept only where the second sheet's test is passed too
checked : {A : Type 0} (t u : Bool) (v : A) (n m : ℕ) → (t ≡ true → u ≡ true) → Takes (pick t (value v) (fault n)) (pick u (value v) (fault m))
checked t u v n m h =
    either (λ x. Takes x (pick u (value v) (fault m))) t (λ y. rw (pick_true (value v) (fault m) (h y)) alike) (λ _. refused)

-- ---- digits

module _ (s : List ℕ) where
  digits-takes : (least most fewer more : ℕ) → fewer ≤ least → most ≤ more → Takes (digits least most s) (digits fewer more s)
  unfolding digits pick
  digits-takes least most fewer more f m =
      by-lt (length s) least
      (λ h. rw (lt-ltb (length s) least h) refused)
      (λ h. by-lt most (length s)
      (λ g. rw (le-ltb (length s) least h, lt-ltb most (length s) g) refused)
      (λ g. rw (le-ltb (length s) least h, le-ltb most (length s) g, le-ltb (length s) fewer (omega arith), le-ltb more (length s) (omega arith)) alike))

  -- too many bytes for the first reader
  digits_long : (least most : ℕ) {y : Field ℕ} → most < length s → Takes (digits least most s) y
  unfolding digits pick
  digits_long least most h = by-test (ltb (length s) least) (λ e. rw e refused) (λ e. rw (e, lt-ltb most (length s) h) refused)

-- what is read as digits holds no other byte
digits-all : (v n : ℕ) (s : List ℕ) → digits_on v s ≡ value n → all is_digit s ≡ true
unfolding digits_on all pick
digits-all v n [] e = refl
digits-all v n (x ∷ s) e =
    by-test (is_digit x)
    (λ d. all_cons is_digit x s d (digits-all (v * 10 + (x - 48)) n s (rw d at e)))
    (λ d. absurd (let q : fault 4 ≡ value n = rw d at e in let z : ◌≡◌ {A = ℕ} 0 1 = cc in omega arith))

-- a byte that is no digit
module _ (q : ℕ) (other : is_digit q ≡ false) (s : List ℕ) (stands : seek (q ∷ []) s < length s) where
  digits-other : (least most : ℕ) {y : Field ℕ} → Takes (digits least most s) y
  unfolding digits
  digits-other least most {y} =
      either (λ x. Takes x y) _ (λ _. refused) λ _.
      either (λ x. Takes x y) _ (λ _. refused) λ _.
      record { takes = λ n on e. absurd (let f = free_all is_digit q other s (digits-all 0 n s e) in omega arith) }

-- ---- the line that begins an account file

module _ (a b : Sheet) where
  pub kind-takes : a.lastkind ≤ b.lastkind → (s : List ℕ) → Takes (read_kind a s) (read_kind b s)
  unfolding read_kind kind_allowed
  kind-takes l s =
      read-on _ _ alike λ k.
      checked _ _ _ _ _ λ e. let (low, high) = pick-not (ltb k 1501) _ e in pick-false _ _ low ∙ le-leb k b.lastkind (omega (arith, leb-true k a.lastkind high))

  pub code-takes : ((code : ℕ) → bank_allowed a code ≡ true → bank_allowed b code ≡ true) → (s : List ℕ) → Takes (read_code a s) (read_code b s)
  unfolding read_code
  code-takes h s = read-on _ _ alike λ code. checked _ _ _ _ _ (h code)

pub number-takes : (p q : ℕ → ℕ) → ((n : ℕ) → eqb (p n) 0 ≡ true → eqb (q n) 0 ≡ true) → (s : List ℕ) → Takes (read_number p s) (read_number q s)
unfolding read_number
number-takes p q h s = read-on _ _ alike λ n. checked _ _ _ _ _ (h n)

-- ---- accounts

module _ (least fewer : ℕ) (f : fewer ≤ least) where
  two-takes : (p s : List ℕ) → Takes (two_parts least p s) (two_parts fewer p s)
  unfolding two_parts
  two-takes p s = read-on _ _ alike λ prefix. read-on _ _ (digits-takes s least 10 fewer 10 f (omega arith)) λ base. alike

  one-takes : (s : List ℕ) → Takes (one_part least s) (one_part fewer s)
  unfolding one_part
  one-takes s = read-on _ _ (digits-takes s least 10 fewer 10 f (omega arith)) λ base. alike

  one-long : (s : List ℕ) {y : Field Account} → 10 < length s → Takes (one_part least s) y
  unfolding one_part
  one-long s l = not_on _ _ λ z. digits_long s least 10 l

  module _ (may can : Bool) (j : may ≡ true → can ≡ true) (s : List ℕ) where
    pub account-takes : Takes (read_account may least s) (read_account can fewer s)
    unfolding read_account
    account-takes =
        either_way Takes _ (two-takes _ _)
        (besides Takes may can (ltb 10 (length s)) j alike (one-takes s) (λ e. one-long s (ltb-true 10 (length s) e)))

    -- a group's payer
    pub payer-takes : (empty empty' zero zero' : Bool) → empty ≡ empty' → zero ≡ zero'
        → Takes (read_payer empty zero may least s) (read_payer empty' zero' can fewer s)
    unfolding read_payer
    payer-takes empty empty' zero zero' e z = rw (e, z) (either_way Takes _ alike (either_way Takes _ alike account-takes))

-- ---- due dates

short-long : (t : List ℕ) {y : Field ℕ} → 6 < length t → Takes (short_day t) y
unfolding short_day
short-long t h = not_on _ _ λ z. digits_long t 6 6 h

day-takes : (may can : Bool) → (may ≡ true → can ≡ true) → (s : List ℕ) → Takes (read_day may s) (read_day can s)
unfolding read_day
day-takes may can l s =
    besides Takes may can (eqb (length s) 8) l alike alike (λ e. short-long s (omega (arith, eqb-true (length s) 8 e)))

module _ (early sooner : Bool) (p : early ≡ true → sooner ≡ true) (ahead further : ℕ) (l : ahead ≤ further) (today : ℕ) where
  due-more : (here : Bool) (d : ℕ) → due_allowed here early ahead today d ≡ true → due_allowed here sooner further today d ≡ true
  unfolding due_allowed pick
  due-more true d =
      by-test (past today d) (λ e. rw e p)
      (λ e. rw e (λ h. let days = day_number d - day_number today in le-leb days further (omega (arith, leb-true days ahead h))))
  due-more false d = λ h. h

  pub due-takes : (may can : Bool) → (may ≡ true → can ≡ true) → (here : Bool) (s : List ℕ)
      → Takes (read_due may here early ahead today s) (read_due can here sooner further today s)
  unfolding read_due
  due-takes may can m here s = read-on _ _ (day-takes may can m s) λ d. checked _ _ _ _ _ (due-more here d)

-- two sheets that judge the days of collections alike judge a day at the same field, and by the same own bank
module _ (a b : Sheet) (c : a.collects ≡ b.collects) (kind : ℕ) where
  pub same_here : day_here a kind ≡ day_here b kind
  unfolding day_here
  same_here = rw c

  pub same-due : a.bank ≡ b.bank → (today date bank : ℕ) → bank_due a today kind date bank ≡ bank_due b today kind date bank
  unfolding bank_due collection
  same-due o today date bank = rw (c, o)

-- ---- amounts

comma-other : is_digit 44 ≡ false
unfolding is_digit pick
comma-other = refl

module _ (may can : Bool) (c : may ≡ true → can ≡ true) (most more : ℕ) (m : most ≤ more) (s : List ℕ) where
  pub amount-takes : Takes (read_amount may most s) (read_amount can more s)
  unfolding read_amount
  amount-takes =
      besides Takes may can (ltb (seek comma s) (length s)) c alike (digits-takes s 1 most 1 more (omega arith) m)
      (λ e. digits-other 44 comma-other s (ltb-true (seek comma s) (length s) e) 1 most)

  pub item-amount-takes : (max max' : ℕ) → max ≤ max' → Takes (read_item_amount may most max s) (read_item_amount can more max' s)
  unfolding read_item_amount amount_proper
  item-amount-takes max max' l =
      read-on _ _ amount-takes λ v.
      checked _ _ _ _ _ λ e. let (some, low) = pick-not (ltb v 1) _ e in pick-false _ _ some ∙ le-leb v max' (omega (arith, leb-true v max low))

-- ---- the bank field

module _ (due due' : ℕ → Bool) (d : (bank : ℕ) → due bank ≡ due' bank) where
  pub bank-takes : (ranked ranked' : Bool) → ranked ≡ ranked' → (s : List ℕ) → Takes (read_due_bank ranked due s) (read_due_bank ranked' due' s)
  unfolding read_due_bank
  bank-takes ranked ranked' e s = rw e (read-on _ _ alike λ b. checked _ _ _ _ _ λ y. sym (d b.bank) ∙ y)
