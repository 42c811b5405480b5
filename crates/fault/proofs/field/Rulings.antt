-- A field's rules one after the other: what a reader of digits says of the first, and how a test tells the next. Assumes nothing.
use mathlib.Core.Path.{◌≡◌, refl, sym, ap, ◌∙◌}
use mathlib.Core.Bool.{Bool, true, false}
use mathlib.Core.List.{List, [], ◌∷◌}
use Prim.Native.Nat.{ℕ, ◌≤◌, ◌<◌}
use native.Mathlib.Omega.{arith}
use lib.Dec.{leb}
use lib.ListN.{length, drop}
use borrow.Author.Tests.{le-leb, lt-leb, eq-eqb, ne_eqb}
use Rattle.std.proofs.Common.{Result, Ok, Err}
use Rattle.refusal.specs.declared.Refusal.{Refusal}
use Rattle.base.specs.Pick.{pick}
use Rattle.base.specs.Seek.{all}
use Rattle.base.proofs.Lists.{drop-none}
use Rattle.base.proofs.Cases.{by-test, pick_true, pick-false}
use Rattle.sheet.specs.declared.Sheet.{Sheet}
use Rattle.sheet.specs.Sheets.{kind_allowed, bank_allowed}
use Rattle.paper.specs.Read.{value, fault}
use Rattle.paper.specs.Bytes.{is_text}
use Rattle.paper.specs.Numerals.{digits}
use Rattle.paper.specs.Days.{real_day}
use Rattle.paper.specs.Amounts.{read_amount}
use Rattle.paper.specs.FirstLine.{rest_length}
use Rattle.paper.proofs.Lists.{empty-null}
use Rattle.numeral.specs.Told.{told}
use Rattle.why.specs.Rule.{Rule, rule, within, first_broken}
use Rattle.why.specs.Forms.{are_digits, spelled, are_text, is_long, is_day, shortly, day_spelled, is_amount, amount_spelled}
use Rattle.why.specs.Fields.{digit_rules, is_some, is_low, is_real, day_rules, name_rules, is_after, is_rest, rest_rules, is_kind, is_code, is_symbol, symbol_rules}
use Rattle.why.proofs.Agrees.{digits_are}
use Rattle.why.proofs.Fields.{amount-is}
use Rattle.fault.specs.declared.field.Broken.{Broken}
use Rattle.fault.specs.field.Ruled.{Ruling, broken, ruling}

-- ---- one rule, and those behind it

module _ (x : Ruling) (s : List ℕ) (r : Rule) (rs : List Rule) where
  pub first-kept : r.keeps s ≡ true → x ≡ ruling (first_broken rs s) → x ≡ ruling (first_broken (r ∷ rs) s)
  unfolding first_broken
  first-kept e h = h ∙ ap ruling (sym (pick_true _ _ e))

  pub first-broke : r.keeps s ≡ false → x ≡ Err (broken r.number r.cause r.least r.most) → x ≡ ruling (first_broken (r ∷ rs) s)
  unfolding first_broken ruling
  first-broke e h = h ∙ ap ruling (sym (pick-false _ _ e))

-- a rule that is broken, by what is told of it
pub is-broken : (b d : Broken) → b ≡ d → ◌≡◌ {A = Ruling} (Err b) (Err d)
is-broken b d e = ap (λ (y : Broken). Err y) e

pub all-kept : (x : Ruling) (s : List ℕ) → x ≡ Ok tt → x ≡ ruling (first_broken [] s)
unfolding first_broken ruling
all-kept x s h = h

-- a test that is another one for these bytes
pub same_test : (s : List ℕ) (n why : ℕ) (p q : List ℕ → Bool) → p s ≡ q s → ruling (first_broken (rule n why p ∷ []) s) ≡ ruling (first_broken (rule n why q ∷ []) s)
unfolding first_broken ruling pick
same_test s n why p q e = by-test (q s) (λ f. rw (e, f)) (λ f. rw (e, f))

-- ---- a form, and the number that it has: what was read had it, and what was not had not

pub formed : (k : Bool) {v : ℕ} (w : ℕ) → value v ≡ pick k (value w) (fault 4) → k ≡ true
unfolding pick
formed true w e = refl
formed false w e = absurd (let z : ◌≡◌ {A = ℕ} 0 1 = cc in omega arith)

pub unformed : (k : Bool) {m : ℕ} (w : ℕ) → fault m ≡ pick k (value w) (fault 4) → k ≡ false
unfolding pick
unformed true w e = absurd (let z : ◌≡◌ {A = ℕ} 0 1 = cc in omega arith)
unformed false w e = refl

pub worth : (k : Bool) {v : ℕ} (w : ℕ) → value v ≡ pick k (value w) (fault 4) → w ≡ v
unfolding pick
worth true w e = cc
worth false w e = absurd (let z : ◌≡◌ {A = ℕ} 0 1 = cc in omega arith)

-- ---- digits

module _ (n : Result ℕ Refusal) (s : List ℕ) (a b : ℕ) (t : told n ≡ digits a b s) where
  pub are-digits : (v : ℕ) → n ≡ Ok v → are_digits a b s ≡ true
  are-digits v e = formed (are_digits a b s) _ (sym (ap told e) ∙ (t ∙ digits_are a b s))

  pub no-digits : (m : Refusal) → n ≡ Err m → are_digits a b s ≡ false
  no-digits m e = unformed (are_digits a b s) _ (sym (ap told e) ∙ (t ∙ digits_are a b s))

  pub spelled_is : (v : ℕ) → n ≡ Ok v → spelled s ≡ v
  spelled_is v e = worth (are_digits a b s) _ (sym (ap told e) ∙ (t ∙ digits_are a b s))

  module _ (x : Ruling) (rs : List Rule) where
    pub digits-then : (v : ℕ) → n ≡ Ok v → x ≡ ruling (first_broken rs s) → x ≡ ruling (first_broken (rule 4 40 (are_digits a b) ∷ rs) s)
    digits-then v e h = first-kept x s (rule 4 40 (are_digits a b)) rs (are-digits v e) h

    pub digits-broke : (m : Refusal) → n ≡ Err m → x ≡ Err (broken 4 40 0 0) → x ≡ ruling (first_broken (rule 4 40 (are_digits a b) ∷ rs) s)
    digits-broke m e h = first-broke x s (rule 4 40 (are_digits a b)) rs (no-digits m e) h

  -- the kind, the bank: a test of the number that they spell
  module _ (x : Ruling) (sh : Sheet) (v : ℕ) (e : n ≡ Ok v) (k : Bool) where
    kind-is : k ≡ kind_allowed sh v → is_kind sh s ≡ k
    unfolding is_kind
    kind-is q = ap (kind_allowed sh) (spelled_is v e) ∙ sym q

    code_is : k ≡ bank_allowed sh v → is_code sh s ≡ k
    unfolding is_code
    code_is q = ap (bank_allowed sh) (spelled_is v e) ∙ sym q

    pub kind-kept : k ≡ kind_allowed sh v → k ≡ true → x ≡ Ok tt → x ≡ ruling (first_broken (within 7 70 1501 sh.lastkind (is_kind sh) ∷ []) s)
    kind-kept q y h = first-kept x s _ [] (kind-is q ∙ y) (all-kept x s h)

    pub kind-broke : k ≡ kind_allowed sh v → k ≡ false → x ≡ Err (broken 7 70 1501 sh.lastkind) → x ≡ ruling (first_broken (within 7 70 1501 sh.lastkind (is_kind sh) ∷ []) s)
    kind-broke q y h = first-broke x s (within 7 70 1501 sh.lastkind (is_kind sh)) [] (kind-is q ∙ y) h

    pub code-kept : k ≡ bank_allowed sh v → k ≡ true → x ≡ Ok tt → x ≡ ruling (first_broken (within 8 80 sh.bank sh.bank (is_code sh) ∷ []) s)
    code-kept q y h = first-kept x s _ [] (code_is q ∙ y) (all-kept x s h)

    pub code-broke : k ≡ bank_allowed sh v → k ≡ false → x ≡ Err (broken 8 80 sh.bank sh.bank) → x ≡ ruling (first_broken (within 8 80 sh.bank sh.bank (is_code sh) ∷ []) s)
    code-broke q y h = first-broke x s (within 8 80 sh.bank sh.bank (is_code sh)) [] (code_is q ∙ y) h

  -- the interval's end
  module _ (x : Ruling) (ordered : Bool) (start v : ℕ) (e : n ≡ Ok v) where
    end-tested : ordered ≡ true → is_after ordered start s ≡ leb start v
    unfolding is_after
    end-tested o = pick_true _ _ o ∙ ap (leb start) (spelled_is v e)

    pub end-free : ordered ≡ false → x ≡ Ok tt → x ≡ ruling (first_broken (within 9 90 start 999 (is_after ordered start) ∷ []) s)
    unfolding is_after
    end-free o h = first-kept x s _ [] (pick-false _ _ o) (all-kept x s h)

    pub end_kept : ordered ≡ true → start ≤ v → x ≡ Ok tt → x ≡ ruling (first_broken (within 9 90 start 999 (is_after ordered start) ∷ []) s)
    end_kept o l h = first-kept x s _ [] (end-tested o ∙ le-leb start v l) (all-kept x s h)

    pub end-broke : ordered ≡ true → v < start → x ≡ Err (broken 9 90 start 999)
        → x ≡ ruling (first_broken (within 9 90 start 999 (is_after ordered start) ∷ []) s)
    end-broke o l h = first-broke x s (within 9 90 start 999 (is_after ordered start)) [] (end-tested o ∙ lt-leb start v l) h

pub ruleset rulings = (is-broken, all-kept, digits-then, digits-broke)

pub ruleset kinds = (is-broken, kind-kept, kind-broke, digits-then, digits-broke)

pub ruleset codes = (is-broken, code-kept, code-broke, digits-then, digits-broke)

pub ruleset intervals = (is-broken, end-free, end_kept, end-broke, digits-then, digits-broke)

-- ---- the creation date

module _ (n : Result ℕ Refusal) (s : List ℕ) (t : told n ≡ digits 6 6 s) (x : Ruling) where
  pub date-broke : (m : Refusal) → n ≡ Err m → x ≡ Err (broken 4 40 0 0) → x ≡ ruling (first_broken day_rules s)
  unfolding is_day is_long pick
  date-broke m e h = first-broke x s (rule 4 40 (is_day false)) _ (no-digits n s 6 6 t m e) h

  module _ (v d : ℕ) (e : n ≡ Ok v) (f : d ≡ shortly v) (k : Bool) (q : k ≡ real_day d) where
    day-is : day_spelled false s ≡ d
    unfolding day_spelled is_long pick
    day-is = ap shortly (spelled_is n s 6 6 t v e) ∙ sym f

    pub date-kept : k ≡ true → x ≡ Ok tt → x ≡ ruling (first_broken day_rules s)
    unfolding is_day is_long is_real pick
    date-kept y h =
        first-kept x s (rule 4 40 (is_day false)) _ (are-digits n s 6 6 t v e)
        (first-kept x s (within 11 110 20000101 20991231 (is_real false)) [] (ap real_day day-is ∙ (sym q ∙ y)) (all-kept x s h))

    pub date-unreal : k ≡ false → x ≡ Err (broken 11 110 20000101 20991231) → x ≡ ruling (first_broken day_rules s)
    unfolding is_day is_long is_real pick
    date-unreal y h =
        first-kept x s (rule 4 40 (is_day false)) _ (are-digits n s 6 6 t v e)
        (first-broke x s (within 11 110 20000101 20991231 (is_real false)) [] (ap real_day day-is ∙ (sym q ∙ y)) h)

pub ruleset dates = (is-broken, date-broke, date-kept, date-unreal)

-- ---- texts of the first line

module _ (x : Ruling) (s : List ℕ) where
  module _ (n : ℕ) where
    pub name-size : (length s ≡ n → ⊥) → x ≡ Err (broken 4 40 0 0) → x ≡ ruling (first_broken (name_rules n) s)
    unfolding are_text
    name-size l h = first-broke x s (rule 4 40 (are_text n)) [] (pick-false _ _ (ne_eqb (length s) n l)) h

    pub name-kept : length s ≡ n → (k : Bool) → k ≡ all is_text (drop 0 s) → k ≡ true → x ≡ Ok tt → x ≡ ruling (first_broken (name_rules n) s)
    unfolding are_text
    name-kept l k q y h = first-kept x s (rule 4 40 (are_text n)) [] (pick_true _ _ (eq-eqb (length s) n l) ∙ (ap (all is_text) (sym (drop-none s)) ∙ (sym q ∙ y))) (all-kept x s h)

    pub name-broke : length s ≡ n → (k : Bool) → k ≡ all is_text (drop 0 s) → k ≡ false → x ≡ Err (broken 4 40 0 0) → x ≡ ruling (first_broken (name_rules n) s)
    unfolding are_text
    name-broke l k q y h = first-broke x s (rule 4 40 (are_text n)) [] (pick_true _ _ (eq-eqb (length s) n l) ∙ (ap (all is_text) (sym (drop-none s)) ∙ (sym q ∙ y))) h

  module _ (short : Bool) (j : Bool) (p : j ≡ rest_length short (length s)) where
    pub rest-size : j ≡ false → x ≡ Err (broken 4 40 0 0) → x ≡ ruling (first_broken (rest_rules short) s)
    unfolding is_rest
    rest-size l h = first-broke x s (rule 4 40 (is_rest short)) [] (pick-false _ _ (sym p ∙ l)) h

    pub rest-kept : j ≡ true → (k : Bool) → k ≡ all is_text (drop 0 s) → k ≡ true → x ≡ Ok tt → x ≡ ruling (first_broken (rest_rules short) s)
    unfolding is_rest
    rest-kept l k q y h = first-kept x s _ [] (pick_true _ _ (sym p ∙ l) ∙ (ap (all is_text) (sym (drop-none s)) ∙ (sym q ∙ y))) (all-kept x s h)

    pub rest-broke : j ≡ true → (k : Bool) → k ≡ all is_text (drop 0 s) → k ≡ false → x ≡ Err (broken 4 40 0 0) → x ≡ ruling (first_broken (rest_rules short) s)
    unfolding is_rest
    rest-broke l k q y h = first-broke x s (rule 4 40 (is_rest short)) [] (pick_true _ _ (sym p ∙ l) ∙ (ap (all is_text) (sym (drop-none s)) ∙ (sym q ∙ y))) h

pub ruleset names = (is-broken, name-size, name-kept, name-broke)

pub ruleset rests = (is-broken, rest-size, rest-kept, rest-broke)

-- ---- symbols

module _ (x : Ruling) (s : List ℕ) (none : Bool) where
  pub symbol-none : none ≡ true → length s ≡ 0 → x ≡ Ok tt → x ≡ ruling (first_broken (symbol_rules none) s)
  unfolding is_symbol
  symbol-none o l h = first-kept x s _ [] (pick_true _ _ (pick_true _ _ o ∙ (sym (empty-null s) ∙ eq-eqb (length s) 0 l))) (all-kept x s h)

  -- where it stands, or may not be missing, by its digits
  module _ (h : x ≡ ruling (first_broken (digit_rules 1 10) s)) where
    pub symbol-stands : none ≡ true → (length s ≡ 0 → ⊥) → x ≡ ruling (first_broken (symbol_rules none) s)
    unfolding is_symbol pick
    symbol-stands o f = h ∙ sym (same_test s 4 40 (is_symbol none) (are_digits 1 10) (rw (o, sym (empty-null s) ∙ ne_eqb (length s) 0 f)))

    pub symbol-must : none ≡ false → x ≡ ruling (first_broken (symbol_rules none) s)
    unfolding is_symbol pick
    symbol-must o = h ∙ sym (same_test s 4 40 (is_symbol none) (are_digits 1 10) (rw o))

pub ruleset symbols = (is-broken, symbol-none, symbol-stands, symbol-must)

-- ---- amounts

module _ (n : Result ℕ Refusal) (s : List ℕ) (may : Bool) (most : ℕ) (t : told n ≡ read_amount may most s) where
  is-amount : (v : ℕ) → n ≡ Ok v → is_amount may most s ≡ true
  is-amount v e = formed (is_amount may most s) _ (sym (ap told e) ∙ (t ∙ amount-is may most s))

  no-amount : (m : Refusal) → n ≡ Err m → is_amount may most s ≡ false
  no-amount m e = unformed (is_amount may most s) _ (sym (ap told e) ∙ (t ∙ amount-is may most s))

  amount-spelled : (v : ℕ) → n ≡ Ok v → amount_spelled may s ≡ v
  amount-spelled v e = worth (is_amount may most s) _ (sym (ap told e) ∙ (t ∙ amount-is may most s))

  module _ (x : Ruling) (rs : List Rule) where
    pub amount-then : (v : ℕ) → n ≡ Ok v → x ≡ ruling (first_broken rs s) → x ≡ ruling (first_broken (rule 4 40 (is_amount may most) ∷ rs) s)
    amount-then v e h = first-kept x s (rule 4 40 (is_amount may most)) rs (is-amount v e) h

    pub amount-broke : (m : Refusal) → n ≡ Err m → x ≡ Err (broken 4 40 0 0) → x ≡ ruling (first_broken (rule 4 40 (is_amount may most) ∷ rs) s)
    amount-broke m e h = first-broke x s (rule 4 40 (is_amount may most)) rs (no-amount m e) h

  module _ (x : Ruling) (max v : ℕ) (e : n ≡ Ok v) where
    some_is : is_some may s ≡ leb 1 v
    unfolding is_some
    some_is = ap (leb 1) (amount-spelled v e)

    low-is : is_low may max s ≡ leb v max
    unfolding is_low
    low-is = ap (λ (a : ℕ). leb a max) (amount-spelled v e)

    pub amount-zero : v < 1 → x ≡ Err (broken 6 60 1 max) → x ≡ ruling (first_broken (within 6 60 1 max (is_some may) ∷ within 6 61 1 max (is_low may max) ∷ []) s)
    amount-zero l h = first-broke x s (within 6 60 1 max (is_some may)) _ (some_is ∙ lt-leb 1 v l) h

    pub amount-over : 1 ≤ v → max < v → x ≡ Err (broken 6 61 1 max) → x ≡ ruling (first_broken (within 6 60 1 max (is_some may) ∷ within 6 61 1 max (is_low may max) ∷ []) s)
    amount-over l m h = first-kept x s (within 6 60 1 max (is_some may)) _ (some_is ∙ le-leb 1 v l) (first-broke x s (within 6 61 1 max (is_low may max)) [] (low-is ∙ lt-leb v max m) h)

    pub amount-kept : 1 ≤ v → v ≤ max → x ≡ Ok tt → x ≡ ruling (first_broken (within 6 60 1 max (is_some may) ∷ within 6 61 1 max (is_low may max) ∷ []) s)
    amount-kept l m h = first-kept x s (within 6 60 1 max (is_some may)) _ (some_is ∙ le-leb 1 v l) (first-kept x s (within 6 61 1 max (is_low may max)) [] (low-is ∙ le-leb v max m) (all-kept x s h))

pub ruleset totals = (is-broken, amount-then, amount-broke, all-kept)

pub ruleset amounts = (is-broken, amount-then, amount-broke, amount-zero, amount-over, amount-kept)
