-- What a line of each kind says, with the fields that were read for it; or why and where in the line it is refused. This is the one walk
-- through the readers of lines: what other crates say of lines follows from it, case by case. Assumes nothing.
use mathlib.Core.Path.{◌≡◌, refl, sym, ap, ◌∙◌}
use mathlib.Core.Bool.{Bool, true, false}
use mathlib.Core.List.{List, [], ◌∷◌, ◌++◌}
use Prim.Native.Nat.{ℕ, suc, ◌+◌, ◌≤◌}
use native.Mathlib.Omega.{arith}
use lib.Dec.{ltb}
use lib.ListN.{length, take, drop, length-take, length-drop}
use lib.Seq.{drop-drop, length-take-le}
use borrow.Author.Tests.{ltb-false}
use Rattle.base.specs.Pick.{pick}
use Rattle.base.specs.Seek.{seek}
use Rattle.base.proofs.Cases.{either}
use Rattle.base.proofs.Seek.{seek-le}
use Rattle.sheet.specs.declared.Sheet.{Sheet}
use Rattle.sheet.specs.declared.Style.{Style}
use Rattle.paper.specs.Read.{Field, value, fault}
use Rattle.paper.specs.Warnings.{Notice, past_day, low_priority, notices}
use Rattle.paper.specs.Bytes.{space, field_of, rest_of}
use Rattle.paper.specs.Numerals.{digits}
use Rattle.paper.specs.Days.{short_day, read_due, due_warnings}
use Rattle.paper.specs.Accounts.{Account, nobody, read_account, read_payer}
use Rattle.paper.specs.Amounts.{read_total, read_item_amount}
use Rattle.paper.specs.BankField.{Bank, read_due_bank}
use Rattle.paper.specs.Texts.{Noted, read_text}
use Rattle.paper.specs.Batch.{no_header}
use Rattle.paper.specs.Entries.{Entry, head, file, group, item, close_group, close_file, Places, total_at, Listed, said, plain, no, Kind, head_line, file_line, group_line, item_line, group_end, file_end, on_field, field, place, gap, line_end}
use Rattle.paper.specs.Terms.{day_here, bank_due}
use Rattle.paper.specs.FirstLine.{text_field, read_to, read_rest, read_first}
use Rattle.paper.specs.FileLine.{read_kind, read_number, read_code, read_file}
use Rattle.paper.specs.GroupLine.{total_and_date, read_group}
use Rattle.paper.specs.ItemLine.{no_texts, read_symbol, read_symbol_or_none, fixed_tail, after_symbol, open_tail, tail, places, item_of, from_payee, read_item}
use Rattle.paper.specs.ClosingLine.{plus_at, read_close}
use Rattle.paper.specs.Spells.{Context, number_test, read_as}
use Rattle.paper.proofs.Starts.{least}

-- ---- what is said

-- a field that was read as v, and one that was refused by n
abbrev pub Read : {A : Type 0} → (List ℕ → Field A) → A → Type 0
Read read v = (f : List ℕ) × (read f ≡ value v)

abbrev pub Refuses : {A : Type 0} → (List ℕ → Field A) → ℕ → Type 0
Refuses read n = (f : List ℕ) × (read f ≡ fault n)

-- what a line is asked besides: the refusal that an account file's number gets, whether a group's day is judged here, which payee banks may be
-- due, and whether the group is single
pub record Asked : Type 0 where
  pub number : ℕ → ℕ
  pub here : Bool
  pub due : ℕ → Bool
  pub single : Bool

abbrev pub asking : (ℕ → ℕ) → Bool → (ℕ → Bool) → Bool → Asked
asking number here due single = record { number = number; here = here; due = due; single = single }

-- nothing but the number
abbrev pub asking_number : (ℕ → ℕ) → Asked
asking_number number = asking number false (λ _. true) false

-- in its context
abbrev pub asked_in : Sheet → ℕ → Context → Asked
asked_in sh today c = asking (number_test sh c.numbers) (day_here sh c.kind) (bank_due sh today c.kind c.date) c.single

-- a line is refused by 4 for its form, or with the number of one of its fields
pub data Blamed (sh : Sheet) (today : ℕ) (a : Asked) : ℕ → Type 0 where
  form : Blamed sh today a 4
  by_digits : (few most : ℕ) {n : ℕ} → Refuses (digits few most) n → Blamed sh today a n
  by_day : {n : ℕ} → Refuses short_day n → Blamed sh today a n
  by_name : {n : ℕ} → Refuses text_field n → Blamed sh today a n
  by_to : (from : ℕ) {n : ℕ} → Refuses (read_to sh.interval from) n → Blamed sh today a n
  by_rest : {n : ℕ} → Refuses (read_rest sh.short) n → Blamed sh today a n
  by_kind : {n : ℕ} → Refuses (read_kind sh) n → Blamed sh today a n
  by_number : {n : ℕ} → Refuses (read_number a.number) n → Blamed sh today a n
  by_code : {n : ℕ} → Refuses (read_code sh) n → Blamed sh today a n
  by_payer : {n : ℕ} → Refuses (read_payer sh.emptypayer sh.zeropayer sh.joined sh.basemin) n → Blamed sh today a n
  by_total : {n : ℕ} → Refuses (read_total sh.comma) n → Blamed sh today a n
  by_due : {n : ℕ} → Refuses (read_due sh.longdate a.here sh.early sh.ahead today) n → Blamed sh today a n
  by_account : {n : ℕ} → Refuses (read_account sh.joined sh.basemin) n → Blamed sh today a n
  by_amount : {n : ℕ} → Refuses (read_item_amount sh.comma sh.itemdigits sh.itemmax) n → Blamed sh today a n
  by_bank : {n : ℕ} → Refuses (read_due_bank sh.priority a.due) n → Blamed sh today a n
  by_symbol : {n : ℕ} → Refuses read_symbol_or_none n → Blamed sh today a n
  by_text : (at : ℕ) {n : ℕ} → Refuses (read_text sh.text at) n → Blamed sh today a n

-- a payer where one stands, and nobody elsewhere
pub data Payer (read : List ℕ → Field Account) : Bool → Account → Type 0 where
  stands : {a : Account} → Read read a → Payer read true a
  lacks : Payer read false nobody

-- the tail's symbol, and its texts, at their place in the line w
pub data Symbol : ℕ → Type 0 where
  no_symbol : Symbol 0
  a_symbol : {v : ℕ} → Read read_symbol v → Symbol v
  or-none : {v : ℕ} → Read read_symbol_or_none v → Symbol v

pub data Text (y : Style) (w : List ℕ) : Noted → Type 0 where
  no-text : Text y w no_texts
  a_text : (at : ℕ) {t : Noted} → read_text y at (drop at w) ≡ value t → Text y w t

-- What the line w says where it is read as of a kind. A refusal's offset lies in the line, if that is as long as its kind asks for, and so
-- does that of a group's total.
pub data LineSays (sh : Sheet) (today : ℕ) (a : Asked) (w : List ℕ) : Kind → Listed → Type 0 where
  no-header : sh.header ≡ false → LineSays sh today a w head_line (plain (head no_header))
  a_header : {date client from to : ℕ} {name : List ℕ} → sh.header ≡ true → Read short_day date → (t : Read text_field name) → length t.0 ≡ 20
      → Read (digits 10 10) client → Read (digits 3 3) from → Read (read_to sh.interval from) to
      → LineSays sh today a w head_line (plain (head (record { date = date; name = name; client = client; from = from; to = to })))
  a-file : {kind number code : ℕ} (k : Read (read_kind sh) kind) (n : Read (read_number a.number) number) → Read (read_code sh) code
      → length k.0 + length n.0 ≤ length (drop 2 w) → LineSays sh today a w file_line (plain (file kind number))
  a-group : {named : Bool} {payer : Account} {total date at : ℕ} (spot : ℕ)
      → Payer (read_payer sh.emptypayer sh.zeropayer sh.joined sh.basemin) named payer → Read (read_total sh.comma) total
      → (d : Read (read_due sh.longdate a.here sh.early sh.ahead today) date) → suc (length d.0) ≤ length (drop 2 w) → (2 ≤ length w → at ≤ length w)
      → LineSays sh today a w group_line (said (group payer total date) (notices past_day spot (due_warnings a.here sh.warnpast today date)) (total_at at))
  an-item : {payer payee : Account} {amount variable specific : ℕ} {bank : Bank} {texts : Noted} (at : ℕ)
      → Payer (read_account sh.joined sh.basemin) a.single payer → Read (read_account sh.joined sh.basemin) payee
      → Read (read_item_amount sh.comma sh.itemdigits sh.itemmax) amount → Read read_symbol variable
      → (b : Read (read_due_bank sh.priority a.due) bank) → length b.0 ≤ length w → Symbol specific → Text sh.text w texts
      → LineSays sh today a w item_line
      (said (item (item_of payer payee amount variable specific bank texts)) (notices low_priority at bank.warnings ++ texts.warnings) (places texts))
  a_group_end : LineSays sh today a w group_end (plain close_group)
  a_file_end : LineSays sh today a w file_end (plain close_file)
  refused : {kind : Kind} {n off : ℕ} → Blamed sh today a n → (least kind ≤ length w → off ≤ length w) → LineSays sh today a w kind (no n off)

-- ---- fields from left to right

module _ (sh : Sheet) (today : ℕ) (a : Asked) (w : List ℕ) where
  abbrev Line : Kind → Listed → Type 0
  Line = LineSays sh today a w

  abbrev Why : ℕ → Type 0
  Why = Blamed sh today a

  module _ (kind : Kind) where
    -- an offset lies in the line, if that is long enough
    abbrev In : ℕ → Type 0
    In at = least kind ≤ length w → at ≤ length w

    -- s is left of the line from `at` on
    abbrev Left : ℕ → List ℕ → Type 0
    Left at s = (drop at w ≡ s) × In at

    left-on : (at : ℕ) (s : List ℕ) (n : ℕ) → n ≤ length s → Left at s → Left (at + n) (drop n s)
    left-on at s n h l = (sym (drop-drop n at w) ∙ ap (drop n) l.0, λ k. omega (arith, l.1 k, ap length l.0, length-drop at w))

    on : {A : Type 0} (at : ℕ) (x : Field A) {k : A → Listed} → In at → ((n : ℕ) → x ≡ fault n → Why n) → ((v : A) → x ≡ value v → Line kind (k v))
        → Line kind (on_field at x k)
    unfolding on_field
    on at (value v) l b h = h v refl
    on at (fault n) l b h = refused (b n refl) l

    fields : {A : Type 0} (read : List ℕ → Field A) (at : ℕ) (s : List ℕ) {k : A → ℕ → List ℕ → Listed} → Left at s → ((n : ℕ) → Refuses read n → Why n)
        → ((v : A) (a : ℕ) (r : List ℕ) (f : Read read v) → length f.0 + length r ≡ length s → Left a r → Line kind (k v a r)) → Line kind (field read at s k)
    unfolding field
    fields read at s l b h =
        on at (read (field_of s)) l.1 (λ n e. b n (field_of s, e))
        λ v e. h v (at + seek space s) (rest_of s) (field_of s, e) (omega (arith, length-take (seek space s) s, length-drop (seek space s) s))
        (left-on at s (seek space s) (seek-le space s) l)

    spots : {A : Type 0} (n : ℕ) (read : List ℕ → Field A) (at : ℕ) (s : List ℕ) {k : A → ℕ → List ℕ → Listed} → Left at s → ((m : ℕ) → Refuses read m → Why m)
        → ((v : A) (a : ℕ) (r : List ℕ) (f : Read read v) → length f.0 ≡ n → Left a r → Line kind (k v a r)) → Line kind (place n read at s k)
    unfolding place
    spots n read at s l b h =
        either (Line kind) (ltb (length s) n) (λ _. refused form l.1)
        λ t. let long = ltb-false (length s) n t in
        on at (read (take n s)) l.1 (λ m e. b m (take n s, e))
        λ v e. h v (at + n) (drop n s) (take n s, e) (length-take-le n s long) (left-on at s n long l)

    gaps : (at : ℕ) (s : List ℕ) {k : ℕ → List ℕ → Listed} → Left at s → ((a : ℕ) (r : List ℕ) → length s ≡ suc (length r) → Left a r → Line kind (k a r)) → Line kind (gap at s k)
    unfolding gap
    gaps at [] l h = refused form l.1
    gaps at (x ∷ s) l h = h (at + 1) s refl (left-on at (x ∷ s) 1 (omega arith) l)

    ends : (at : ℕ) (s : List ℕ) {r : Listed} → Left at s → Line kind r → Line kind (line_end at s r)
    unfolding line_end
    ends at [] l h = h
    ends at (x ∷ s) l h = refused form l.1

    plus : (e : Entry) → Line kind (plain e) → (at : ℕ) (s : List ℕ) → Left at s → Line kind (plus_at e at s)
    unfolding plus_at
    plus e h at [] l = refused form l.1
    plus e h at (x ∷ s) l = either (Line kind) _ (λ _. ends (at + 1) s (left-on at (x ∷ s) 1 (omega arith) l) h) (λ _. refused form l.1)

    closes : (near : Bool) (e : Entry) → In 2 → Line kind (plain e) → Line kind (read_close near e w)
    unfolding read_close
    closes near e long h =
        either (Line kind) _ (λ _. plus e h 2 (drop 2 w) (refl, long))
        (λ _. either (Line kind) near (λ _. plus e h 1 (drop 1 w) (refl, λ k. omega (arith, long k))) (λ _. refused form (λ k. omega (arith, long k))))

  -- ---- the readers

  pub first_says : Line head_line (read_first sh w)
  unfolding read_first
  first_says =
      either (Line head_line) sh.header
      (λ yes.
      spots head_line 6 short_day 4 (drop 4 w) (refl, λ k. k) (λ n. by_day) λ date a1 s1 f1 _ l1.
      spots head_line 20 text_field a1 s1 l1 (λ n. by_name) λ name a2 s2 f2 long l2.
      spots head_line 10 (digits 10 10) a2 s2 l2 (λ n. by_digits 10 10) λ client a3 s3 f3 _ l3.
      spots head_line 3 (digits 3 3) a3 s3 l3 (λ n. by_digits 3 3) λ from a4 s4 f4 _ l4.
      spots head_line 3 (read_to sh.interval from) a4 s4 l4 (λ n. by_to from) λ to a5 s5 f5 _ l5.
      on head_line a5 (read_rest sh.short s5) l5.1 (λ n e. by_rest (s5, e)) λ rest _.
      a_header yes f1 f2 long f3 f4 f5)
      no-header

  pub file-says : Line file_line (read_file sh a.number w)
  unfolding read_file
  file-says =
      fields file_line (read_kind sh) 2 (drop 2 w) (refl, λ k. k) (λ n. by_kind) λ kind a1 s1 f1 n1 l1.
      gaps file_line a1 s1 l1 λ a2 s2 n2 l2.
      fields file_line (read_number a.number) a2 s2 l2 (λ n. by_number) λ number a3 s3 f3 n3 l3.
      gaps file_line a3 s3 l3 λ a4 s4 n4 l4.
      fields file_line (read_code sh) a4 s4 l4 (λ n. by_code) λ code a5 s5 f5 n5 l5.
      ends file_line a5 s5 l5 (a-file f1 f3 f5 (omega arith))

  total-says : {named : Bool} {payer : Account} → Payer (read_payer sh.emptypayer sh.zeropayer sh.joined sh.basemin) named payer
      → (at : ℕ) (s : List ℕ) → Left group_line at s → length s ≤ length (drop 2 w) → Line group_line (total_and_date sh today a.here payer at s)
  unfolding total_and_date
  total-says p at s l few =
      fields group_line (read_total sh.comma) at s l (λ n. by_total) λ total a1 s1 f1 n1 l1.
      gaps group_line a1 s1 l1 λ a2 s2 n2 l2.
      fields group_line (read_due sh.longdate a.here sh.early sh.ahead today) a2 s2 l2 (λ n. by_due) λ date a3 s3 f3 n3 l3.
      ends group_line a3 s3 l3 (a-group a2 p f1 f3 (omega arith) l.1)

  pub group-says : Line group_line (read_group sh today a.here w)
  unfolding read_group
  group-says =
      either (Line group_line) _
      (λ _.
      fields group_line (read_payer sh.emptypayer sh.zeropayer sh.joined sh.basemin) 2 (drop 2 w) (refl, λ k. k) (λ n. by_payer) λ payer a1 s1 f1 n1 l1.
      gaps group_line a1 s1 l1 λ a2 s2 n2 l2.
      total-says (stands f1) a2 s2 l2 (omega arith))
      (λ _. total-says lacks 2 (drop 2 w) (refl, λ k. k) (omega arith))

  -- the tail of an item, whose reading k goes on with
  module _ {k : ℕ → Noted → Listed} (h : (n : ℕ) (t : Noted) → Symbol n → Text sh.text w t → Line item_line (k n t)) where
    text_says : (specific : ℕ) → Symbol specific → (at : ℕ) (s : List ℕ) → Left item_line at s → Line item_line (on_field at (read_text sh.text at s) (k specific))
    text_says specific q at s l =
        on item_line at (read_text sh.text at s) l.1 (λ n e. by_text at (s, e)) λ t e. h specific t q (a_text at (rw l.0 e))

    fixed-says : (at : ℕ) (s : List ℕ) → Left item_line at s → Line item_line (fixed_tail sh.text k at s)
    unfolding fixed_tail
    fixed-says at s l =
        gaps item_line at s l λ a1 s1 n1 l1.
        fields item_line read_symbol_or_none a1 s1 l1 (λ n. by_symbol) λ specific a2 s2 f n2 l2.
        gaps item_line a2 s2 l2 λ a3 s3 n3 l3.
        text_says specific (or-none f) a3 s3 l3

    behind : (x at : ℕ) (s : List ℕ) → Left item_line at (x ∷ s) → Left item_line (at + 1) s
    behind x at s l = left-on item_line at (x ∷ s) 1 (omega arith) l

    after-says : (specific : ℕ) → Symbol specific → (at : ℕ) (s : List ℕ) → Left item_line at s → Line item_line (after_symbol sh.text k specific at s)
    unfolding after_symbol
    after-says specific q at [] l = h specific no_texts q no-text
    after-says specific q at (x ∷ s) l = text_says specific q (at + 1) s (behind x at s l)

    open-says : (bare : Bool) (at : ℕ) (s : List ℕ) → Left item_line at s → Line item_line (open_tail sh.text k bare at s)
    unfolding open_tail
    open-says bare at [] l = h 0 no_texts no_symbol no-text
    open-says bare at (x ∷ s) l =
        either (Line item_line) _ (λ _. text_says 0 no_symbol (at + 1) s (behind x at s l))
        (λ _. fields item_line read_symbol (at + 1) s (behind x at s l) (λ n. by_digits 1 10) λ specific a1 s1 f n1 l1. after-says specific (a_symbol f) a1 s1 l1)

  tail-says : (at : ℕ) (s : List ℕ) {k : ℕ → Noted → Listed} → Left item_line at s
      → ((n : ℕ) (t : Noted) → Symbol n → Text sh.text w t → Line item_line (k n t)) → Line item_line (tail sh at s k)
  unfolding tail
  tail-says at s l h = either (Line item_line) sh.fixedtail (λ _. fixed-says h at s l) (λ _. open-says h sh.bare at s l)

  payee-says : {payer : Account} → Payer (read_account sh.joined sh.basemin) a.single payer → (at : ℕ) (s : List ℕ) → Left item_line at s
      → Line item_line (from_payee sh a.due payer at s)
  unfolding from_payee
  payee-says p at s l =
      fields item_line (read_account sh.joined sh.basemin) at s l (λ n. by_account) λ payee a1 s1 f1 n1 l1.
      gaps item_line a1 s1 l1 λ a2 s2 n2 l2.
      fields item_line (read_item_amount sh.comma sh.itemdigits sh.itemmax) a2 s2 l2 (λ n. by_amount) λ amount a3 s3 f3 n3 l3.
      gaps item_line a3 s3 l3 λ a4 s4 n4 l4.
      fields item_line read_symbol a4 s4 l4 (λ n. by_digits 1 10) λ variable a5 s5 f5 n5 l5.
      gaps item_line a5 s5 l5 λ a6 s6 n6 l6.
      fields item_line (read_due_bank sh.priority a.due) a6 s6 l6 (λ n. by_bank) λ bank a7 s7 f7 n7 l7.
      tail-says a7 s7 l7 λ specific texts q t.
      an-item a6 p f1 f3 f5 f7 (omega (arith, ap length l6.0, length-drop a6 w)) q t

  pub group-end-says : Line group_end (read_close sh.near close_group w)
  group-end-says = closes group_end sh.near close_group (λ k. k) a_group_end

  pub file-end-says : Line file_end (read_close sh.near close_file w)
  file-end-says = closes file_end sh.near close_file (λ k. k) a_file_end

-- the payer's account comes first where the group is single
module _ (sh : Sheet) (today : ℕ) (test : ℕ → ℕ) (here : Bool) (due : ℕ → Bool) where
  pub item-says : (single : Bool) (w : List ℕ) → LineSays sh today (asking test here due single) w item_line (read_item sh due single w)
  unfolding read_item pick
  item-says true w =
      let a = asking test here due true in
      fields sh today a w item_line (read_account sh.joined sh.basemin) 0 w (refl, λ _. omega arith) (λ n. by_account) λ payer a1 s1 f1 n1 l1.
      gaps sh today a w item_line a1 s1 l1 λ a2 s2 n2 l2.
      payee-says sh today a w (stands f1) a2 s2 l2
  item-says false w = payee-says sh today (asking test here due false) w lacks 0 w (refl, λ _. omega arith)

-- a line that is read as of a kind
pub says : (sh : Sheet) (today : ℕ) (c : Context) (kind : Kind) (w : List ℕ) → LineSays sh today (asked_in sh today c) w kind (read_as sh today c kind w)
unfolding read_as
says sh today c head_line w = first_says sh today _ w
says sh today c file_line w = file-says sh today _ w
says sh today c group_line w = group-says sh today _ w
says sh today c item_line w = item-says sh today _ _ _ _ w
says sh today c group_end w = group-end-says sh today _ w
says sh today c file_end w = file-end-says sh today _ w

-- ---- a refusal's offset lies in its line, and so does that of a group's total

module _ {sh : Sheet} {today : ℕ} {a : Asked} {w : List ℕ} where
  pub refusal-in : {kind : Kind} {n off : ℕ} → LineSays sh today a w kind (no n off) → least kind ≤ length w → off ≤ length w
  refusal-in (refused _ l) h = l h

  pub total-in : {kind : Kind} {p : Account} {t d : ℕ} {v : List Notice} {q : Places} → LineSays sh today a w kind (said (group p t d) v q) → 2 ≤ length w → q.total ≤ length w
  total-in (a-group _ _ _ _ _ l) h = l h
