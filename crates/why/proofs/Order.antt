-- A line's warnings stand from left to right: those of a text, of a group's line and of an item's. Assumes nothing.
use mathlib.Core.Path.{◌≡◌, refl}
use mathlib.Core.Bool.{Bool}
use mathlib.Core.List.{List, [], ◌∷◌, ◌++◌}
use Prim.Native.Nat.{ℕ, zero, suc, ◌+◌, ◌≤◌}
use native.Mathlib.Omega.{arith}
use lib.Dec.{eqb, ltb}
use lib.ListN.{length, take, drop, length-take, length-drop}
use borrow.Author.Tests.{ltb-true}
use Rattle.base.specs.Seek.{seek, before}
use Rattle.base.proofs.Cases.{either}
use Rattle.base.proofs.Seek.{starts-long, seek-le}
use Rattle.sheet.specs.declared.Sheet.{Sheet}
use Rattle.sheet.specs.declared.Style.{Style}
use Rattle.paper.specs.Read.{Field, value, fault}
use Rattle.paper.specs.Warnings.{Warning, past_day, low_priority, long_part, long_name, Notice, notices}
use Rattle.paper.specs.Days.{read_due, due_warnings}
use Rattle.paper.specs.Amounts.{read_total, read_item_amount}
use Rattle.paper.specs.BankField.{read_due_bank}
use Rattle.paper.specs.Bytes.{space, field_of, rest_of, bar, av}
use Rattle.paper.specs.Accounts.{Account, nobody, read_account, read_payer}
use Rattle.paper.specs.Texts.{Piece, piece, Noted, others, divide, over, overs, cuts, finish, fitted, message_end, message, marked, read_text}
use Rattle.paper.specs.Terms.{day_here, bank_due}
use Rattle.paper.specs.Entries.{Entry, Saying, plain, Listed, got, no, on_field, field, gap, line_end, Kind, head_line, file_line, group_line, item_line, group_end, file_end, kind_of}
use Rattle.paper.specs.GroupLine.{total_and_date, read_group}
use Rattle.paper.specs.ItemLine.{no_texts, read_symbol, read_symbol_or_none, fixed_tail, after_symbol, open_tail, tail, from_payee, read_item}
use Rattle.paper.specs.Spells.{Context, read_as}
use Rattle.paper.proofs.Starts.{least, kind-long}
use Rattle.paper.proofs.LineSays.{Asked, LineSays, no-header, a_header, a-file, a_group_end, a_file_end, refused, says}

-- notices from `lo` to `hi`, from left to right
pub data Ascends (hi : ℕ) : ℕ → List Notice → Type 0 where
  none : {lo : ℕ} → lo ≤ hi → Ascends hi lo []
  more : {lo : ℕ} {n : Notice} {ns : List Notice} → lo ≤ n.offset → Ascends hi n.offset ns → Ascends hi lo (n ∷ ns)

-- ---- laws of it

ascends-from : {hi lo : ℕ} {ns : List Notice} (l : ℕ) → l ≤ lo → Ascends hi lo ns → Ascends hi l ns
ascends-from l h (none k) = none {lo = l} (omega arith)
ascends-from l h (more {n = n} k a) = more {lo = l} {n = n} (omega arith) a

ascends-to : {hi lo : ℕ} {ns : List Notice} (h : ℕ) → hi ≤ h → Ascends hi lo ns → Ascends h lo ns
ascends-to h l (none {lo = lo} k) = none {lo = lo} (omega arith)
ascends-to h l (more k a) = more k (ascends-to h l a)

ascends-on : {mid hi lo : ℕ} {a b : List Notice} → Ascends mid lo a → Ascends hi mid b → Ascends hi lo (a ++ b)
ascends-on {lo = lo} (none k) b = ascends-from lo k b
ascends-on (more k a) b = more k (ascends-on a b)

-- a field's warnings, however many, at its place
at_place : (w : Warning) (hi lo at n : ℕ) → lo ≤ at → at ≤ hi → Ascends hi lo (notices w at n)
unfolding notices
at_place w hi lo at zero h l = none {lo = lo} (omega arith)
at_place w hi lo at (suc n) h l = more h (at_place w hi at at n (omega arith) l)

-- ---- texts

-- a piece that is cut begins at its place
over-place : (w : Warning) (lo : ℕ) (p : Piece) → lo ≤ p.place → Ascends p.place lo (over w p)
unfolding over
over-place w lo p l =
    either (Ascends p.place lo) (ltb 35 (length p.bytes)) (λ _. more l (none {lo = p.place} (omega arith))) (λ _. none l)

-- a name, which may begin behind the line's end, has bytes if it is cut
over-inside : (w : Warning) (hi lo : ℕ) (p : Piece) → lo ≤ hi → lo ≤ p.place → (1 ≤ length p.bytes → p.place ≤ hi) → Ascends hi lo (over w p)
unfolding over
over-inside w hi lo p h l r =
    either (Ascends hi lo) (ltb 35 (length p.bytes))
    (λ e. let m = ltb-true 35 (length p.bytes) e in more l (none {lo = p.place} (r (omega arith))))
    (λ _. none h)

others-ascend : (at : ℕ) (s : List ℕ) → Ascends (at + length s) at (overs (others at s))
unfolding others overs
others-ascend at [] = none {lo = at} (omega arith)
others-ascend at (x ∷ s) =
    let e : at + 1 + length s ≡ at + length (x ∷ s) = omega arith in
    either (λ (ps : List Piece). Ascends (at + length (x ∷ s)) at (overs ps)) (eqb x 124)
    (λ _. ascends-on (over-place long_part at (piece (at + 1) (before bar s)) (omega arith)) (rw e at (others-ascend (at + 1) s)))
    (λ _. ascends-from at (omega arith) (rw e at (others-ascend (at + 1) s)))

divide-ascend : (at : ℕ) (s : List ℕ) → Ascends (at + length s) at (overs (divide at s))
unfolding overs
divide-ascend at s = ascends-on (over-place long_part at (piece at (before bar s)) (omega arith)) (others-ascend at s)

-- a text that is read warns between these offsets, from left to right
pub data Warns (hi lo : ℕ) : Field Noted → Type 0 where
  warns : {x : Noted} → Ascends hi lo x.warnings → Warns hi lo (value x)
  refuses : {n : ℕ} → Warns hi lo (fault n)

wider : {hi lo : ℕ} {x : Field Noted} (h l : ℕ) → hi ≤ h → l ≤ lo → Warns hi lo x → Warns h l x
wider h l i j (warns a) = warns (ascends-to h i (ascends-from l j a))
wider h l i j refuses = refuses

warned : {hi lo : ℕ} {x : Noted} → Warns hi lo (value x) → Ascends hi lo x.warnings
warned (warns a) = a

module _ (y : Style) where
  finish-warns : {hi lo : ℕ} (ps : List Piece) (n : Piece) → Ascends hi lo (cuts ps n) → Warns hi lo (finish y ps n)
  unfolding finish fitted
  finish-warns {hi} {lo} ps n a =
      either (Warns hi lo) _ (λ _. either (Warns hi lo) _ (λ _. refuses) (λ _. either (Warns hi lo) _ (λ _. warns a) (λ _. refuses))) (λ _. refuses)

  message-warns : (at : ℕ) (m : List ℕ) → Warns (at + length m) at (message y at m)
  unfolding message
  message-warns at m =
      let parts = divide-ascend at (take (message_end y m) m) in
      let n = length-take (message_end y m) m in
      finish-warns _ _
      (ascends-on (ascends-to (at + length (take (message_end y m) m)) (omega arith) parts)
      (over-inside long_name (at + length m) (at + length (take (message_end y m) m)) (piece (at + (message_end y m + 4)) (drop (message_end y m + 4) m))
      (omega arith) (omega arith) (λ h. omega (arith, h, length-drop (message_end y m + 4) m))))

  marked-warns : (at : ℕ) (t : List ℕ) → Warns (at + length t) at (marked y at t)
  unfolding marked overs
  marked-warns at t =
      either (Warns (at + length t) at) _
      (λ _. finish-warns _ _
      (ascends-on {mid = at} (ascends-on {mid = at} (over-place long_part at (piece at []) (omega arith)) (none {lo = at} (omega arith)))
      (over-inside long_name (at + length t) at (piece (at + 3) (drop 3 t)) (omega arith) (omega arith) (λ h. omega (arith, h, length-drop 3 t)))))
      (λ _. either (Warns (at + length t) at) _
      (λ e. wider (at + length t) at (omega (arith, starts-long av t e, length-drop 3 t)) (omega arith) (message-warns (at + 3) (drop 3 t)))
      (λ _. either (Warns (at + length t) at) _ (λ _. message-warns at t) (λ _. refuses)))

  pub text-warns : (at : ℕ) (t : List ℕ) → Warns (at + length t) at (read_text y at t)
  unfolding read_text
  text-warns at t =
      either (Warns (at + length t) at) _
      (λ _. either (Warns (at + length t) at) _ (λ _. either (Warns (at + length t) at) _ (λ _. marked-warns at t) (λ _. refuses)) (λ _. message-warns at t))
      (λ _. refuses)

-- ---- lines

-- what a line w says warns from its total on, if it has one, to its end, from left to right
pub data Placed (w : List ℕ) : Listed → Type 0 where
  placed : {x : Saying (List Notice)} → Ascends (length w) x.places.total x.warnings → Placed w (got x)
  unread : {n off : ℕ} → Placed w (no n off)

module _ (w : List ℕ) where
  on : {X : Type 0} (at : ℕ) (x : Field X) {k : X → Listed} → ((v : X) → x ≡ value v → Placed w (k v)) → Placed w (on_field at x k)
  unfolding on_field
  on at (value v) h = h v refl
  on at (fault n) h = unread

  fields : {X : Type 0} (read : List ℕ → Field X) (at : ℕ) (s : List ℕ) {k : X → ℕ → List ℕ → Listed} → at + length s ≡ length w
      → ((v : X) (a : ℕ) (r : List ℕ) → at ≤ a → a + length r ≡ length w → Placed w (k v a r)) → Placed w (field read at s k)
  unfolding field
  fields read at s l h =
      on at (read (field_of s)) λ v _. h v (at + seek space s) (rest_of s) (omega arith) (omega (arith, l, length-drop (seek space s) s, seek-le space s))

  gaps : (at : ℕ) (s : List ℕ) {k : ℕ → List ℕ → Listed} → at + length s ≡ length w → ((a : ℕ) (r : List ℕ) → at ≤ a → a + length r ≡ length w → Placed w (k a r))
      → Placed w (gap at s k)
  unfolding gap
  gaps at [] l h = unread
  gaps at (x ∷ s) l h = h (at + 1) s (omega arith) (omega arith)

  ends : (at : ℕ) (s : List ℕ) {r : Listed} → Placed w r → Placed w (line_end at s r)
  unfolding line_end
  ends at [] h = h
  ends at (x ∷ s) h = unread

  module _ (sh : Sheet) (today : ℕ) where
    total-placed : (here : Bool) (payer : Account) (at : ℕ) (s : List ℕ) → at + length s ≡ length w → Placed w (total_and_date sh today here payer at s)
    unfolding total_and_date
    total-placed here payer at s l =
        fields (read_total sh.comma) at s l λ total a1 s1 n1 l1.
        gaps a1 s1 l1 λ a2 s2 n2 l2.
        fields (read_due sh.longdate here sh.early sh.ahead today) a2 s2 l2 λ date a3 s3 n3 l3.
        ends a3 s3 (placed (at_place past_day (length w) at a2 (due_warnings here sh.warnpast today date) (omega arith) (omega arith)))

    pub group-placed : (here : Bool) → 2 ≤ length w → Placed w (read_group sh today here w)
    unfolding read_group
    group-placed here long =
        let l : 2 + length (drop 2 w) ≡ length w = omega (arith, length-drop 2 w) in
        either (Placed w) _
        (λ _. fields (read_payer sh.emptypayer sh.zeropayer sh.joined sh.basemin) 2 (drop 2 w) l λ payer a1 s1 n1 l1.
        gaps a1 s1 l1 λ a2 s2 n2 l2.
        total-placed here payer a2 s2 l2)
        (λ _. total-placed here nobody 2 (drop 2 w) l)

    -- the tail of an item, whose reading k goes on with
    module _ {k : ℕ → Noted → Listed} (from : ℕ) (h : (n : ℕ) (t : Noted) → Ascends (length w) from t.warnings → Placed w (k n t)) where
      text-placed : (specific at : ℕ) (s : List ℕ) → from ≤ at → at + length s ≡ length w → Placed w (on_field at (read_text sh.text at s) (k specific))
      text-placed specific at s n l =
          on at (read_text sh.text at s) λ t e. h specific t (ascends-from from n (rw l at (warned (rw e at (text-warns sh.text at s)))))

      none-placed : (specific : ℕ) → from ≤ length w → Placed w (k specific no_texts)
      none-placed specific n = h specific no_texts (none n)

      fixed-placed : (at : ℕ) (s : List ℕ) → from ≤ at → at + length s ≡ length w → Placed w (fixed_tail sh.text k at s)
      unfolding fixed_tail
      fixed-placed at s n l =
          gaps at s l λ a1 s1 n1 l1.
          fields read_symbol_or_none a1 s1 l1 λ specific a2 s2 n2 l2.
          gaps a2 s2 l2 λ a3 s3 n3 l3.
          text-placed specific a3 s3 (omega arith) l3

      after-placed : (specific at : ℕ) (s : List ℕ) → from ≤ at → at + length s ≡ length w → Placed w (after_symbol sh.text k specific at s)
      unfolding after_symbol
      after-placed specific at [] n l = none-placed specific (omega arith)
      after-placed specific at (x ∷ s) n l = text-placed specific (at + 1) s (omega arith) (omega arith)

      open-placed : (at : ℕ) (s : List ℕ) → from ≤ at → at + length s ≡ length w → Placed w (open_tail sh.text k sh.bare at s)
      unfolding open_tail
      open-placed at [] n l = none-placed 0 (omega arith)
      open-placed at (x ∷ s) n l =
          let m : at + 1 + length s ≡ length w = omega arith in
          either (Placed w) _ (λ _. text-placed 0 (at + 1) s (omega arith) m)
          (λ _. fields read_symbol (at + 1) s m λ specific a1 s1 n1 l1. after-placed specific a1 s1 (omega arith) l1)

    payee-placed : (due : ℕ → Bool) (payer : Account) (at : ℕ) (s : List ℕ) → at + length s ≡ length w → Placed w (from_payee sh due payer at s)
    unfolding from_payee tail
    payee-placed due payer at s l =
        fields (read_account sh.joined sh.basemin) at s l λ payee a1 s1 n1 l1.
        gaps a1 s1 l1 λ a2 s2 n2 l2.
        fields (read_item_amount sh.comma sh.itemdigits sh.itemmax) a2 s2 l2 λ amount a3 s3 n3 l3.
        gaps a3 s3 l3 λ a4 s4 n4 l4.
        fields read_symbol a4 s4 l4 λ variable a5 s5 n5 l5.
        gaps a5 s5 l5 λ a6 s6 n6 l6.
        fields (read_due_bank sh.priority due) a6 s6 l6 λ bank a7 s7 n7 l7.
        either (Placed w) sh.fixedtail
        (λ _. fixed-placed a7 (λ _ _ a. placed (ascends-on (at_place low_priority a7 0 a6 bank.warnings (omega arith) n7) a)) a7 s7 (omega arith) l7)
        (λ _. open-placed a7 (λ _ _ a. placed (ascends-on (at_place low_priority a7 0 a6 bank.warnings (omega arith) n7) a)) a7 s7 (omega arith) l7)

    pub item-placed : (due : ℕ → Bool) (single : Bool) → Placed w (read_item sh due single w)
    unfolding read_item
    item-placed due single =
        either (Placed w) single
        (λ _. fields (read_account sh.joined sh.basemin) 0 w (omega arith) λ payer a1 s1 n1 l1.
        gaps a1 s1 l1 λ a2 s2 n2 l2.
        payee-placed due payer a2 s2 l2)
        (λ _. payee-placed due nobody 0 w (omega arith))

    -- the other lines warn of nothing
    plainly : (e : Entry) → Placed w (plain e)
    plainly e = placed (none {lo = 0} (omega arith))

    first-placed : {a : Asked} {r : Listed} → LineSays sh today a w head_line r → Placed w r
    first-placed (no-header _) = plainly _
    first-placed (a_header _ _ _ _ _ _ _) = plainly _
    first-placed (refused _ _) = unread

    file-placed : {a : Asked} {r : Listed} → LineSays sh today a w file_line r → Placed w r
    file-placed (a-file _ _ _ _) = plainly _
    file-placed (refused _ _) = unread

    group-end-placed : {a : Asked} {r : Listed} → LineSays sh today a w group_end r → Placed w r
    group-end-placed a_group_end = plainly _
    group-end-placed (refused _ _) = unread

    file-end-placed : {a : Asked} {r : Listed} → LineSays sh today a w file_end r → Placed w r
    file-end-placed a_file_end = plainly _
    file-end-placed (refused _ _) = unread

    as-placed : (c : Context) (kind : Kind) → least kind ≤ length w → Placed w (read_as sh today c kind w)
    unfolding read_as
    as-placed c head_line l = first-placed (says sh today c head_line w)
    as-placed c file_line l = file-placed (says sh today c file_line w)
    as-placed c group_line l = group-placed (day_here sh c.kind) l
    as-placed c item_line l = item-placed (bank_due sh today c.kind c.date) c.single
    as-placed c group_end l = group-end-placed (says sh today c group_end w)
    as-placed c file_end l = file-end-placed (says sh today c file_end w)

    pub line-placed : (c : Context) → Placed w (read_as sh today c (kind_of w) w)
    line-placed c = as-placed c (kind_of w) (kind-long w (kind_of w) refl)
