-- No canonical line holds a CR or an LF. Assumes nothing.
use mathlib.Core.Path.{◌≡◌, refl}
use mathlib.Core.Bool.{Bool, true}
use mathlib.Core.List.{List, [], ◌∷◌, ◌++◌}
use Prim.Native.Nat.{ℕ}
use native.Mathlib.Omega.{arith}
use lib.Dec.{eqb}
use Rattle.base.specs.Pick.{pick}
use Rattle.base.specs.Seek.{all}
use Rattle.base.proofs.Cases.{either}
use Rattle.base.proofs.Seek.{all_cons, all_append, all_weaker}
use Rattle.sheet.specs.declared.Sheet.{Sheet}
use Rattle.sheet.proofs.Laws.{Sane}
use Rattle.paper.specs.Bytes.{bytes}
use Rattle.paper.specs.Numerals.{decimal, fixed}
use Rattle.paper.specs.Days.{spell_day}
use Rattle.paper.specs.Accounts.{Account, is_nobody, spell_account}
use Rattle.paper.specs.Texts.{spell_text, no_text}
use Rattle.paper.specs.Batch.{Item, Header}
use Rattle.paper.specs.Proper.{fine, header_proper}
use Rattle.paper.specs.FirstLine.{spell_first}
use Rattle.paper.specs.FileLine.{spell_file}
use Rattle.paper.specs.GroupLine.{spell_payer, spell_group}
use Rattle.paper.specs.ItemLine.{spell_tail, spell_item}
use Rattle.paper.proofs.Verdicts.{headed}
use Rattle.numeral.proofs.Plain.{fixed_plain, decimal-plain}
use Rattle.calendar.proofs.Back.{spell-day-plain}
use Rattle.account.specs.Bytes.{is_account_byte}
use Rattle.account.proofs.Plain.{spell-account-plain}
use Rattle.bank.proofs.Back.{spell-bank-plain}
use Rattle.text.specs.wording.Wording.{Sendable}
use Rattle.text.proofs.wording.Laws.{spell-text-plain}
use Rattle.scan.specs.line.Cutting.{is_plain}
use Rattle.scan.proofs.line.Plain.{high-plain, texts-plain, digits-plain}
use Rattle.roundtrip.specs.linesound.Fits.{ItemFits}
use Rattle.roundtrip.proofs.lineback.Starts.{account-range}

abbrev Plain : List ℕ → Type 0
Plain s = all is_plain s ≡ true

-- ---- pieces

nil-plain : Plain []
unfolding all
nil-plain = refl

space-plain : (s : List ℕ) → Plain s → Plain (32 ∷ s)
space-plain s h = all_cons is_plain 32 s (high-plain 32 (omega arith)) h

-- a piece, and what follows it
both-plain : (s t : List ℕ) → Plain s → Plain t → Plain (s ++ t)
both-plain = all_append is_plain

fixed-is : (k n : ℕ) → Plain (fixed k n)
fixed-is k n = digits-plain (fixed k n) (fixed_plain k n)

decimal-is : (n : ℕ) → Plain (decimal n)
decimal-is n = digits-plain (decimal n) (decimal-plain n)

day-is : (d : ℕ) → Plain (spell_day d)
day-is d = digits-plain (spell_day d) (spell-day-plain d)

account-is : (a : Account) → Plain (spell_account a)
account-is a =
    all_weaker is_account_byte is_plain (λ b h. high-plain b (omega (arith, (account-range b h).0))) (spell_account a) (spell-account-plain a)

-- an account and a space, or nothing
payer-is : (a : Account) → Plain (spell_account a ++ (32 ∷ []))
payer-is a = both-plain (spell_account a) (32 ∷ []) (account-is a) (space-plain [] nil-plain)

-- ---- lines

pub first_plain : (sh : Sheet) (h : Header) → (sh.header ≡ true → header_proper h ≡ fine) → Plain (spell_first sh h)
unfolding spell_first
first_plain sh h p =
    either Plain sh.header
    (λ on.
    both-plain (bytes "UHL1") _ uhl
    (both-plain (spell_day h.date) _ (day-is h.date)
    (both-plain h.name _ (texts-plain h.name (headed h (p on)).name)
    (both-plain (fixed 10 h.client) _ (fixed-is 10 h.client)
    (both-plain (fixed 3 h.from) _ (fixed-is 3 h.from) (both-plain (fixed 3 h.to) _ (fixed-is 3 h.to) (fixed-is 12 0)))))))
    (λ _. uhl)
  where
    uhl : Plain (bytes "UHL1")
    uhl = unfold all is_plain pick in refl

pub file-plain : (sh : Sheet) (k n : ℕ) → Plain (spell_file sh k n)
unfolding spell_file
file-plain sh k n =
    all_cons is_plain 49 _ (high-plain 49 (omega arith))
    (space-plain _
    (both-plain (fixed 4 k) _ (fixed-is 4 k)
    (space-plain _ (both-plain (fixed 6 n) _ (fixed-is 6 n) (space-plain _ (fixed-is 4 sh.bank))))))

pub group-plain : (sh : Sheet) (p : Account) (t d : ℕ) → Plain (spell_group sh p t d)
unfolding spell_group spell_payer
group-plain sh p t d =
    all_cons is_plain 50 _ (high-plain 50 (omega arith))
    (space-plain _
    (both-plain _ _
    (either Plain (is_nobody p) (λ _. either Plain sh.emptypayer (λ _. space-plain [] nil-plain) (λ _. nil-plain)) (λ _. payer-is p))
    (both-plain (decimal t) _ (decimal-is t) (space-plain _ (day-is d)))))

tail-plain : (sh : Sheet) → Sane sh → (specific : ℕ) (parts : List (List ℕ)) (name : List ℕ) → Sendable sh.text parts name → Plain (spell_tail sh specific parts name)
unfolding spell_tail
tail-plain sh sane specific parts name g =
    either Plain sh.fixedtail
    (λ _. space-plain _ (both-plain _ _ (either Plain (eqb specific 0) (λ _. nil-plain) (λ _. decimal-is specific)) (space-plain _ text)))
    (λ _.
    either Plain (no_text parts name)
    (λ _. either Plain (eqb specific 0) (λ _. nil-plain) (λ _. space-plain _ (decimal-is specific)))
    (λ _. space-plain _ (both-plain _ _ (decimal-is specific) (space-plain _ text))))
  where
    text : Plain (spell_text sh.text parts name)
    text = texts-plain _ (spell-text-plain sh.text sane.parts_some sane.names_av parts name g)

pub item-plain : (sh : Sheet) → Sane sh → (due : ℕ → Bool) (single : Bool) (x : Item) → ItemFits sh due single x → Plain (spell_item sh x)
unfolding spell_item
item-plain sh sane due single x f =
    both-plain _ _ (either Plain (is_nobody x.payer) (λ _. nil-plain) (λ _. payer-is x.payer))
    (both-plain _ _ (account-is x.payee)
    (space-plain _
    (both-plain _ _ (decimal-is x.amount)
    (space-plain _
    (both-plain _ _ (decimal-is x.variable)
    (space-plain _
    (both-plain _ _ (digits-plain _ (spell-bank-plain x.bank x.constant x.priority))
    (tail-plain sh sane x.specific x.parts x.name f.texts))))))))
