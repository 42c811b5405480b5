-- The spelling of an account has digits and dashes alone, so no other byte stands in it. Assumes nothing.
use mathlib.Core.Path.{◌≡◌, refl}
use mathlib.Core.Bool.{true, false}
use mathlib.Core.List.{List, [], ◌∷◌}
use Prim.Native.Nat.{ℕ}
use Rattle.base.specs.Pick.{pick}
use Rattle.base.specs.Seek.{all, Free}
use Rattle.base.proofs.Cases.{by-eq, pick_true}
use Rattle.base.proofs.Seek.{all_cons, all_append, all_weaker, free_all}
use Rattle.numeral.proofs.Plain.{decimal-plain}
use Rattle.paper.specs.Bytes.{is_digit, space}
use Rattle.paper.specs.Numerals.{decimal}
use Rattle.paper.specs.Accounts.{Account, spell_account}
use Rattle.account.specs.Bytes.{is_account_byte}
use Rattle.account.proofs.Spelled.{spelled-alone, spelled-both}

digits-too : (s : List ℕ) → all is_digit s ≡ true → all is_account_byte s ≡ true
unfolding is_account_byte
digits-too = all_weaker is_digit is_account_byte (λ x h. pick_true _ _ h)

pub spell-account-plain : (a : Account) → all is_account_byte (spell_account a) ≡ true
unfolding is_account_byte is_digit pick
spell-account-plain a =
    by-eq a.prefix 0
    (λ e. rw (spelled-alone a.prefix a.base e) (digits-too (decimal a.base) (decimal-plain a.base)))
    (λ n. rw (spelled-both a.prefix a.base n)
    (all_append is_account_byte (decimal a.prefix) (45 ∷ decimal a.base) (digits-too (decimal a.prefix) (decimal-plain a.prefix))
    (all_cons is_account_byte 45 (decimal a.base) refl (digits-too (decimal a.base) (decimal-plain a.base)))))

pub spell-account-free : (q : ℕ) → is_account_byte q ≡ false → (a : Account) → Free (q ∷ []) (spell_account a)
spell-account-free q n a = free_all is_account_byte q n (spell_account a) (spell-account-plain a)

-- no space, so it is one field; no CR and no LF, so it is in one line
pub spell-account-field : (a : Account) → Free space (spell_account a)
unfolding is_account_byte is_digit pick
spell-account-field a = spell-account-free 32 refl a
