-- An item's line that is read: where its bank field stands, and what it warns of by the places of its texts. Assumes nothing.
use mathlib.Core.Path.{◌≡◌, refl, sym, ap, ◌∙◌}
use mathlib.Core.Bool.{Bool, true, false}
use mathlib.Core.List.{List, [], ◌∷◌, ◌++◌}
use Prim.Native.Nat.{ℕ, ◌+◌, ◌≤◌, ◌<◌}
use native.Mathlib.Omega.{arith}
use lib.ListN.{length, drop, length-drop}
use lib.Seq.{drop-drop}
use Rattle.base.specs.Pick.{pick}
use Rattle.base.specs.Seek.{seek}
use Rattle.base.proofs.Cases.{either}
use Rattle.base.proofs.Lists.{drop-none}
use Rattle.sheet.specs.declared.Sheet.{Sheet}
use Rattle.paper.specs.Read.{Field, value, fault}
use Rattle.paper.specs.Warnings.{low_priority, notices}
use Rattle.paper.specs.Bytes.{space, field_of, rest_of}
use Rattle.paper.specs.Accounts.{Account, nobody, read_account}
use Rattle.paper.specs.Amounts.{read_item_amount}
use Rattle.paper.specs.BankField.{Bank, read_bank, read_due_bank}
use Rattle.paper.specs.Texts.{Noted, read_text}
use Rattle.paper.specs.Entries.{item, Listed, said, no, on_field, field, gap}
use Rattle.paper.specs.ItemLine.{no_texts, read_symbol, read_symbol_or_none, fixed_tail, after_symbol, open_tail, tail, places, item_of, from_payee, read_item}
use Rattle.bank.proofs.Due.{any-due-bank}
use Rattle.itemline.specs.Walk.{any_bank}
use Rattle.listing.specs.item.Found.{behind, behind_two, bank_place}
use Rattle.listing.proofs.item.Places.{behind-space}
use Rattle.listing.proofs.item.Notices.{over_at, parts_at, name_at, kept-value, text-kept}

module _ (sh : Sheet) (w : List ℕ) where
  -- what the line w says, whose bank field begins at `off`
  pub data Says (off : ℕ) : Listed → Type 0 where
    says : {payer payee : Account} {amount variable specific : ℕ} (b : Bank) (t : Noted) → read_bank sh.priority (field_of (drop off w)) ≡ value b
        → t.warnings ≡ parts_at sh.text w t.parts ++ name_at sh.text w t.name
        → Says off (said (item (item_of payer payee amount variable specific b t)) (notices low_priority off b.warnings ++ t.warnings) (places t))
    unread : {n at : ℕ} → Says off (no n at)

  -- ---- fields from left to right

  module _ {off : ℕ} where
    on : {X : Type 0} (at : ℕ) (x : Field X) {k : X → Listed} → ((v : X) → x ≡ value v → Says off (k v)) → Says off (on_field at x k)
    unfolding on_field
    on at (value v) h = h v refl
    on at (fault n) h = unread

    fields : {X : Type 0} (read : List ℕ → Field X) (at : ℕ) (s : List ℕ) {k : X → ℕ → List ℕ → Listed} → drop at w ≡ s
        → ((v : X) → read (field_of s) ≡ value v → (a : ℕ) (r : List ℕ) → a ≡ at + seek space s → drop a w ≡ r → Says off (k v a r)) → Says off (field read at s k)
    unfolding field
    fields read at s e h =
        on at (read (field_of s)) λ v g. h v g (at + seek space s) (rest_of s) refl (sym (drop-drop (seek space s) at w) ∙ ap (drop (seek space s)) e)

    gaps : (at : ℕ) (s : List ℕ) (k : ℕ → List ℕ → Listed) → drop at w ≡ s → (at < length w → (r : List ℕ) → drop (at + 1) w ≡ r → Says off (k (at + 1) r))
        → Says off (gap at s k)
    unfolding gap
    gaps at [] k e h = unread
    gaps at (x ∷ s) k e h = h (omega (arith, length-drop at w, ap length e)) s (sym (drop-drop 1 at w) ∙ ap (drop 1) e)

    spaced : {X : Type 0} (read : List ℕ → Field X) (at : ℕ) (s : List ℕ) (k : X → ℕ → List ℕ → Listed) → drop at w ≡ s
        → ((v : X) (r : List ℕ) → drop (behind w at) w ≡ r → Says off (k v (behind w at) r)) → Says off (field read at s (λ v a1 s1. gap a1 s1 λ a2 s2. k v a2 s2))
    spaced read at s k e h =
        fields read at s e λ v _ a r i d.
        gaps a r _ d λ l r2 d2.
        let z : a + 1 ≡ behind w at = behind-space w at a (i ∙ ap (λ (u : List ℕ). at + seek space u) (sym e)) l in
        rw z (h v r2 (rw z at d2))

    -- ---- the tail, whose reading k goes on with

    module _ (four : sh.text.most ≤ 4) {k : ℕ → Noted → Listed}
        (h : (n : ℕ) (t : Noted) → t.warnings ≡ parts_at sh.text w t.parts ++ name_at sh.text w t.name → Says off (k n t)) where
      text_says : (specific at : ℕ) (s : List ℕ) → drop at w ≡ s → Says off (on_field at (read_text sh.text at s) (k specific))
      text_says specific at s e =
          on at (read_text sh.text at s) λ t g. h specific t (kept-value sh.text w (rw g at (text-kept sh.text w four at s e)))

      none-says : (specific : ℕ) → Says off (k specific no_texts)
      unfolding parts_at over_at pick
      none-says specific = h specific no_texts refl

      fixed-says : (at : ℕ) (s : List ℕ) → drop at w ≡ s → Says off (fixed_tail sh.text k at s)
      unfolding fixed_tail
      fixed-says at s e =
          gaps at s _ e λ _ s1 e1.
          fields read_symbol_or_none (at + 1) s1 e1 λ specific _ a2 s2 _ e2.
          gaps a2 s2 _ e2 λ _ s3 e3.
          text_says specific (a2 + 1) s3 e3

      after-says : (specific at : ℕ) (s : List ℕ) → drop at w ≡ s → Says off (after_symbol sh.text k specific at s)
      unfolding after_symbol
      after-says specific at [] e = none-says specific
      after-says specific at (x ∷ s) e = text_says specific (at + 1) s (sym (drop-drop 1 at w) ∙ ap (drop 1) e)

      open-says : (at : ℕ) (s : List ℕ) → drop at w ≡ s → Says off (open_tail sh.text k sh.bare at s)
      unfolding open_tail
      open-says at [] e = none-says 0
      open-says at (x ∷ s) e =
          let d : drop (at + 1) w ≡ s = sym (drop-drop 1 at w) ∙ ap (drop 1) e in
          either (Says off) _ (λ _. text_says 0 (at + 1) s d)
          (λ _. fields read_symbol (at + 1) s d λ specific _ a1 s1 _ e1. after-says specific a1 s1 e1)

  -- ---- the whole line

  module _ (four : sh.text.most ≤ 4) where
    payee-says : (payer : Account) (at : ℕ) (s : List ℕ) → drop at w ≡ s → Says (behind w (behind_two w at)) (from_payee sh any_bank payer at s)
    unfolding from_payee tail
    payee-says payer at s e =
        spaced (read_account sh.joined sh.basemin) at s _ e λ payee s2 e2.
        spaced (read_item_amount sh.comma sh.itemdigits sh.itemmax) (behind w at) s2 _ e2 λ amount s4 e4.
        spaced read_symbol (behind_two w at) s4 _ e4 λ variable s6 e6.
        fields (read_due_bank sh.priority any_bank) (behind w (behind_two w at)) s6 e6 λ bank g a7 s7 _ e7.
        let b : read_bank sh.priority (field_of (drop (behind w (behind_two w at)) w)) ≡ value bank
        = ap (λ (u : List ℕ). read_bank sh.priority (field_of u)) e6 ∙ (sym (any-due-bank any_bank (λ _. refl) sh.priority (field_of s6)) ∙ g) in
        either (Says (behind w (behind_two w at))) sh.fixedtail
        (λ _. fixed-says four (λ specific t i. says bank t b i) a7 s7 e7)
        (λ _. open-says four (λ specific t i. says bank t b i) a7 s7 e7)

    pub item-says : (single : Bool) → Says (bank_place single w) (read_item sh any_bank single w)
    unfolding read_item bank_place pick
    item-says true = spaced (read_account sh.joined sh.basemin) 0 w _ (drop-none w) λ payer s e. payee-says payer (behind w 0) s e
    item-says false = payee-says nobody 0 w (drop-none w)
