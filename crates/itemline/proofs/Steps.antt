-- Laws for whoever reads an item's line: its texts, and the walk over it. Assumes nothing.
use mathlib.Core.Path.{◌≡◌, refl, sym, ap, ◌∙◌}
use mathlib.Core.Bool.{Bool}
use mathlib.Core.List.{List, [], ◌∷◌}
use Prim.Native.Nat.{ℕ, ◌+◌, ◌≤◌}
use native.Mathlib.Omega.{arith}
use lib.ListN.{length, drop, length-append}
use Rattle.base.specs.Pick.{pick}
use Rattle.std.proofs.Common.{Result, Ok, Err}
use Rattle.refusal.specs.declared.Refusal.{Refusal}
use Rattle.refusal.specs.declared.Flaw.{Flaw}
use Rattle.refusal.specs.Numbers.{number_of}
use Rattle.refusal.specs.Placed.{placed}
use Rattle.refusal.proofs.Places.{was-ok, was-err}
use Rattle.sheet.specs.declared.Style.{Style}
use Rattle.sheet.specs.declared.Sheet.{Sheet}
use Rattle.paper.specs.Read.{Field, value, fault}
use Rattle.paper.specs.Warnings.{low_priority, notices}
use Rattle.paper.specs.Accounts.{Account, nobody}
use Rattle.paper.specs.Texts.{Texts, Noted, read_text}
use Rattle.paper.specs.Entries.{item, Said, Counted, said, no, counted, on_field, field, gap}
use Rattle.paper.specs.ItemLine.{no_texts, fixed_tail, after_symbol, open_tail, tail, places, item_of, read_item}
use Rattle.paper.specs.ItemLine as lines
use Rattle.paper.proofs.Passing.{Keeps, on-passes, field-passes, gap-passes, pick-passes, counted-keeps, notices-length}
use Rattle.numeral.proofs.given.Given.{value_same, value-fault}
use Rattle.numeral.proofs.field.Steps.{step-known, step-unknown}
use Rattle.text.specs.Told as texts
use Rattle.text.specs.Told.{count_texts, count_text}
use Rattle.text.specs.declared.span.Spans.{Spans}
use Rattle.text.specs.span.Held.{texts_at}
use Rattle.text.proofs.wording.Warnings.{text-warnings}
use Rattle.itemline.specs.tail.Told.{tail_of}
use Rattle.itemline.specs.Walk.{spaced, from_bank, from_variable, from_amount, from_payee, payer_first, walk, item_said}
use Rattle.itemline.specs.judge.Brief.{kept, kept_texts}

-- ---- the texts

-- what is known of texts whose warnings were counted: r is what the paper reads
counted-texts : (r : Field Noted) (t : Texts ℕ) → value t ≡ count_text r → (z : Noted) × (r ≡ value z) × (t ≡ count_texts z)
unfolding count_text
counted-texts (value z) t e = (z, refl, value_same t (count_texts z) e)
counted-texts (fault n) t e = value-fault t n e

counted-fault : (r : Field Noted) (c : ℕ) → fault c ≡ count_text r → r ≡ fault c
unfolding count_text
counted-fault (value z) c e = value-fault (count_texts z) c (sym e)
counted-fault (fault n) c e = let z : c ≡ n = cc in rw z

-- f are the places that were taken
module _ (y : Style) (s : List ℕ) (from : ℕ) (f : Spans) (g : value (texts_at s f) ≡ count_text (read_text y from (drop from s))) where
  pub read-texts : (z : Noted) × (read_text y from (drop from s) ≡ value z) × (texts_at s f ≡ count_texts z)
  read-texts = counted-texts (read_text y from (drop from s)) (texts_at s f) g

  pub spans-few : y.most ≤ 4 → f.warnings ≤ 5
  spans-few l =
      omega (arith, ap (λ (x : Texts ℕ). x.warnings) read-texts.2, text-warnings y l from (drop from s) read-texts.0 read-texts.1)

-- t is what their judge answered
module _ (y : Style) (s : List ℕ) (from : ℕ) (t : Result Spans Refusal) (g : texts.told s t ≡ count_text (read_text y from (drop from s)))
    (m : Result Spans Flaw) (h : m ≡ placed t from) where
  module _ (r : Counted) (amount w v : ℕ) where
    pub step-texts : (f : Spans) → m ≡ Ok f → r ≡ kept amount (w + f.warnings) → r ≡ on_field from (read_text y from (drop from s)) (kept_texts amount w v)
    unfolding kept_texts
    step-texts f e q =
        let z = read-texts y s from f (rw (was-ok t from f (sym h ∙ e)) at g) in
        let n : f.warnings ≡ length z.0.warnings = ap (λ (x : Texts ℕ). x.warnings) z.2 in
        step-known r from (read_text y from (drop from s)) (kept_texts amount w v) z.0 z.1 (q ∙ ap (λ (k : ℕ). kept amount (w + k)) n)

    pub step-no-texts : (x : Flaw) → m ≡ Err x → r ≡ no (number_of x.0) x.1 → r ≡ on_field from (read_text y from (drop from s)) (kept_texts amount w v)
    step-no-texts x e q =
        let u = was-err t from x (sym h ∙ e) in
        step-unknown r from (read_text y from (drop from s)) (kept_texts amount w v) (number_of x.0) (counted-fault _ (number_of x.0) (rw u.0 at g))
        (q ∙ ap (no (number_of x.0)) (sym u.1))

  pub texts-few : y.most ≤ 4 → (f : Spans) → m ≡ Ok f → f.warnings ≤ 5
  texts-few l f e = spans-few y s from f (rw (was-ok t from f (sym h ∙ e)) at g) l

-- ---- the walk: g is a map of what lines say that keeps refusals, and takes k to j

module _ {A : Type 0} (g : Said A → Counted) (keeps : Keeps g) where
  module _ (y : Style) (k : ℕ → Noted → Said A) (j : ℕ → Noted → Counted) (h : (m : ℕ) (t : Noted) → g (k m t) ≡ j m t) where
    fixed-passes : (at : ℕ) (s : List ℕ) → g (fixed_tail y k at s) ≡ fixed_tail y j at s
    unfolding fixed_tail
    fixed-passes at s =
        gap-passes g keeps at s _ _ λ a1 s1.
        field-passes g keeps _ a1 s1 _ _ λ specific a2 s2.
        gap-passes g keeps a2 s2 _ _ λ a3 s3.
        on-passes g keeps a3 _ _ _ λ texts.
        h specific texts

    after-passes : (specific at : ℕ) (s : List ℕ) → g (after_symbol y k specific at s) ≡ after_symbol y j specific at s
    unfolding after_symbol
    after-passes specific at [] = h specific no_texts
    after-passes specific at (x ∷ s) = on-passes g keeps (at + 1) _ _ _ λ texts. h specific texts

    open-passes : (bare : Bool) (at : ℕ) (s : List ℕ) → g (open_tail y k bare at s) ≡ open_tail y j bare at s
    unfolding open_tail
    open-passes bare at [] = h 0 no_texts
    open-passes bare at (x ∷ s) =
        pick-passes g keeps _ _ _ _ _
        (on-passes g keeps (at + 1) _ _ _ λ texts. h 0 texts)
        (field-passes g keeps _ (at + 1) s _ _ λ specific a1 s1. after-passes specific a1 s1)

    pub tail-passes : (fixed bare : Bool) (at : ℕ) (s : List ℕ) → g (pick fixed (fixed_tail y k at s) (open_tail y k bare at s)) ≡ tail_of y fixed bare j at s
    unfolding tail_of
    tail-passes fixed bare at s = pick-passes g keeps fixed _ _ _ _ (fixed-passes at s) (open-passes bare at s)

  pub spaced-passes : {X : Type 0} (read : List ℕ → Field X) (at : ℕ) (s : List ℕ) (k : X → ℕ → List ℕ → Said A) (j : X → ℕ → List ℕ → Counted)
      → ((v : X) (a : ℕ) (r : List ℕ) → g (k v a r) ≡ j v a r) → g (field read at s λ v a1 s1. gap a1 s1 λ a2 s2. k v a2 s2) ≡ spaced read at s j
  unfolding spaced
  spaced-passes read at s k j h = field-passes g keeps read at s _ _ λ v a1 s1. gap-passes g keeps a1 s1 _ _ λ a2 s2. h v a2 s2

-- document 01's reading of the line, with its warnings counted, is the walk that makes an item
payee-walk : (sh : Sheet) (due : ℕ → Bool) (payer : Account) (at : ℕ) (s : List ℕ) → counted (lines.from_payee sh due payer at s) ≡ from_payee sh due (item_said payer) at s
unfolding lines.from_payee tail from_payee from_amount from_variable from_bank item_said counted
payee-walk sh due payer at s =
    spaced-passes counted counted-keeps _ at s _ _ λ payee a1 s1.
    spaced-passes counted counted-keeps _ a1 s1 _ _ λ amount a2 s2.
    spaced-passes counted counted-keeps _ a2 s2 _ _ λ variable a3 s3.
    field-passes counted counted-keeps _ a3 s3 _ _ λ bank a4 s4.
    tail-passes counted counted-keeps sh.text _ _
    (λ specific texts.
    ap (λ (n : ℕ). said (item (item_of payer payee amount variable specific bank texts)) n (places texts))
    (length-append (notices low_priority a3 bank.warnings) texts.warnings ∙ ap (λ (n : ℕ). n + length texts.warnings) (notices-length low_priority a3 bank.warnings)))
    sh.fixedtail sh.bare a4 s4

pub item-walk : (sh : Sheet) (due : ℕ → Bool) (single : Bool) (s : List ℕ) → counted (read_item sh due single s) ≡ walk sh due single item_said s
unfolding read_item walk payer_first
item-walk sh due single s =
    pick-passes counted counted-keeps single _ _ _ _
    (spaced-passes counted counted-keeps _ 0 s _ _ λ payer a1 s1. payee-walk sh due payer a1 s1)
    (payee-walk sh due nobody 0 s)
