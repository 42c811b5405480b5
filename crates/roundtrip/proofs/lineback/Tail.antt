-- The canonical tail of an item is read as its specific symbol, parts and name, with no warning. Assumes nothing.
use mathlib.Core.Path.{◌≡◌, refl, sym, ap, ◌∙◌}
use mathlib.Core.Bool.{Bool, true, false}
use mathlib.Core.List.{List, [], ◌∷◌, ◌++◌, append-nil}
use Prim.Native.Nat.{ℕ, ◌+◌, ◌^◌, ◌<◌}
use native.Mathlib.Omega.{arith}
use lib.Dec.{eqb}
use lib.ListN.{length}
use borrow.Author.Tests.{eqb-true}
use Rattle.base.specs.Pick.{pick}
use Rattle.base.specs.Seek.{seek, Free}
use Rattle.base.proofs.Cases.{either, pick_true, pick-false, pick-both}
use Rattle.base.proofs.Seek.{never}
use Rattle.sheet.specs.declared.Sheet.{Sheet}
use Rattle.sheet.proofs.Laws.{Sane}
use Rattle.paper.specs.Read.{Field, value}
use Rattle.paper.specs.Bytes.{space, null}
use Rattle.paper.specs.Numerals.{decimal}
use Rattle.paper.specs.Texts.{Noted, read_text, trim, spell_text, no_text}
use Rattle.paper.specs.Entries.{Listed, gap}
use Rattle.paper.specs.ItemLine.{no_texts, read_symbol, read_symbol_or_none, is_value, fixed_tail, after_symbol, open_tail, tail, part_bytes, spell_tail}
use Rattle.paper.proofs.Fields.{on-back}
use Rattle.paper.proofs.Lists.{some-null}
use Rattle.numeral.proofs.Back.{decimal-back}
use Rattle.numeral.proofs.Plain.{decimal-plain}
use Rattle.numeral.proofs.Long.{decimal-some}
use Rattle.text.specs.wording.Wording.{Sendable, Back}
use Rattle.text.proofs.wording.Parts.{fill, fill-trim}
use Rattle.text.proofs.wording.Fit.{null_is}
use Rattle.text.proofs.wording.Laws.{text-back}
use Rattle.roundtrip.proofs.lineback.Fields.{Stops, at-end, at_space, digits-field, field_is, field_back}

-- ---- the symbol

pub symbol-field : (n : ℕ) → Free space (decimal n)
symbol-field n = digits-field (decimal n) (decimal-plain n)

pub symbol-back : (n : ℕ) → n < 10 ^ 10 → read_symbol (decimal n) ≡ value n
symbol-back n h = decimal-back 10 n (omega arith) (omega arith) h

-- S: empty if it is 0
abbrev or_none : ℕ → List ℕ
or_none n = pick (eqb n 0) [] (decimal n)

none-field : (n : ℕ) → Free space (or_none n)
unfolding seek
none-field n = either (Free space) (eqb n 0) (λ _. refl) (λ _. symbol-field n)

none-back : (n : ℕ) → n < 10 ^ 10 → read_symbol_or_none (or_none n) ≡ value n
unfolding read_symbol_or_none null pick
none-back n h =
    either (λ s. read_symbol_or_none s ≡ value n) (eqb n 0)
    (λ e. ap value (sym (eqb-true n 0 e)))
    (λ _. pick-false _ _ (some-null (decimal n) (decimal-some n)) ∙ symbol-back n h)

-- ---- no text

null-parts : (ps : List (List ℕ)) → null ps ≡ true → ps ≡ []
unfolding null
null-parts [] e = refl
null-parts (p ∷ ps) e = never (sym e)

module _ (parts : List (List ℕ)) (name : List ℕ) (e : no_text parts name ≡ true) where
  nothing : (null (trim parts) ≡ true) × (null name ≡ true)
  unfolding no_text
  nothing = pick-both (null (trim parts)) (null name) e

  no-parts : length parts ≡ 4 → part_bytes no_texts ≡ parts
  unfolding fill
  no-parts four = rw (four, null-parts (trim parts) nothing.0) at (fill-trim parts)

  no_name : no_texts.name.bytes ≡ name
  no_name = sym (null_is name nothing.1)

-- ---- the tail

-- s, which begins at `at`, is read as the symbol, the parts and the name, and the rest of the reading takes them
pub record Tailed (sh : Sheet) (at : ℕ) (s : List ℕ) (specific : ℕ) (parts : List (List ℕ)) (name : List ℕ) : Type 0 where
  pub texts : Noted
  pub reads : (k : ℕ → Noted → Listed) → tail sh at s k ≡ k specific texts
  pub parts_back : part_bytes texts ≡ parts
  pub name_back : texts.name.bytes ≡ name
  pub no_warning : texts.warnings ≡ []

module _ (sh : Sheet) (sane : Sane sh) (specific : ℕ) (low : specific < 10 ^ 10) (parts : List (List ℕ)) (name : List ℕ) (g : Sendable sh.text parts name) (at : ℕ) where
  abbrev Reads : List ℕ → Type 0
  Reads s = Tailed sh at s specific parts name

  abbrev text : List ℕ
  text = spell_text sh.text parts name

  texts-back : (sh.text.av ≡ true → no_text parts name ≡ false) → (place : ℕ) → Back (read_text sh.text place text) parts name
  texts-back = text-back sh.text sane.parts_some sane.names_av parts name g

  -- S
  fixed_back : sh.fixedtail ≡ true → sh.text.av ≡ false → Reads (32 ∷ (or_none specific ++ (32 ∷ text)))
  unfolding tail fixed_tail gap
  fixed_back on bare =
      let a : ℕ = at + 1 + length (or_none specific) + 1 in
      let b : Back (read_text sh.text a text) parts name = texts-back (λ e. never (sym e ∙ bare)) a in
      record {
        texts = b.texts;
        reads =
            λ k.
            pick_true _ _ on
            ∙ field_back read_symbol_or_none (at + 1) (or_none specific) specific _ (32 ∷ text) (none-field specific) at_space (none-back specific low)
            ∙ on-back a (read_text sh.text a text) b.texts (k specific) b.reads;
        parts_back = b.parts_back;
        name_back = b.name_back;
        no_warning = b.no_warning;
      }

  module _ (off : sh.fixedtail ≡ false) where
    -- behind the space is a symbol, so it is read as one
    symbol-first : (r : List ℕ) → Stops r → (k : ℕ → Noted → Listed)
        → open_tail sh.text k sh.bare at (32 ∷ (decimal specific ++ r)) ≡ after_symbol sh.text k specific (at + 1 + length (decimal specific)) r
    unfolding open_tail
    symbol-first r s k =
        pick-false _ _ (plain sh.bare (ap read_symbol (field_is (decimal specific) r (symbol-field specific) s) ∙ symbol-back specific low))
        ∙ field_back read_symbol (at + 1) (decimal specific) specific _ r (symbol-field specific) s (symbol-back specific low)
      where
        plain : (bare : Bool) {x : Field ℕ} → x ≡ value specific → pick bare (pick (is_value x) false true) false ≡ false
        plain bare e = unfold is_value pick in rw e (either (λ b. b ≡ false) bare (λ _. refl) (λ _. refl))

    -- a symbol and a text
    both-back : no_text parts name ≡ false → Reads (32 ∷ (decimal specific ++ (32 ∷ text)))
    unfolding tail after_symbol
    both-back n =
        let a : ℕ = at + 1 + length (decimal specific) + 1 in
        let b : Back (read_text sh.text a text) parts name = texts-back (λ _. n) a in
        record {
          texts = b.texts;
          reads =
              λ k.
              pick-false _ _ off
              ∙ symbol-first (32 ∷ text) at_space k
              ∙ on-back a (read_text sh.text a text) b.texts (k specific) b.reads;
          parts_back = b.parts_back;
          name_back = b.name_back;
          no_warning = b.no_warning;
        }

    -- a symbol alone, or nothing
    module _ (e : no_text parts name ≡ true) where
      none-texts : (s : List ℕ) → ((k : ℕ → Noted → Listed) → tail sh at s k ≡ k specific no_texts) → Reads s
      none-texts s h =
          record { texts = no_texts; reads = h; parts_back = no-parts parts name e g.four; name_back = no_name parts name e; no_warning = refl }

      alone-back : Reads (32 ∷ decimal specific)
      unfolding tail after_symbol
      alone-back =
          none-texts (32 ∷ decimal specific)
          (λ k.
          pick-false _ _ off
          ∙ ap (λ (s : List ℕ). open_tail sh.text k sh.bare at (32 ∷ s)) (sym (append-nil (decimal specific)))
          ∙ symbol-first [] at-end k)

      nothing-back : specific ≡ 0 → Reads []
      unfolding tail open_tail
      nothing-back z = none-texts [] (λ k. pick-false _ _ off ∙ ap (λ (n : ℕ). k n no_texts) (sym z))

  pub tail-back : Reads (spell_tail sh specific parts name)
  unfolding spell_tail
  tail-back =
      either Reads sh.fixedtail (λ on. fixed_back on (sane.as_stands on))
      (λ off.
      either Reads (no_text parts name)
      (λ e. either Reads (eqb specific 0) (λ z. nothing-back off e (eqb-true specific 0 z)) (λ _. alone-back off e))
      (λ n. both-back off n))

-- it is nothing, or begins with a space
pub tail-stops : (sh : Sheet) (specific : ℕ) (parts : List (List ℕ)) (name : List ℕ) → Stops (spell_tail sh specific parts name)
unfolding spell_tail
tail-stops sh specific parts name =
    either Stops sh.fixedtail (λ _. at_space)
    (λ _. either Stops (no_text parts name) (λ _. either Stops (eqb specific 0) (λ _. at-end) (λ _. at_space)) (λ _. at_space))
