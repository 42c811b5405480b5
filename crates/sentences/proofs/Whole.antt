-- A finding in a sentence: every sentence is printable and has at most 625 bytes. Assumes nothing.
use mathlib.Core.Path.{refl}
use mathlib.Core.List.{List, [], ◌∷◌}
use Prim.Native.Nat.{ℕ}
use lib.ListN.{take, drop}
use Rattle.base.specs.Pick.{pick}
use Rattle.sheet.specs.declared.Sheet.{Sheet}
use Rattle.why.specs.declared.Finding.{Finding}
use Rattle.sentences.specs.Phrases.{fields, rules}
use Rattle.sentences.specs.Sentences.{place_words, found_words, allowed_words, refusal_words, warning, warning_words, sentence}
use Rattle.sentences.specs.Printable.{is_printable}
use Rattle.sentences.proofs.Fits.{Fits, ◌fits-then◌, fits_or, fits_byte, fits-words, fits_said, fits-decimal}
use Rattle.sentences.proofs.Quotes.{fits-quoted}
use Rattle.sentences.proofs.Permitted.{fits-dated, fits-allowed}

fits-place : (line byte field : ℕ) → Fits 78 (place_words line byte field)
unfolding place_words
fits-place line byte field =
    fits-words "Line " refl
    fits-then fits-decimal line
    fits-then fits-words ", byte " refl
    fits-then fits-decimal byte
    fits-then fits-words ", " refl
    fits-then fits_said 22 fields field refl
    fits-then fits-words ": " refl

fits-found : (f : List ℕ) (number byte len : ℕ) → Fits 286 (found_words f number byte len)
unfolding found_words
fits-found f number byte len = fits_or _ (fits-words "the end of the file" refl) (fits-quoted (take len (drop byte f)))

-- a full stop and LF
fits-end : Fits 2 (46 ∷ 10 ∷ [])
unfolding is_printable pick
fits-end = fits-words "." refl fits-then fits_byte {x = 10} refl

fits-behind : (sh : Sheet) (today : ℕ) (x : Finding) → Fits 189 (allowed_words sh today x)
unfolding allowed_words
fits-behind sh today x =
    fits-words "; allowed: " refl fits-then fits-allowed sh today x.cause x.field x.least x.most fits-then fits-end

fits-refusal : (sh : Sheet) (today : ℕ) (f : List ℕ) (x : Finding) → Fits 547 (refusal_words sh today f x)
unfolding refusal_words
fits-refusal sh today f x =
    fits_said 41 rules x.number refl
    fits-then fits-words " (" refl
    fits-then fits-decimal x.number
    fits-then fits-words "); found " refl
    fits-then fits-found f x.number x.byte x.length
    fits-then fits-behind sh today x

fits-warned : (cause a b : ℕ) → Fits 61 (warning cause a b)
unfolding warning
fits-warned cause a b =
    fits_or _ (fits-words "the total is not the sum of the items, " refl fits-then fits-decimal a)
    (fits_or _ (fits-words "the day is before " refl fits-then fits-dated a)
    (fits_or _ (fits-words "priority " refl fits-then fits-decimal a fits-then fits-words " is read as " refl fits-then fits-decimal b)
    (fits-words "cut to " refl fits-then fits-decimal b fits-then fits-words " bytes" refl)))

fits-warning : (f : List ℕ) (x : Finding) → Fits 357 (warning_words f x)
unfolding warning_words
fits-warning f x =
    fits-warned x.cause x.least x.most
    fits-then fits-words "; found " refl
    fits-then fits-found f x.number x.byte x.length
    fits-then fits-end

pub fits-sentence : (sh : Sheet) (today : ℕ) (f : List ℕ) (x : Finding) → Fits 625 (sentence sh today f x)
unfolding sentence
fits-sentence sh today f x = fits-place x.line x.byte x.field fits-then fits_or _ (fits-warning f x) (fits-refusal sh today f x)
