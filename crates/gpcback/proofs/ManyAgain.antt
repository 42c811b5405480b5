-- Records that are read, one after the other, are spelled as they stood, but for a minus before zero; what is kept stays, and so does the
-- length. Assumes nothing.
use mathlib.Core.Path.{◌≡◌, refl, sym, ap, ◌∙◌}
use mathlib.Core.List.{List, [], ◌∷◌}
use Prim.Native.Nat.{ℕ}
use native.Mathlib.Omega.{arith}
use lib.ListN.{length}
use Rattle.gpc.specs.Parts.{pieces}
use Rattle.gpc.specs.Records.{Thing, saids, record_size, records_in, spell, spells}
use Rattle.gpc.specs.Canonical.{plain_records, plain, kepts_in, kept}
use Rattle.gpcback.specs.Proper.{NoStrange}
use Rattle.gpcback.proofs.Pieces.{Cut, cut-head, cut-tail, pieces_none, pieces-first, pieces-cut}
use Rattle.gpcback.proofs.Records.{spell-length}
use Rattle.gpcback.proofs.Sound.{sound}
use Rattle.gpcback.proofs.Many.{spells-length}
use Rattle.gpcback.proofs.ManySound.{EachRead, records-read, records-sound, records-length}
use Rattle.gpcback.proofs.Again.{again, kept as kept_again}

each_again : (ss : List (List ℕ)) (ts : List Thing) → Cut record_size ss → EachRead ss ts → NoStrange ts → spells ts ≡ plain_records ss
unfolding spells plain_records
each_again [] [] c r n = refl
each_again [] (t ∷ ts) c r n = absurd r
each_again (s ∷ ss) [] c r n = absurd r
each_again (s ∷ ss) (t ∷ ts) c (r, rs) (n, ns) =
    rw (again s t (cut-head record_size s ss c) r n, each_again ss ts (cut-tail record_size s ss c) rs ns)

each-kept : (ss : List (List ℕ)) (ts : List Thing) → Cut record_size ss → EachRead ss ts → NoStrange ts
    → kepts_in (pieces record_size (spells ts)) ≡ kepts_in ss
unfolding spells kepts_in
each-kept [] [] c r n = ap kepts_in (pieces_none record_size (omega arith))
each-kept [] (t ∷ ts) c r n = absurd r
each-kept (s ∷ ss) [] c r n = absurd r
each-kept (s ∷ ss) (t ∷ ts) c (r, rs) (n, ns) =
    ap kepts_in (pieces-first record_size (omega arith) (spell t) (spells ts) (spell-length t (sound s t r n)))
    ∙ rw (kept_again s t (cut-head record_size s ss c) r n, each-kept ss ts (cut-tail record_size s ss c) rs ns)

module _ (f : List ℕ) (ts : List Thing) (e : records_in f ≡ saids ts) (n : NoStrange ts) where
  cut : Cut record_size (pieces record_size f)
  cut = pieces-cut record_size (omega arith) f

  pub records-again : spells ts ≡ plain f
  unfolding plain
  records-again = each_again (pieces record_size f) ts cut (records-read f ts e) n

  pub records-kept : kept (spells ts) ≡ kept f
  unfolding kept
  records-kept = each-kept (pieces record_size f) ts cut (records-read f ts e) n

  pub plain-length : length (plain f) ≡ length f
  plain-length = ap length (sym records-again) ∙ spells-length ts (records-sound f ts e n) ∙ sym (records-length f ts e n)
