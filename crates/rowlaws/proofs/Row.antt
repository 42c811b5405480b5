-- The row of a line: its words hold over the file's bytes what the line says, and are below 2 ^ 64. Assumes nothing.
use mathlib.Core.Path.{◌≡◌, refl, sym, ap, subst, ◌∙◌}
use mathlib.Core.List.{List, [], ◌∷◌, ◌++◌, map}
use Prim.Native.Nat.{ℕ, suc, ◌+◌, ◌^◌, ◌<◌, ◌≤◌}
use native.Mathlib.Omega.{arith}
use lib.Dec.{leb}
use lib.ListN.{length, take, drop}
use borrow.Author.Tests.{le-leb}
use Rattle.base.specs.Pick.{pick}
use Rattle.base.proofs.Cases.{pick_true}
use Rattle.paper.specs.Bytes.{null}
use Rattle.paper.specs.Accounts.{Account}
use Rattle.paper.specs.Batch.{Item, Thing, a_file, a_group, an_item, misnumbered, strange}
use Rattle.paper.specs.Texts.{Piece}
use Rattle.paper.specs.Entries.{Places}
use Rattle.paper.specs.Words.{blanks}
use Rattle.paper.specs.Rows.{text_at, reference_proper, thing_in, file_row, group_row, text_words, texts_words, item_row, text_spots}
use Rattle.out.specs.word.Sizes.{Small}
use Rattle.out.proofs.word.Laws.{blanks-small}
use Rattle.rowlaws.specs.Places.{Here, Lies, Lie}
use Rattle.rowlaws.proofs.Here.{here_in, here-inside}
use Rattle.rowlaws.proofs.Below.{Short}
use Rattle.rowlaws.proofs.Kept.{KeptItem}

-- an item's amount fits eight bytes
abbrev pub Fair : Thing → Type 0
Fair (a_file k n) = Unit {0}
Fair (a_group d p) = Unit {0}
Fair (an_item x) = x.amount < 2 ^ 64
Fair (misnumbered x) = Unit {0}
Fair strange = Unit {0}

-- the row r holds the thing t, with its texts in f
pub record Row (f r : List ℕ) (t : Thing) : Type 0 where
  pub tells : thing_in f r ≡ t
  pub small : length f < 2 ^ 64 → Fair t → Small r

pub file-row : (f : List ℕ) (k n : ℕ) → k < 10000 → n < 1000000 → Row f (file_row k n) (a_file k n)
unfolding file_row blanks thing_in pick
file-row f k n a b = record { tells = refl; small = λ _ _. (omega arith, (omega arith, (omega arith, blanks-small 21))) }

pub group-row : (f : List ℕ) (d : ℕ) (p : Account) → Short p → d < 100000000 → Row f (group_row d p) (a_group d p)
unfolding group_row blanks thing_in pick
group-row f d p a b =
    record {
      tells = refl;
      small = λ _ _. (omega arith, (omega arith, (omega (arith, a.prefix_is), (omega (arith, a.base_is), blanks-small 20))));
    }

-- ---- an item's texts

-- the place of a text in the file
unfoldable pub spot : ℕ → ℕ → List ℕ → ℕ
spot start off t = pick (null t) 0 (start + off)

pub words-of : (start off : ℕ) (t : List ℕ) → text_words start off t ≡ spot start off t ∷ length t ∷ []
unfolding text_words spot pick null
words-of start off [] = refl
words-of start off (x ∷ t) = refl

-- the text t stands in f at the place p
record Stays (f : List ℕ) (p : ℕ) (t : List ℕ) : Type 0 where
  there : Here f p t
  inside : p + length t ≤ length f

module _ (f : List ℕ) (start : ℕ) (w : List ℕ) (here : Here f start w) where
  stays : (off : ℕ) (t : List ℕ) → Here w off t → Stays f (spot start off t) t
  unfolding spot pick null
  stays off [] h = record { there = refl; inside = omega arith }
  stays off (x ∷ t) h =
      let e : Here f (start + off) (x ∷ t) = here_in f start w here off (x ∷ t) h in
      record { there = e; inside = here-inside f (start + off) (x ∷ t) e (omega arith) }

told : (f : List ℕ) (p : ℕ) (t : List ℕ) → Stays f p t → pick (leb (p + length t) (length f)) (take (length t) (drop p f)) (0 ∷ []) ≡ t
told f p t s = pick_true _ _ (le-leb _ _ s.inside) ∙ s.there

-- ---- the item

-- x with these parts and this name
abbrev made : Item → List (List ℕ) → List ℕ → Item
made x parts name =
    record {
      payer = x.payer;
      payee = x.payee;
      bank = x.bank;
      amount = x.amount;
      variable = x.variable;
      specific = x.specific;
      constant = x.constant;
      priority = x.priority;
      parts = parts;
      name = name;
    }

made-is : (x : Item) (parts : List (List ℕ)) (name : List ℕ) → x.parts ≡ parts → x.name ≡ name → x ≡ made x parts name
made-is x parts name e g = ap (λ (l : List (List ℕ)). made x l x.name) e ∙ ap (λ (l : List ℕ). made x parts l) g

-- its words, with the places and the lengths of its texts
abbrev words_of : Item → ℕ → ℕ → ℕ → ℕ → ℕ → ℕ → ℕ → ℕ → ℕ → ℕ → List ℕ
words_of x p1 n1 p2 n2 p3 n3 p4 n4 p5 n5 =
    3 ∷ x.payer.prefix ∷ x.payer.base ∷ x.payee.prefix ∷ x.payee.base ∷ x.bank ∷ x.amount ∷ x.variable ∷ x.specific ∷ x.constant
    ∷ x.priority ∷ p1 ∷ n1 ∷ p2 ∷ n2 ∷ p3 ∷ n3 ∷ p4 ∷ n4 ∷ p5 ∷ n5 ∷ 0 ∷ 0 ∷ 0 ∷ []

module _ (f : List ℕ) (x : Item) (t1 t2 t3 t4 t5 : List ℕ) (p1 p2 p3 p4 p5 : ℕ)
    (s1 : Stays f p1 t1) (s2 : Stays f p2 t2) (s3 : Stays f p3 t3) (s4 : Stays f p4 t4) (s5 : Stays f p5 t5) where
  abbrev line : List ℕ
  line = words_of x p1 (length t1) p2 (length t2) p3 (length t3) p4 (length t4) p5 (length t5)

  line-tells : thing_in f line ≡ an_item (made x (t1 ∷ t2 ∷ t3 ∷ t4 ∷ []) t5)
  unfolding thing_in reference_proper text_at pick
  line-tells = rw (told f p1 t1 s1, told f p2 t2 s2, told f p3 t3 s3, told f p4 t4 s4, told f p5 t5 s5)

  line_small : length f < 2 ^ 64 → x.amount < 2 ^ 64 → Short x.payer → Short x.payee → x.bank < 10000 → x.variable < 10000000000
      → x.specific < 10000000000 → x.constant < 10000 → x.priority < 100 → Small line
  line_small l a b c d e g h i = (
    omega arith,
    (
      omega (arith, b.prefix_is),
      (
        omega (arith, b.base_is),
        (
          omega (arith, c.prefix_is),
          (
            omega (arith, c.base_is),
            (
              omega arith,
              (
                a,
                (
                  omega arith,
                  (
                    omega arith,
                    (
                      omega arith,
                      (
                        omega arith,
                        (
                          omega (arith, s1.inside),
                          (
                            omega (arith, s1.inside),
                            (
                              omega (arith, s2.inside),
                              (
                                omega (arith, s2.inside),
                                (
                                  omega (arith, s3.inside),
                                  (
                                    omega (arith, s3.inside),
                                    (
                                      omega (arith, s4.inside),
                                      (
                                        omega (arith, s4.inside),
                                        (omega (arith, s5.inside), (omega (arith, s5.inside), (omega arith, (omega arith, (omega arith, tt))))),
                                      ),
                                    ),
                                  ),
                                ),
                              ),
                            ),
                          ),
                        ),
                      ),
                    ),
                  ),
                ),
              ),
            ),
          ),
        ),
      ),
    ),
  )

-- four pieces, one by one
none : {n : ℕ} {A : Type 0} → 0 ≡ suc n → A
none e = absurd (omega arith)

more : {n : ℕ} {A : Type 0} → suc (suc (suc (suc (suc n)))) ≡ 4 → A
more e = absurd (omega arith)

record Four (ps : List Piece) : Type 0 where
  one : Piece
  two : Piece
  three : Piece
  four : Piece
  are : ps ≡ one ∷ two ∷ three ∷ four ∷ []

four-of : (ps : List Piece) → length ps ≡ 4 → Four ps
four-of [] e = none e
four-of (a ∷ []) e = absurd (omega arith)
four-of (a ∷ b ∷ []) e = absurd (omega arith)
four-of (a ∷ b ∷ c ∷ []) e = absurd (omega arith)
four-of (a ∷ b ∷ c ∷ d ∷ []) e = record { one = a; two = b; three = c; four = d; are = refl }
four-of (a ∷ b ∷ c ∷ d ∷ g ∷ ps) e = more e

-- an item's facts but for its texts
record Sized (x : Item) : Type 0 where
  payer_is : Short x.payer
  payee_is : Short x.payee
  bank_is : x.bank < 10000
  variable_is : x.variable < 10000000000
  specific_is : x.specific < 10000000000
  constant_is : x.constant < 10000
  priority_is : x.priority < 100

module _ (f : List ℕ) (start : ℕ) (w : List ℕ) (here : Here f start w) (x : Item) where
  row_of : Sized x → (a b c d n : Piece) → Lies w a → Lies w b → Lies w c → Lies w d → Lies w n
      → Row f (item_row start (a.place ∷ b.place ∷ c.place ∷ d.place ∷ n.place ∷ []) (made x (a.bytes ∷ b.bytes ∷ c.bytes ∷ d.bytes ∷ []) n.bytes))
      (an_item (made x (a.bytes ∷ b.bytes ∷ c.bytes ∷ d.bytes ∷ []) n.bytes))
  unfolding item_row texts_words blanks
  row_of k a b c d n la lb lc ld ln =
      let sa = stays f start w here a.place a.bytes la in
      let sb = stays f start w here b.place b.bytes lb in
      let sc = stays f start w here c.place c.bytes lc in
      let sd = stays f start w here d.place d.bytes ld in
      let sn = stays f start w here n.place n.bytes ln in
      rw (
        words-of start a.place a.bytes,
        words-of start b.place b.bytes,
        words-of start c.place c.bytes,
        words-of start d.place d.bytes,
        words-of start n.place n.bytes,
      )
      (record {
        tells = line-tells f x _ _ _ _ _ _ _ _ _ _ sa sb sc sd sn;
        small = λ l m. line_small f x _ _ _ _ _ _ _ _ _ _ sa sb sc sd sn l m k.payer_is k.payee_is k.bank_is k.variable_is k.specific_is k.constant_is k.priority_is;
      })

  pub item-row : (p : Places) → KeptItem w x p → Row f (item_row start (text_spots p) x) (an_item x)
  item-row p k =
      let q = four-of k.texts.parts k.placed.four in
      let l = subst (Lie w) q.are k.placed.parts in
      let n = k.texts.name in
      let ps : x.parts ≡ q.one.bytes ∷ q.two.bytes ∷ q.three.bytes ∷ q.four.bytes ∷ [] = k.parts_are ∙ ap (λ (l : List Piece). map (λ (p : Piece). p.bytes) l) q.are in
      let os : text_spots p ≡ q.one.place ∷ q.two.place ∷ q.three.place ∷ q.four.place ∷ n.place ∷ [] = ap text_spots k.places_are ∙ ap (λ (l : List Piece). map (λ (p : Piece). p.place) l ++ (n.place ∷ [])) q.are in
      rw os
      (subst (λ (y : Item). Row f (item_row start (q.one.place ∷ q.two.place ∷ q.three.place ∷ q.four.place ∷ n.place ∷ []) y) (an_item y))
      (sym (made-is x _ _ ps k.name_is))
      (row_of
      (record {
        payer_is = k.payer_is;
        payee_is = k.payee_is;
        bank_is = k.bank_is;
        variable_is = k.variable_is;
        specific_is = k.specific_is;
        constant_is = k.constant_is;
        priority_is = k.priority_is;
      })
      q.one q.two q.three q.four n l.0 l.1.0 l.1.1.0 l.1.1.1.0 k.placed.name))
