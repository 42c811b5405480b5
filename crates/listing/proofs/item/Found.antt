-- What an item's line warns of is its priority digit, its parts and its name, one after another. Assumes nothing.
use mathlib.Core.Path.{◌≡◌, refl, sym, ap, ◌∙◌}
use mathlib.Core.Bool.{Bool, true, false}
use mathlib.Core.List.{List, [], ◌∷◌, ◌++◌, map, append-nil}
use Prim.Native.Nat.{ℕ, suc, ◌/◌, ◌%◌, ◌≤◌}
use native.Mathlib.Omega.{arith}
use lib.Dec.{ltb, eqb}
use lib.ListN.{length, take, drop, length-drop}
use lib.Seq.{length-take-le}
use borrow.Author.Tests.{eqb-true}
use Rattle.base.specs.Pick.{pick}
use Rattle.base.proofs.Cases.{by-test}
use Rattle.base.proofs.Seek.{never}
use Rattle.sheet.specs.declared.Sheet.{Sheet}
use Rattle.paper.specs.Read.{value, fault}
use Rattle.paper.specs.Warnings.{low_priority, Notice, notices}
use Rattle.paper.specs.Bytes.{field_of}
use Rattle.paper.specs.Numerals.{digits}
use Rattle.paper.specs.BankField.{Bank, ninth, read_bank}
use Rattle.paper.specs.Texts.{Piece, piece}
use Rattle.paper.specs.Lines.{line}
use Rattle.paper.specs.Entries.{Entry, Places, Listed, counted, on_item, on_entry}
use Rattle.paper.specs.ItemLine.{is_value, places, read_item}
use Rattle.paper.proofs.Passing.{same_parts}
use Rattle.numeral.specs.placed.Said.{is_said}
use Rattle.numeral.proofs.Sound.{read-on}
use Rattle.numeral.proofs.given.Given.{value-fault, value_same, given-value}
use Rattle.text.specs.declared.span.Span.{Span}
use Rattle.text.specs.declared.span.Spans.{Spans}
use Rattle.text.specs.span.Held.{piece_at, texts_at, Within, Held}
use Rattle.itemline.specs.declared.Fields.{Fields}
use Rattle.itemline.specs.Told.{told}
use Rattle.itemline.specs.Walk.{any_bank}
use Rattle.why.specs.declared.Finding.{Finding}
use Rattle.why.specs.Forms.{or_zero, spelled}
use Rattle.why.specs.Warned.{on_listed, part_from, warned, noticed}
use Rattle.listing.specs.item.Warned.{item_warned}
use Rattle.listing.specs.item.Found.{bank_place, digit_warned, priority_warned, cut_warned, part_warned, parts_warned, name_warned, texts_warned}
use Rattle.listing.proofs.item.Notices.{over_at, part_at, parts_at, name_at}
use Rattle.listing.proofs.item.Lines.{Says, says, unread, item-says}

-- ---- the bank field: what it says comes of its number

module _ (n : ℕ) (x : Bank) where
  abbrev counts : ℕ → ℕ
  counts d = pick (ltb d 1) 0 (pick (ltb d 3) 1 0)

  ninth-counts : (ranked : Bool) → ninth ranked (n / 100000000) (n / 10000 % 10000) (n % 10000) ≡ value x → x.warnings ≡ counts (n / 100000000)
  unfolding ninth pick
  ninth-counts true e = ap (λ (b : Bank). b.warnings) (sym (value_same _ x e))
  ninth-counts false e =
      by-test (eqb (n / 100000000) 0)
      (λ t.
      let z : n / 100000000 ≡ 0 = eqb-true (n / 100000000) 0 t in
      rw z (ap (λ (b : Bank). b.warnings) (sym (value_same _ x (simp t at e)))))
      (λ t. value-fault x 13 (sym (simp t at e)))

  behind-digits : (ranked : Bool)
      → pick (eqb (n / 10000 % 10000) 0) (fault 12) (pick (ltb 999999999 n) (fault 13) (ninth ranked (n / 100000000) (n / 10000 % 10000) (n % 10000))) ≡ value x
      → x.warnings ≡ counts (n / 100000000)
  unfolding pick
  behind-digits ranked e =
      by-test (eqb (n / 10000 % 10000) 0)
      (λ t. value-fault x 12 (sym (simp t at e)))
      (λ t. by-test (ltb 999999999 n) (λ u. value-fault x 13 (sym (simp (t, u) at e))) (λ u. ninth-counts ranked (simp (t, u) at e)))

bank-number : (ranked : Bool) (s : List ℕ) (x : Bank) → read_bank ranked s ≡ value x → (n : ℕ) × (digits 8 10 s ≡ value n) × (x.warnings ≡ counts n x (n / 100000000))
unfolding read_bank
bank-number ranked s x e =
    let m = given-value _ (digits 8 10 s) x e in
    (m.0, m.1, behind-digits m.0 x ranked m.2)

-- digits that have a number spell it
pub spells : (s : List ℕ) (n : ℕ) → digits 8 10 s ≡ value n → spelled s ≡ n
unfolding or_zero
spells s n e = rw (read-on 8 10 s n e)

-- ---- pieces are known by their places and bytes

cons_same : {A : Type 0} (x y : A) (xs ys : List A) → x ∷ xs ≡ y ∷ ys → (x ≡ y) × (xs ≡ ys)
cons_same x y xs ys e = (cc, cc)

piece-same : (p q : Piece) → p.place ≡ q.place → p.bytes ≡ q.bytes → p ≡ q
piece-same p q e f = let z : piece p.place p.bytes ≡ piece q.place q.bytes = rw (e, f) in z

pieces-same : (ps qs : List Piece) → map (λ (p : Piece). p.place) ps ≡ map (λ (p : Piece). p.place) qs → map (λ (p : Piece). p.bytes) ps ≡ map (λ (p : Piece). p.bytes) qs → ps ≡ qs
pieces-same [] [] e f = refl
pieces-same [] (q ∷ qs) e f = absurd (let z : 0 ≡ suc (length (map (λ (p : Piece). p.place) qs)) = ap length e in omega arith)
pieces-same (p ∷ ps) [] e f = absurd (let z : suc (length (map (λ (p : Piece). p.place) ps)) ≡ 0 = ap length e in omega arith)
pieces-same (p ∷ ps) (q ∷ qs) e f =
    let a = cons_same _ _ _ _ e in
    let b = cons_same _ _ _ _ f in
    rw (piece-same p q a.0 b.0, pieces-same ps qs a.1 b.1)

map-append : {A B : Type 0} (f : A → B) (a b : List A) → map f (a ++ b) ≡ map f a ++ map f b
map-append f [] b = refl
map-append f (x ∷ a) b = ap (λ (l : List _). f x ∷ l) (map-append f a b)

-- ---- findings for notices

module _ (sh : Sheet) (today k start : ℕ) (w : List ℕ) (p : Places) where
  abbrev found : List Notice → List Finding
  found ns = map (noticed sh today k (line start w) p) ns

  priority-found : (off : ℕ) (b : Bank) → read_bank sh.priority (field_of (drop off w)) ≡ value b → found (notices low_priority off b.warnings) ≡ priority_warned k (line start w) off
  unfolding priority_warned digit_warned notices warned pick
  priority-found off b e =
      let (n, d, c) = bank-number sh.priority (field_of (drop off w)) b e in
      let z : spelled (field_of (drop off w)) ≡ n = spells (field_of (drop off w)) n d in
      rw (c, z)
      (by-test (ltb (n / 100000000) 1) (λ t. rw t) (λ t. by-test (ltb (n / 100000000) 3) (λ u. rw (t, u, z)) (λ u. rw (t, u))))

  module _ (x : Span) (h : Within w x) where
    kept-long : length (take x.len (drop x.at w)) ≡ x.len
    kept-long = length-take-le x.len (drop x.at w) (omega (arith, length-drop x.at w))

    part-found : found (part_at sh.text w (piece_at w x)) ≡ part_warned sh.text k (line start w) p.parts x
    unfolding over_at part_warned cut_warned warned pick
    part-found =
        rw kept-long
        (by-test (ltb x.len 35) (λ t. rw t)
        (λ t. by-test (ltb 35 (length (part_from sh.text (drop x.at w)))) (λ u. rw (t, u)) (λ u. rw (t, u))))

    name-found : found (name_at sh.text w (piece_at w x)) ≡ name_warned k (line start w) x
    unfolding over_at name_warned cut_warned warned pick
    name-found =
        rw kept-long
        (by-test (ltb x.len 35) (λ t. rw t)
        (λ t. by-test (ltb 35 (length (drop x.at w))) (λ u. rw (t, u)) (λ u. rw (t, u))))

-- all of a text's
module _ (sh : Sheet) (today k start : ℕ) (w : List ℕ) (x : Spans) (h : Held w x) where
  abbrev all : List Notice → List Finding
  all = found sh today k start w (places (texts_at w x))

  parts-found : all (parts_at sh.text w (texts_at w x).parts) ≡ parts_warned sh.text k (line start w) x
  unfolding parts_at parts_warned
  parts-found =
      let at = part_at sh.text w in
      let one = part-found sh today k start w (places (texts_at w x)) in
      let a = at (piece_at w x.part1) in
      let b = at (piece_at w x.part2) in
      let c = at (piece_at w x.part3) in
      let d = at (piece_at w x.part4) in
      rw (
        append-nil d,
        map-append (noticed sh today k (line start w) (places (texts_at w x))) a (b ++ (c ++ d)),
        map-append (noticed sh today k (line start w) (places (texts_at w x))) b (c ++ d),
        map-append (noticed sh today k (line start w) (places (texts_at w x))) c d,
        one x.part1 h.first,
        one x.part2 h.second,
        one x.part3 h.third,
        one x.part4 h.fourth,
      )

  texts-found : all (parts_at sh.text w (texts_at w x).parts ++ name_at sh.text w (texts_at w x).name) ≡ texts_warned sh.text k (line start w) x
  unfolding texts_warned
  texts-found =
      map-append (noticed sh today k (line start w) (places (texts_at w x))) (parts_at sh.text w (texts_at w x).parts) (name_at sh.text w (texts_at w x).name)
      ∙ rw (parts-found, name-found sh today k start w (places (texts_at w x)) x.name h.named)

-- ---- the whole line: x are the fields that were taken of it

module _ (sh : Sheet) (today k start : ℕ) (w : List ℕ) (x : Fields) (h : Held w x.texts) (off : ℕ) where
  abbrev listing : Listed → List Finding
  listing r = on_listed r (λ z. map (noticed sh today k (line start w) z.places) z.warnings) []

  abbrev item_parts : Entry → List (List ℕ)
  item_parts e = on_item e (λ i. i.parts) [] []

  abbrev item_name : Entry → List ℕ
  item_name e = on_item e (λ i. i.name) [] []

  said-found : (r : Listed) → Says sh w off r → told w x ≡ counted r → listing r ≡ priority_warned k (line start w) off ++ texts_warned sh.text k (line start w) x.texts
  unfolding on_listed counted on_item on_entry
  said-found r (says b t rb kw) g =
      let (e, _, q) = same_parts g in
      let ps : (texts_at w x.texts).parts ≡ t.parts = pieces-same _ _ (ap (λ (p : Places). p.parts) q) (ap item_parts e) in
      let n : (texts_at w x.texts).name ≡ t.name = piece-same _ _ (ap (λ (p : Places). p.name) q) (ap item_name e) in
      map-append (noticed sh today k (line start w) (places t)) (notices low_priority off b.warnings) t.warnings
      ∙ rw (kw, priority-found sh today k start w (places t) off b rb, ← q, ← ps, ← n, texts-found sh today k start w x.texts h)
  said-found r unread g = absurd (let z : ◌≡◌ {A = ℕ} 0 1 = cc in omega arith)

-- put_warnings
module _ (sh : Sheet) (single : Bool) (w : List ℕ) (four : sh.text.most ≤ 4) where
  pub item-found : (today k start : ℕ) (x : Fields) → Held w x.texts → told w x ≡ counted (read_item sh any_bank single w)
      → item_warned sh today k (line start w) single ≡ priority_warned k (line start w) (bank_place single w) ++ texts_warned sh.text k (line start w) x.texts
  unfolding item_warned
  item-found today k start x h g = said-found sh today k start w x h (bank_place single w) _ (item-says sh w four single) g

  bank-there : (r : Listed) → Says sh w (bank_place single w) r → is_said r ≡ true → is_value (digits 8 10 (field_of (drop (bank_place single w) w))) ≡ true
  unfolding is_said is_value
  bank-there r (says b t rb kw) g = let (n, d, c) = bank-number sh.priority (field_of (drop (bank_place single w) w)) b rb in rw d
  bank-there r unread g = never (sym g)

  -- b is where bank_place found it
  pub bank-read : (b : ℕ) → b ≡ bank_place single w → is_said (read_item sh any_bank single w) ≡ true → is_value (digits 8 10 (field_of (drop b w))) ≡ true
  bank-read b e g = rw e (bank-there _ (item-says sh w four single) g)
