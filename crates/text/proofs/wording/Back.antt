-- What a batch may hold and the sheet can carry, `read_text` reads back from its canonical spelling. Assumes nothing.
use mathlib.Core.Path.{◌≡◌, refl, sym, ap, ◌∙◌}
use mathlib.Core.Bool.{Bool, true, false}
use mathlib.Core.List.{List, [], ◌∷◌, ◌++◌, map, append-nil}
use Prim.Native.Nat.{ℕ, ◌+◌, ◌≤◌, ◌<◌}
use native.Mathlib.Omega.{arith}
use lib.ListN.{length, take, drop, length-map}
use lib.Seq.{take_all, take-append_seam, drop-append-add}
use borrow.Author.Tests.{le-ltb}
use Rattle.base.specs.Pick.{pick}
use Rattle.base.specs.Seek.{all, starts, seek, Free}
use Rattle.base.proofs.Cases.{by-test, pick_true, pick-false, pick_same, both-pick}
use Rattle.base.proofs.Seek.{never, all_append, all_cons, free-join, starts-self, seek-join}
use Rattle.sheet.specs.declared.Style.{Style}
use Rattle.paper.specs.Read.{Field}
use Rattle.paper.specs.Warnings.{Warning, long_part, long_name}
use Rattle.paper.specs.Bytes.{is_text, av, np, bar, mark, null}
use Rattle.paper.specs.Texts.{Piece, piece, Noted, others, divide, cut, over, overs, cuts, pad, opens, taken, parts_taken, fitted, finish, message_end, message, marked, read_text, trim, join_on, joined, spell_name, spell_marked, spell_text, no_text}
use Rattle.text.specs.wording.Wording.{bytes_of, Sendable, Back}
use Rattle.text.proofs.wording.Parts.{Every, none, more, fill, bytes-pad, bytes_cut, bytes-cuts, every-trim, fill-trim, divide-join}
use Rattle.text.proofs.wording.Fit.{Fit, name-proper, name-carried, parts-fit, few-parts}
use Rattle.text.proofs.wording.Sound.{empty-fit}

-- the same answer reads the same back
reads_as : {r q : Field Noted} {parts : List (List ℕ)} {name : List ℕ} → r ≡ q → Back q parts name → Back r parts name
reads_as e b =
    record { texts = b.texts; reads = e ∙ b.reads; parts_back = b.parts_back; name_back = b.name_back; no_warning = b.no_warning }

-- short parts are not cut
over-short : (w : Warning) (p : Piece) → length p.bytes ≤ 35 → over w p ≡ []
unfolding over
over-short w p h = pick-false _ _ (le-ltb 35 (length p.bytes) h)

module _ (y : Style) where
  cut_all : {ps : List (List ℕ)} → Every (Fit y) ps → map (take 35) ps ≡ ps
  cut_all none = refl
  cut_all (more {p = p} {ps = ps} h t) = rw (take_all 35 p h.short, cut_all t)

  overs-none : (ps : List Piece) → Every (Fit y) (bytes_of ps) → overs ps ≡ []
  unfolding overs
  overs-none [] h = refl
  overs-none (p ∷ ps) (more h t) = rw (over-short long_part p h.short) (overs-none ps t)

  parts-taken : (ps : List Piece) → Every (Fit y) (bytes_of ps) → parts_taken y ps ≡ true
  unfolding parts_taken
  parts-taken [] h = refl
  parts-taken (p ∷ ps) (more h t) = both-pick (taken y p.bytes) (parts_taken y ps) h.bytes (parts-taken ps t)

  -- the joined message is text, and free of ` NP:`
  pub text-join : (p : List ℕ) {qs : List (List ℕ)} → Fit y p → Every (Fit y) qs → all is_text (join_on p qs) ≡ true
  unfolding join_on all is_text pick
  text-join p h none = h.text
  text-join p h (more {p = q} {ps = qs} i t) =
      all_append is_text p (124 ∷ join_on q qs) h.text (all_cons is_text 124 (join_on q qs) refl (text-join q i t))

  free-joined : y.names ≡ true → (p : List ℕ) {qs : List (List ℕ)} → Fit y p → Every (Fit y) qs → Free mark (join_on p qs)
  unfolding join_on all pick
  free-joined e p h none = h.marks e
  free-joined e p h (more {p = q} {ps = qs} i t) = free-join 32 np 124 refl refl p (join_on q qs) (h.marks e) (free-joined e q i t)

name-end : (n : List ℕ) → drop 4 (spell_name n) ≡ n
unfolding spell_name
name-end [] = refl
name-end (x ∷ n) = refl

text-name : (n : List ℕ) → all is_text n ≡ true → all is_text (spell_name n) ≡ true
unfolding spell_name
text-name [] h = h
text-name (x ∷ n) h = all_append is_text mark (x ∷ n) (unfold all is_text pick in refl) h

-- the message ends where its spelling does
end_back : (y : Style) (n j : List ℕ) → (y.names ≡ false → n ≡ []) → (y.names ≡ true → Free mark j) → message_end y (j ++ spell_name n) ≡ length j
unfolding message_end pick spell_name all
end_back y [] j g f = rw append-nil (by-test y.names (λ e. simp e (f e)) (λ e. simp e))
end_back y (x ∷ n) j g f =
    by-test y.names (λ e. simp e (seek-join 32 np refl j (x ∷ n) (f e))) (λ e. let h = g e in cc)

not-name : (t : List ℕ) → starts np (av ++ t) ≡ false
unfolding starts pick
not-name t = refl

module _ (y : Style) (at : ℕ) (t : List ℕ) where
  marked-name : y.names ≡ true → marked y at (np ++ t) ≡ finish y (piece at [] ∷ []) (piece (at + 3) t)
  unfolding marked
  marked-name e = pick_true _ _ (pick_true _ _ e ∙ starts-self np t)

  marked-message : marked y at (av ++ t) ≡ message y (at + 3) t
  unfolding marked
  marked-message =
      pick-false _ _ (ap (λ (b : Bool). pick y.names b false) (not-name t) ∙ pick_same y.names false)
      ∙ pick_true _ _ (starts-self av t)

every-bars : (y : Style) {ps : List (List ℕ)} → Every (Fit y) ps → Every (Free bar) ps
every-bars y none = none
every-bars y (more h t) = more h.bars (every-bars y t)

module _ (y : Style) (n : List ℕ) (short : length n ≤ 35) (some : 0 < y.most) (named : y.names ≡ false → n ≡ []) where
  finish-back : (ps : List Piece) (q : Piece) {bs : List (List ℕ)} → bytes_of ps ≡ bs → q.bytes ≡ n → Every (Fit y) bs → length bs ≤ y.most
      → Back (finish y ps q) (fill 4 bs) n
  unfolding finish fitted null
  finish-back ps q {bs = bs} e f h l =
      record {
        texts = record { parts = pad 4 (map cut ps); name = cut q; warnings = cuts ps q };
        reads = pick_true _ _ (parts-taken y ps (rw e h)) ∙ pick-false _ _ (le-ltb y.most (length ps) many) ∙ pick_true _ _ (rw none-cut (pick_same y.cuts true));
        parts_back = bytes-pad 4 (map cut ps) ∙ ap (fill 4) (bytes-cuts ps ∙ (ap (map (take 35)) e ∙ cut_all y h));
        name_back = bytes_cut q.place q.bytes ∙ (ap (take 35) f ∙ take_all 35 n short);
        no_warning = none-cut;
      }
    where
      many : length ps ≤ y.most
      many = omega (arith, ap length e, length-map ps (λ (p : Piece). p.bytes))

      none-cut : cuts ps q ≡ []
      none-cut = rw (overs-none y ps (rw e h)) (over-short long_name q (rw f short))

  message-back : (at : ℕ) (ps : List (List ℕ)) → Every (Fit y) ps → length ps ≤ y.most → Back (message y at (joined ps ++ spell_name n)) (fill 4 ps) n
  unfolding message joined fill seek others
  message-back at [] h l =
      rw (end_back y n [] named (λ e. refl), drop-append-add [] (spell_name n) 4, name-end n)
      (finish-back (piece at [] ∷ []) (piece (at + (0 + 4)) n) refl refl (more (empty-fit y) none) some)
  message-back at (p ∷ ps) (more h t) l =
      rw (end_back y n (join_on p ps) named (λ e. free-joined y e p h t), take-append_seam, drop-append-add, name-end n)
      (finish-back (divide at (join_on p ps)) (piece (at + (length (join_on p ps) + 4)) n) (divide-join at p h.bars (every-bars y t)) refl (more h t) l)

  marked-back : (at : ℕ) (ps : List (List ℕ)) → Every (Fit y) ps → length ps ≤ y.most → (ps ≡ [] → n ≡ [] → ⊥) → Back (marked y at (spell_marked ps n)) (fill 4 ps) n
  unfolding spell_marked joined fill
  marked-back at [] h l e =
      by-test y.names
      (λ f. reads_as (marked-name y at n f) (finish-back (piece at [] ∷ []) (piece (at + 3) n) refl refl (more (empty-fit y) none) some))
      (λ f. absurd (e refl (named f)))
  marked-back at (p ∷ ps) h l e = reads_as (marked-message y at (join_on p ps ++ spell_name n)) (message-back (at + 3) (p ∷ ps) h l)

  text-marked : all is_text n ≡ true → (ps : List (List ℕ)) → Every (Fit y) ps → all is_text (spell_marked ps n) ≡ true
  unfolding spell_marked all is_text pick
  text-marked t [] h = t
  text-marked t (p ∷ ps) (more h i) = all_append is_text (join_on p ps) (spell_name n) (text-join y p h i) (text-name n t)

  text-joined : all is_text n ≡ true → (ps : List (List ℕ)) → Every (Fit y) ps → all is_text (joined ps) ≡ true
  unfolding joined all
  text-joined t [] h = refl
  text-joined t (p ∷ ps) (more h i) = text-join y p h i

pub opens-marked : (ps : List (List ℕ)) (n : List ℕ) → opens (spell_marked ps n) ≡ true
unfolding opens spell_marked
opens-marked [] n = refl
opens-marked (p ∷ ps) n = refl

module _ (y : Style) (at : ℕ) (t : List ℕ) (text : all is_text t ≡ true) where
  read-marked : y.av ≡ true → opens t ≡ true → read_text y at t ≡ marked y at t
  unfolding read_text
  read-marked f o = pick_true _ _ text ∙ (pick_true _ _ f ∙ pick_true _ _ o)

  read-bare : y.av ≡ false → read_text y at t ≡ message y at t
  unfolding read_text
  read-bare f = pick_true _ _ text ∙ pick-false _ _ f

some-text : (parts : List (List ℕ)) (n : List ℕ) → no_text parts n ≡ false → trim parts ≡ [] → n ≡ [] → ⊥
unfolding no_text null pick
some-text parts n h e f = never (rw (e, f) at h)

-- Of parts and a name that the sheet can carry.
module _ (y : Style) (some : 0 < y.most) (bare : y.av ≡ false → y.names ≡ false) (parts : List (List ℕ)) (n : List ℕ) (h : Sendable y parts n) where
  fit : Every (Fit y) (trim parts)
  fit = every-trim (Fit y) (parts-fit y 0 parts h.parts-proper h.parts-carried)

  few : length (trim parts) ≤ y.most
  few = omega (arith, few-parts y 0 parts h.parts-carried)

  short : length n ≤ 35
  short = (name-proper n h.name-proper).0

  text : all is_text n ≡ true
  text = (name-proper n h.name-proper).1

  named : y.names ≡ false → n ≡ []
  named = name-carried y n h.name-carried

  whole : fill 4 (trim parts) ≡ parts
  whole = rw (← h.four) (fill-trim parts)

  marked-text : all is_text (spell_marked (trim parts) n) ≡ true
  marked-text = text-marked y n short some named text (trim parts) fit

  joined-text : all is_text (joined (trim parts)) ≡ true
  joined-text = text-joined y n short some named text (trim parts) fit

  pub spell-text : all is_text (spell_text y parts n) ≡ true
  unfolding spell_text
  spell-text = by-test y.av (λ f. ap (all is_text) (pick_true _ _ f) ∙ marked-text) (λ f. ap (all is_text) (pick-false _ _ f) ∙ joined-text)

  -- a text as it stands has no name
  joined-name : y.av ≡ false → joined (trim parts) ≡ joined (trim parts) ++ spell_name n
  unfolding spell_name
  joined-name f = rw (named (bare f)) (sym (append-nil (joined (trim parts))))

  pub back : (y.av ≡ true → no_text parts n ≡ false) → (at : ℕ) → Back (read_text y at (spell_text y parts n)) parts n
  unfolding spell_text
  back e at =
      by-test y.av
      (λ f.
      reads_as
      (ap (read_text y at) (pick_true (spell_marked (trim parts) n) (joined (trim parts)) f)
      ∙ read-marked y at (spell_marked (trim parts) n) marked-text f (opens-marked (trim parts) n))
      (filled (marked-back y n short some named at (trim parts) fit few (some-text parts n (e f)))))
      (λ f.
      reads_as
      (ap (read_text y at) (pick-false (spell_marked (trim parts) n) (joined (trim parts)) f)
      ∙ read-bare y at (joined (trim parts)) joined-text f
      ∙ ap (message y at) (joined-name f))
      (filled (message-back y n short some named at (trim parts) fit few)))
    where
      filled : {r : Field Noted} → Back r (fill 4 (trim parts)) n → Back r parts n
      filled b = rw whole at b
