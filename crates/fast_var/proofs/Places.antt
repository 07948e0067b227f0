-- Laws of places: bytes of printable ASCII in a row, the word that they are where a blank stands after them, four as one number, and
-- spaces. Assumes nothing.
use Rattle.std.proofs.Common.{◌≡◌, ℕ, zero, suc, ◌+◌, ◌-◌, ◌*◌, ◌%◌, ◌<◌, ◌≤◌, Bool, true, false, cond, not, eqb, List, [], ◌∷◌, ◌++◌, length, get_or, take, drop, sym, refl, ap, ◌∙◌, append_assoc, le_refl, add-zero, arith, length-append}
use lib.Seq.{take-length}
use Rattle.text.specs.Bytes.{bytes, is_blank, no_blank}
use Rattle.command.specs.Words.{end_mark, word_name}
use Rattle.command.specs.declared.Word.{Word}
use Rattle.text.specs.Plain.{Plain as Printable}
use Rattle.utf8.specs.Utf8.{lies, due_after, well_formed, valid_utf8}
use Rattle.text.proofs.Blanks.{solid}
use Rattle.text.proofs.Lists.{both, drop-step, one_more}
use Rattle.utf8.proofs.WellFormed.{ascii-first, empty-valid, valid-append}
use Rattle.token.specs.Read.{word}
use Rattle.token.proofs.Reading.{word-of}
use Rattle.token.proofs.Words.{word-front}
use Rattle.parser_part.specs.FastWord.{Whole}
use Rattle.fast_var.specs.FastVar.{Gap, Worded, Four, Names, Begins, Ends}

pub gap_more : (s : List ℕ) (at i : ℕ) → Gap s at i → i < length s → get_or s i 0 ≡ 32 → Gap s at (i + 1)
gap_more s at i g h e =
    record { past = omega (arith, g.past); inside = omega arith; spaces = one_more (λ j. get_or s j 0 ≡ 32) at i (i + 1) refl g.spaces e }

-- ---- the bytes w stand from `at` up to e; none is a blank, and they are UTF-8
pub record Stands (s : List ℕ) (at e : ℕ) (w : List ℕ) : Type 0 where
  pub long : at + length w ≡ e
  pub here : drop at s ≡ w ++ drop e s
  pub solid : no_blank w ≡ true
  pub text : valid_utf8 w ≡ true

pub stands-none : (s : List ℕ) (at : ℕ) → Stands s at at []
unfolding no_blank
stands-none s at = record { long = add-zero at; here = refl; solid = refl; text = empty-valid }

pub stands-byte : (s : List ℕ) (at b : ℕ) → at < length s → get_or s at 0 ≡ b → 32 < b → b < 0x80 → Stands s at (at + 1) (b ∷ [])
unfolding no_blank
stands-byte s at b h e l u =
    record { long = refl; here = rw e at (drop-step s at h); solid = rw (solid b l); text = ascii-first b [] u ∙ empty-valid }

no-blanks : (v w : List ℕ) → no_blank v ≡ true → no_blank w ≡ true → no_blank (v ++ w) ≡ true
unfolding no_blank
no-blanks [] w p q = q
no-blanks (b ∷ v) w p q = let h = both (not (is_blank b)) (no_blank v) p in rw h.0 (no-blanks v w h.1 q)

pub stands-join : {s : List ℕ} {at m e : ℕ} {v w : List ℕ} → Stands s at m v → Stands s m e w → Stands s at e (v ++ w)
stands-join {s} {at} {m} {e} {v} {w} p q =
    record {
      long = omega (arith, length-append v w, p.long, q.long);
      here = p.here ∙ ap (λ (l : List ℕ). v ++ l) q.here ∙ sym (append_assoc v w (drop e s));
      solid = no-blanks v w p.solid q.solid;
      text = valid-append v w p.text ∙ q.text;
    }

-- one byte more, and two
module _ (s : List ℕ) (at i : ℕ) (w : List ℕ) (p : Stands s at i w) where
  pub stands-more : i < length s → 33 ≤ get_or s i 0 → get_or s i 0 ≤ 126 → Stands s at (i + 1) (w ++ get_or s i 0 ∷ [])
  stands-more h l u = stands-join p (stands-byte s i (get_or s i 0) h refl (omega arith) (omega arith))

  pub stands-two : i + 1 < length s → 33 ≤ get_or s i 0 → get_or s i 0 ≤ 126 → 33 ≤ get_or s (i + 1) 0 → get_or s (i + 1) 0 ≤ 126
      → (v : List ℕ) × Stands s at (i + 2) v
  stands-two h l u m n =
      let two : i + 1 + 1 ≡ i + 2 = omega arith in
      let k = stands-join (stands-more (omega arith) l u) (stands-byte s (i + 1) (get_or s (i + 1) 0) h refl (omega arith) (omega arith)) in
      (_, rw two at k)

-- all of a run of printable ASCII
stands-run : (s : List ℕ) (at n e : ℕ) → at + n ≡ e → Printable s at e → e ≤ length s → (w : List ℕ) × Stands s at e w
stands-run s at zero e q p h = let none : e ≡ at = omega (arith, q) in ([], rw none (stands-none s at))
stands-run s at (suc n) e q p h =
    let k = stands-run s at n (at + n) refl (λ i l u. p i l (omega (arith, q))) (omega (arith, q)) in
    let b = p (at + n) (omega arith) (omega (arith, q)) in
    let next : at + n + 1 ≡ e = omega (arith, q) in
    (_, rw next at (stands-more s at (at + n) k.0 k.1 (omega (arith, q)) b.0 (omega (arith, b.1))))

-- ---- the word that they are
module _ (s : List ℕ) (at e : ℕ) (w : List ℕ) (p : Stands s at e w) (inside : e < length s) where
  word-is : is_blank (get_or s e 0) ≡ true → word (drop at s) ≡ w
  word-is b = rw (p.here, drop-step s e inside) (word-of w (get_or s e 0) (drop (e + 1) s) p.solid b)

  pub worded : at < e → get_or s e 0 ≡ 32 → Worded s at e × (word (drop at s) ≡ w)
  unfolding is_blank
  worded some b =
      let k = word-is (rw b) in
      (record { some = some; inside = inside; long = rw k p.long; ended = b; text = rw k p.text }, k)

  pub whole : at < e → e ≤ at + 32 → is_blank (get_or s e 0) ≡ true → Whole s at e × (word (drop at s) ≡ w)
  whole some few b =
      let k = word-is b in
      (record { some = some; inside = inside; few = few; long = rw k p.long; ended = b; text = rw k p.text }, k)

pub plain-worded : (s : List ℕ) (at e : ℕ) → Printable s at e → at < e → e < length s → get_or s e 0 ≡ 32 → Worded s at e
plain-worded s at e p some inside b =
    let k = stands-run s at (e - at) e (omega arith) p (omega arith) in
    (worded s at e k.0 k.1 inside some b).0

-- the bytes of a word, as a part of the input
pub word_bytes : (s : List ℕ) (at e : ℕ) → Worded s at e → take (e - at) (drop at s) ≡ word (drop at s)
word_bytes s at e p =
    let w : List ℕ = word (drop at s) in
    let n : e - at ≡ length w = omega (arith, p.long) in
    rw n (sym (word-front (drop at s) (length w) (le_refl _)) ∙ take-length w)

-- ---- the words that are known, by their bytes
abbrev Plain : List ℕ → Type 0
Plain w = (no_blank w ≡ true) × (valid_utf8 w ≡ true)

known : Plain (bytes "wire") × Plain (bytes "reg") × Plain (bytes (word_name Word.Var)) × Plain end_mark
unfolding no_blank is_blank valid_utf8 well_formed due_after lies
known = ((refl, refl), (refl, refl), (refl, refl), (refl, refl))

module _ (s : List ℕ) (at : ℕ) where
  three : (a b c : ℕ) → at + 2 < length s → get_or s at 0 ≡ a → get_or s (at + 1) 0 ≡ b → get_or s (at + 2) 0 ≡ c
      → drop at s ≡ a ∷ b ∷ c ∷ drop (at + 3) s
  three a b c h p q r =
      let one : at + 1 + 1 ≡ at + 2 = omega arith in
      let two : at + 2 + 1 ≡ at + 3 = omega arith in
      rw (drop-step s at (omega arith), p, drop-step s (at + 1) (omega arith), q, one, drop-step s (at + 2) h, r, two)

  stands-three : (a b c : ℕ) → at + 2 < length s → Plain (a ∷ b ∷ c ∷ []) → get_or s at 0 ≡ a → get_or s (at + 1) 0 ≡ b → get_or s (at + 2) 0 ≡ c
      → Stands s at (at + 3) (a ∷ b ∷ c ∷ [])
  stands-three a b c h k p q r = record { long = refl; here = three a b c h p q r; solid = k.0; text = k.1 }

  stands-four : (a b c d : ℕ) → at + 3 < length s → Plain (a ∷ b ∷ c ∷ d ∷ []) → Four s at a b c d → Stands s at (at + 4) (a ∷ b ∷ c ∷ d ∷ [])
  stands-four a b c d h k f =
      let next : at + 3 + 1 ≡ at + 4 = omega arith in
      record {
        long = refl;
        here = three a b c (omega arith) f.0 f.1 f.2 ∙ rw (drop-step s (at + 3) h, f.3, next);
        solid = k.0;
        text = k.1;
      }

  pub wire-here : Four s at 119 105 114 101 → at + 4 < length s → get_or s (at + 4) 0 ≡ 32 → Names s at "wire"
  wire-here f h b = worded s at (at + 4) _ (stands-four _ _ _ _ (omega arith) known.0 f) h (omega arith) b

  pub reg-here : Four s at 114 101 103 32 → at + 3 < length s → Names s at "reg"
  reg-here f h = worded s at (at + 3) _ (stands-three _ _ _ (omega arith) known.1 f.0 f.1 f.2) h (omega arith) f.3

  pub end-here : Four s at 36 101 110 100 → at + 4 < length s → is_blank (get_or s (at + 4) 0) ≡ true → Ends s at
  end-here f h b = whole s at (at + 4) _ (stands-four _ _ _ _ (omega arith) known.3 f) h (omega arith) (omega arith) b

pub var-here : (s : List ℕ) (at : ℕ) → Four s at 36 118 97 114 → at + 4 < length s → get_or s (at + 4) 0 ≡ 32 → Begins s at
var-here s at f h b =
    let one : at + 1 + 1 ≡ at + 2 = omega arith in
    let two : at + 1 + 2 ≡ at + 3 = omega arith in
    let last : at + 1 + 3 ≡ at + 4 = omega arith in
    let there = stands-three s (at + 1) _ _ _ (omega arith) known.2 f.1 (rw one f.2) (rw two f.3) in
    (f.0, worded s (at + 1) (at + 1 + 3) _ there (omega arith) (omega arith) (rw last b))

-- ---- four bytes as one number
abbrev quad : ℕ → ℕ → ℕ → ℕ → ℕ
quad a b c d = a + 256 * b + 65536 * c + 16777216 * d

abbrev quad_at : List ℕ → ℕ → ℕ
quad_at s at = quad (get_or s at 0) (get_or s (at + 1) 0) (get_or s (at + 2) 0) (get_or s (at + 3) 0)

-- the first is odd in `wire`, even in `reg`
abbrev pub odd : List ℕ → ℕ → Bool
odd s at = eqb (get_or s at 0 % 2) 1

first-same : (a m b n : ℕ) → a < 256 → b < 256 → a + 256 * m ≡ b + 256 * n → (a ≡ b) × (m ≡ n)
first-same a m b n p q e = (omega arith, omega arith)

module _ (s : List ℕ) (at : ℕ) (all : (i : ℕ) → get_or s i 0 < 256) where
  pub quad-same : (a b c d : ℕ) → a < 256 → b < 256 → c < 256 → quad_at s at ≡ quad a b c d → Four s at a b c d
  quad-same a b c d p q r e =
      let z : ℕ = get_or s (at + 3) 0 in
      let y : ℕ = get_or s (at + 2) 0 + 256 * z in
      let x : ℕ = get_or s (at + 1) 0 + 256 * y in
      let i = first-same (get_or s at 0) x a (b + 256 * (c + 256 * d)) (all at) p (omega (arith, e)) in
      let j = first-same (get_or s (at + 1) 0) y b (c + 256 * d) (all (at + 1)) q i.1 in
      let k = first-same (get_or s (at + 2) 0) z c d (all (at + 2)) r j.1 in
      (i.0, j.0, k.0, k.1)

  pub usual-here : (wire : Bool) → at + 4 < length s → quad_at s at ≡ cond wire (quad 119 105 114 101) (quad 114 101 103 32)
      → get_or s (at + cond wire 4 3) 0 ≡ 32 → cond wire (Names s at "wire") (Names s at "reg")
  usual-here true h e b = wire-here s at (quad-same 119 105 114 101 (omega arith) (omega arith) (omega arith) e) h b
  usual-here false h e b = reg-here s at (quad-same 114 101 103 32 (omega arith) (omega arith) (omega arith) e) (omega arith)
