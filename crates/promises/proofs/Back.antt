-- What was laid out reads back, part by part. `Before s c l r e`: l is to be read, then r, and after l the cursor is e.
-- Each law takes one part off l, and goes on with whatever the plan does next. Assumes nothing.
use Rattle.std.specs.Prelude.{Some, None, Ok}
use Prim.Native.Nat.{ℕ, ◌≤◌, ◌<◌}
use mathlib.Core.Path.{◌≡◌, refl, sym, ap, ◌∙◌}
use mathlib.Core.Bool.{true, false, false≢true}
use mathlib.Core.List.{List, [], ◌∷◌, ◌++◌, append_assoc}
use native.Mathlib.Omega.{arith}
use borrow.Author.Tests.{lt-ltb, le-ltb}
use lib.ListN.{length, drop, get_or, length-append, length-drop}
use lib.Seq.{take-append-add, drop-append_seam}
use Rattle.text.specs.Bytes.{is_blank, bytes, equal, has, starts, holds, up_to, all_blank, no_blank, is_token}
use Rattle.command.specs.Words.{end_mark}
use Rattle.text.specs.Texts.{limit, part}
use Rattle.utf8.specs.Utf8.{valid_utf8}
use Rattle.text.specs.declared.Text.{Text}
use Rattle.text.proofs.Lists.{both, not-swap}
use Rattle.text.proofs.Equal.{starts-cut}
use Rattle.command.specs.Meaning.{Meaning, begin, end, meaning, open_after}
use Rattle.command.specs.declared.Command.{Command}
use Rattle.command.specs.declared.SimulationCommand.{SimulationCommand}
use Rattle.token.specs.Read.{Bound, most, passed, Valid, end_read, after, rest, gap, skipped, word_here, token, text_to, text_from}
use Rattle.token.specs.declared.Cursor.{Cursor}
use Rattle.token.proofs.Reading.{place_after, after-append, rest-after, part-here, head_of, gap_of, word-of, up_to-of}
use Rattle.token.proofs.Tokens.{token-text}
use Rattle.parser_part.specs.Plan.{Plan, answer, begins, ends, a_token, a_text, a_word, closing, run, word_plan, kind_of, kind_plan, with_open}
use Rattle.command.specs.Words.{word_of}
use Rattle.parser.specs.Next.{next_of, found, next_from}
use Rattle.parser.specs.All.{Said, said, done, says}
use Rattle.command.specs.declared.Word.{Word}
use Rattle.parser.proofs.Ahead.{valid-good}
use Rattle.promises.specs.Stated.{core}

pub record Before (s : List ℕ) (c : Cursor) (l r : List ℕ) (e : Cursor) : Type 0 where
  pub left : rest s c ≡ l ++ r
  pub ends : after l c ≡ e

-- the bytes a were read of a ++ l
pub advanced : (s a l r : List ℕ) (c e : Cursor) → Before s c (a ++ l) r e → Before s (after a c) l r e
advanced s a l r c e h =
    record { left = rest-after s a (l ++ r) c (h.left ∙ append_assoc a l r); ends = sym (after-append a l c) ∙ h.ends }

-- a token stands here, and a blank after it
token-reads : (s : List ℕ) (c : Cursor) (n : Bound) (x : ℕ) (w : List ℕ) (b : ℕ) (r : List ℕ) → rest s c ≡ (x ∷ w) ++ b ∷ r → is_blank x ≡ false → no_blank (x ∷ w) ≡ true
    → is_blank b ≡ true → length (x ∷ w) ≤ passed n (x ∷ w) → token s c n ≡ Ok (record { start = c.place; len = length (x ∷ w) }, after ((x ∷ w) ++ b ∷ []) c)
unfolding token word_here skipped after all_blank
token-reads s c n x w b r left solid p q len =
    let none : gap (rest s c) ≡ [] = rw left (gap_of [] x (w ++ b ∷ r) refl solid) in
    let longer : length (x ∷ w) < length ((x ∷ w) ++ b ∷ r) = omega (arith, length-append w (b ∷ r)) in
    rw (none, left, word-of (x ∷ w) b r p q, token-text (x ∷ w) ((x ∷ w) ++ b ∷ r) c n len longer, take-append-add (x ∷ w) (b ∷ r) 1)

-- a text without `$end` stands here, a byte that `$end` has not, and `$end`
text-reads : (s : List ℕ) (c : Cursor) (a : List ℕ) (b : ℕ) (r : List ℕ) → rest s c ≡ a ++ b ∷ (end_mark ++ r) → holds end_mark a ≡ false → has end_mark b ≡ false
    → text_from s c ≡ Ok (record { start = c.place; len = length (a ++ b ∷ []) }, after ((a ++ b ∷ []) ++ end_mark) c)
unfolding text_from text_to starts has
text-reads s c a b r left p q =
    let head : starts end_mark (b ∷ (end_mark ++ r)) ≡ false = starts-cut end_mark [] b (end_mark ++ r) q in
    let before : up_to end_mark (rest s c) ≡ a ++ b ∷ [] = rw left (up_to-of end_mark a b r p q head) in
    let behind : drop (length (a ++ b ∷ [])) (a ++ b ∷ (end_mark ++ r)) ≡ end_mark ++ r = rw (← append_assoc a (b ∷ []) (end_mark ++ r)) (drop-append_seam (a ++ b ∷ []) (end_mark ++ r)) in
    rw (before, left, behind, after-append (a ++ b ∷ []) end_mark c)

module _ (s : List ℕ) (r : List ℕ) (e : Cursor) (y : Said) where
  -- ---- a token and the blank after it
  pub by_token : (c : Cursor) (n : Bound) (f : Text → List ℕ → Plan) (w : List ℕ) (b : ℕ) (l : List ℕ) → Before s c (w ++ b ∷ l) r e → is_token w ≡ true → is_blank b ≡ true
      → length w ≤ passed n w → ((t : Text) (d : Cursor) → part s t ≡ w → Before s d l r e → says s (next_of (run (f t w) s d)) ≡ y) → says s (next_of (run (a_token n f) s c)) ≡ y
  unfolding run is_token no_blank
  by_token c n f [] b l h p q len k = absurd (false≢true p)
  by_token c n f (x ∷ w) b l h p q len k =
      let v : List ℕ = x ∷ w in
      let solid : is_blank x ≡ false = not-swap (is_blank x) (both _ (no_blank w) p).0 in
      let left : rest s c ≡ v ++ b ∷ (l ++ r) = h.left ∙ append_assoc v (b ∷ l) r in
      let t : Text = record { start = c.place; len = length v } in
      let is : part s t ≡ v = part-here s v (b ∷ (l ++ r)) c.place left in
      let step : Before s (after (v ++ b ∷ []) c) l r e = advanced s (v ++ b ∷ []) l r c e (rw (append_assoc v (b ∷ []) l) h) in
      rw (token-reads s c n x w b (l ++ r) left solid p q len, is) (k t (after (v ++ b ∷ []) c) is step)

  -- ---- the same where it must be UTF-8
  pub by_word : (c : Cursor) (n : Bound) (f : Text → List ℕ → Plan) (w : List ℕ) (b : ℕ) (l : List ℕ) → Before s c (w ++ b ∷ l) r e → is_token w ≡ true → is_blank b ≡ true
      → length w ≤ passed n w → valid_utf8 w ≡ true → ((t : Text) (d : Cursor) → part s t ≡ w → Before s d l r e → says s (next_of (run (f t w) s d)) ≡ y) → says s (next_of (run (a_word n f) s c)) ≡ y
  by_word c n f w b l h p q len u k = by_token c n _ w b l h p q len (λ t d is g. rw u (k t d is g))

  -- ---- a text up to the first `$end`
  pub by-text : (c : Cursor) (f : Text → List ℕ → Plan) (a : List ℕ) (b : ℕ) (l : List ℕ) → Before s c (a ++ b ∷ (end_mark ++ l)) r e
      → holds end_mark a ≡ false → has end_mark b ≡ false
      → ((t : Text) (d : Cursor) → part s t ≡ a ++ b ∷ [] → Before s d l r e → says s (next_of (run (f t (a ++ b ∷ [])) s d)) ≡ y) → says s (next_of (run (a_text f) s c)) ≡ y
  unfolding run
  by-text c f a b l h p q k =
      let v : List ℕ = a ++ b ∷ [] in
      let left : rest s c ≡ a ++ b ∷ (end_mark ++ (l ++ r)) = h.left ∙ append_assoc a (b ∷ (end_mark ++ l)) r in
      let t : Text = record { start = c.place; len = length v } in
      let is : part s t ≡ v = part-here s v (end_mark ++ (l ++ r)) c.place (left ∙ sym (append_assoc a (b ∷ []) (end_mark ++ (l ++ r)))) in
      let step : Before s (after (v ++ end_mark) c) l r e = advanced s (v ++ end_mark) l r c e (rw (append_assoc v end_mark l, append_assoc a (b ∷ []) (end_mark ++ l)) h) in
      rw (text-reads s c a b (l ++ r) left p q, is) (k t (after (v ++ end_mark) c) is step)

  -- ---- blanks and the first byte
  pub by_first : (c : Cursor) (g : List ℕ) (b : ℕ) (l : List ℕ) → Valid s c → Before s c (g ++ b ∷ l) r e → all_blank g ≡ true → is_blank b ≡ false
      → ((d : Cursor) → Before s d l r e → says s (next_of (run (kind_plan (kind_of b)) s d)) ≡ y) → says s (next_from s c) ≡ y
  unfolding next_from found skipped after
  by_first c g b l v h p q k =
      let left : rest s c ≡ g ++ b ∷ (l ++ r) = h.left ∙ append_assoc g (b ∷ l) r in
      let front : gap (rest s c) ≡ g = rw left (gap_of g b (l ++ r) p q) in
      let behind : rest s (after g c) ≡ b ∷ (l ++ r) = rest-after s g (b ∷ (l ++ r)) c left in
      let room : (after g c).place < length s = omega (arith, ap length behind, length-drop (after g c).place s) in
      let first : get_or s (after g c).place 0 ≡ b = head_of s (l ++ r) (after g c).place b behind in
      let step : Before s (after (b ∷ []) (after g c)) l r e = advanced s (b ∷ []) l r (after g c) e (advanced s g (b ∷ l) r c e h) in
      rw (valid-good s c v, front, lt-ltb _ _ room, first) (k _ step)

-- ---- the ends: the command, and the closing before it
module _ (s : List ℕ) (r : List ℕ) (e : Cursor) (m : Meaning) (k : Command) (is : meaning s k ≡ m) where
  pub by_answer : (c : Cursor) → Before s c [] r e → says s (next_of (run (answer k) s c)) ≡ said m e
  unfolding run after
  by_answer c h = rw (is, h.ends)

  pub by-closing : (c : Cursor) → Before s c (bytes "$end\n") r e → says s (next_of (run (closing k) s c)) ≡ said m e
  unfolding is_blank equal is_token no_blank
  by-closing c h = by_token s r e (said m e) c (most 8) _ end_mark 10 [] h refl refl (omega arith) (λ t d q g. by_answer d g)

module _ (s : List ℕ) (r : List ℕ) (e : Cursor) (k : SimulationCommand) (c : Cursor) (h : Before s c [] r e) where
  pub by-begins : says s (next_of (run (begins k) s c)) ≡ said (begin k) (with_open e (Some k))
  unfolding run after
  by-begins = rw h.ends

  pub by-ends : e.sim ≡ Some k → says s (next_of (run ends s c)) ≡ said (end k) (with_open e None)
  unfolding run after
  by-ends o = rw (h.ends, o)

-- only blanks are left: the end
gap-all : (g : List ℕ) → all_blank g ≡ true → gap g ≡ g
unfolding gap all_blank
gap-all [] p = refl
gap-all (x ∷ g) p =
    let h = both (is_blank x) (all_blank g) p in
    rw h.0 (ap (λ (l : List ℕ). x ∷ l) (gap-all g h.1))

pub by_end : (s : List ℕ) (c : Cursor) → Valid s c → all_blank (rest s c) ≡ true → says s (next_from s c) ≡ done (end_read (after (rest s c) c))
unfolding next_from found skipped
by_end s c v p =
    let all : length s ≤ (after (rest s c) c).place = omega (arith, place_after (rest s c) c, length-drop c.place s, v.within) in
    rw (valid-good s c v, gap-all (rest s c) p, le-ltb _ _ all)

-- ---- a command's layout, after the blanks g, reads back: the core is to be read, and after it the cursor is e
abbrev pub Back : List ℕ → List ℕ → List ℕ → Cursor → Cursor → Meaning → Type 0
Back s g r c e m = Before s c (g ++ core m) r e → says s (next_from s c) ≡ said m (with_open e (open_after m e.sim))

-- a part is no longer than the input
pub fits : (s : List ℕ) (c d : Cursor) (w l r : List ℕ) (e : Cursor) → Valid s c → Before s d (w ++ l) r e → length w ≤ limit
fits s c d w l r e v h =
    omega (arith, v.short, length-drop d.place s, ap length h.left, length-append (w ++ l) r, length-append w l)

-- `$` and a word
module _ (s g r : List ℕ) (c e : Cursor) (v : Valid s c) (p : all_blank g ≡ true) where
  pub by-dollar : (y : Said) (k : Word) (w : List ℕ) (b : ℕ) (l : List ℕ) → Before s c (g ++ 36 ∷ (w ++ b ∷ l)) r e → is_token w ≡ true → is_blank b ≡ true
      → length w ≤ 16 → word_of w ≡ k → ((d : Cursor) → Before s d l r e → says s (next_of (run (word_plan k) s d)) ≡ y) → says s (next_from s c) ≡ y
  unfolding kind_of has is_blank
  by-dollar y k w b l h q z n is f =
      by_first s r e y c g 36 (w ++ b ∷ l) v h p refl
      λ d a. by_token s r e y d (most 16) _ w b l a q z n
      λ t d i a. rw is (f d a)
