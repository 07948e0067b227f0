-- What is written reads back: one command, and commands in order. Assumes nothing.
use Prim.Native.Nat.{ℕ, ◌+◌, ◌≤◌}
use mathlib.Core.Path.{◌≡◌, refl, sym, ap, ◌∙◌}
use mathlib.Core.Bool.{true, not, ◌&&◌}
use mathlib.Core.List.{List, [], ◌∷◌, ◌++◌, append_assoc, append-nil}
use native.Mathlib.Omega.{arith}
use borrow.Author.Tests.{leb-true}
use lib.Dec.{leb, eqb}
use lib.ListN.{length, length-append, length-drop}
use Rattle.text.specs.Bytes.{bytes, is_blank, all_blank, holds}
use Rattle.command.specs.Words.{spoken, end_mark}
use Rattle.utf8.specs.Utf8.{valid_utf8}
use Rattle.text.proofs.Lists.{both, not-swap}
use Rattle.real.specs.Real.{is_real}
use Rattle.command.specs.Meaning.{Meaning, remark, timescale, scope_def, upscope, var_def, enddefinitions, timestamp, change, scalar, vector, real, string, begin, end, remark_word, open_after}
use Rattle.token.specs.Read.{Valid, after, rest}
use Rattle.token.specs.declared.Cursor.{Cursor}
use Rattle.token.proofs.Reading.{rest-after, sim-after, valid-after}
use Rattle.parser.specs.Next.{fresh as start}
use Rattle.parser.specs.All.{reads, read_all, exactly}
use Rattle.parser.proofs.Ahead.{valid-open}
use Rattle.parser.proofs.All.{read-on, read-end}
use Rattle.write_check.specs.Check.{is_remark, is_trimmed, is_name, is_vector, is_short_real}
use Rattle.write.specs.Layout.{layout, is_id, writable, state_after, fresh}
use Rattle.write.specs.Run.{layouts, Sized, Accepted}
use Rattle.write.specs.declared.Writer.{Writer}
use Rattle.promises.specs.Stated.{due, core, cursor_after, OneBack, WrittenRead}
use Rattle.promises.proofs.Back.{Before, Back, by_end}
use Rattle.promises.proofs.Changes.{timestamp-back, scalar-back, vector-back, real-back, string-back}
use Rattle.promises.proofs.Declarations.{upscope-back, enddefinitions-back, begin-back, end_back, remark-back, timescale-back, scope-back, var-back}

-- ---- one command
-- a layout is what reading takes, and what is due then
pub layout_is : (m : Meaning) (r : List ℕ) → layout m ++ r ≡ core m ++ (due m ++ r)
unfolding layout
layout_is (remark k t) r =
    append_assoc (spoken (remark_word k)) (bytes "\n    " ++ (t ++ bytes "\n$end\n")) r
    ∙ ap (λ z. spoken (remark_word k) ++ (bytes "\n    " ++ z)) (append_assoc t (bytes "\n$end\n") r ∙ sym (append_assoc t (bytes "\n" ++ end_mark) (bytes "\n" ++ r)))
    ∙ sym (append_assoc (spoken (remark_word k)) (bytes "\n" ++ ((bytes "    " ++ t) ++ (bytes "\n" ++ end_mark))) (bytes "\n" ++ r))
layout_is (timescale n u) r = refl
layout_is (scope_def k t) r = refl
layout_is upscope r = refl
layout_is (var_def k n i t x) r = refl
layout_is enddefinitions r = refl
layout_is (timestamp n) r = refl
layout_is (change i v) r = refl
layout_is (begin k) r = refl
layout_is (end k) r = refl

due-blank : (m : Meaning) → all_blank (due m) ≡ true
unfolding all_blank is_blank
due-blank (remark k t) = refl
due-blank (timescale n u) = refl
due-blank (scope_def k t) = refl
due-blank upscope = refl
due-blank (var_def k n i t x) = refl
due-blank enddefinitions = refl
due-blank (timestamp n) = refl
due-blank (change i v) = refl
due-blank (begin k) = refl
due-blank (end k) = refl

module _ (w : Writer) (s g r : List ℕ) (c e : Cursor) (v : Valid s c) (o : e.sim ≡ w.sim) (p : all_blank g ≡ true) where
  reads-back : (m : Meaning) → writable w m ≡ true → Sized m → Back s g r c e m
  unfolding is_remark is_short_real
  reads-back (remark k t) q z h =
      let a = both (valid_utf8 t && is_trimmed t) (not (holds end_mark t)) q in
      let b = both (valid_utf8 t) (is_trimmed t) a.0 in
      remark-back s g r c e v p k t b.0 b.1 (not-swap _ a.1) h
  reads-back (timescale n u) q z h = timescale-back s g r c e v p n u (leb-true _ _ q) z h
  reads-back (scope_def k t) q z h = scope-back s g r c e v p k t (both (is_name t) (not (leb 64 w.depth)) q).0 h
  reads-back upscope q z h = upscope-back s g r c e v p h
  reads-back (var_def k n i t x) q z h =
      let a = both (is_id i && is_name t) (not (eqb w.depth 0)) q in
      let b = both (is_id i) (is_name t) a.0 in
      var-back s g r c e v p k n i t x z.0 b.0 z.1 b.1 z.2 h
  reads-back enddefinitions q z h = enddefinitions-back s g r c e v p h
  reads-back (timestamp n) q z h = timestamp-back s g r c e v p n z h
  reads-back (change i (scalar x)) q z h = scalar-back s g r c e v p i x (both (is_id i) true q).0 z h
  reads-back (change i (vector x)) q z h =
      let a = both (is_id i) (is_vector x) q in
      vector-back s g r c e v p i x a.0 z a.1 h
  reads-back (change i (real x)) q z h =
      let a = both (is_id i) (is_real x && leb (length x) 32) q in
      let b = both (is_real x) (leb (length x) 32) a.1 in
      real-back s g r c e v p i x a.0 z b.0 (leb-true _ _ b.1) h
  reads-back (change i (string x)) q z h =
      let a = both (is_id i) (is_name x) q in
      string-back s g r c e v p i x a.0 z a.1 h
  reads-back (begin k) q z h = begin-back s g r c e v p k h
  reads-back (end k) q z h = end_back s g r c e v p k (rw o q) h

-- where the layout stands, its core is to be read
stands : (m : Meaning) (s g r : List ℕ) (c : Cursor) → rest s c ≡ g ++ (layout m ++ r) → Before s c (g ++ core m) (due m ++ r) (after (g ++ core m) c)
stands m s g r c h = record { left = h ∙ ap (λ (l : List ℕ). g ++ l) (layout_is m r) ∙ sym (append_assoc g (core m) (due m ++ r)); ends = refl }

pub one-back : OneBack
one-back m w s g r c q z v o p h =
    reads-back w s g (due m ++ r) c (after (g ++ core m) c) v (sim-after (g ++ core m) c ∙ o) p m q z (stands m s g r c h)

-- ---- commands in order
all_back : (ms : List Meaning) (w : Writer) (s g : List ℕ) (c : Cursor) → Accepted w ms → Valid s c → c.sim ≡ w.sim → all_blank g ≡ true → rest s c ≡ g ++ layouts ms
    → read_all s c ≡ exactly ms
unfolding layouts exactly state_after
all_back [] w s g c a v o p h = read-end s c _ (by_end s c v (rw (h, append-nil g) p))
all_back (m ∷ ms) w s g c a v o p h =
    let l : List ℕ = g ++ core m in
    let e : Cursor = after l c in
    let left : rest s c ≡ l ++ (due m ++ layouts ms) = (stands m s g (layouts ms) c h).left in
    let room : c.place + length l ≤ length s = omega (arith, ap length left, length-append l (due m ++ layouts ms), length-drop c.place s, v.within) in
    let next : Valid s (cursor_after g m c) = valid-open s e (open_after m e.sim) (valid-after s l c v room) in
    let same : (cursor_after g m c).sim ≡ (state_after w m).sim = ap (open_after m) (sim-after l c ∙ o) in
    read-on s c (cursor_after g m c) m (one-back m w s g (layouts ms) c a.0 a.1 v o p h)
    ∙ ap (reads m) (all_back ms (state_after w m) s (due m) (cursor_after g m c) a.2 next same (due-blank m) (rest-after s l (due m ++ layouts ms) c left))

pub written_read : WrittenRead
unfolding all_blank
written_read ms a h =
    all_back ms fresh (layouts ms) [] start a (record { short = h; within = omega arith; started = omega arith; counted = omega arith }) refl refl refl
