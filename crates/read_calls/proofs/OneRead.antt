-- A table of one record takes what reading answers next.
use Prim.Native.Nat.{ℕ}
use mathlib.Core.Path.{◌≡◌, refl, sym, ap, ◌∙◌}
use mathlib.Core.Bool.{true, false}
use mathlib.Core.List.{List, [], ◌++◌, append-nil}
use lib.ListN.{length, drop}
use lib.Seq.{drop-length}
use Rattle.text.proofs.Lists.{by-test}
use Rattle.parser.specs.All.{followed, commands}
use Rattle.parser.specs.Next.{is_good, next_from}
use Rattle.parser.specs.declared.Next.{Next}
use Rattle.parser.proofs.All.{commands-step}
use Rattle.records.specs.Read.{Outcome, taken, read_of, filled}
use Rattle.record.specs.Record.{record_words, words_of}
use Rattle.token.specs.declared.Cursor.{Cursor}
use Rattle.read_calls.specs.Reading.{Left, one_read, many_read, read_status}
use Rattle.vcd_state.specs.State.{cursor_words}

abbrev left_of : List ℕ → Outcome → Left
left_of t o =
    record {
      status = read_status o.ended;
      cursor = cursor_words o.cursor;
      table = filled o.commands t;
      count = length o.commands;
    }

module _ (s : List ℕ) (c : Cursor) (t : List ℕ) (h : length t ≡ 9) where
  one-taken : (x : Next) → left_of t (taken 1 c (followed (commands s) x)) ≡ one_read t x
  unfolding taken words_of
  one-taken (Next.Command k d) =
      let w : List ℕ = record_words k in
      let none : drop 9 t ≡ [] = ap (λ (n : ℕ). drop n t) (sym h) ∙ drop-length t in
      let e : (w ++ []) ++ drop 9 t ≡ w = rw (none, append-nil w) (append-nil w) in
      λ i. record { status = 0; cursor = cursor_words d; table = e i; count = 1 }
  one-taken (Next.Refused e line d) = refl
  one-taken (Next.Done d) = refl

  of-good : is_good s c ≡ true → many_read s t c ≡ one_read t (next_from s c)
  unfolding read_of
  of-good g =
      let e : read_of s c t ≡ taken 1 c (followed (commands s) (next_from s c)) = rw (g, h, commands-step s c) refl in
      ap (left_of t) e ∙ one-taken (next_from s c)

  of-bad : is_good s c ≡ false → many_read s t c ≡ one_read t (next_from s c)
  unfolding read_of next_from words_of
  of-bad g = rw g refl

  pub one-read : many_read s t c ≡ one_read t (next_from s c)
  one-read = by-test (is_good s c) of-good of-bad
