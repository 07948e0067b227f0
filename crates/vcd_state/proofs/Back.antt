-- What a call leaves as a state is taken again by the next one.
use Rattle.std.specs.Prelude.{Option, Some, None}
use Rattle.timescale.specs.declared.TimescaleUnit.{TimescaleUnit}
use Rattle.text.specs.declared.Text.{Text}
use Prim.Native.Nat.{ℕ, ◌<◌, ◌^◌}
use mathlib.Core.Path.{◌≡◌, refl}
use mathlib.Core.Bool.{Bool, true, false}
use mathlib.Core.List.{[], ◌∷◌}
use borrow.Author.Tests.{lt-ltb}
use lib.Dec.{eqb, leb}
use Rattle.text.proofs.Orders.{small}
use Rattle.command.specs.Numbers.{sim_of}
use Rattle.command.specs.declared.SimulationCommand.{SimulationCommand}
use Rattle.header.specs.declared.Header.{Header}
use Rattle.timescale.specs.Numbers.{unit_number}
use Rattle.timescale.proofs.Units.{unit-order, unit-back}
use Rattle.token.specs.Read.{bit}
use Rattle.token.specs.declared.Cursor.{Cursor}
use Rattle.write.specs.declared.Writer.{Writer}
use Rattle.vcd_state.specs.State.{open_word, open_of, cursor_words, cursor_of, writer_words, writer_of, text_words, scale_words, is_kept, is_scale, text_of, scale_of, head_words, head_of}

bit-back : (b : Bool) → (leb (bit b) 1 ≡ true) × (eqb (bit b) 1 ≡ b)
bit-back true = (refl, refl)
bit-back false = (refl, refl)

open-back : (o : Option SimulationCommand) → (leb (open_word o) 4 ≡ true) × (open_of (open_word o) ≡ o)
unfolding open_of sim_of
open-back None = (refl, refl)
open-back (Some SimulationCommand.Dumpall) = (refl, refl)
open-back (Some SimulationCommand.Dumpoff) = (refl, refl)
open-back (Some SimulationCommand.Dumpon) = (refl, refl)
open-back (Some SimulationCommand.Dumpvars) = (refl, refl)

pub cursor-back : (c : Cursor) → cursor_of (cursor_words c) ≡ Some c
unfolding cursor_of
cursor-back c = rw ((bit-back c.pending).0, (bit-back c.pending).1, (open-back c.sim).0, (open-back c.sim).1) refl

pub writer-back : (v : Writer) → writer_of (writer_words v) ≡ Some v
unfolding writer_of
writer-back v = rw ((open-back v.sim).0, (open-back v.sim).1) refl

-- ---- a header's kept values: three words each
record Kept (t : Option Text) : Type 0 where
  a : ℕ
  b : ℕ
  d : ℕ
  words : text_words t ≡ a ∷ b ∷ d ∷ []
  ok : is_kept a b d ≡ true
  back : text_of a b d ≡ t

kept_back : (t : Option Text) → Kept t
unfolding is_kept text_of
kept_back None = record { a = 0; b = 0; d = 0; words = refl; ok = refl; back = refl }
kept_back (Some t) = record { a = 1; b = t.start; d = t.len; words = refl; ok = refl; back = refl }

-- a quantity of 32 bits
abbrev pub ScaleFits : Option (ℕ × TimescaleUnit) → Type 0
ScaleFits None = Unit {0}
ScaleFits (Some (n, u)) = n < 2 ^ 32

record Scaled (t : Option (ℕ × TimescaleUnit)) : Type 0 where
  a : ℕ
  b : ℕ
  d : ℕ
  words : scale_words t ≡ a ∷ b ∷ d ∷ []
  ok : is_scale a b d ≡ true
  back : scale_of a b d ≡ t

scale_back : (t : Option (ℕ × TimescaleUnit)) → ScaleFits t → Scaled t
unfolding is_scale scale_of
scale_back None h = record { a = 0; b = 0; d = 0; words = refl; ok = refl; back = refl }
scale_back (Some (n, u)) h =
    record {
      a = 1;
      b = n;
      d = unit_number u;
      words = refl;
      ok = rw (lt-ltb n (2 ^ 32) h, lt-ltb (unit_number u) 6 (small unit-order u)) refl;
      back = rw (unit-back u).1 refl;
    }

pub head-back : (h : Header) (n : ℕ) → ScaleFits h.timescale → head_of (head_words h n) ≡ Some (h, n)
unfolding head_of
head-back h n f =
    let d = kept_back h.date in
    let v = kept_back h.version in
    let t = scale_back h.timescale f in
    rw (d.words, v.words, t.words, d.ok, v.ok, t.ok, d.back, v.back, t.back) refl
