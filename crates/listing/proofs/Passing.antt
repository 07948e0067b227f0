-- A run over the usual commands that are no changes of the code, on its way; and the timestamp that stands at a place.
use Rattle.std.specs.Prelude.{Option, Some, None}
use Rattle.command.specs.declared.Time.{Time}
use Prim.Native.Nat.{ℕ, ◌+◌, ◌*◌, ◌≤◌, ◌<◌}
use mathlib.Core.Path.{◌≡◌, refl, sym, ◌∙◌}
use mathlib.Core.Bool.{false}
use mathlib.Core.List.{List}
use native.Mathlib.Omega.{arith}
use borrow.Author.Tests.{ne_eqb}
use lib.ListN.{length, get_or}
use Rattle.fast.specs.Fast.{Reads, ReadsScalar}
use Rattle.command.specs.declared.Command.{Command}
use Rattle.idcode.specs.declared.IdCode.{IdCode}
use Rattle.parser.specs.Next.{next_from}
use Rattle.parser.specs.declared.Next.{Next}
use Rattle.token.specs.Flat.{word_read}
use Rattle.token.specs.Read.{Valid}
use Rattle.token.specs.declared.Cursor.{Cursor}
use Rattle.listing.specs.Listing.{Passes, Held}
use Rattle.listing.specs.declared.Stand.{Stand}
use Rattle.list_step.specs.declared.Seen.{Seen}
use Rattle.list_step.proofs.Roles.{Read}
use Rattle.listing.proofs.Listed.{passes-start, passes-read, passes_on}
use Rattle.text.specs.Texts.{limit}

-- ---- from c, where t was the last time, to d; the last time then stands at `at`, and there is room for n short commands
pub record Running (s : List ℕ) (i : IdCode) (c : Cursor) (t : Option Time) (d : Cursor) (at n : ℕ) : Type 0 where
  pub since : Option Time
  pub passes : Passes s i c t d since
  pub held : Held s t at since
  pub long : at < length s → at + 34 ≤ length s
  pub room : d.place + 34 * n ≤ length s

module _ (s : List ℕ) (i : IdCode) (c : Cursor) (t : Option Time) where
  pub running-start : (n : ℕ) → Valid s c → c.place + 34 * n ≤ length s → Running s i c t c (length s) n
  running-start n v h =
      record {
        since = t;
        passes = passes-start s i c t v;
        held = (λ _. refl, λ (x : length s < length s). absurd (omega arith));
        long = λ (x : length s < length s). absurd (omega arith);
        room = h;
      }

  -- what `so_far` asks and gives
  module _ (d : Cursor) (at n : ℕ) (r : Running s i c t d at n) where
    pub running-ends : (x : Stand) → (x.cursor ≡ d) × ((u : Option Time) → Held s t at u → x.since ≡ u) → Passes s i c t x.cursor x.since
    running-ends x h = rw (h.0, h.1 r.since r.held) r.passes

  -- a hit: a time, or another code's scalar
  module _ (d : Cursor) (at n m e : ℕ) (r : Running s i c t d at n) (less : m < n) (near : e < d.place + 34) where
    abbrev next : Cursor
    next = word_read d e (get_or s e 0)

    step_room : next.place + 34 * m ≤ length s
    unfolding word_read
    step_room = omega (arith, r.room)

    pub running-time : (v : ℕ) → Reads s d.place e (Command.Timestamp (record { 0 = v })) → Running s i c t next d.place m
    running-time v k =
        let h : Read s i d next (Seen.Time (record { 0 = v })) =
        record { command = _; next = k.reads d r.passes.valid refl; tells = refl } in
        record {
          since = Some (record { 0 = v });
          passes = passes_on s i c d next t r.since _ r.passes (passes-read s i d next r.since _ h refl);
          held = (λ (x : length s ≤ d.place). absurd (omega (arith, r.room)), λ _. (v, e, k, refl));
          long = λ _. omega (arith, r.room);
          room = step_room;
        }

    pub running-other : (j : ℕ) → ReadsScalar s d.place e j → (j ≡ i.0 → ⊥) → Running s i c t next at m
    running-other j k ne =
        let h : Read s i d next Seen.Other =
        record { command = _; next = k.change.reads d r.passes.valid refl; tells = rw (ne_eqb j i.0 ne) } in
        record {
          since = r.since;
          passes = passes_on s i c d next t r.since _ r.passes (passes-read s i d next r.since _ h refl);
          held = r.held;
          long = r.long;
          room = step_room;
        }

-- ---- the command at a place, from a cursor that stands there
abbrev pub there : ℕ → Cursor
there at = record { place = at; line = 1; pending = false; sim = None }

module _ (s : List ℕ) (at e : ℕ) (k : Command) (r : Reads s at e k) (short : length s ≤ limit) where
  pub reads-there : next_from s (there at) ≡ Next.Command k (word_read (there at) e (get_or s e 0))
  reads-there =
      let v : Valid s (there at) =
      record { short = short; within = omega (arith, r.past, r.inside); started = omega arith; counted = omega arith } in
      r.reads (there at) v refl

  pub reads-once : (j : Command) (d : Cursor) → next_from s (there at) ≡ Next.Command j d → j ≡ k
  reads-once j d q = let h = sym q ∙ reads-there in cc
