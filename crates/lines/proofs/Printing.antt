-- Rows printed one a turn: what is put already, with what is still to come, is what the whole puts.
use Rattle.std.specs.Prelude.{Option, Some, None}
use Prim.Native.Nat.{ℕ, suc, ◌+◌, ◌-◌, ◌≤◌, ◌<◌}
use mathlib.Core.Path.{◌≡◌, sym, ◌∙◌}
use mathlib.Core.List.{List, [], ◌∷◌, ◌++◌}
use native.Mathlib.Nat.{add-zero, zero-add}
use native.Mathlib.Omega.{arith}
use borrow.Author.Tests.{le-leb, lt-leb}
use borrow.Rule.Slice.PartMut.{put_mid}
use lib.ListN.{length, take, drop, length-append}
use Rattle.emit.specs.Put.{concat, stored}
use Rattle.emit.proofs.Storing.{stored-none, stored_next, stored-length, part-put, part_none}
use Rattle.change.specs.Rows.{change_at}
use Rattle.change.specs.declared.Change.{Change}
use Rattle.lines.specs.Lines.{change_line, lines_from, fitting, put, answer_of, filled}
use Rattle.lines.specs.declared.Lines.{Lines}
use Rattle.lines.proofs.Laying.{Laid}

-- `ls` after `count` bytes that are put
abbrev ahead : ℕ → ℕ → List (List ℕ) → Lines
ahead next count ls = record { next = next + length ls; count = count + length (concat ls) }

module _ (s name : List ℕ) (width : ℕ) (table : List ℕ) where
  -- the line of a row, and the lines from a row on that have room
  abbrev line : ℕ → List ℕ
  line i = change_line s name width (change_at table i)

  abbrev to_come : ℕ → ℕ → ℕ → List (List ℕ)
  to_come room next to = fitting room (lines_from s name width table next (to - next))

  come-end : (room next to : ℕ) → to ≤ next → to_come room next to ≡ []
  unfolding fitting lines_from
  come-end room next to h = let z : to - next ≡ 0 = omega arith in rw z

  module _ (room next to : ℕ) (h : next < to) where
    one_more : to - next ≡ suc (to - (next + 1))
    one_more = omega arith

    come-none : room < length (line next) → to_come room next to ≡ []
    unfolding fitting lines_from
    come-none g = rw (one_more, lt-leb (length (line next)) room g)

    come-more : length (line next) ≤ room → to_come room next to ≡ line next ∷ to_come (room - length (line next)) (next + 1) to
    unfolding fitting lines_from
    come-more g = rw (one_more, le-leb (length (line next)) room g)

  module _ (from to : ℕ) (out₀ : List ℕ) where
    -- the bytes up to `count` and the rows up to `next` are done
    pub record Going (out : List ℕ) (next count : ℕ) : Type 0 where
      pub within : count ≤ length out
      pub answer : answer_of from (put s name width table from to out₀) ≡ ahead next count (to_come (length out - count) next to)
      pub left : filled (put s name width table from to out₀) out₀ ≡ stored out count (concat (to_come (length out - count) next to))

    pub going_start : Going out₀ from 0
    unfolding put stored
    going_start =
        let z : length out₀ - 0 ≡ length out₀ = omega arith in
        record { within = omega arith; answer = simp (zero-add, z); left = simp (zero-add, z) }

    -- what is answered and left at the end
    abbrev Done : List ℕ → ℕ → ℕ → Type 0
    Done out next count =
        (record { next = next; count = count } ≡ answer_of from (put s name width table from to out₀))
        × (out ≡ filled (put s name width table from to out₀) out₀)

    module _ (out : List ℕ) (next count : ℕ) (g : Going out next count) where
      stopped : to_come (length out - count) next to ≡ [] → Done out next count
      stopped e = (sym (simp (e, add-zero) at g.answer), stored-none out count ∙ sym (rw e at g.left))

      pub going_end : to ≤ next → Done out next count
      going_end h = stopped (come-end (length out - count) next to h)

      -- a call was lent the bytes from `count` on, for the line of the next row
      module _ (h : next < to) {change : Change} (f : change ≡ change_at table next) {x : Option ℕ} {ys : List ℕ}
          (d : Laid (change_line s name width change) (take (length out - count) (drop count out)) x ys) where
        e : Laid (line next) (take (length out - count) (drop count out)) x ys
        e = rw f at d

        pub going-full : x ≡ None → Done (put_mid count (length out - count) out ys) next count
        going-full q =
            let y = part_none (line next) out count (length out - count) (omega (arith, g.within)) e q in
            rw y.1 (stopped (come-none (length out - count) next to h y.0))

        pub going_more : (n : ℕ) → x ≡ Some n → Going (put_mid count (length out - count) out ys) (next + 1) (count + n)
        going_more n q =
            let y = part-put (line next) out count (length out - count) (omega (arith, g.within)) e n q in
            let m = come-more (length out - count) next to h y.1 in
            let fits : count + length (line next) ≤ length out = omega (arith, g.within, y.1) in
            let size : length (stored out count (line next)) ≡ length out = stored-length out count (line next) fits in
            let room : length out - (count + length (line next)) ≡ length out - count - length (line next) = omega arith in
            let rest : List (List ℕ) = to_come (length out - count - length (line next)) (next + 1) to in
            let counted : count + length (line next ++ concat rest) ≡ count + length (line next) + length (concat rest) =
            omega (arith, length-append (line next) (concat rest)) in
            let passed : next + suc (length rest) ≡ next + 1 + length rest = omega arith in
            rw (y.2, y.0) (record {
              within = rw size fits;
              answer = rw (size, room) (g.answer ∙ rw m (rw (counted, passed)));
              left = rw (size, room) (g.left ∙ rw m (sym (stored_next out count g.within (line next) (concat rest))));
            })
