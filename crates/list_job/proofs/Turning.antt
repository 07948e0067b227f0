-- The turns print the listing: the lines of a turn, with what is still to come after it, are what was to come before it; and the
-- outcome stays the same.
use Rattle.command.specs.Refusals.{Ended}
use Rattle.std.specs.Prelude.{Option, Some, None, Ok, Err}
use Rattle.command.specs.declared.Refusal.{Refusal}
use Prim.Native.Nat.{ℕ, zero, suc, ◌+◌, ◌-◌, ◌/◌, ◌≤◌, ◌<◌}
use mathlib.Core.Path.{◌≡◌, refl, sym, ap, subst, ◌∙◌}
use mathlib.Core.Bool.{Bool, true, false, cond, ◌&&◌}
use mathlib.Core.List.{List, [], ◌∷◌, ◌++◌, map, append_assoc, append-nil}
use native.Mathlib.Nat.{add-zero}
use native.Mathlib.Numerals.{add-one}
use native.Mathlib.Omega.{arith}
use borrow.Author.Tests.{le-leb, leb-true, leb-false, ltb-true, ltb-false, ne_eqb}
use lib.Dec.{leb, ltb}
use lib.ListN.{length, get_or, drop}
use lib.Seq.{drop-cons}
use Rattle.header.specs.Header.{header_of}
use Rattle.rows.specs.Rows.{row_at, rows_from, filled as header_filled}
use Rattle.rows.specs.declared.Row.{Row}
use Rattle.header.proofs.Good.{header-room}
use Rattle.header.proofs.Kept.{header-back}
use Rattle.idcode.specs.declared.IdCode.{IdCode}
use Rattle.emit.specs.Put.{concat}
use Rattle.lines.specs.Lines.{taken, header_rows, change_line, lines_from, fitting}
use Rattle.listing.specs.Listing.{Outcome, list_of}
use Rattle.change.specs.Rows.{filled as list_filled}
use Rattle.change.specs.declared.Change.{Change}
use Rattle.listing.proofs.Complete.{rows_fit}
use Rattle.change.proofs.Table.{row-at, filled-length}
use Rattle.parser.specs.Next.{fresh as fresh_cursor}
use Rattle.text.specs.Texts.{part}
use Rattle.text.proofs.Lists.{by-test}
use Rattle.token.specs.declared.Cursor.{Cursor}
use Rattle.list_job.specs.Whole.{most_changes, is_full, met_lines, end_lines, long_lines, listed, rows_lines, heading, headed_lines, list_lines, list_text, is_whole, rows_whole, headed_whole, list_whole}
use Rattle.list_job.specs.Turns.{Turned, fit, final, opened, begin_turn, next_row, met_row, row_then, row_turn, ahead, passed, some, lines_turn, turn_of, Runs, ends, turn, rows_ahead, rest, whole_ahead, outcome, left, row_words, change_words, is_finished, Does, Tables, Nearer, Ends, Roomy}
use Rattle.list_job.specs.declared.Place.{Place}
use Rattle.list_job.specs.declared.Printing.{Printing}
use Rattle.list_job.specs.declared.State.{State}
use Rattle.list_job.specs.declared.Turn.{Turn}

-- ---- lines that have room
join : (a b : List (List ℕ)) → concat (a ++ b) ≡ concat a ++ concat b
join [] b = refl
join (l ∷ a) b = rw (join a b) (sym (append_assoc l (concat a) (concat b)))

roomy-parts : (room : ℕ) (a b : List (List ℕ)) → Roomy room (a ++ b) → Roomy room a × Roomy room b
roomy-parts room [] b h = (tt, h)
roomy-parts room (l ∷ a) b h = let r = roomy-parts room a b h.1 in ((h.0, r.0), r.1)

fit-one : (room : ℕ) (l : List ℕ) → Roomy room (l ∷ []) → fit room (l ∷ []) ≡ l ∷ []
unfolding fitting
fit-one room l h = rw (le-leb (length l) room h.0)

fit_none : (room : ℕ) → fit room [] ≡ []
unfolding fitting
fit_none room = refl

fit-met : (room : ℕ) (m : Option (Refusal × ℕ)) → Roomy room (met_lines m) → fit room (met_lines m) ≡ met_lines m
fit-met room None h = fit_none room
fit-met room (Some (e, n)) h = fit-one room _ h

fit-by : (room : ℕ) (t : Bool) (l : List ℕ) → Roomy room (cond t (l ∷ []) []) → fit room (cond t (l ∷ []) []) ≡ cond t (l ∷ []) []
fit-by room true l h = fit-one room l h
fit-by room false l h = fit_none room

fit-end : (room : ℕ) (name : List ℕ) (e : Ended) → Roomy room (end_lines name e) → fit room (end_lines name e) ≡ end_lines name e
fit-end room name (Ok tt) h = fit_none room
fit-end room name (Err (e, n)) h = fit-by room (is_full e) _ h

-- the lines that have room, and the others
split : (room : ℕ) (ls : List (List ℕ)) → fit room ls ++ drop (length (fit room ls)) ls ≡ ls
unfolding fitting
split room [] = refl
split room (l ∷ ls) =
    by-test (leb (length l) room)
    (λ t. rw t (ap (λ (x : List (List ℕ)). l ∷ x) (split (room - length l) ls)))
    (λ t. rw t)

some_fit : (room : ℕ) (l : List ℕ) (ls : List (List ℕ)) → length l ≤ room → 0 < length (fit room (l ∷ ls))
unfolding fitting
some_fit room l ls h = rw (le-leb (length l) room h) (omega arith)

-- ---- the lines of a table's rows
module _ (s name : List ℕ) (width : ℕ) (table : List ℕ) where
  drop-lines : (k i n : ℕ) → drop k (lines_from s name width table i n) ≡ lines_from s name width table (i + k) (n - k)
  unfolding lines_from
  drop-lines zero i n = let z : n - 0 ≡ n = omega arith in rw (add-zero i, z)
  drop-lines (suc k) i zero = let z : 0 - suc k ≡ 0 = omega arith in rw z
  drop-lines (suc k) i (suc n) =
      let z : i + suc k ≡ i + 1 + k = omega arith in
      let y : suc n - suc k ≡ n - k = omega arith in
      rw (z, y) (drop-lines k (i + 1) n)

lines-listed : (s name : List ℕ) (width : ℕ) (rs : List Change) (t : List ℕ) (n i : ℕ) → i + n ≡ length rs
    → lines_from s name width (list_filled rs t) i n ≡ map (change_line s name width) (drop i rs)
unfolding lines_from
lines-listed s name width rs t zero i h = rw (drop-end rs i (omega arith))
  where
    drop-end : (xs : List Change) (j : ℕ) → length xs ≤ j → drop j xs ≡ []
    drop-end [] zero g = refl
    drop-end [] (suc j) g = refl
    drop-end (x ∷ xs) zero g = absurd (omega arith)
    drop-end (x ∷ xs) (suc j) g = drop-end xs j (omega arith)
lines-listed s name width rs t (suc n) i h =
    let g : i < length rs = omega arith in
    let e : i + 1 + n ≡ length rs = omega arith in
    let d : drop i rs ≡ get_or rs i Change.None ∷ drop (i + 1) rs =
    drop-cons rs i Change.None g ∙ ap (λ (j : ℕ). get_or rs i Change.None ∷ drop j rs) (sym (add-one i)) in
    rw (row-at rs t i g, d)
    (ap (λ (x : List (List ℕ)). change_line s name width (get_or rs i Change.None) ∷ x) (lines-listed s name width rs t n (i + 1) e))

-- ---- by the tables' rooms
heading-is : (s rows : List ℕ) → length rows ≡ row_words → header_of s fresh_cursor rows ≡ heading s
unfolding heading
heading-is s rows e = rw e

listed-is : (s : List ℕ) (c : Cursor) (i : IdCode) (changes : List ℕ) → length changes ≡ change_words → list_of s c i changes ≡ listed s c i
unfolding listed
listed-is s c i changes e = rw e

-- ---- a turn
abbrev Goes : List ℕ → List ℕ → List ℕ → State → Turned → Type 0
Goes s rows changes st t = (t.lines ++ rest s t.rows t.changes t.next ≡ rest s rows changes st) × (outcome s t.rows t.next ≡ outcome s rows st)

carried : (a b c : Bool) → (a && b) && c ≡ b && (a && c)
carried true true c = refl
carried true false c = refl
carried false true c = refl
carried false false c = refl

all_whole : (b : Bool) → b ≡ b && true
all_whole true = refl
all_whole false = refl

module _ (s : List ℕ) (room : ℕ) (rows changes : List ℕ) (sized : length changes ≡ change_words) where
  -- the header
  module _ (e : length rows ≡ row_words) where
    begin-by : (x : Ended) → Roomy room (headed_lines s (heading s).rows (heading s).cursor x)
        → let t : Turned = opened room rows changes (heading s) x in
        (t.lines ++ rest s t.rows t.changes t.next ≡ headed_lines s (heading s).rows (heading s).cursor x)
        × (outcome s t.rows t.next ≡ headed_whole s (heading s).rows (heading s).cursor x)
    begin-by (Ok tt) h =
        let b = heading-is s rows e in
        let z : length (heading s).rows - 0 ≡ length (heading s).rows = omega arith in
        let back : rows_from (header_filled (heading s).rows rows) 0 (length (heading s).rows) ≡ (heading s).rows = rw b at (header-back s fresh_cursor rows) in
        (rw (z, back), rw (z, back))
    begin-by (Err (r, n)) h = (rw (fit-met room (Some (r, n)) h), refl)

    begin-goes : Roomy room (list_lines s) → Goes s rows changes State.Begin (begin_turn s room rows changes)
    unfolding begin_turn list_lines list_whole
    begin-goes h =
        by-test (ltb taken (length s))
        (λ f. let g : Roomy room long_lines = rw f at h in rw f (rw (fit-one room _ g), refl))
        (λ f. let g : Roomy room (headed_lines s (heading s).rows (heading s).cursor (heading s).ended) = rw f at h in
        rw (f, heading-is s rows e) (begin-by (heading s).ended g))

  -- a row
  next_row_lem : (p : Place) → p.row < p.count → rows_from rows p.row (p.count - p.row) ≡ row_at rows p.row ∷ rows_from rows (p.row + 1) (p.count - (p.row + 1))
  unfolding rows_from
  next_row_lem p h = let one : p.count - p.row ≡ suc (p.count - (p.row + 1)) = omega arith in rw one

  row_by : (p : Place) → p.row < p.count → (r : Row) → row_at rows p.row ≡ r → Goes s rows changes (State.Row p) (row_then s rows changes (next_row p) r)
  unfolding rows_lines rows_whole
  row_by p h (Row.Var q v) w =
      let o : Outcome = listed s p.cursor v.code in
      let name : List ℕ = part s v.reference in
      let b : list_of s p.cursor v.code changes ≡ o = listed-is s p.cursor v.code changes sized in
      let z : length o.rows - 0 ≡ length o.rows = omega arith in
      let ls : lines_from s name v.size (list_filled o.rows changes) 0 (length o.rows) ≡ map (change_line s name v.size) o.rows = lines-listed s name v.size o.rows changes (length o.rows) 0 (omega arith) in
      rw b (
        rw (next_row_lem p h, w, z, ls)
            (sym (append_assoc (map (change_line s name v.size) o.rows) (end_lines name o.ended) (rows_ahead s rows (met_row (next_row p) o.ended)))),
        rw (next_row_lem p h, w) (carried (is_whole o.ended) p.whole _),
      )
  row_by p h (Row.Scope q k t) w = (rw (next_row_lem p h, w), rw (next_row_lem p h, w))
  row_by p h (Row.Comment q t) w = (rw (next_row_lem p h, w), rw (next_row_lem p h, w))
  row_by p h Row.None w = (rw (next_row_lem p h, w), rw (next_row_lem p h, w))

  no_rows : (p : Place) → p.count ≤ p.row → (rows_ahead s rows p ≡ met_lines p.met) × (p.whole ≡ whole_ahead s rows p)
  unfolding rows_from rows_lines rows_whole
  no_rows p h = let z : p.count - p.row ≡ 0 = omega arith in (rw z, rw z (all_whole p.whole))

  row_goes : (p : Place) → Roomy room (rows_ahead s rows p) → Goes s rows changes (State.Row p) (row_turn s room rows changes p)
  unfolding row_turn
  row_goes p h =
      by-test (leb p.count p.row)
      (λ f.
      let n = no_rows p (leb-true _ _ f) in
      let g : Roomy room (met_lines p.met) = rw n.0 at h in
      rw f (rw (n.0, fit-met room p.met g) (append-nil (met_lines p.met)), n.1))
      (λ f. rw f (row_by p (leb-false _ _ f) (row_at rows p.row) refl))

  -- lines
  module _ (p : Place) (l : Printing) where
    abbrev name : List ℕ
    name = part s l.name

    abbrev after : List (List ℕ)
    after = end_lines name l.ended ++ rows_ahead s rows (met_row p l.ended)

    some_fits : l.next < l.count → Roomy room (ahead s changes l ++ after) → 0 < length (fit room (ahead s changes l))
    unfolding lines_from
    some_fits h g =
        let one : l.count - l.next ≡ suc (l.count - (l.next + 1)) = omega arith in
        let q = roomy-parts room (ahead s changes l) after g in
        let w : Roomy room (lines_from s name l.width changes l.next (suc (l.count - (l.next + 1)))) = rw one at q.0 in
        rw one (some_fit room _ _ w.0)

    some-goes : l.next < l.count → Roomy room (ahead s changes l ++ after)
        → Goes s rows changes (State.Lines p l) (some rows changes p l (fit room (ahead s changes l)))
    some-goes h g =
        let ls : List (List ℕ) = fit room (ahead s changes l) in
        let k : 0 < length ls = some_fits h g in
        let apart : length ls ≡ 0 → ⊥ = λ e. omega arith in
        let z : l.count - (l.next + length ls) ≡ l.count - l.next - length ls = omega arith in
        let d : ahead s changes (passed l (length ls)) ≡ drop (length ls) (ahead s changes l) = rw z (sym (drop-lines s name l.width changes (length ls) l.next (l.count - l.next))) in
        rw (ne_eqb (length ls) 0 apart)
        (rw d (sym (append_assoc ls (drop (length ls) (ahead s changes l)) after) ∙ ap (λ (x : List (List ℕ)). x ++ after) (split room (ahead s changes l))), refl)

    no_lines : l.count ≤ l.next → ahead s changes l ≡ []
    unfolding lines_from
    no_lines h = let z : l.count - l.next ≡ 0 = omega arith in rw z

    lines-goes : Roomy room (ahead s changes l ++ after) → Goes s rows changes (State.Lines p l) (lines_turn s room rows changes p l)
    unfolding lines_turn
    lines-goes g =
        by-test (ltb l.next l.count)
        (λ f. rw f (some-goes (ltb-true _ _ f) g))
        (λ f.
        let n = no_lines (ltb-false _ _ f) in
        let w : Roomy room after = rw n at g in
        let q = roomy-parts room (end_lines name l.ended) (rows_ahead s rows (met_row p l.ended)) w in
        rw f (rw (n, fit-end room name l.ended q.0), refl))

-- ---- fewer turns are left
module _ (s : List ℕ) (room : ℕ) (rows changes : List ℕ) (sized : length changes ≡ change_words) where
  over : (w : Bool) (ls : List (List ℕ)) (table : List ℕ) (st : State) → 0 < left st → Nearer st (final w ls table changes)
  over w ls table st h = record { tables = record { head = tt; list = sized }; fewer = h }

  near-header : length rows ≡ row_words → (x : Ended) → Nearer State.Begin (opened room rows changes (header_of s fresh_cursor rows) x)
  near-header e (Ok tt) =
      let few : length (header_of s fresh_cursor rows).rows ≤ header_rows = omega (arith, e, header-room s fresh_cursor rows) in
      record { tables = record { head = tt; list = sized }; fewer = omega arith }
  near-header e (Err (r, n)) = over _ _ _ State.Begin (omega arith)

  near-begin : length rows ≡ row_words → Nearer State.Begin (begin_turn s room rows changes)
  unfolding begin_turn
  near-begin e =
      by-test (ltb taken (length s))
      (λ f. rw f (over _ _ _ State.Begin (omega arith)))
      (λ f. rw f (near-header e (header_of s fresh_cursor rows).ended))

  near-one : (p : Place) → p.row < p.count → (r : Row) → Nearer (State.Row p) (row_then s rows changes (next_row p) r)
  near-one p h (Row.Var q v) =
      let o : Outcome = list_of s p.cursor v.code changes in
      let few : length o.rows ≤ most_changes = subst (λ (n : ℕ). length o.rows ≤ n / 6) sized (rows_fit s p.cursor None v.code (length changes / 6)) in
      record { tables = record { head = tt; list = filled-length o.rows changes (omega arith) ∙ sized }; fewer = omega arith }
  near-one p h (Row.Scope q k t) = record { tables = record { head = tt; list = sized }; fewer = omega arith }
  near-one p h (Row.Comment q t) = record { tables = record { head = tt; list = sized }; fewer = omega arith }
  near-one p h Row.None = record { tables = record { head = tt; list = sized }; fewer = omega arith }

  near-row : (p : Place) → Nearer (State.Row p) (row_turn s room rows changes p)
  unfolding row_turn
  near-row p =
      by-test (leb p.count p.row)
      (λ f. rw f (over _ _ _ (State.Row p) (omega arith)))
      (λ f. rw f (near-one p (leb-false _ _ f) (row_at rows p.row)))

  near-some : (p : Place) (l : Printing) (ls : List (List ℕ)) → l.next < l.count → Nearer (State.Lines p l) (some rows changes p l ls)
  near-some p l [] h = over false [] rows (State.Lines p l) (omega arith)
  near-some p l (x ∷ ls) h =
      let z : suc (length ls) ≡ 0 → ⊥ = λ e. omega arith in
      rw (ne_eqb (suc (length ls)) 0 z) (record { tables = record { head = tt; list = sized }; fewer = omega arith })

  near-lines : (p : Place) (l : Printing) → Nearer (State.Lines p l) (lines_turn s room rows changes p l)
  unfolding lines_turn
  near-lines p l =
      by-test (ltb l.next l.count)
      (λ f. rw f (near-some p l (fit room (ahead s changes l)) (ltb-true _ _ f)))
      (λ f. rw f (record { tables = record { head = tt; list = sized }; fewer = omega arith }))

pub ending : Ends
ending s room rows changes State.Begin t f = near-begin s room rows changes t.list t.head
ending s room rows changes (State.Row p) t f = near-row s room rows changes t.list p
ending s room rows changes (State.Lines p l) t f = near-lines s room rows changes t.list p l
ending s room rows changes (State.Finished w) t f = let z : ◌≡◌ {A = ℕ} 0 1 = cc in absurd (omega arith)

-- what a call of a turn leaves serves the next one
pub turn_on : {r : Turn} {rows' changes' out' : List ℕ} {b : Bool} (s rows changes out : List ℕ) (st : State) → Tables rows changes st → b ≡ is_finished st → b ≡ false
    → Does r rows' changes' out' out (turn_of s (length out) rows changes st) → Tables rows' changes' r.next × (left r.next < left st)
turn_on s rows changes out st t e f d =
    let n = ending s (length out) rows changes st t (sym e ∙ f) in
    (rw (d.table, d.list, d.next) n.tables, rw d.next n.fewer)

-- ---- all turns
module _ (s : List ℕ) (room : ℕ) where
  abbrev Ran : List ℕ → List ℕ → State → Type 0
  Ran rows changes st = Runs s room rows changes st (concat (rest s rows changes st)) (outcome s rows st)

  abbrev Below : ℕ → Type 0
  Below n = (rows changes : List ℕ) (st : State) → left st ≤ n → Tables rows changes st → Roomy room (rest s rows changes st) → Ran rows changes st

  on : (n : ℕ) (rows changes : List ℕ) (st : State) → left st ≤ suc n → Tables rows changes st → is_finished st ≡ false → Roomy room (rest s rows changes st)
      → Goes s rows changes st (turn_of s room rows changes st) → Below n → Ran rows changes st
  on n rows changes st h a f r g ih =
      let t : Turned = turn_of s room rows changes st in
      let near : Nearer st t = ending s room rows changes st a f in
      let more : List (List ℕ) = rest s t.rows t.changes t.next in
      let w : Roomy room (t.lines ++ more) = subst (λ (x : List (List ℕ)). Roomy room x) (sym g.0) r in
      let q = roomy-parts room t.lines more w in
      let run : Runs s room rows changes st (concat t.lines ++ concat more) (outcome s t.rows t.next) = turn t refl (ih t.rows t.changes t.next (omega (arith, near.fewer)) near.tables q.1) in
      let all : Runs s room rows changes st (concat (rest s rows changes st)) (outcome s t.rows t.next) =
      subst (λ (b : List ℕ). Runs s room rows changes st b (outcome s t.rows t.next)) (sym (join t.lines more) ∙ ap concat g.0) run in
      subst (λ (w : Bool). Runs s room rows changes st (concat (rest s rows changes st)) w) g.1 all

  none : Below 0
  none rows changes (State.Finished w) h a r = ends
  none rows changes State.Begin h a r = absurd (omega arith)
  none rows changes (State.Row p) h a r = absurd (omega arith)
  none rows changes (State.Lines p l) h a r = absurd (omega arith)

  one : (n : ℕ) → Below n → Below (suc n)
  one n ih rows changes (State.Finished w) h a r = ends
  one n ih rows changes State.Begin h a r = on n rows changes State.Begin h a refl r (begin-goes s room rows changes a.list a.head r) ih
  one n ih rows changes (State.Row p) h a r = on n rows changes (State.Row p) h a refl r (row_goes s room rows changes a.list p r) ih
  one n ih rows changes (State.Lines p l) h a r = on n rows changes (State.Lines p l) h a refl r (lines-goes s room rows changes a.list p l r) ih

  runs : (n : ℕ) → Below n
  runs zero = none
  runs (suc n) = one n (runs n)

-- from the first state, where each line has room
pub runnable : (s : List ℕ) (room : ℕ) (rows changes : List ℕ) → length rows ≡ row_words → length changes ≡ change_words → Roomy room (list_lines s)
    → Runs s room rows changes State.Begin (list_text s) (list_whole s)
unfolding list_text
runnable s room rows changes e f r = runs s room (left State.Begin) rows changes State.Begin (omega arith) (record { head = e; list = f }) r
