-- The rows that a header's reading makes are a good table.
use Rattle.std.specs.Prelude.{Some}
use Prim.Native.Nat.{ℕ, ◌+◌, ◌/◌, min, ◌≤◌, ◌<◌}
use mathlib.Core.Path.{◌≡◌, refl, ◌∙◌}
use mathlib.Core.Bool.{true, ◌&&◌}
use mathlib.Core.List.{List, [], ◌∷◌, ◌++◌}
use native.Mathlib.Nat.{add-zero}
use native.Mathlib.Omega.{arith}
use borrow.Author.Tests.{le-leb, ltb-true, eq-eqb, ne_eqb}
use lib.Dec.{ltb}
use lib.ListN.{length, length-append}
use Rattle.command.specs.declared.Command.{Command}
use Rattle.parser.specs.All.{Commands, command, stop, finish, commands}
use Rattle.text.proofs.Lists.{by-test}
use Rattle.token.specs.declared.Cursor.{Cursor}
use Rattle.rows.specs.Good.{is_parent, open_to, is_good_from, is_good_table}
use Rattle.header.specs.Header.{nothing, with_date, with_version, with_timescale, Step, on, off, whole, inner, added, at_top, closed, move, Outcome, follow, read_rows, header_of}
use Rattle.header.specs.declared.Header.{Header}
use Rattle.rows.specs.declared.Row.{Row}

-- ---- the open scopes: rows made, each before the one in it
abbrev pub Falls : ℕ → List ℕ → Type 0
Falls n [] = Unit
Falls n (x ∷ st) = (x < n) × Falls x st

falls-on : (n m : ℕ) (st : List ℕ) → n ≤ m → Falls n st → Falls m st
falls-on n m [] h f = tt
falls-on n m (x ∷ st) h f = (omega (arith, f.0), f.1)

-- they stand among those that may be parents, each with those around it
abbrev pub Among : List ℕ → List ℕ → Type 0
Among [] gs = Unit
Among (x ∷ st) gs =
    (is_parent (Some (record { 0 = x })) gs ≡ true) × (open_to (Some (record { 0 = x })) gs ≡ x ∷ st) × Among st gs

-- also below a later one
under : (n : ℕ) (st gs : List ℕ) → Falls n st → Among st gs → Among st (n ∷ gs)
unfolding is_parent open_to
under n [] gs f a = tt
under n (x ∷ st) gs f a =
    let apart : x ≡ n → ⊥ = λ e. omega (arith, f.0) in
    let no = ne_eqb x n apart in
    (rw no a.0, rw no a.1, under n st gs (falls-on x n st (omega (arith, f.0)) f.1) a.2)

among_self : (n : ℕ) (st : List ℕ) → Falls n st → Among st st
unfolding is_parent open_to
among_self n [] f = tt
among_self n (x ∷ st) f = let yes = eq-eqb x x refl in (rw yes, rw yes, under x st st f.1 (among_self x st f.1))

inner-parent : (st gs : List ℕ) → Among st gs → is_parent (inner st) gs ≡ true
unfolding is_parent
inner-parent [] gs a = refl
inner-parent (x ∷ st) gs a = a.0

inner-open : (st gs : List ℕ) → Among st gs → open_to (inner st) gs ≡ st
unfolding open_to
inner-open [] gs a = refl
inner-open (x ∷ st) gs a = a.1

-- ---- one command: n rows are made, and gs may be parents of the next
pub record State (cap n : ℕ) (st gs : List ℕ) : Type 0 where
  pub made : n ≤ cap
  pub deep : length st ≤ 64
  pub falls : Falls n st
  pub among : Among st gs

-- those that may be parents then
abbrev pub then : List ℕ → List ℕ → List Row → List ℕ
then gs st [] = gs
then gs st (r ∷ rs) = st

abbrev pub GoodStep : ℕ → ℕ → List ℕ → Step → Type 0
GoodStep cap n gs (on st rs h) =
    State cap (n + length rs) st (then gs st rs)
    × ((more : List Row) → is_good_from (n + length rs) (then gs st rs) more ≡ true → is_good_from n gs (rs ++ more) ≡ true)
GoodStep cap n gs whole = Unit
GoodStep cap n gs (off e) = Unit

module _ (cap n : ℕ) (st gs : List ℕ) (h : Header) (w : State cap n st gs) where
  added-good : (st' : List ℕ) (r : Row) → length st' ≤ 64 → Falls (n + 1) st'
      → ((more : List Row) → is_good_from (n + 1) st' more ≡ true → is_good_from n gs (r ∷ more) ≡ true) → GoodStep cap n gs (added cap n st' r h)
  added-good st' r d f g =
      by-test (ltb n cap)
      (λ t.
      let l = ltb-true n cap t in
      rw t (record { made = omega arith; deep = d; falls = f; among = among_self (n + 1) st' f }, g))
      (λ t. rw t tt)

  leaf-good : (r : Row) → ((more : List Row) → is_good_from n gs (r ∷ more) ≡ (is_parent (inner st) gs && is_good_from (n + 1) (open_to (inner st) gs) more))
      → GoodStep cap n gs (added cap n st r h)
  leaf-good r e =
      added-good st r w.deep (falls-on n (n + 1) st (omega arith) w.falls)
      (λ more g. e more ∙ rw (inner-parent st gs w.among, inner-open st gs w.among) g)

  top-good : (v : Step) → GoodStep cap n gs v → GoodStep cap n gs (at_top st v)
  top-good v g = go st
    where
      go : (l : List ℕ) → GoodStep cap n gs (at_top l v)
      go [] = g
      go (x ∷ l) = tt

  same_good : (h' : Header) → GoodStep cap n gs (on st [] h')
  same_good h' = (record { made = omega (arith, w.made); deep = w.deep; falls = falls-on n (n + 0) st (omega arith) w.falls; among = w.among }, λ more g. same more g)
    where
      same : (more : List Row) → is_good_from (n + 0) gs more ≡ true → is_good_from n gs more ≡ true
      same more g = rw add-zero at g

closed-good : (cap n : ℕ) (st gs : List ℕ) (h : Header) → State cap n st gs → GoodStep cap n gs (closed st h)
closed-good cap n [] gs h w = tt
closed-good cap n (x ∷ st) gs h w =
    let f = w.falls in
    same_good cap n st gs h
    (record { made = w.made; deep = omega (arith, w.deep); falls = falls-on x n st (omega (arith, f.0)) f.1; among = w.among.2 }) h

pub step-good : (cap : ℕ) (k : Command) (n : ℕ) (st gs : List ℕ) (h : Header) → State cap n st gs → GoodStep cap n gs (move cap k st n h)
unfolding move is_good_from
step-good cap (Command.Comment t) n st gs h w = leaf-good cap n st gs h w _ (λ more. refl)
step-good cap (Command.Date t) n st gs h w = top-good cap n st gs h w _ (same_good cap n st gs h w (with_date h t))
step-good cap (Command.Version t) n st gs h w = top-good cap n st gs h w _ (same_good cap n st gs h w (with_version h t))
step-good cap (Command.Timescale q u) n st gs h w = top-good cap n st gs h w _ (same_good cap n st gs h w (with_timescale h q u))
step-good cap (Command.ScopeDef k t) n st gs h w =
    by-test (ltb (length st) 64)
    (λ e.
    let l = ltb-true (length st) 64 e in
    rw e
    (added-good cap n st gs h w (n ∷ st) (Row.Scope (inner st) k t) (omega arith) (omega arith, w.falls)
    (λ more g. rw (inner-parent st gs w.among, inner-open st gs w.among, e) g)))
    (λ e. rw e tt)
step-good cap Command.Upscope n st gs h w = closed-good cap n st gs h w
step-good cap (Command.VarDef k v i t x) n st gs h w = leaf-good cap n st gs h w _ (λ more. refl)
step-good cap Command.Enddefinitions n st gs h w = top-good cap n st gs h w whole tt
step-good cap (Command.Timestamp t) n st gs h w = tt
step-good cap (Command.ChangeScalar i v) n st gs h w = tt
step-good cap (Command.ChangeVector i v) n st gs h w = tt
step-good cap (Command.ChangeReal i v) n st gs h w = tt
step-good cap (Command.ChangeString i v) n st gs h w = tt
step-good cap (Command.Begin k) n st gs h w = tt
step-good cap (Command.End k) n st gs h w = tt

pub start : (cap : ℕ) → State cap 0 [] []
start cap = record { made = omega arith; deep = omega arith; falls = tt; among = tt }

-- ---- all commands
abbrev GoodRows : ℕ → ℕ → List ℕ → List Row → Type 0
GoodRows cap n gs rs = (n + length rs ≤ cap) × (is_good_from n gs rs ≡ true)

none-good : (cap n : ℕ) (gs : List ℕ) → n ≤ cap → GoodRows cap n gs []
unfolding is_good_from
none-good cap n gs h = (omega arith, refl)

follow-good : (cap n : ℕ) (gs : List ℕ) (d : Cursor) (h : Header) (v : Step) (more : List ℕ → List Row → Header → Outcome)
    → n ≤ cap → GoodStep cap n gs v
    → ((st : List ℕ) (rs : List Row) (h' : Header) → State cap (n + length rs) st (then gs st rs) → GoodRows cap (n + length rs) (then gs st rs) (more st rs h').rows)
    → GoodRows cap n gs (follow d h v more).rows
follow-good cap n gs d h (on st rs h') more l g f =
    let x = f st rs h' g.0 in
    (omega (arith, x.0, length-append rs (more st rs h').rows), g.1 (more st rs h').rows x.1)
follow-good cap n gs d h whole more l g f = none-good cap n gs l
follow-good cap n gs d h (off e) more l g f = none-good cap n gs l

rows-good : (cap : ℕ) (cs : Commands) (n : ℕ) (st gs : List ℕ) (h : Header) → State cap n st gs → GoodRows cap n gs (read_rows cap cs st n h).rows
unfolding read_rows
rows-good cap (command k d more) n st gs h w =
    follow-good cap n gs d h (move cap k st n h) (λ st' rs h'. read_rows cap more st' (n + length rs) h') w.made (step-good cap k n st gs h w)
    (λ st' rs h' w'. rows-good cap more (n + length rs) st' (then gs st' rs) h' w')
rows-good cap (stop e l d) n st gs h w = none-good cap n gs w.made
rows-good cap (finish d) n st gs h w = none-good cap n gs w.made

-- the rows of a header, and that there are no more than there is room for
module _ (s : List ℕ) (c : Cursor) (table : List ℕ) where
  all : GoodRows (min 4096 (length table / 10)) 0 [] (header_of s c table).rows
  all = rows-good (min 4096 (length table / 10)) (commands s c) 0 [] [] nothing (start (min 4096 (length table / 10)))

  pub header-room : length (header_of s c table).rows ≤ min 4096 (length table / 10)
  header-room = omega (arith, all.0)

  pub header-good : is_good_table (header_of s c table).rows ≡ true
  unfolding is_good_table
  header-good = rw (le-leb (length (header_of s c table).rows) 4096 (omega (arith, header-room)), all.1)
