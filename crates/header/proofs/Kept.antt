-- Of the rows that a header's reading makes and of what it keeps: the texts lie in the input, and the numbers fit a row's words.
use Rattle.std.specs.Prelude.{Option, Some, None}
use Prim.Native.Nat.{ℕ, zero, suc, ◌+◌, ◌/◌, min, ◌≤◌}
use mathlib.Core.Path.{◌≡◌, refl}
use mathlib.Core.Bool.{true}
use mathlib.Core.List.{List, [], ◌∷◌}
use native.Mathlib.Omega.{arith}
use lib.Dec.{ltb}
use lib.ListN.{length}
use Rattle.command.specs.declared.Command.{Command}
use Rattle.parser.specs.All.{Commands, command, stop, finish, followed, commands_on, commands}
use Rattle.parser.specs.Next.{next_from}
use Rattle.parser.specs.declared.Next.{Next}
use Rattle.parser.proofs.Moved.{Inside}
use Rattle.parser.proofs.Ranged.{Ranged, command-ranged}
use Rattle.parser.proofs.Stated.{command-inside}
use Rattle.text.specs.Texts.{is_within}
use Rattle.text.specs.declared.Text.{Text}
use Rattle.text.proofs.Each.{Each, each_append, each_map}
use Rattle.text.proofs.Lists.{by-test}
use Rattle.text.proofs.Places.{within-yes}
use Rattle.token.specs.declared.Cursor.{Cursor}
use Rattle.token.proofs.Tokens.{Within}
use Rattle.header.specs.Header.{nothing, with_date, with_version, with_timescale, Step, on, off, whole, inner, added, at_top, closed, move, Outcome, follow, read_rows, header_of}
use Rattle.rows.specs.Rows.{filled, rows_of}
use Rattle.header.specs.declared.Header.{Header}
use Rattle.rows.specs.declared.Row.{Row}
use Rattle.rows.proofs.Fits.{ParentFits, Fits, filled-back}
use Rattle.header.proofs.Good.{Falls, State, then, GoodStep, step-good, start}

-- ---- what is said of a row, and of what is kept
abbrev pub TextIn : List ℕ → Row → Type 0
TextIn s (Row.Scope p k t) = is_within s t ≡ true
TextIn s (Row.Var p v) = is_within s v.reference ≡ true
TextIn s (Row.Comment p t) = is_within s t ≡ true
TextIn s Row.None = Unit {0}

abbrev pub KeptIn : List ℕ → Option Text → Type 0
KeptIn s None = Unit {0}
KeptIn s (Some t) = is_within s t ≡ true

abbrev pub HeaderIn : List ℕ → Header → Type 0
HeaderIn s h = KeptIn s h.date × KeptIn s h.version

abbrev Row-ok : List ℕ → Row → Type 0
Row-ok s r = TextIn s r × Fits r

-- ---- the commands of an input: their texts lie in it, their numbers are in range
abbrev Told : List ℕ → Commands → Type 0
Told s (command k d more) = Inside s k × Ranged k × Told s more
Told s (stop e l d) = Unit {0}
Told s (finish d) = Unit {0}

told-on : (fuel : ℕ) (s : List ℕ) (c : Cursor) → Told s (commands_on fuel s c)
unfolding commands_on
told-on zero s c = tt
told-on (suc fuel) s c = go (next_from s c) refl (told-on fuel s)
  where
    go : (x : Next) → next_from s c ≡ x → ((d : Cursor) → Told s (commands_on fuel s d)) → Told s (followed (commands_on fuel s) x)
    go (Next.Command k d) e more = (command-inside s c e, command-ranged s c e, more d)
    go (Next.Refused r l d) e more = tt
    go (Next.Done d) e more = tt

told : (s : List ℕ) (c : Cursor) → Told s (commands s c)
unfolding commands
told s c = told-on _ s c

-- ---- one command
abbrev StepIn : List ℕ → Step → Type 0
StepIn s (on st rs h) = Each (Row-ok s) rs × HeaderIn s h
StepIn s whole = Unit {0}
StepIn s (off e) = Unit {0}

within : (s : List ℕ) (t : Text) → Within s t → is_within s t ≡ true
within s t w = within-yes s t w.inside

module _ (s : List ℕ) (cap n : ℕ) (st gs : List ℕ) (h : Header) (l : cap ≤ 4096) (w : State cap n st gs) (i : HeaderIn s h) where
  parent-fits : ParentFits (inner st)
  parent-fits = go st w.falls
    where
      go : (x : List ℕ) → Falls n x → ParentFits (inner x)
      go [] f = tt
      go (x ∷ y) f = omega (arith, f.0, w.made)

  added-in : (st' : List ℕ) (r : Row) → Row-ok s r → StepIn s (added cap n st' r h)
  added-in st' r o = by-test (ltb n cap) (λ t. rw t ((o, tt), i)) (λ t. rw t tt)

  top_in : (h' : Header) → HeaderIn s h' → StepIn s (at_top st (on st [] h'))
  top_in h' j = go st
    where
      go : (x : List ℕ) → StepIn s (at_top x (on st [] h'))
      go [] = (tt, j)
      go (y ∷ x) = tt

  end-in : StepIn s (at_top st whole)
  end-in = go st
    where
      go : (x : List ℕ) → StepIn s (at_top x whole)
      go [] = tt
      go (y ∷ x) = tt

  close-in : StepIn s (closed st h)
  close-in = go st
    where
      go : (x : List ℕ) → StepIn s (closed x h)
      go [] = tt
      go (y ∷ x) = (tt, i)

  step_in : (k : Command) → Inside s k → Ranged k → StepIn s (move cap k st n h)
  unfolding move
  step_in (Command.Comment t) a b = added-in st _ (within s t a, parent-fits)
  step_in (Command.Date t) a b = top_in (with_date h t) (within s t a, i.1)
  step_in (Command.Version t) a b = top_in (with_version h t) (i.0, within s t a)
  step_in (Command.Timescale q u) a b = top_in (with_timescale h q u) i
  step_in (Command.ScopeDef k t) a b = by-test (ltb (length st) 64) (λ e. rw e (added-in (n ∷ st) _ (within s t a, parent-fits))) (λ e. rw e tt)
  step_in Command.Upscope a b = close-in
  step_in (Command.VarDef k v j t x) a b = added-in st _ (within s t a, (parent-fits, b.0, b.1))
  step_in Command.Enddefinitions a b = end-in
  step_in (Command.Timestamp t) a b = tt
  step_in (Command.ChangeScalar j v) a b = tt
  step_in (Command.ChangeVector j v) a b = tt
  step_in (Command.ChangeReal j v) a b = tt
  step_in (Command.ChangeString j v) a b = tt
  step_in (Command.Begin k) a b = tt
  step_in (Command.End k) a b = tt

-- ---- all commands
abbrev OutcomeIn : List ℕ → Outcome → Type 0
OutcomeIn s o = Each (Row-ok s) o.rows × HeaderIn s o.kept

follow-in : (s : List ℕ) (cap n : ℕ) (gs : List ℕ) (d : Cursor) (h : Header) (v : Step) (more : List ℕ → List Row → Header → Outcome)
    → HeaderIn s h → GoodStep cap n gs v → StepIn s v
    → ((st : List ℕ) (rs : List Row) (h' : Header) → State cap (n + length rs) st (then gs st rs) → HeaderIn s h' → OutcomeIn s (more st rs h'))
    → OutcomeIn s (follow d h v more)
follow-in s cap n gs d h (on st rs h') more i g x f =
    let y = f st rs h' g.0 x.1 in
    (each_append (Row-ok s) rs (more st rs h').rows x.0 y.0, y.1)
follow-in s cap n gs d h whole more i g x f = (tt, i)
follow-in s cap n gs d h (off e) more i g x f = (tt, i)

rows_in : (s : List ℕ) (cap : ℕ) → cap ≤ 4096 → (cs : Commands) → Told s cs → (n : ℕ) (st gs : List ℕ) (h : Header) → State cap n st gs → HeaderIn s h
    → OutcomeIn s (read_rows cap cs st n h)
unfolding read_rows
rows_in s cap l (command k d more) t n st gs h w i =
    follow-in s cap n gs d h (move cap k st n h) (λ st' rs h'. read_rows cap more st' (n + length rs) h') i (step-good cap k n st gs h w)
    (step_in s cap n st gs h l w i k t.0 t.1)
    (λ st' rs h' w' i'. rows_in s cap l more t.2 (n + length rs) st' (then gs st' rs) h' w' i')
rows_in s cap l (stop e q d) t n st gs h w i = (tt, i)
rows_in s cap l (finish d) t n st gs h w i = (tt, i)

module _ (s : List ℕ) (c : Cursor) (table : List ℕ) where
  abbrev out : Outcome
  out = header_of s c table

  all : OutcomeIn s out
  all = let cap = min 4096 (length table / 10) in rows_in s cap (omega arith) (commands s c) (told s c) 0 [] [] nothing (start cap) (tt, tt)

  -- every text of a row, and every text that is kept, lies in the input
  pub header-texts : Each (TextIn s) out.rows
  header-texts = each_map (Row-ok s) (TextIn s) (λ r x. x.0) out.rows all.0

  pub header-kept : HeaderIn s out.kept
  header-kept = all.1

  -- the numbers of the rows fit the words, so that the filled table gives the rows back
  pub header-fits : Each Fits out.rows
  header-fits = each_map (Row-ok s) Fits (λ r x. x.1) out.rows all.0

  pub header-back : rows_of (filled out.rows table) (length out.rows) ≡ out.rows
  header-back = filled-back out.rows table header-fits
