-- What a command does to what is still to come: `after m n (rest ..)` is the same before it and after it, or is known. Then what the
-- private functions promise of an item, of the end of a scope, of some variables, of a scope's items and of what is kept at top.
use Rattle.command.specs.Refusals.{Ended}
use Rattle.std.specs.Prelude.{Option, Some, Result, Ok, Err}
use Rattle.rows.specs.declared.RowNumber.{RowNumber}
use Prim.Native.Nat.{ℕ, suc, ◌+◌, ◌-◌, ◌≤◌, ◌<◌}
use mathlib.Core.Path.{◌≡◌, refl, sym, ap, ◌∙◌}
use mathlib.Core.Bool.{false, cond, false≢true}
use mathlib.Core.List.{List, [], ◌∷◌}
use native.Mathlib.Omega.{arith}
use native.Mathlib.Nat.{add-zero}
use borrow.Author.Tests.{lt-ltb, le-ltb, ltb-true, eqb-true, eqb-false}
use lib.Dec.{eqb, ltb}
use lib.ListN.{length}
use Rattle.command.specs.declared.Command.{Command}
use Rattle.command.specs.declared.Refusal.{Refusal}
use Rattle.parser.specs.All.{Commands, followed, commands}
use Rattle.parser.specs.Next.{next_from}
use Rattle.parser_part.specs.Plan.{var_def}
use Rattle.parser.specs.declared.Next.{Next}
use Rattle.parser.proofs.All.{commands-step, less-left}
use Rattle.scope.specs.declared.Var.{Var}
use Rattle.text.proofs.Lists.{by-test}
use Rattle.token.specs.declared.Cursor.{Cursor}
use Rattle.header.specs.Header.{Step, on, off, whole, inner, added, at_top, closed, move, Outcome, ending, follow, read_rows}
use Rattle.header.specs.Level.{Duty, scope, leaf, keeps, closes, ends, strange, duty, has_row, item_by, item_of, table_by, table_of, close_by, close_of, keep_by, keep_of, final, fill, after, rest, Here, Took, Passes, Follows}
use Rattle.rows.specs.Rows.{put, row_words}
use Rattle.header.specs.declared.Header.{Header}
use Rattle.header.specs.declared.Item.{Item}
use Rattle.header.specs.declared.Move.{Move}
use Rattle.rows.specs.declared.Row.{Row}

-- ---- the moves, by what a command is for
abbrev move_by : ℕ → Duty → List ℕ → ℕ → Header → Step
move_by cap (scope r) st n h = cond (ltb (length st) 64) (added cap n (n ∷ st) (r (inner st)) h) (off Refusal.TooDeep)
move_by cap (leaf r) st n h = added cap n st (r (inner st)) h
move_by cap (keeps f) st n h = at_top st (on st [] (f h))
move_by cap closes st n h = closed st h
move_by cap ends st n h = at_top st whole
move_by cap strange st n h = off Refusal.UnexpectedHeaderCommand

moves : (cap : ℕ) (k : Command) (st : List ℕ) (n : ℕ) (h : Header) → move cap k st n h ≡ move_by cap (duty k) st n h
unfolding move duty
moves cap (Command.Comment t) st n h = refl
moves cap (Command.Date t) st n h = refl
moves cap (Command.Version t) st n h = refl
moves cap (Command.Timescale q u) st n h = refl
moves cap (Command.ScopeDef k t) st n h = refl
moves cap Command.Upscope st n h = refl
moves cap (Command.VarDef k w i t x) st n h = refl
moves cap Command.Enddefinitions st n h = refl
moves cap (Command.Timestamp t) st n h = refl
moves cap (Command.ChangeScalar i v) st n h = refl
moves cap (Command.ChangeVector i v) st n h = refl
moves cap (Command.ChangeReal i v) st n h = refl
moves cap (Command.ChangeString i v) st n h = refl
moves cap (Command.Begin k) st n h = refl
moves cap (Command.End k) st n h = refl

-- ---- the rest of a header, by the next answer
module _ (s : List ℕ) (cap : ℕ) (m : List ℕ) (n : ℕ) (c d : Cursor) (st : List ℕ) (h : Header) where
  by_next : (x : Next) → next_from s c ≡ x → rest s cap c st n h ≡ read_rows cap (followed (commands s) x) st n h
  by_next x e = ap (λ (y : Commands). read_rows cap y st n h) (commands-step s c ∙ ap (followed (commands s)) e)

  none_more : (e : Ended) → after m n (ending h e d) ≡ final h e d n m
  none_more e = ap (λ (k : ℕ). final h e d k m) (add-zero n)

  pub rest-refused : (e : Refusal) (l : ℕ) → next_from s c ≡ Next.Refused e l d → after m n (rest s cap c st n h) ≡ final h (Err (e, l)) d n m
  unfolding read_rows
  rest-refused e l q = ap (after m n) (by_next (Next.Refused e l d) q) ∙ none_more (Err (e, l))

  pub rest-done : next_from s c ≡ Next.Done d → after m n (rest s cap c st n h) ≡ final h (Err (Refusal.UnexpectedEof, d.line)) d n m
  unfolding read_rows
  rest-done q = ap (after m n) (by_next (Next.Done d) q) ∙ none_more (Err (Refusal.UnexpectedEof, d.line))

  module _ (k : Command) (q : next_from s c ≡ Next.Command k d) where
    abbrev more : List ℕ → List Row → Header → Outcome
    more st' rs h' = rest s cap d st' (n + length rs) h'

    by-command : rest s cap c st n h ≡ follow d h (move cap k st n h) more
    unfolding read_rows
    by-command = by_next (Next.Command k d) q

    by_move : (v : Step) → move_by cap (duty k) st n h ≡ v → after m n (rest s cap c st n h) ≡ after m n (follow d h v more)
    by_move v e = ap (after m n) (by-command ∙ ap (λ (w : Step). follow d h w more) (moves cap k st n h ∙ e))

    stops : (x : Refusal) → move_by cap (duty k) st n h ≡ off x → after m n (rest s cap c st n h) ≡ final h (Err (x, d.line)) d n m
    stops x e = by_move (off x) e ∙ none_more (Err (x, d.line))

    finishes : move_by cap (duty k) st n h ≡ whole → after m n (rest s cap c st n h) ≡ final h (Ok tt) d n m
    finishes e = by_move whole e ∙ none_more (Ok tt)

    steps : (st' : List ℕ) (r : Row) → move_by cap (duty k) st n h ≡ on st' (r ∷ []) h
        → after m n (rest s cap c st n h) ≡ after (put m n (row_words r)) (n + 1) (rest s cap d st' (n + 1) h)
    steps st' r e =
        let o : Outcome = rest s cap d st' (n + 1) h in
        by_move (on st' (r ∷ []) h) e
        ∙ ap (λ (j : ℕ). final o.kept o.ended o.cursor j (fill (put m n (row_words r)) (n + 1) o.rows))
        (let x : n + suc (length o.rows) ≡ n + 1 + length o.rows = omega arith in x)

    passes : (st' : List ℕ) (h' : Header) → move_by cap (duty k) st n h ≡ on st' [] h' → after m n (rest s cap c st n h) ≡ after m n (rest s cap d st' n h')
    passes st' h' e = by_move (on st' [] h') e ∙ ap (λ (j : ℕ). after m n (rest s cap d st' j h')) (add-zero n)

-- ---- an item
module _ (s : List ℕ) (cap levels : ℕ) (p : Option RowNumber) (c d : Cursor) (m : List ℕ) (n : ℕ) (k : Command) (q : next_from s c ≡ Next.Command k d) where
  abbrev Taken : Item → List ℕ → Type 0
  Taken = Took s cap p levels c m n

  full : ((st : List ℕ) (h : Header) → Here levels p st → move_by cap (duty k) st n h ≡ off Refusal.TableFull) → Taken (Item.Refused Refusal.TableFull d.line d) m
  full f st h w = stops s cap m n c d st h k q Refusal.TableFull (f st h w)

  took_by : (y : Duty) → duty k ≡ y → Taken (item_by cap levels n k d y) (table_by cap p levels n m y)
  took_by (scope r) e =
      by-test (eqb levels 0)
      (λ z.
      let a : levels ≡ 0 = eqb-true levels 0 z in
      rw z (λ st h w. stops s cap m n c d st h k q Refusal.TooDeep (rw (e, le-ltb (length st) 64 (omega (arith, w.0))))))
      (λ z.
      let a = eqb-false levels 0 z in
      by-test (ltb n cap)
      (λ t.
      rw (z, t) (
        omega arith,
        (
          ltb-true n cap t,
          less-left s c d k q,
          λ st h w. rw (← w.1) (steps s cap m n c d st h k q (n ∷ st) (r (inner st)) (rw (e, lt-ltb (length st) 64 (omega (arith, w.0)), t))),
        ),
      ))
      (λ t. rw (z, t) (full (λ st h w. rw (e, lt-ltb (length st) 64 (omega (arith, w.0)), t)))))
  took_by (leaf r) e =
      by-test (ltb n cap)
      (λ t.
      rw t (ltb-true n cap t, less-left s c d k q, λ st h w. rw (← w.1) (steps s cap m n c d st h k q st (r (inner st)) (rw (e, t)))))
      (λ t. rw t (full (λ st h w. rw (e, t))))
  took_by (keeps f) e = (refl, q, ap has_row e)
  took_by closes e = (refl, q, ap has_row e)
  took_by ends e = (refl, q, ap has_row e)
  took_by strange e = (refl, q, ap has_row e)

  pub took : (x : Item) (m' : List ℕ) → (x ≡ item_of cap levels n k d) × (m' ≡ table_of cap p levels n k m) → Taken x m'
  unfolding item_of table_of
  took x m' z = rw (z.0, z.1) (took_by (duty k) refl)

-- ---- the end of a scope
module _ (s : List ℕ) (cap p levels : ℕ) (c d : Cursor) (m : List ℕ) (n : ℕ) (b : n ≤ cap) (k : Command) (q : next_from s c ≡ Next.Command k d) where
  misplaced : ((st : List ℕ) (h : Header) → move_by cap (duty k) (p ∷ st) n h ≡ off Refusal.UnexpectedHeaderCommand)
      → Follows s cap p levels c m n (Err (Refusal.UnexpectedHeaderCommand, d.line, d, n)) m
  misplaced f = (b, λ st h w. stops s cap m n c d (p ∷ st) h k q Refusal.UnexpectedHeaderCommand (f st h))

  close-by : (y : Duty) → duty k ≡ y → has_row y ≡ false → Follows s cap p levels c m n (close_by d n y) m
  close-by (scope r) e z = absurd (false≢true (sym z))
  close-by (leaf r) e z = absurd (false≢true (sym z))
  close-by (keeps f) e z = misplaced (λ st h. rw e)
  close-by closes e z =
      let l = less-left s c d k q in
      (b, omega arith, λ st h w. passes s cap m n c d (p ∷ st) h k q st h (rw e))
  close-by ends e z = misplaced (λ st h. rw e)
  close-by strange e z = misplaced (λ st h. rw e)

  close-here : has_row (duty k) ≡ false → (x : Result (Cursor × ℕ) (Refusal × ℕ × Cursor × ℕ)) → x ≡ close_of k d n → Follows s cap p levels c m n x m
  unfolding close_of
  close-here z x e = rw e (close-by (duty k) refl z)

-- ---- some variables
-- none
pub passes_none : (s : List ℕ) (cap : ℕ) (p : Option RowNumber) (c : Cursor) (m : List ℕ) (n : ℕ) → n ≤ cap → Passes s cap p c m n c n m
passes_none s cap p c m n b = (b, omega arith, λ levels st h w. refl)

-- one more
pub passes-more : (s : List ℕ) (cap : ℕ) (p : Option RowNumber) (c₀ : Cursor) (m₀ : List ℕ) (n₀ : ℕ) (c : Cursor) (n : ℕ) (m : List ℕ) (v : Var) (d : Cursor)
    → Passes s cap p c₀ m₀ n₀ c n m → next_from s c ≡ Next.Command (var_def v v.index) d → n < cap
    → Passes s cap p c₀ m₀ n₀ d (n + 1) (put m n (row_words (Row.Var p v)))
unfolding duty
passes-more s cap p c₀ m₀ n₀ c n m v d f q b = (
  omega arith,
  omega (arith, f.1, less-left s c d (var_def v v.index) q),
  λ levels st h w.
      f.2 levels st h w
      ∙ rw (← w.1) (steps s cap m n c d st h (var_def v v.index) q st (Row.Var (inner st) v) (rw (lt-ltb n cap b))),
)

-- ---- within the scope at row p: with n rows in the table m at c, the rest of the reading ends as from c₀, where n₀ are in m₀
pub record Reached (s : List ℕ) (cap p levels : ℕ) (c₀ : Cursor) (m₀ : List ℕ) (n₀ : ℕ) (c : Cursor) (m : List ℕ) (n : ℕ) : Type 0 where
  pub room : n ≤ cap
  pub ahead : length s - c.place ≤ length s - c₀.place
  pub same : (st : List ℕ) (h : Header) → suc (length st) + levels ≡ 64
      → after m₀ n₀ (rest s cap c₀ (p ∷ st) n₀ h) ≡ after m n (rest s cap c (p ∷ st) n h)

module _ {s : List ℕ} {cap p levels n₀ n : ℕ} {c₀ c : Cursor} {m₀ m : List ℕ} (i : Reached s cap p levels c₀ m₀ n₀ c m n) where
  abbrev Item-here : Item → List ℕ → Type 0
  Item-here = Took s cap (Some (record { 0 = p })) levels c m n

  abbrev On : Cursor → List ℕ → ℕ → Type 0
  On = Reached s cap p levels c₀ m₀ n₀

  abbrev Ends : Result (Cursor × ℕ) (Refusal × ℕ × Cursor × ℕ) → List ℕ → Type 0
  Ends = Follows s cap p levels c₀ m₀ n₀

  -- after some variables, a leaf, a scope
  pub reached-vars : (d : Cursor) (n' : ℕ) (m' : List ℕ) → Passes s cap (Some (record { 0 = p })) c m n d n' m' → On d m' n'
  reached-vars d n' m' f = record {
    room = f.0;
    ahead = omega (arith, f.1, i.ahead);
    same = λ st h w. i.same st h w ∙ f.2 levels (p ∷ st) h (w, refl);
  }

  pub reached-leaf : (d : Cursor) (m' : List ℕ) → Item-here (Item.Leaf d) m' → On d m' (n + 1)
  reached-leaf d m' g = record {
    room = omega (arith, g.0);
    ahead = omega (arith, g.1, i.ahead);
    same = λ st h w. i.same st h w ∙ g.2 (p ∷ st) h (w, refl);
  }

  pub reached-scope : (d e : Cursor) (n' : ℕ) (m' m'' : List ℕ) → Item-here (Item.Scope d) m'
      → Follows s cap n (levels - 1) d m' (n + 1) (Ok (e, n')) m'' → On e m'' n'
  reached-scope d e n' m' m'' g f = record {
    room = f.0;
    ahead = omega (arith, g.1.1, f.1, i.ahead);
    same = λ st h w. i.same st h w ∙ g.1.2 (p ∷ st) h (w, refl) ∙ f.2 (p ∷ st) h (omega (arith, g.0, w));
  }

  -- the end: `$upscope` or a command that may not stand here, a refusal, a refusal within a scope
  pub ends-other : (k : Command) (d : Cursor) (m' : List ℕ) (x : Result (Cursor × ℕ) (Refusal × ℕ × Cursor × ℕ)) → Item-here (Item.Other k d) m' → x ≡ close_of k d n → Ends x m'
  ends-other k d m' x g e = rw g.0 (onward x (close-here s cap p levels c d m n i.room k g.1 g.2 x e))
    where
      onward : (y : Result (Cursor × ℕ) (Refusal × ℕ × Cursor × ℕ)) → Follows s cap p levels c m n y m → Ends y m
      onward (Ok (a, b)) f = (f.0, omega (arith, f.1, i.ahead), λ st h w. i.same st h w ∙ f.2 st h w)
      onward (Err (r, l, a, b)) f = (f.0, λ st h w. i.same st h w ∙ f.1 st h w)

  pub ends-refused : (r : Refusal) (l : ℕ) (d : Cursor) (m' : List ℕ) → Item-here (Item.Refused r l d) m' → Ends (Err (r, l, d, n)) m'
  ends-refused r l d m' g = (i.room, λ st h w. i.same st h w ∙ g (p ∷ st) h (w, refl))

  pub ends-within : (d : Cursor) (r : Refusal) (l : ℕ) (e : Cursor) (n' : ℕ) (m' m'' : List ℕ) → Item-here (Item.Scope d) m'
      → Follows s cap n (levels - 1) d m' (n + 1) (Err (r, l, e, n')) m'' → Ends (Err (r, l, e, n')) m''
  ends-within d r l e n' m' m'' g f =
      (f.0, λ st h w. i.same st h w ∙ g.1.2 (p ∷ st) h (w, refl) ∙ f.1 (p ∷ st) h (omega (arith, g.0, w)))

-- ---- what is kept at top
abbrev pub Keeps : List ℕ → ℕ → Cursor → Cursor → List ℕ → ℕ → Header → Move → Type 0
Keeps s cap c d m n h (Move.On h') = after m n (rest s cap c [] n h) ≡ after m n (rest s cap d [] n h')
Keeps s cap c d m n h (Move.Ends x) = after m n (rest s cap c [] n h) ≡ final h x d n m

module _ (s : List ℕ) (cap : ℕ) (c d : Cursor) (m : List ℕ) (n : ℕ) (h : Header) (k : Command) (q : next_from s c ≡ Next.Command k d) where
  keep-by : (y : Duty) → duty k ≡ y → has_row y ≡ false → Keeps s cap c d m n h (keep_by h d.line y)
  keep-by (scope r) e z = absurd (false≢true (sym z))
  keep-by (leaf r) e z = absurd (false≢true (sym z))
  keep-by (keeps f) e z = passes s cap m n c d [] h k q [] (f h) (rw e)
  keep-by closes e z = stops s cap m n c d [] h k q Refusal.UnexpectedHeaderCommand (rw e)
  keep-by ends e z = finishes s cap m n c d [] h k q (rw e)
  keep-by strange e z = stops s cap m n c d [] h k q Refusal.UnexpectedHeaderCommand (rw e)

  pub keep-here : has_row (duty k) ≡ false → (x : Move) → x ≡ keep_of h k d.line → Keeps s cap c d m n h x
  unfolding keep_of
  keep-here z x e = rw e (keep-by (duty k) refl z)
