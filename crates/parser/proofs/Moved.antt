-- A plan's texts lie in the input, and a plan asks for the same where the input stands after other bytes: once for every plan.
use Rattle.std.specs.Prelude.{Option, Some, None, Result, Ok, Err}
use Rattle.scope.specs.declared.VarType.{VarType}
use Rattle.timescale.specs.declared.TimescaleUnit.{TimescaleUnit}
use Rattle.scope.specs.declared.ScopeType.{ScopeType}
use Rattle.idcode.specs.declared.InvalidIdCode.{InvalidIdCode}
use Prim.Native.Nat.{ℕ, ◌+◌, ◌^◌}
use mathlib.Core.Path.{◌≡◌, refl}
use mathlib.Core.Bool.{Bool, true, false, cond}
use mathlib.Core.List.{List, [], ◌∷◌, ◌++◌}
use native.Mathlib.Nat.{add_assoc}
use native.Mathlib.Omega.{arith}
use lib.Dec.{eqb, ltb}
use lib.ListN.{length, drop, length-take}
use lib.Seq.{drop-append-add}
use Rattle.text.specs.Bytes.{bytes, equal, starts, up_to}
use Rattle.command.specs.Words.{end_mark, word_of}
use Rattle.text.specs.Texts.{part}
use Rattle.utf8.specs.Utf8.{valid_utf8}
use Rattle.text.specs.declared.Text.{Text}
use Rattle.text.proofs.Lists.{by-test}
use Rattle.white_space.proofs.Trimming.{trimmed-within}
use Rattle.number.specs.Decimal.{parse_below}
use Rattle.real.specs.Real.{digits_in, is_real}
use Rattle.idcode.specs.Id.{parse_id}
use Rattle.idcode.specs.declared.IdCode.{IdCode}
use Rattle.timescale.specs.Units.{parse_unit}
use Rattle.scope.specs.Types.{parse_scope_type, parse_var_type}
use Rattle.scope.specs.Index.{parse_index}
use Rattle.scope.specs.declared.Var.{Var}
use Rattle.scope.specs.declared.ReferenceIndex.{ReferenceIndex}
use Rattle.command.specs.Meaning.{Remark, comment, date, version}
use Rattle.command.specs.declared.Command.{Command}
use Rattle.command.specs.declared.Refusal.{Refusal}
use Rattle.command.specs.declared.SimulationCommand.{SimulationCommand}
use Rattle.token.specs.Read.{Reading, Bound, most, values, unlimited, passed, Valid, byte_read, end_read, after, rest, gap, word, skipped, word_token, word_here, token, text_to, text_from}
use Rattle.token.specs.declared.Cursor.{Cursor}
use Rattle.token.proofs.Tokens.{Within, Kept, token-kept, text-kept}
use Rattle.parser_part.specs.Plan.{Plan, answer, begins, ends, refuse, a_token, a_text, and_then, ended, run, an_id, numbered, identified, closing, last_of, trimmed_in, remark_of, remark, is_ascii, in_unit, scaled, unit_in, timescale, scope_of, var_def, indexed, var_end, var_of, word_plan, kind_plan}
use Rattle.parser_part.specs.declared.Kind.{Kind}
use Rattle.parser.specs.Next.{next_of}
use Rattle.parser.specs.declared.Next.{Next}
use Rattle.command.specs.declared.Word.{Word}

-- ---- n bytes and l lines further on
abbrev pub moved_text : ℕ → Text → Text
moved_text n t = record { start = n + t.start; len = t.len }

abbrev pub moved_command : ℕ → Command → Command
moved_command n (Command.Comment t) = Command.Comment (moved_text n t)
moved_command n (Command.Date t) = Command.Date (moved_text n t)
moved_command n (Command.Version t) = Command.Version (moved_text n t)
moved_command n (Command.ScopeDef k t) = Command.ScopeDef k (moved_text n t)
moved_command n (Command.VarDef k w i t x) = Command.VarDef k w i (moved_text n t) x
moved_command n (Command.ChangeVector i t) = Command.ChangeVector i (moved_text n t)
moved_command n (Command.ChangeReal i t) = Command.ChangeReal i (moved_text n t)
moved_command n (Command.ChangeString i t) = Command.ChangeString i (moved_text n t)
moved_command n (Command.Timescale q u) = Command.Timescale q u
moved_command n Command.Upscope = Command.Upscope
moved_command n Command.Enddefinitions = Command.Enddefinitions
moved_command n (Command.Timestamp t) = Command.Timestamp t
moved_command n (Command.ChangeScalar i v) = Command.ChangeScalar i v
moved_command n (Command.Begin k) = Command.Begin k
moved_command n (Command.End k) = Command.End k

abbrev pub moved : ℕ → ℕ → Cursor → Cursor
moved n l c = record { place = n + c.place; line = l + c.line; pending = c.pending; sim = c.sim }

abbrev moved_token : ℕ → ℕ → Reading Text → Reading Text
moved_token n l (Ok (t, d)) = Ok (moved_text n t, moved n l d)
moved_token n l (Err (e, d)) = Err (e, moved n l d)

abbrev pub moved_next : ℕ → ℕ → Next → Next
moved_next n l (Next.Command k d) = Next.Command (moved_command n k) (moved n l d)
moved_next n l (Next.Refused e m d) = Next.Refused e (l + m) (moved n l d)
moved_next n l (Next.Done d) = Next.Done (moved n l d)

-- a command's texts lie in s
abbrev pub Inside : List ℕ → Command → Type 0
Inside s (Command.Comment t) = Within s t
Inside s (Command.Date t) = Within s t
Inside s (Command.Version t) = Within s t
Inside s (Command.ScopeDef k t) = Within s t
Inside s (Command.VarDef k w i t x) = Within s t
Inside s (Command.ChangeVector i t) = Within s t
Inside s (Command.ChangeReal i t) = Within s t
Inside s (Command.ChangeString i t) = Within s t
Inside s (Command.Timescale q u) = Unit {0}
Inside s Command.Upscope = Unit {0}
Inside s Command.Enddefinitions = Unit {0}
Inside s (Command.Timestamp t) = Unit {0}
Inside s (Command.ChangeScalar i v) = Unit {0}
Inside s (Command.Begin k) = Unit {0}
Inside s (Command.End k) = Unit {0}

-- ---- two plans that ask for the same: the texts of the one lie in s, those of the other are n bytes further on
pub data Moves (n : ℕ) (s : List ℕ) : Plan → Plan → Type 0 where
  answers : (k : Command) → Inside s k → Moves n s (answer k) (answer (moved_command n k))
  begin : (k : SimulationCommand) → Moves n s (begins k) (begins k)
  end : Moves n s ends ends
  refuses : (e : Refusal) → Moves n s (refuse e) (refuse e)
  tokens : (b : Bound) {f g : Text → List ℕ → Plan} → ((t : Text) → Within s t → Moves n s (f t (part s t)) (g (moved_text n t) (part s t)))
      → Moves n s (a_token b f) (a_token b g)
  texts : {f g : Text → List ℕ → Plan} → ((t : Text) → Within s t → Moves n s (f t (part s t)) (g (moved_text n t) (part s t))) → Moves n s (a_text f) (a_text g)

trimmed-inside : (s : List ℕ) (t : Text) → Within s t → Within s (trimmed_in t (part s t))
unfolding part
trimmed-inside s t w = record { inside = omega (arith, w.inside, trimmed-within (part s t), length-take t.len (drop t.start s)) }

-- ---- each plan
module _ (n : ℕ) (s : List ℕ) where
  abbrev Same : Plan → Plan → Type 0
  Same p q = Moves n s p q

  tested : (t : Bool) {p q x y : Plan} → Same p x → Same q y → Same (cond t p q) (cond t x y)
  tested true m o = m
  tested false m o = o

  judged : (w : List ℕ) {p q : Plan} → Same p q → Same (cond (valid_utf8 w) p (refuse Refusal.InvalidUtf8)) (cond (valid_utf8 w) q (refuse Refusal.InvalidUtf8))
  judged w m = tested (valid_utf8 w) m (refuses _)

  counted : (x : Option ℕ) {f g : ℕ → Plan} → ((v : ℕ) → Same (f v) (g v)) → Same (numbered x f) (numbered x g)
  counted (Some v) h = h v
  counted None h = refuses _

  named : (x : Result IdCode InvalidIdCode) {f g : IdCode → Plan} → ((i : IdCode) → Same (f i) (g i)) → Same (identified x f) (identified x g)
  named (Ok i) h = h i
  named (Err e) h = refuses _

  id_same : {f g : IdCode → Plan} → ((i : IdCode) → Same (f i) (g i)) → Same (an_id f) (an_id g)
  id_same h = tokens (most 32) (λ t w. judged (part s t) (named (parse_id (part s t)) h))

  last-same : (k : Command) → Inside s k → (e : List ℕ) → Same (last_of k e) (last_of (moved_command n k) e)
  last-same k i e = tested (equal e end_mark) (answers k i) (refuses _)

  closing_same : (k : Command) → Inside s k → Same (closing k) (closing (moved_command n k))
  closing_same k i = tokens (most 8) (λ t w. last-same k i (part s t))

  remark-answer : (r : Remark) (t : Text) → Within s t
      → Same (answer (remark_of r (trimmed_in t (part s t)))) (answer (remark_of r (trimmed_in (moved_text n t) (part s t))))
  remark-answer comment t w = rw add_assoc (answers (Command.Comment (trimmed_in t (part s t))) (trimmed-inside s t w))
  remark-answer date t w = rw add_assoc (answers (Command.Date (trimmed_in t (part s t))) (trimmed-inside s t w))
  remark-answer version t w = rw add_assoc (answers (Command.Version (trimmed_in t (part s t))) (trimmed-inside s t w))

  remark-same : (r : Remark) → Same (remark r) (remark r)
  remark-same r = texts (λ t w. judged (part s t) (remark-answer r t w))

  in-unit : (q : ℕ) (u : Option TimescaleUnit) → Same (in_unit q u) (in_unit q u)
  in-unit q (Some u) = closing_same (Command.Timescale q u) tt
  in-unit q None = refuses _

  scaled-same : (q u : List ℕ) → Same (scaled q u) (scaled q u)
  scaled-same q u = counted (parse_below (2 ^ 32) q) (λ v. in-unit v (parse_unit u))

  unit-same : (q u : List ℕ) → Same (unit_in q u) (unit_in q u)
  unit-same q [] = tokens (most 8) (λ t w. judged (part s t) (scaled-same q (part s t)))
  unit-same q (b ∷ u) = scaled-same q (b ∷ u)

  timescale-same : Same timescale timescale
  timescale-same = tokens (most 8) (λ t w. judged (part s t) (tested (is_ascii (part s t)) (unit-same (digits_in (part s t)) (drop (length (digits_in (part s t))) (part s t))) (refuses _)))

  scope-of : (k : Option ScopeType) → Same (scope_of k) (scope_of k)
  scope-of (Some k) = tokens unlimited (λ t w. judged (part s t) (closing_same (Command.ScopeDef k t) w))
  scope-of None = refuses _

  -- a variable whose name is n bytes further on
  abbrev further : Var → Var
  further v = record { var_type = v.var_type; size = v.size; code = v.code; reference = moved_text n v.reference; index = v.index }

  indexed-same : (v : Var) → Within s v.reference → (x : Option ReferenceIndex) → Same (indexed v x) (indexed (further v) x)
  indexed-same v i (Some x) = tokens (most 32) (λ t w. judged (part s t) (last-same (var_def v x) i (part s t)))
  indexed-same v i None = refuses _

  var-end : (v : Var) → Within s v.reference → Same (var_end v) (var_end (further v))
  var-end v i =
      tokens (most 32)
      (λ t w. judged (part s t) (tested (starts (bytes "[") (part s t)) (indexed-same v i (parse_index (part s t))) (last-same (var_def v ReferenceIndex.None) i (part s t))))

  var-of : (k : Option VarType) → Same (var_of k) (var_of k)
  var-of (Some k) =
      tokens (most 32)
      (λ t w. judged (part s t) (counted (parse_below (2 ^ 32) (part s t)) (λ v. id_same (λ i. tokens unlimited (λ r u. judged (part s r) (var-end (record { var_type = k; size = v; code = i; reference = r; index = ReferenceIndex.None }) u))))))
  var-of None = refuses _

  word_same : (w : Word) → Same (word_plan w) (word_plan w)
  word_same Word.Comment = remark-same comment
  word_same Word.Date = remark-same date
  word_same Word.Version = remark-same version
  word_same Word.Timescale = timescale-same
  word_same Word.Scope = tokens (most 32) (λ t w. judged (part s t) (scope-of (parse_scope_type (part s t))))
  word_same Word.Upscope = closing_same Command.Upscope tt
  word_same Word.Var = tokens (most 32) (λ t w. judged (part s t) (var-of (parse_var_type (part s t))))
  word_same Word.Enddefinitions = closing_same Command.Enddefinitions tt
  word_same (Word.Begin k) = begin k
  word_same Word.End = end
  word_same Word.Unknown = refuses _

  pub kind-same : (k : Kind) → Same (kind_plan k) (kind_plan k)
  kind-same Kind.Dollar = tokens (most 16) (λ t w. word_same (word_of (part s t)))
  kind-same Kind.Hash = tokens (most 32) (λ t w. judged (part s t) (counted (parse_below (2 ^ 64) (part s t)) (λ v. answers (Command.Timestamp (record { 0 = v })) tt)))
  kind-same (Kind.Scalar x) = id_same (λ i. answers (Command.ChangeScalar i x) tt)
  kind-same Kind.Vector = tokens values (λ t w. id_same (λ i. answers (Command.ChangeVector i t) w))
  kind-same Kind.Real = tokens (most 32) (λ t w. judged (part s t) (tested (is_real (part s t)) (id_same (λ i. answers (Command.ChangeReal i t) w)) (refuses _)))
  kind-same Kind.Text = tokens unlimited (λ t w. judged (part s t) (id_same (λ i. answers (Command.ChangeString i t) w)))
  kind-same Kind.Other = refuses _

-- ---- what a plan answers: a command whose texts lie in the input, or a refusal with its cursor's line
abbrev pub Told : List ℕ → Next → Type 0
Told s (Next.Command k d) = Inside s k
Told s (Next.Refused e m d) = m ≡ d.line
Told s (Next.Done d) = ⊥

then-told : (s : List ℕ) (c : Cursor) (f : Text → Cursor → Reading Command) (k : Reading Text) → Kept s c k → ((t : Text) (d : Cursor) → Valid s d → Within s t → Told s (next_of (f t d)))
    → Told s (next_of (and_then f k))
then-told s c f (Ok (t, d)) k h = h t d k.0.valid k.1
then-told s c f (Err (e, d)) k h = refl

ended-told : (o : Option SimulationCommand) (s : List ℕ) (c : Cursor) → Told s (next_of (ended o c))
ended-told None s c = refl
ended-told (Some k) s c = tt

pub run-told : {n : ℕ} {s : List ℕ} {p q : Plan} → Moves n s p q → (c : Cursor) → Valid s c → Told s (next_of (run p s c))
unfolding run
run-told (answers k i) c v = i
run-told (begin k) c v = tt
run-told {n} {s} end c v = ended-told c.sim s c
run-told (refuses e) c v = refl
run-told {n} {s} (tokens b m) c v = then-told s c _ (token s c b) (token-kept s c b v) (λ t d u w. run-told (m t w) d u)
run-told {n} {s} (texts m) c v = then-told s c _ (text_from s c) (text-kept s c v) (λ t d u w. run-told (m t w) d u)

-- ---- reading after other bytes
module _ (pre s : List ℕ) (l : ℕ) where
  abbrev far : Cursor → Cursor
  far c = moved (length pre) l c

  pub byte-moved : (c : Cursor) (b : ℕ) → byte_read (far c) b ≡ far (byte_read c b)
  unfolding byte_read
  byte-moved c b = rw (add_assoc (length pre), add_assoc l)

  pub end_moved : (c : Cursor) → end_read (far c) ≡ far (end_read c)
  unfolding end_read
  end_moved c = rw (add_assoc l)

  after-moved : (x : List ℕ) (c : Cursor) → after x (far c) ≡ far (after x c)
  unfolding after
  after-moved [] c = refl
  after-moved (b ∷ x) c = rw (byte-moved c b) (after-moved x (byte_read c b))

  rest-moved : (c : Cursor) → rest (pre ++ s) (far c) ≡ rest s c
  rest-moved c = drop-append-add pre s c.place

  part_moved : (t : Text) → part (pre ++ s) (moved_text (length pre) t) ≡ part s t
  unfolding part
  part_moved t = rw (drop-append-add pre s t.start)

  pub skipped-moved : (c : Cursor) → skipped (pre ++ s) (far c) ≡ far (skipped s c)
  unfolding skipped
  skipped-moved c = rw (rest-moved c) (after-moved (gap (rest s c)) c)

  word_moved : (w r : List ℕ) (c : Cursor) (b : Bound) → word_token w r (far c) b ≡ moved_token (length pre) l (word_token w r c b)
  unfolding word_token
  word_moved w r c b =
      by-test (ltb (passed b w) (length w)) (λ e. rw (e, after-moved))
      (λ e. by-test (eqb (length w) (length r)) (λ q. rw (e, q, after-moved, end_moved)) (λ q. rw (e, q, after-moved)))

  token-moved : (c : Cursor) (b : Bound) → token (pre ++ s) (far c) b ≡ moved_token (length pre) l (token s c b)
  unfolding token word_here
  token-moved c b = rw (skipped-moved c, rest-moved (skipped s c)) (word_moved (word (rest s (skipped s c))) (rest s (skipped s c)) (skipped s c) b)

  text-moved : (c : Cursor) → text_from (pre ++ s) (far c) ≡ moved_token (length pre) l (text_from s c)
  unfolding text_from text_to
  text-moved c =
      let x = up_to end_mark (rest s c) in
      by-test (starts end_mark (drop (length x) (rest s c)))
      (λ e. rw (rest-moved c, e, after-moved x c, after-moved end_mark))
      (λ e. rw (rest-moved c, e, after-moved x c, end_moved))

  ended-moved : (o : Option SimulationCommand) (c : Cursor) → next_of (ended o (far c)) ≡ moved_next (length pre) l (next_of (ended o c))
  ended-moved None c = refl
  ended-moved (Some k) c = refl

  then-moved : (c : Cursor) (f g : Text → Cursor → Reading Command) (k : Reading Text) → Kept s c k
      → ((t : Text) (d : Cursor) → Valid s d → Within s t → next_of (g (moved_text (length pre) t) (far d)) ≡ moved_next (length pre) l (next_of (f t d)))
      → next_of (and_then g (moved_token (length pre) l k)) ≡ moved_next (length pre) l (next_of (and_then f k))
  then-moved c f g (Ok (t, d)) k h = h t d k.0.valid k.1
  then-moved c f g (Err (e, d)) k h = refl

  pub run_moved : {p q : Plan} → Moves (length pre) s p q → (c : Cursor) → Valid s c
      → next_of (run q (pre ++ s) (far c)) ≡ moved_next (length pre) l (next_of (run p s c))
  unfolding run
  run_moved (answers k i) c v = refl
  run_moved (begin k) c v = refl
  run_moved end c v = ended-moved c.sim c
  run_moved (refuses e) c v = refl
  run_moved (tokens b m) c v =
      rw (token-moved c b) (then-moved c _ _ (token s c b) (token-kept s c b v) (λ t d u w. rw (part_moved t) (run_moved (m t w) d u)))
  run_moved (texts m) c v =
      rw (text-moved c) (then-moved c _ _ (text_from s c) (text-kept s c v) (λ t d u w. rw (part_moved t) (run_moved (m t w) d u)))
