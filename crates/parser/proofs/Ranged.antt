-- What every plan holds to: the numbers of a command that is read are of their types, and a refusal is one of reading. Assumes nothing.
use Rattle.std.specs.Prelude.{Option, Some, None, Result, Ok, Err}
use Rattle.scope.specs.declared.VarType.{VarType}
use Rattle.timescale.specs.declared.TimescaleUnit.{TimescaleUnit}
use Rattle.scope.specs.declared.ScopeType.{ScopeType}
use Prim.Native.Nat.{ℕ, ◌-◌, ◌^◌, ◌≤◌, ◌<◌}
use mathlib.Core.Path.{◌≡◌, refl}
use mathlib.Core.Bool.{Bool, true, false, cond}
use mathlib.Core.List.{List, [], ◌∷◌}
use native.Mathlib.Omega.{arith}
use native.Mathlib.Nat.{add-zero}
use borrow.Author.Tests.{ltb-true, ltb-false, eqb-false}
use lib.Dec.{eqb, ltb, leb}
use lib.ListN.{length, drop, get_or, length-take, length-drop}
use lib.Seq.{get_or-drop}
use Rattle.text.specs.Bytes.{bytes, equal, starts, is_blank, up_to}
use Rattle.command.specs.Words.{end_mark, word_of}
use Rattle.text.specs.Texts.{limit, part}
use Rattle.utf8.specs.Utf8.{valid_utf8}
use Rattle.text.specs.declared.Text.{Text}
use Rattle.text.proofs.Lists.{by-test}
use Rattle.number.specs.Decimal.{parse_below, Below}
use Rattle.real.specs.Real.{digits_in, is_real}
use Rattle.number.proofs.Laws.{parse-below}
use Rattle.idcode.specs.Id.{parse_id, all_id, id_tail, id_sum}
use Rattle.idcode.specs.declared.IdCode.{IdCode}
use Rattle.idcode.specs.declared.InvalidIdCode.{InvalidIdCode}
use Rattle.idcode.proofs.Pairing.{id_below}
use Rattle.timescale.specs.Units.{parse_unit}
use Rattle.scope.specs.Types.{parse_scope_type, parse_var_type}
use Rattle.scope.specs.Index.{parse_index, SizedIndex}
use Rattle.scope.specs.declared.ReferenceIndex.{ReferenceIndex}
use Rattle.scope.specs.declared.Var.{Var}
use Rattle.scope.proofs.Indexes.{index_read}
use Rattle.command.specs.Meaning.{Remark, comment, date, version}
use Rattle.command.specs.declared.Command.{Command}
use Rattle.command.specs.declared.Refusal.{Refusal}
use Rattle.command.specs.declared.SimulationCommand.{SimulationCommand}
use Rattle.token.specs.Read.{Reading, Bound, most, values, unlimited, passed, beyond, rest, word, skipped, word_token, word_here, token, text_to, text_from}
use Rattle.token.proofs.Reading.{word-le, skip_first}
use Rattle.token.specs.declared.Cursor.{Cursor}
use Rattle.parser_part.specs.Plan.{Plan, answer, begins, ends, refuse, a_token, a_text, and_then, ended, run, an_id, numbered, identified, closing, trimmed_in, remark, is_ascii, in_unit, scaled, unit_in, timescale, scope_of, var_def, last_of, indexed, var_end, var_of, word_plan, kind_of, kind_plan}
use Rattle.parser.specs.Next.{is_good, next_of, found, next_from}
use Rattle.parser.specs.Refusals.{is_of_reading}
use Rattle.parser_part.specs.declared.Kind.{Kind}
use Rattle.parser.specs.declared.Next.{Next}
use Rattle.command.specs.declared.Word.{Word}

-- its numbers are of their types: times and ids of 64 bits, the others of 32
abbrev pub Typed : Command → Type 0
Typed (Command.VarDef k w i t x) = (w < 2 ^ 32) × (i.0 < 2 ^ 64) × SizedIndex x
Typed (Command.Comment t) = Unit {0}
Typed (Command.Date t) = Unit {0}
Typed (Command.Version t) = Unit {0}
Typed (Command.Timescale q u) = q < 2 ^ 32
Typed (Command.ScopeDef k t) = Unit {0}
Typed Command.Upscope = Unit {0}
Typed Command.Enddefinitions = Unit {0}
Typed (Command.Timestamp t) = t.0 < 2 ^ 64
Typed (Command.ChangeScalar i v) = i.0 < 2 ^ 64
Typed (Command.ChangeVector i v) = i.0 < 2 ^ 64
Typed (Command.ChangeReal i v) = i.0 < 2 ^ 64
Typed (Command.ChangeString i v) = i.0 < 2 ^ 64
Typed (Command.Begin k) = Unit {0}
Typed (Command.End k) = Unit {0}

-- those of them that are not an id's
abbrev pub Ranged : Command → Type 0
Ranged (Command.VarDef k w i t x) = (w < 2 ^ 32) × SizedIndex x
Ranged (Command.Comment t) = Unit {0}
Ranged (Command.Date t) = Unit {0}
Ranged (Command.Version t) = Unit {0}
Ranged (Command.Timescale q u) = q < 2 ^ 32
Ranged (Command.ScopeDef k t) = Unit {0}
Ranged Command.Upscope = Unit {0}
Ranged Command.Enddefinitions = Unit {0}
Ranged (Command.Timestamp t) = t.0 < 2 ^ 64
Ranged (Command.ChangeScalar i v) = Unit {0}
Ranged (Command.ChangeVector i v) = Unit {0}
Ranged (Command.ChangeReal i v) = Unit {0}
Ranged (Command.ChangeString i v) = Unit {0}
Ranged (Command.Begin k) = Unit {0}
Ranged (Command.End k) = Unit {0}

ranged : (k : Command) → Typed k → Ranged k
ranged (Command.VarDef k w i t x) z = (z.0, z.2)
ranged (Command.Comment t) z = tt
ranged (Command.Date t) z = tt
ranged (Command.Version t) z = tt
ranged (Command.Timescale q u) z = z
ranged (Command.ScopeDef k t) z = tt
ranged Command.Upscope z = tt
ranged Command.Enddefinitions z = tt
ranged (Command.Timestamp t) z = z
ranged (Command.ChangeScalar i v) z = tt
ranged (Command.ChangeVector i v) z = tt
ranged (Command.ChangeReal i v) z = tt
ranged (Command.ChangeString i v) z = tt
ranged (Command.Begin k) z = tt
ranged (Command.End k) z = tt

-- an id text that is not empty is not refused as one
id-some : (w : List ℕ) → 0 < length w → parse_id w ≡ Err InvalidIdCode.Empty → ⊥
unfolding parse_id
id-some [] h e = omega arith
id-some (b ∷ w) h e = go (leb (2 ^ 64) (id_sum (id_tail (b ∷ w)))) (all_id (b ∷ w)) (record { 0 = id_sum (b ∷ w) - 1 }) e
  where
    go : (long sound : Bool) (i : IdCode)
        → cond long (Err InvalidIdCode.TooLong) (cond sound (Ok i) (Err InvalidIdCode.InvalidChars)) ≡ Err InvalidIdCode.Empty → ⊥
    go true sound i q = let z : ◌≡◌ {A = ℕ} 0 1 = cc in omega arith
    go false true i q = let z : ◌≡◌ {A = ℕ} 0 1 = cc in omega arith
    go false false i q = let z : ◌≡◌ {A = ℕ} 0 1 = cc in omega arith

-- ---- a plan all of whose answers are so, and all of whose refusals are of reading; a token has a byte at least
data AllTyped : Plan → Type 0 where
  answers : (k : Command) → Typed k → AllTyped (answer k)
  begin : (k : SimulationCommand) → AllTyped (begins k)
  end : AllTyped ends
  refuses : (e : Refusal) → is_of_reading e ≡ true → AllTyped (refuse e)
  tokens : (b : Bound) {f : Text → List ℕ → Plan} → ((t : Text) (w : List ℕ) → 0 < length w → AllTyped (f t w)) → AllTyped (a_token b f)
  texts : {f : Text → List ℕ → Plan} → ((t : Text) (w : List ℕ) → AllTyped (f t w)) → AllTyped (a_text f)

tested : (t : Bool) {p q : Plan} → AllTyped p → AllTyped q → AllTyped (cond t p q)
tested true m o = m
tested false m o = o

judged : (w : List ℕ) {p : Plan} → AllTyped p → AllTyped (cond (valid_utf8 w) p (refuse Refusal.InvalidUtf8))
judged w m = tested (valid_utf8 w) m (refuses _ refl)

counted : (limit : ℕ) (n : Option ℕ) {f : ℕ → Plan} → Below limit n → ((v : ℕ) → v < limit → AllTyped (f v)) → AllTyped (numbered n f)
counted limit (Some v) b h = h v b
counted limit None b h = refuses _ refl

id-typed : {f : IdCode → Plan} → ((i : IdCode) → i.0 < 2 ^ 64 → AllTyped (f i)) → (w : List ℕ) → 0 < length w → (x : Result IdCode InvalidIdCode) → parse_id w ≡ x
    → AllTyped (identified x f)
id-typed h w some (Ok i) e = h i (omega (arith, id_below w i e))
id-typed h w some (Err InvalidIdCode.Empty) q = absurd (id-some w some q)
id-typed h w some (Err InvalidIdCode.InvalidChars) q = refuses _ refl
id-typed h w some (Err InvalidIdCode.TooLong) q = refuses _ refl

an-id : {f : IdCode → Plan} → ((i : IdCode) → i.0 < 2 ^ 64 → AllTyped (f i)) → AllTyped (an_id f)
an-id h = tokens (most 32) (λ t w some. judged w (id-typed h w some (parse_id w) refl))

last : (k : Command) → Typed k → (e : List ℕ) → AllTyped (last_of k e)
last k i e = tested (equal e end_mark) (answers k i) (refuses _ refl)

closing-typed : (k : Command) → Typed k → AllTyped (closing k)
closing-typed k i = tokens (most 8) (λ t w some. last k i w)

remark-typed : (r : Remark) → AllTyped (remark r)
remark-typed comment = texts (λ t w. judged w (answers (Command.Comment (trimmed_in t w)) tt))
remark-typed date = texts (λ t w. judged w (answers (Command.Date (trimmed_in t w)) tt))
remark-typed version = texts (λ t w. judged w (answers (Command.Version (trimmed_in t w)) tt))

in-unit : (q : ℕ) → q < 2 ^ 32 → (u : Option TimescaleUnit) → AllTyped (in_unit q u)
in-unit q b (Some u) = closing-typed (Command.Timescale q u) b
in-unit q b None = refuses _ refl

scaled-typed : (q u : List ℕ) → AllTyped (scaled q u)
scaled-typed q u = counted (2 ^ 32) (parse_below (2 ^ 32) q) (parse-below (2 ^ 32) q) (λ v b. in-unit v b (parse_unit u))

unit-typed : (q u : List ℕ) → AllTyped (unit_in q u)
unit-typed q [] = tokens (most 8) (λ t w some. judged w (scaled-typed q w))
unit-typed q (b ∷ u) = scaled-typed q (b ∷ u)

timescale-typed : AllTyped timescale
timescale-typed =
    tokens (most 8) (λ t w some. judged w (tested (is_ascii w) (unit-typed (digits_in w) (drop (length (digits_in w)) w)) (refuses _ refl)))

scope-typed : (k : Option ScopeType) → AllTyped (scope_of k)
scope-typed (Some k) = tokens unlimited (λ t w some. judged w (closing-typed (Command.ScopeDef k t) tt))
scope-typed None = refuses _ refl

indexed-typed : (v : Var) → v.size < 2 ^ 32 → v.code.0 < 2 ^ 64 → (w : List ℕ) (x : Option ReferenceIndex) → parse_index w ≡ x → AllTyped (indexed v x)
indexed-typed v b i w (Some x) e = tokens (most 32) (λ t u some. judged u (last (var_def v x) (b, i, (index_read x w e).1) u))
indexed-typed v b i w None e = refuses _ refl

var-end : (v : Var) → v.size < 2 ^ 32 → v.code.0 < 2 ^ 64 → AllTyped (var_end v)
var-end v b i =
    tokens (most 32)
    (λ t w some. judged w (tested (starts (bytes "[") w) (indexed-typed v b i w (parse_index w) refl) (last (var_def v ReferenceIndex.None) (b, i, tt) w)))

var-typed : (k : Option VarType) → AllTyped (var_of k)
var-typed (Some k) =
    tokens (most 32)
    (λ t w some. judged w (counted (2 ^ 32) (parse_below (2 ^ 32) w) (parse-below (2 ^ 32) w) (λ v b. an-id (λ i y. tokens unlimited (λ r u some. judged u (var-end (record { var_type = k; size = v; code = i; reference = r; index = ReferenceIndex.None }) b y))))))
var-typed None = refuses _ refl

word_typed : (w : Word) → AllTyped (word_plan w)
word_typed Word.Comment = remark-typed comment
word_typed Word.Date = remark-typed date
word_typed Word.Version = remark-typed version
word_typed Word.Timescale = timescale-typed
word_typed Word.Scope = tokens (most 32) (λ t w some. judged w (scope-typed (parse_scope_type w)))
word_typed Word.Upscope = closing-typed Command.Upscope tt
word_typed Word.Var = tokens (most 32) (λ t w some. judged w (var-typed (parse_var_type w)))
word_typed Word.Enddefinitions = closing-typed Command.Enddefinitions tt
word_typed (Word.Begin k) = begin k
word_typed Word.End = end
word_typed Word.Unknown = refuses _ refl

kind-typed : (k : Kind) → AllTyped (kind_plan k)
kind-typed Kind.Dollar = tokens (most 16) (λ t w some. word_typed (word_of w))
kind-typed Kind.Hash = tokens (most 32) (λ t w some. judged w (counted (2 ^ 64) (parse_below (2 ^ 64) w) (parse-below (2 ^ 64) w) (λ v b. answers (Command.Timestamp (record { 0 = v })) b)))
kind-typed (Kind.Scalar x) = an-id (λ i z. answers (Command.ChangeScalar i x) z)
kind-typed Kind.Vector = tokens values (λ t w some. an-id (λ i z. answers (Command.ChangeVector i t) z))
kind-typed Kind.Real = tokens (most 32) (λ t w some. judged w (tested (is_real w) (an-id (λ i z. answers (Command.ChangeReal i t) z)) (refuses _ refl)))
kind-typed Kind.Text = tokens unlimited (λ t w some. judged w (an-id (λ i z. answers (Command.ChangeString i t) z)))
kind-typed Kind.Other = refuses _ refl

-- ---- what a plan answers
abbrev Tells : Next → Type 0
Tells (Next.Command k d) = Typed k
Tells (Next.Refused e m d) = is_of_reading e ≡ true
Tells (Next.Done d) = Unit {0}

-- of a token: its text, which is P, or a refusal of reading
abbrev TellsToken : (Text → Type 0) → Reading Text → Type 0
TellsToken P (Ok (t, d)) = P t
TellsToken P (Err (e, d)) = is_of_reading e ≡ true

beyond-reading : (b : Bound) → is_of_reading (beyond b) ≡ true
beyond-reading (most n) = refl
beyond-reading values = refl
beyond-reading unlimited = refl

-- a word that stands after the blanks and is not the end has a byte
first_word : (r : List ℕ) → 0 < length r → is_blank (get_or r 0 0) ≡ false → 0 < length (word r)
unfolding word
first_word [] h e = absurd (omega arith)
first_word (b ∷ r) h e = rw e (omega arith)

token-tells : (s : List ℕ) (c : Cursor) (b : Bound) → TellsToken (λ t. 0 < length (part s t)) (token s c b)
unfolding token word_here word_token part
token-tells s c b =
    let d : Cursor = skipped s c in
    let r : List ℕ = rest s d in
    let w : List ℕ = word r in
    by-test (ltb (passed b w) (length w)) (λ e. rw e (beyond-reading b))
    (λ e.
    by-test (eqb (length w) (length r)) (λ q. rw (e, q) refl)
    (λ q.
    let apart : length w ≡ length r → ⊥ = eqb-false (length w) (length r) q in
    let few : length w ≤ length r = word-le r in
    let left : length r ≡ length s - d.place = length-drop d.place s in
    let first : is_blank (get_or r 0 0) ≡ false = rw (get_or-drop d.place s 0 0, add-zero d.place) (skip_first s c (omega (arith, apart-less apart few))) in
    let k : 0 < length w = first_word r (omega (arith, apart-less apart few)) first in
    rw (e, q) (omega (arith, length-take (length w) r))))
  where
    apart-less : {m n : ℕ} → (m ≡ n → ⊥) → m ≤ n → m < n
    apart-less {m} {n} h g = by-test (ltb m n) (ltb-true m n) (λ t. absurd (h (omega (arith, ltb-false m n t))))

text-tells : (s : List ℕ) (c : Cursor) → TellsToken (λ t. Unit {0}) (text_from s c)
unfolding text_from text_to
text-tells s c =
    let l : List ℕ = up_to end_mark (rest s c) in
    by-test (starts end_mark (drop (length l) (rest s c))) (λ e. rw e tt) (λ e. rw e refl)

then-tells : (P : Text → Type 0) (f : Text → Cursor → Reading Command) (k : Reading Text) → TellsToken P k → ((t : Text) (d : Cursor) → P t → Tells (next_of (f t d)))
    → Tells (next_of (and_then f k))
then-tells P f (Ok (t, d)) x h = h t d x
then-tells P f (Err (e, d)) x h = x

ended-tells : (o : Option SimulationCommand) (c : Cursor) → Tells (next_of (ended o c))
ended-tells None c = refl
ended-tells (Some k) c = tt

run-tells : (s : List ℕ) {p : Plan} → AllTyped p → (c : Cursor) → Tells (next_of (run p s c))
unfolding run
run-tells s (answers k i) c = i
run-tells s (begin k) c = tt
run-tells s end c = ended-tells c.sim c
run-tells s (refuses e h) c = h
run-tells s (tokens b m) c = then-tells (λ t. 0 < length (part s t)) _ (token s c b) (token-tells s c b) (λ t d x. run-tells s (m t (part s t) x) d)
run-tells s (texts m) c = then-tells (λ t. Unit {0}) _ (text_from s c) (text-tells s c) (λ t d x. run-tells s (m t (part s t)) d)

next-tells : (s : List ℕ) (c : Cursor) → Tells (next_from s c)
unfolding next_from found
next-tells s c =
    by-test (is_good s c)
    (λ e.
    let b = skipped s c in
    rw e (by-test (ltb b.place (length s)) (λ q. rw q (run-tells s (kind-typed (kind_of (get_or s b.place 0))) _)) (λ q. rw q tt)))
    (λ e. rw e refl)

pub command-typed : (s : List ℕ) (c : Cursor) {k : Command} {d : Cursor} → next_from s c ≡ Next.Command k d → Typed k
command-typed s c e = rw e at (next-tells s c)

pub command-ranged : (s : List ℕ) (c : Cursor) {k : Command} {d : Cursor} → next_from s c ≡ Next.Command k d → Ranged k
command-ranged s c {k} e = ranged k (command-typed s c e)

-- every refusal of reading is one of those that reading gives
pub refusal-reading : (s : List ℕ) (c : Cursor) {e : Refusal} {n : ℕ} {d : Cursor} → next_from s c ≡ Next.Refused e n d → is_of_reading e ≡ true
refusal-reading s c q = rw q at (next-tells s c)
