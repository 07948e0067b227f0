-- Every line has room in the bytes that are lent: a name and a value of the input, two numbers, and four bytes. So the turns print all.
use Rattle.command.specs.Refusals.{Ended}
use Rattle.std.specs.Prelude.{Option, Some, None, Ok, Err}
use Rattle.command.specs.declared.Time.{Time}
use Prim.Native.Nat.{ℕ, zero, suc, ◌+◌, ◌^◌, ◌≤◌, ◌<◌}
use mathlib.Core.Path.{◌≡◌, refl}
use mathlib.Core.Bool.{false}
use mathlib.Core.List.{List, [], ◌∷◌, ◌++◌, map}
use native.Mathlib.Omega.{arith}
use borrow.Author.Tests.{ltb-false, leb-true}
use lib.Dec.{eqb, leb, ltb}
use lib.ListN.{length, take, drop, length-append, length-take, length-drop, length-map, length-replicate}
use Rattle.command.specs.Refusals.{number_of}
use Rattle.command.specs.declared.Command.{Command}
use Rattle.command.specs.declared.Refusal.{Refusal}
use Rattle.header.specs.Header.{Outcome as Heading, Step, on, whole, off, move, follow, read_rows, nothing}
use Rattle.header.specs.declared.Header.{Header}
use Rattle.rows.specs.declared.Row.{Row}
use Rattle.parser.proofs.Ranged.{Ranged, command-ranged}
use Rattle.idcode.specs.declared.IdCode.{IdCode}
use Rattle.lines.specs.Lines.{taken, header_rows, time_text, value_text, change_line, full_line, refused_line}
use Rattle.list_step.specs.Step.{Role, time, change, other, role_of}
use Rattle.listing.specs.Listing.{Entry, entries, since_after, changes, stop_of, last_of, time_of, Outcome, rows_in, cut, list_in}
use Rattle.listing.proofs.Complete.{rows_take}
use Rattle.widen.specs.Widen.{missing, widened}
use Rattle.change.specs.declared.Change.{Change}
use Rattle.change.specs.declared.ChangeKind.{ChangeKind}
use Rattle.number.specs.Decimal.{decimal_of}
use Rattle.number.proofs.Writing.{short}
use Rattle.parser.specs.All.{Commands, command, stop, finish, followed, commands_on, commands}
use Rattle.parser.specs.Next.{next_from, fresh as fresh_cursor}
use Rattle.parser.specs.declared.Next.{Next}
use Rattle.parser.proofs.Stated.{next-valid, refusal-line}
use Rattle.text.specs.Texts.{part}
use Rattle.text.specs.declared.Text.{Text}
use Rattle.text.proofs.Lists.{by-test}
use Rattle.token.specs.Read.{Valid}
use Rattle.token.specs.declared.Cursor.{Cursor}
use Rattle.list_job.specs.Whole.{most_changes, is_full, met_lines, met_then, end_lines, listed, var_lines, rows_lines, heading, headed_lines, list_lines, list_text, list_whole}
use Rattle.list_job.specs.Turns.{lent, row_words, change_words, Roomy, Runs}
use Rattle.list_job.specs.declared.State.{State}
use Rattle.list_job.proofs.Turning.{runnable}

-- ---- the commands of an input
abbrev Sound : List ℕ → Commands → Type 0
Sound s (command k d more) = Valid s d × Ranged k × Sound s more
Sound s (stop e n d) = Valid s d × (n ≡ d.line)
Sound s (finish d) = Valid s d

sound-on : (fuel : ℕ) (s : List ℕ) (c : Cursor) → Valid s c → Sound s (commands_on fuel s c)
unfolding commands_on
sound-on zero s c v = v
sound-on (suc fuel) s c v = go (next_from s c) refl (sound-on fuel s)
  where
    go : (x : Next) → next_from s c ≡ x → ((d : Cursor) → Valid s d → Sound s (commands_on fuel s d)) → Sound s (followed (commands_on fuel s) x)
    go (Next.Command k d) e more = let w : Valid s d = rw e at (next-valid s c v) in (w, command-ranged s c e, more d w)
    go (Next.Refused r l d) e more = (rw e at (next-valid s c v), refusal-line s c e)
    go (Next.Done d) e more = rw e at (next-valid s c v)

sound : (s : List ℕ) (c : Cursor) → Valid s c → Sound s (commands s c)
unfolding commands
sound s c v = sound-on _ s c v

-- ---- numbers and texts
number_small : (e : Refusal) → number_of e ≤ 25
number_small Refusal.UnexpectedEof = omega arith
number_small Refusal.InvalidUtf8 = omega arith
number_small Refusal.UnexpectedCharacter = omega arith
number_small Refusal.TokenTooLong = omega arith
number_small Refusal.ExpectedEndCommand = omega arith
number_small Refusal.UnmatchedEnd = omega arith
number_small Refusal.UnknownCommand = omega arith
number_small Refusal.UnexpectedHeaderCommand = omega arith
number_small Refusal.ParseIntError = omega arith
number_small Refusal.ParseFloatError = omega arith
number_small Refusal.InvalidTimescaleUnit = omega arith
number_small Refusal.InvalidScopeType = omega arith
number_small Refusal.InvalidVarType = omega arith
number_small Refusal.InvalidReferenceIndex = omega arith
number_small Refusal.InvalidValueChar = omega arith
number_small Refusal.IdEmpty = omega arith
number_small Refusal.IdInvalidChars = omega arith
number_small Refusal.IdTooLong = omega arith
number_small Refusal.TooDeep = omega arith
number_small Refusal.TableFull = omega arith
number_small Refusal.NoRoom = omega arith
number_small Refusal.NotWritable = omega arith
number_small Refusal.BadTable = omega arith
number_small Refusal.ListFull = omega arith
number_small Refusal.BadPlace = omega arith

line-short : (n : ℕ) → n ≤ 65537 → length (decimal_of n) ≤ 5
line-short n h = short 4 n (omega arith)

part-short : (s : List ℕ) (t : Text) → length (part s t) ≤ length s
unfolding part
part-short s t = omega (arith, length-take t.len (drop t.start s), length-drop t.start s)

refused-room : (e : Refusal) (n : ℕ) → n ≤ 65537 → length (refused_line (number_of e) n) ≤ lent
refused-room e n h =
    simp length-append (omega (arith, short 1 (number_of e) (omega (arith, number_small e)), line-short n h))

full-room : (name : List ℕ) → length name ≤ 65536 → length (full_line name) ≤ lent
full-room name h = simp length-append (omega arith)

wide_short : (v : List ℕ) (width : ℕ) → length v ≤ 65536 → length (widened v width) ≤ 65536
unfolding widened missing
wide_short v width h =
    simp (length-append, length-replicate, length-map)
    (by-test (leb width 1024) (λ f. let g : width ≤ 1024 = leb-true _ _ f in rw f (omega arith)) (λ f. rw f (omega arith)))

abbrev SinceOk : Option Time → Type 0
SinceOk None = Unit {0}
SinceOk (Some t) = t.0 < 2 ^ 64

abbrev ChangeOk : Change → Type 0
ChangeOk (Change.Is since line kind v) = SinceOk since × (line ≤ 65537)
ChangeOk Change.None = Unit {0}

time-short : (t : Option Time) → SinceOk t → length (time_text t) ≤ 20
time-short None h = omega arith
time-short (Some t) h = short 19 t.0 (omega arith)

value-short : (width : ℕ) (k : ChangeKind) (v : List ℕ) → length v ≤ 65536 → length (value_text width k v) ≤ 65536
value-short width ChangeKind.Scalar v h = wide_short v 1 h
value-short width ChangeKind.Vector v h = wide_short v width h
value-short width ChangeKind.Real v h = h
value-short width ChangeKind.String v h = h

joined-room : (a b d e : List ℕ) → length a ≤ 65536 → length b ≤ 20 → length d ≤ 5 → length e ≤ 65536
    → length (a ++ (32 ∷ (b ++ (32 ∷ (d ++ (32 ∷ (e ++ (10 ∷ [])))))))) ≤ lent
joined-room a b d e h i j k = simp length-append (omega arith)

module _ (s : List ℕ) (small : length s ≤ taken) where
  change-room : (name : List ℕ) (width : ℕ) (x : Change) → length name ≤ 65536 → ChangeOk x → length (change_line s name width x) ≤ lent
  change-room name width (Change.Is t line k v) h o =
      joined-room name (time_text t) (decimal_of line) (value_text width k (part s v)) h (time-short t o.0) (line-short line o.1)
      (value-short width k (part s v) (omega (arith, part-short s v)))
  change-room name width Change.None h o = omega arith

  line_small : (d : Cursor) → Valid s d → d.line ≤ 65537
  line_small d v = omega (arith, v.counted, v.within)

abbrev HeadEnd : Ended → Type 0
HeadEnd (Ok tt) = Unit {0}
HeadEnd (Err (e, n)) = n ≤ 65537

abbrev HeadOk : List ℕ → Heading → Type 0
HeadOk s o = Valid s o.cursor × HeadEnd o.ended

follow-ok : (s : List ℕ) → length s ≤ taken → (d : Cursor) → Valid s d → (h : Header) (x : Step) (more : List ℕ → List Row → Header → Heading)
    → ((st : List ℕ) (rs : List Row) (h' : Header) → HeadOk s (more st rs h')) → HeadOk s (follow d h x more)
follow-ok s small d v h (on st rs h') more f = f st rs h'
follow-ok s small d v h whole more f = (v, tt)
follow-ok s small d v h (off e) more f = (v, line_small s small d v)

read_ok : (s : List ℕ) → length s ≤ taken → (cap : ℕ) (cs : Commands) → Sound s cs → (st : List ℕ) (n : ℕ) (h : Header) → HeadOk s (read_rows cap cs st n h)
unfolding read_rows
read_ok s small cap (command k d more) o st n h =
    follow-ok s small d o.0 h (move cap k st n h) (λ st' rs h'. read_rows cap more st' (n + length rs) h')
    (λ st' rs h'. read_ok s small cap more o.2 st' (n + length rs) h')
read_ok s small cap (stop e n d) o st m h = (o.0, omega (arith, o.1, line_small s small d o.0))
read_ok s small cap (finish d) o st m h = (o, line_small s small d o)

-- ---- a listing
abbrev AllOk : List Change → Type 0
AllOk [] = Unit {0}
AllOk (x ∷ xs) = ChangeOk x × AllOk xs

take-ok : (n : ℕ) (xs : List Change) → AllOk xs → AllOk (take n xs)
take-ok zero xs h = tt
take-ok (suc n) [] h = tt
take-ok (suc n) (x ∷ xs) h = (h.0, take-ok n xs h.1)

since-ok : (s : List ℕ) (c : Cursor) (t : Option Time) (k : Command) → SinceOk t → Ranged k → SinceOk (since_after t (role_of s c k))
since-ok s c t₀ (Command.Comment t) h g = h
since-ok s c t₀ (Command.Date t) h g = h
since-ok s c t₀ (Command.Version t) h g = h
since-ok s c t₀ (Command.Timescale n u) h g = h
since-ok s c t₀ (Command.ScopeDef x t) h g = h
since-ok s c t₀ Command.Upscope h g = h
since-ok s c t₀ (Command.VarDef x n i t y) h g = h
since-ok s c t₀ Command.Enddefinitions h g = h
since-ok s c t₀ (Command.Timestamp t) h g = g
since-ok s c t₀ (Command.ChangeScalar i v) h g = h
since-ok s c t₀ (Command.ChangeVector i v) h g = h
since-ok s c t₀ (Command.ChangeReal i v) h g = h
since-ok s c t₀ (Command.ChangeString i v) h g = h
since-ok s c t₀ (Command.Begin x) h g = h
since-ok s c t₀ (Command.End x) h g = h

entries-ok : (i : IdCode) (c : Cursor) (t : Option Time) (line : ℕ) (x : Role) (more : List Entry) → SinceOk t → line ≤ 65537 → AllOk (rows_in more)
    → AllOk (rows_in (entries i c t line x ++ more))
entries-ok i c t line (time u) more h g m = m
entries-ok i c t line (change j k v) more h g m = by-test (eqb j.0 i.0) (λ f. rw f ((h, g), m)) (λ f. rw f m)
entries-ok i c t line other more h g m = m

changes-ok : (s : List ℕ) → length s ≤ taken → (i : IdCode) (cs : Commands) → Sound s cs → (c : Cursor) (t : Option Time) → SinceOk t → AllOk (rows_in (changes s i c t cs))
unfolding changes
changes-ok s small i (command k d more) o c t h =
    entries-ok i c t d.line (role_of s c k) (changes s i d (since_after t (role_of s c k)) more) h (line_small s small d o.0)
    (changes-ok s small i more o.2 d (since_after t (role_of s c k)) (since-ok s c t k h o.1))
changes-ok s small i (stop e n d) o c t h = tt
changes-ok s small i (finish d) o c t h = tt

abbrev EndOk : Ended → Type 0
EndOk (Ok tt) = Unit {0}
EndOk (Err (e, n)) = is_full e ≡ false → n ≤ 65537

stop-ok : (s : List ℕ) → length s ≤ taken → (cs : Commands) → Sound s cs → EndOk (stop_of cs)
unfolding stop_of
stop-ok s small (command k d more) o = stop-ok s small more o.2
stop-ok s small (stop e n d) o = λ f. omega (arith, o.1, line_small s small d o.0)
stop-ok s small (finish d) o = tt

abbrev OutOk : Outcome → Type 0
OutOk o = AllOk o.rows × EndOk o.ended

cut_ok : (made more : List Entry) (e : Ended) (d : Cursor) (u : Option Time) → AllOk (rows_in made) → EndOk e → OutOk (cut made more e d u)
cut_ok made [] e d u h g = (h, g)
cut_ok made (x ∷ more) e d u h g = (h, λ z. let w : ◌≡◌ {A = ℕ} 0 1 = cc in absurd (omega arith))

listed_ok : (s : List ℕ) → length s ≤ taken → (c : Cursor) → Valid s c → (i : IdCode) → OutOk (listed s c i)
unfolding listed list_in
listed_ok s small c v i =
    let o = sound s c v in
    let all : List Entry = changes s i c None (commands s c) in
    cut_ok (take most_changes all) (drop most_changes all) (stop_of (commands s c)) (last_of (commands s c)) (time_of s c None (commands s c))
    (rw (rows_take most_changes all) (take-ok most_changes (rows_in all) (changes-ok s small i (commands s c) o c None tt)))
    (stop-ok s small (commands s c) o)

-- ---- all lines
abbrev MetOk : Option (Refusal × ℕ) → Type 0
MetOk None = Unit {0}
MetOk (Some (e, n)) = n ≤ 65537

then_ok : (m : Option (Refusal × ℕ)) (x : Ended) → MetOk m → EndOk x → MetOk (met_then m x)
then_ok m (Ok tt) h g = h
then_ok m (Err (e, n)) h g = by-test (is_full e) (λ f. rw f h) (λ f. rw f (g f))

met-room : (m : Option (Refusal × ℕ)) → MetOk m → Roomy lent (met_lines m)
met-room None h = tt
met-room (Some (e, n)) h = (refused-room e n h, tt)

end-room : (name : List ℕ) (x : Ended) → length name ≤ 65536 → Roomy lent (end_lines name x)
end-room name (Ok tt) h = tt
end-room name (Err (e, n)) h = by-test (is_full e) (λ f. rw f (full-room name h, tt)) (λ f. rw f tt)

roomy-join : (a b : List (List ℕ)) → Roomy lent a → Roomy lent b → Roomy lent (a ++ b)
roomy-join [] b h g = g
roomy-join (l ∷ a) b h g = (h.0, roomy-join a b h.1 g)

lines-room : (s : List ℕ) → length s ≤ taken → (name : List ℕ) (width : ℕ) (xs : List Change) → length name ≤ 65536 → AllOk xs → Roomy lent (map (change_line s name width) xs)
lines-room s small name width [] h o = tt
lines-room s small name width (x ∷ xs) h o = (change-room s small name width x h o.0, lines-room s small name width xs h o.1)

rows-room : (s : List ℕ) → length s ≤ taken → (c : Cursor) → Valid s c → (rs : List Row) (m : Option (Refusal × ℕ)) → MetOk m → Roomy lent (rows_lines s c rs m)
unfolding rows_lines
rows-room s small c v [] m h = met-room m h
rows-room s small c v (Row.Var p x ∷ rs) m h =
    let o = listed_ok s small c v x.code in
    let name : List ℕ = part s x.reference in
    let g : length name ≤ 65536 = omega (arith, part-short s x.reference) in
    roomy-join (var_lines s name x.size (listed s c x.code)) (rows_lines s c rs (met_then m (listed s c x.code).ended))
    (roomy-join (map (change_line s name x.size) (listed s c x.code).rows) (end_lines name (listed s c x.code).ended) (lines-room s small name x.size (listed s c x.code).rows g o.0) (end-room name (listed s c x.code).ended g))
    (rows-room s small c v rs (met_then m (listed s c x.code).ended) (then_ok m (listed s c x.code).ended h o.1))
rows-room s small c v (Row.Scope p k t ∷ rs) m h = rows-room s small c v rs m h
rows-room s small c v (Row.Comment p t ∷ rs) m h = rows-room s small c v rs m h
rows-room s small c v (Row.None ∷ rs) m h = rows-room s small c v rs m h

headed-room : (s : List ℕ) → length s ≤ taken → (rs : List Row) (c : Cursor) (x : Ended) → Valid s c → HeadEnd x → Roomy lent (headed_lines s rs c x)
headed-room s small rs c (Ok tt) v h = rows-room s small c v rs None tt
headed-room s small rs c (Err (e, n)) v h = (refused-room e n h, tt)

fresh-valid : (s : List ℕ) → length s ≤ taken → Valid s fresh_cursor
fresh-valid s small = record { short = omega arith; within = omega arith; started = omega arith; counted = omega arith }

heading-ok : (s : List ℕ) → length s ≤ taken → HeadOk s (heading s)
unfolding heading
heading-ok s small = read_ok s small header_rows (commands s fresh_cursor) (sound s fresh_cursor (fresh-valid s small)) [] 0 nothing

pub list-room : (s : List ℕ) → Roomy lent (list_lines s)
unfolding list_lines
list-room s =
    by-test (ltb taken (length s)) (λ f. rw f (omega arith, tt))
    (λ f.
    let small : length s ≤ taken = ltb-false _ _ f in
    let o = heading-ok s small in
    rw f (headed-room s small (heading s).rows (heading s).cursor (heading s).ended o.0 o.1))

widen-room : (n : ℕ) (ls : List (List ℕ)) → lent ≤ n → Roomy lent ls → Roomy n ls
widen-room n [] h g = tt
widen-room n (l ∷ ls) h g = (omega (arith, g.0), widen-room n ls h g.1)

-- in an output so long, whatever the input is
pub printed : (s : List ℕ) (room : ℕ) (rows changes : List ℕ) → lent ≤ room → length rows ≡ row_words → length changes ≡ change_words
    → Runs s room rows changes State.Begin (list_text s) (list_whole s)
printed s room rows changes h e f = runnable s room rows changes e f (widen-room room (list_lines s) h (list-room s))
