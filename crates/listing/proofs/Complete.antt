-- What a listing holds: with enough room every change of the code up to the first refusal or the end, once, in file order, with the last
-- timestamp read before it, the given one until one is read; else as many as there is room for.
use Rattle.command.specs.Refusals.{Ended}
use Rattle.std.specs.Prelude.{Option, Ok, Err}
use Rattle.command.specs.declared.Time.{Time}
use Prim.Native.Nat.{ℕ, zero, suc, ◌+◌, ◌≤◌}
use mathlib.Core.Path.{◌≡◌, refl, sym, ap, ◌∙◌}
use mathlib.Core.List.{List, [], ◌∷◌, ◌++◌, append_assoc, append-nil}
use native.Mathlib.Omega.{arith}
use borrow.Author.Tests.{eq-eqb}
use lib.Dec.{eqb}
use lib.ListN.{length, get_or, take, drop, length-append, length-map, length-take, drop_of_length-le}
use lib.Seq.{take_at, take_all, drop_at, get_or_at}
use Rattle.change.specs.declared.Change.{Change}
use Rattle.change.specs.declared.ChangeKind.{ChangeKind}
use Rattle.command.specs.declared.Command.{Command}
use Rattle.command.specs.declared.Refusal.{Refusal}
use Rattle.idcode.specs.declared.IdCode.{IdCode}
use Rattle.parser.specs.All.{commands}
use Rattle.parser.specs.Next.{next_from}
use Rattle.parser.specs.declared.Next.{Next}
use Rattle.text.proofs.Lists.{by-test}
use Rattle.text.specs.declared.Text.{Text}
use Rattle.token.specs.Read.{bit}
use Rattle.token.specs.declared.Cursor.{Cursor}
use Rattle.list_step.specs.Step.{Role, time, change, other, role_of}
use Rattle.listing.specs.Listing.{Entry, entries, since_after, stop_of, last_of, time_of, rows_in, cut, list_in}
use Rattle.listing.proofs.Listed.{ahead, ahead-first, ahead-refused, ahead-done, stop_step, last_step, time-first, StopsAt, stop-refused, stop-done, rows_join}

pub rows_take : (n : ℕ) (es : List Entry) → rows_in (take n es) ≡ take n (rows_in es)
rows_take zero es = refl
rows_take (suc n) [] = refl
rows_take (suc n) (e ∷ es) = ap (λ (l : List Change). e.row ∷ l) (rows_take n es)

-- ---- by room
module _ (s : List ℕ) (c : Cursor) (t : Option Time) (i : IdCode) (room : ℕ) where
  abbrev all : List Entry
  all = ahead s i c t

  -- always the first of them, as many as have room
  pub firsts : (list_in s c t i room).rows ≡ take room (rows_in all)
  unfolding list_in
  firsts = go (drop room all) ∙ rows_take room all
    where
      go : (r : List Entry) → (cut (take room all) r (stop_of (commands s c)) (last_of (commands s c)) (time_of s c t (commands s c))).rows ≡ rows_in (take room all)
      go [] = refl
      go (e ∷ r) = refl

  pub rows_fit : length (list_in s c t i room).rows ≤ room
  rows_fit = rw firsts (omega (arith, length-take room (rows_in all)))

  -- enough room: all of them, and it ends as reading stops
  pub complete : length all ≤ room
      → list_in s c t i room ≡ record { rows = rows_in all; ended = stop_of (commands s c); cursor = last_of (commands s c); since = time_of s c t (commands s c) }
  unfolding list_in
  complete h = rw (take_all room all h, drop_of_length-le all h)

-- ---- by the commands that were read: what they are to a listing, from one cursor to another
abbrev pub Way : List ℕ → Cursor → List Role → Cursor → Type 0
Way s c [] e = c ≡ e
Way s c (x ∷ xs) e = (k : Command) × (d : Cursor) × (next_from s c ≡ Next.Command k d) × (role_of s c k ≡ x) × Way s d xs e

-- how many are changes of the code, and the last time among them
abbrev is_of : IdCode → Role → ℕ
is_of i (time u) = 0
is_of i (change j k v) = bit (eqb j.0 i.0)
is_of i other = 0

abbrev pub count_of : IdCode → List Role → ℕ
count_of i [] = 0
count_of i (x ∷ xs) = is_of i x + count_of i xs

abbrev pub last_time : Option Time → List Role → Option Time
last_time t [] = t
last_time t (x ∷ xs) = last_time (since_after t x) xs

entries-count : (i : IdCode) (c : Cursor) (t : Option Time) (n : ℕ) (x : Role) → length (entries i c t n x) ≡ is_of i x
entries-count i c t n (time u) = refl
entries-count i c t n (change j k v) = by-test (eqb j.0 i.0) (λ e. rw e) (λ e. rw e)
entries-count i c t n other = refl

-- the entries of the commands on the way, and those ahead of its end
way-ahead : (s : List ℕ) (i : IdCode) (c e : Cursor) (t : Option Time) (xs : List Role) → Way s c xs e
    → (made : List Entry) × (ahead s i c t ≡ made ++ ahead s i e (last_time t xs)) × (length made ≡ count_of i xs)
way-ahead s i c e t [] w = ([], ap (λ (x : Cursor). ahead s i x t) w, refl)
way-ahead s i c e t (x ∷ xs) w =
    let d : Cursor = w.1 in
    let r = way-ahead s i d e (since_after t x) xs w.4 in
    let here : List Entry = entries i c t d.line x in
    let first : ahead s i c t ≡ here ++ ahead s i d (since_after t x) = rw w.3 at (ahead-first s c d w.0 w.2 i t) in (
      here ++ r.0,
      first ∙ rw r.1 (sym (append_assoc here r.0 (ahead s i e (last_time (since_after t x) xs)))),
      length-append here r.0 ∙ rw (entries-count i c t d.line x, r.2),
    )

-- reading stops as it does from the way's end
way-stop : (s : List ℕ) (c e : Cursor) (t : Option Time) (xs : List Role) → Way s c xs e
    → (stop_of (commands s c) ≡ stop_of (commands s e))
    × (last_of (commands s c) ≡ last_of (commands s e))
    × (time_of s c t (commands s c) ≡ time_of s e (last_time t xs) (commands s e))
way-stop s c e t [] w =
    (ap (λ (x : Cursor). stop_of (commands s x)) w, ap (λ (x : Cursor). last_of (commands s x)) w, ap (λ (x : Cursor). time_of s x t (commands s x)) w)
way-stop s c e t (x ∷ xs) w =
    let d : Cursor = w.1 in
    let r = way-stop s d e (since_after t x) xs w.4 in
    let first : time_of s c t (commands s c) ≡ time_of s d (since_after t x) (commands s d) = rw w.3 at (time-first s c d w.0 w.2 t) in
    (stop_step s c d w.0 w.2 ∙ r.0, last_step s c d w.0 w.2 ∙ r.1, first ∙ r.2)

module _ (s : List ℕ) (i : IdCode) (c d : Cursor) (t : Option Time) (xs : List Role) (w : Way s c xs d) where
  abbrev since : Option Time
  since = last_time t xs

  -- the next command is a change of the code: its row stands after those of the changes before it, with the last time among them
  module _ (k : Command) (e : Cursor) (kind : ChangeKind) (v : Text) (q : next_from s d ≡ Next.Command k e) (r : role_of s d k ≡ change i kind v) where
    abbrev row : Change
    row = Change.Is since e.line kind v

    abbrev one : Entry
    one = record { row = row; from = d; since = since }

    split : (made : List Entry) × (ahead s i c t ≡ made ++ (one ∷ ahead s i e since)) × (length made ≡ count_of i xs)
    split =
        let a = way-ahead s i c d t xs w in
        let f : ahead s i d since ≡ one ∷ ahead s i e since = rw (r, eq-eqb i.0 i.0 refl) at (ahead-first s d e k q i since) in
        (a.0, a.1 ∙ ap (λ (x : List Entry). a.0 ++ x) f, a.2)

    pub each-change : get_or (rows_in (ahead s i c t)) (count_of i xs) Change.None ≡ row
    each-change =
        let m : length (rows_in split.0) ≡ count_of i xs = length-map split.0 (λ (x : Entry). x.row) ∙ split.2 in
        rw (split.1, rows_join split.0 (one ∷ ahead s i e since)) (get_or_at (rows_in split.0) row (rows_in (ahead s i e since)) Change.None (count_of i xs) m)

    -- where it finds no row: 24, with the cursor and the time as they stood before it
    pub full-there :
        list_in s c t i (count_of i xs)
        ≡ record {
          rows = take (count_of i xs) (rows_in (ahead s i c t));
          ended = Err (Refusal.ListFull, d.line);
          cursor = d;
          since = since;
        }
    unfolding list_in
    full-there =
        let rest : List Entry = one ∷ ahead s i e since in
        let n : ℕ = count_of i xs in
        rw (← rows_take n (ahead s i c t), split.1, take_at split.0 rest n split.2, drop_at split.0 rest n split.2)

  -- reading stops there, and there is room: as many rows as changes, and it ends so
  module _ (room : ℕ) (h : count_of i xs ≤ room) where
    abbrev Ends : Ended → Cursor → Type 0
    Ends e f =
        (length (list_in s c t i room).rows ≡ count_of i xs)
        × ((list_in s c t i room).ended ≡ e)
        × ((list_in s c t i room).cursor ≡ f)
        × ((list_in s c t i room).since ≡ since)

    ends : (e : Ended) (f : Cursor) → ahead s i d since ≡ [] → StopsAt s d f since e → Ends e f
    ends e f a x =
        let g = way-ahead s i c d t xs w in
        let same : ahead s i c t ≡ g.0 = g.1 ∙ rw a (append-nil g.0) in
        let n : length (ahead s i c t) ≡ count_of i xs = rw same g.2 in
        let m : length (rows_in (ahead s i c t)) ≡ length (ahead s i c t) = length-map (ahead s i c t) (λ (y : Entry). y.row) in
        let z = way-stop s c d t xs w in
        rw (complete s c t i room (omega arith)) (m ∙ n, z.0 ∙ x.0, z.1 ∙ x.1, z.2 ∙ x.2)

    pub ends-refused : (e : Refusal) (n : ℕ) (f : Cursor) → next_from s d ≡ Next.Refused e n f → Ends (Err (e, n)) f
    ends-refused e n f q = ends _ _ (ahead-refused s i d f since e n q) (stop-refused s d f since e n q)

    pub ends-whole : (f : Cursor) → next_from s d ≡ Next.Done f → Ends (Ok tt) f
    ends-whole f q = ends _ _ (ahead-done s i d f since q) (stop-done s d f since q)
