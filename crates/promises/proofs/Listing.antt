-- What a listing holds, in the words of the demand: from the laws of `listing`, over the commands that are read. Assumes nothing.
use Rattle.command.specs.Refusals.{Ended}
use Rattle.std.specs.Prelude.{Option, None, Ok, Err}
use Rattle.command.specs.declared.Time.{Time}
use Prim.Native.Nat.{ℕ, zero, suc, ◌+◌, ◌-◌, ◌*◌, ◌/◌, ◌≤◌, ◌<◌}
use mathlib.Core.Path.{◌≡◌, refl, sym, ap, subst, ◌∙◌}
use mathlib.Core.Bool.{true, false≢true}
use mathlib.Core.List.{List, [], ◌∷◌, ◌++◌, map}
use native.Mathlib.Omega.{arith}
use borrow.Author.Tests.{eqb-true, eq-eqb, leb-true, leb-false}
use lib.Dec.{leb}
use lib.ListN.{length, get_or, take, length-map, get_or-eq_default}
use lib.Seq.{length-take-le, get_or-take, drop_at}
use Rattle.text.specs.declared.Text.{Text}
use Rattle.text.proofs.Lists.{by-test}
use Rattle.command.specs.declared.Refusal.{Refusal}
use Rattle.idcode.specs.declared.IdCode.{IdCode}
use Rattle.token.specs.Read.{bit}
use Rattle.token.specs.declared.Cursor.{Cursor}
use Rattle.parser.specs.Next.{next_from}
use Rattle.parser.specs.declared.Next.{Next}
use Rattle.parser.proofs.All.{less-left}
use Rattle.list_step.specs.Step.{Role, time, change, other, role_of}
use Rattle.listing.specs.Listing.{since_after, Entry, rows_in, list_in}
use Rattle.change.specs.Rows.{words_of}
use Rattle.change.proofs.Table.{all-length, row-at}
use Rattle.change.specs.declared.Change.{Change}
use Rattle.change.specs.declared.ChangeKind.{ChangeKind}
use Rattle.listing.proofs.Complete.{firsts, complete, Way, count_of, last_time as time_of, each-change, full-there, ends-refused, ends-whole}
use Rattle.listing.proofs.Listed.{ahead}
use Rattle.promises.specs.Listed.{Step, Steps, Stops, role_in, is_of, count, last_time, HoldsOn}
use Rattle.promises.specs.Stated.{ReadingStops, ListingComplete, Beyond, ListingFull, ListingOnComplete, ListingOnFull}

-- ---- reading stops
Stopping : List ℕ → Cursor → Type 0
Stopping s c = (xs : List Step) × (d : Cursor) × (e : Ended) × (f : Cursor) × Steps s c xs d × Stops s d e f

stops_at : (s : List ℕ) (n : ℕ) (c : Cursor) → length s - c.place < n → Stopping s c
unfolding Stopping
stops_at s zero c h = absurd (omega arith)
stops_at s (suc n) c h = go (next_from s c) refl (λ d. stops_at s n d)
  where
    go : (y : Next) → next_from s c ≡ y → ((d : Cursor) → length s - d.place < n → Stopping s d) → Stopping s c
    go (Next.Command k d) q ih =
        let less = less-left s c d k q in
        let r = ih d (omega arith) in
        (record { from = c; what = k; to = d } ∷ r.0, r.1, r.2, r.3, (refl, q, r.4), r.5)
    go (Next.Refused e l f) q ih = ([], c, Err (e, l), f, refl, q)
    go (Next.Done f) q ih = ([], c, (Ok tt), f, refl, q)

pub reading-stops : ReadingStops
unfolding Stopping
reading-stops s c = stops_at s (suc (length s - c.place)) c (omega arith)

-- ---- steps as the laws of `listing` have them
way : (s : List ℕ) (c d : Cursor) (xs : List Step) → Steps s c xs d → Way s c (map (role_in s) xs) d
way s c d [] w = w
way s c d (x ∷ xs) w = (x.what, x.to, w.1, ap (λ (y : Cursor). role_of s y x.what) w.0, way s x.to d xs w.2)

count-told : (i : IdCode) (y : Role) (ys : List Role) → count_of i (y ∷ ys) ≡ bit (is_of i y) + count_of i ys
count-told i (time t) ys = refl
count-told i (change j k v) ys = refl
count-told i other ys = refl

count-is : (s : List ℕ) (i : IdCode) (xs : List Step) → count_of i (map (role_in s) xs) ≡ count s i xs
count-is s i [] = refl
count-is s i (x ∷ xs) = count-told i (role_in s x) (map (role_in s) xs) ∙ ap (λ (n : ℕ). bit (is_of i (role_in s x)) + n) (count-is s i xs)

time-is : (s : List ℕ) (t : Option Time) (xs : List Step) → time_of t (map (role_in s) xs) ≡ last_time s t xs
time-is s t [] = refl
time-is s t (x ∷ xs) = time-is s (since_after t (role_in s x)) xs

-- ---- a change among the steps
-- those before a step, and the reading of it
front : (s : List ℕ) (c d : Cursor) (ys zs : List Step) (x : Step) → Steps s c (ys ++ (x ∷ zs)) d
    → Steps s c ys x.from × (next_from s x.from ≡ Next.Command x.what x.to)
front s c d [] zs x w = (w.0, subst (λ (y : Cursor). next_from s y ≡ Next.Command x.what x.to) w.0 w.1)
front s c d (y ∷ ys) zs x w =
    let r = front s y.to d ys zs x w.2 in
    ((w.0, w.1, r.0), r.1)

-- a change of the code counts
one_more : (s : List ℕ) (i : IdCode) (ys zs : List Step) (x : Step) (k : ChangeKind) (v : Text) → role_in s x ≡ change i k v
    → count s i ys < count s i (ys ++ (x ∷ zs))
one_more s i [] zs x k v e = rw (e, eq-eqb i.0 i.0 refl) (omega arith)
one_more s i (y ∷ ys) zs x k v e = let h = one_more s i ys zs x k v e in omega arith

of-change : (i : IdCode) (y : Role) → is_of i y ≡ true → (k : ChangeKind) × (v : Text) × (y ≡ change i k v)
of-change i (time t) e = absurd (false≢true e)
of-change i (change j k v) e = (k, v, ap (λ (n : ℕ). change (record { 0 = n }) k v) (eqb-true j.0 i.0 e))
of-change i other e = absurd (false≢true e)

-- the change that n changes stand before
Found : List ℕ → IdCode → ℕ → List Step → Type 0
Found s i n xs = (ys : List Step) × (x : Step) × Beyond s i n xs ys x

later : (s : List ℕ) (i : IdCode) (n m : ℕ) (x : Step) (xs : List Step) → bit (is_of i (role_in s x)) + n ≡ m → Found s i n xs → Found s i m (x ∷ xs)
unfolding Found
later s i n m x xs e r =
    let b = r.2 in (
      x ∷ r.0,
      r.1,
      record { later = b.later; kind = b.kind; value = b.value; splits = ap (λ (l : List Step). x ∷ l) b.splits; is = b.is; before = rw b.before e },
    )

here : (s : List ℕ) (i : IdCode) (x : Step) (xs : List Step) → is_of i (role_in s x) ≡ true → Found s i 0 (x ∷ xs)
unfolding Found
here s i x xs e =
    let y = of-change i (role_in s x) e in
    ([], x, record { later = xs; kind = y.0; value = y.1; splits = refl; is = y.2; before = refl })

find : (s : List ℕ) (i : IdCode) (xs : List Step) (n : ℕ) → n < count s i xs → Found s i n xs
find s i [] n h = absurd (omega arith)
find s i (x ∷ xs) zero h =
    by-test (is_of i (role_in s x)) (here s i x xs)
    (λ e. let b : bit (is_of i (role_in s x)) ≡ 0 = rw e in later s i 0 0 x xs (omega arith) (find s i xs 0 (omega arith)))
find s i (x ∷ xs) (suc n) h =
    by-test (is_of i (role_in s x))
    (λ e. let b : bit (is_of i (role_in s x)) ≡ 1 = rw e in later s i n (suc n) x xs (omega arith) (find s i xs n (omega arith)))
    (λ e. let b : bit (is_of i (role_in s x)) ≡ 0 = rw e in later s i (suc n) (suc n) x xs (omega arith) (find s i xs (suc n) (omega arith)))

-- ---- a change's row
module _ (s : List ℕ) (c : Cursor) (t : Option Time) (i : IdCode) (xs : List Step) (d : Cursor) (w : Steps s c xs d) where
  abbrev all : List Change
  all = rows_in (ahead s i c t)

  -- the changes among xs have these places among all
  module _ (ys zs : List Step) (x : Step) (k : ChangeKind) (v : Text) (e : xs ≡ ys ++ (x ∷ zs)) (q : role_in s x ≡ change i k v) where
    abbrev row : Change
    row = Change.Is (last_time s t ys) x.to.line k v

    placed : get_or all (count s i ys) Change.None ≡ row
    placed =
        let f = front s c d ys zs x (rw e at w) in
        rw (count-is s i ys, time-is s t ys) at (each-change s i c x.from t (map (role_in s) ys) (way s c x.from ys f.0) x.what x.to k v f.1 q)

    -- so there are more of all
    longer : count s i ys < length all
    longer =
        by-test (leb (length all) (count s i ys))
        (λ b.
        let n : Change.None ≡ row = sym (get_or-eq_default all Change.None (leb-true _ _ b)) ∙ placed in
        let z : ◌≡◌ {A = ℕ} 0 1 = cc in
        absurd (omega arith))
        (λ b. leb-false _ _ b)

  -- as many as there are changes among them at least
  at_least : (n : ℕ) → n < count s i xs → n < length all
  unfolding Found
  at_least n h =
      let r = find s i xs n h in
      let b = r.2 in
      omega (arith, longer r.0 b.later r.1 b.kind b.value b.splits b.is, b.before)

-- ---- what is held, by the rows that are made
module _ (s : List ℕ) (c : Cursor) (t : Option Time) (i : IdCode) (table : List ℕ) where
  abbrev made : List Change
  made = (list_in s c t i (length table / 6)).rows

  holds : (xs : List Step) (d : Cursor) (e : Ended) (f : Cursor) → Steps s c xs d → count s i xs ≤ length table / 6 → length made ≡ count s i xs
      → (list_in s c t i (length table / 6)).ended ≡ e
      → (list_in s c t i (length table / 6)).cursor ≡ f
      → (list_in s c t i (length table / 6)).since ≡ last_time s t xs
      → HoldsOn s c t i table xs e f
  holds xs d e f w room n a b u =
      record {
        answer = rw (n, a, b, u);
        each = λ ys zs x k v o q.
            let more : count s i ys < count s i xs = rw o (one_more s i ys zs x k v q) in
            row-at made table (count s i ys) (omega arith)
            ∙ ap (λ (l : List Change). get_or l (count s i ys) Change.None) (firsts s c t i (length table / 6))
            ∙ get_or-take (length table / 6) (all s c t i xs d w) (count s i ys) Change.None (omega arith)
            ∙ placed s c t i xs d w ys zs x k v o q;
        rest = rw (← n) (drop_at (words_of made) _ (6 * length made) (all-length made));
      }

-- ---- enough room
module _ (s : List ℕ) (c : Cursor) (t : Option Time) (i : IdCode) (xs : List Step) (d f : Cursor) (w : Steps s c xs d) where
  abbrev Ends : ℕ → Ended → Type 0
  Ends room e =
      (length (list_in s c t i room).rows ≡ count s i xs)
      × ((list_in s c t i room).ended ≡ e)
      × ((list_in s c t i room).cursor ≡ f)
      × ((list_in s c t i room).since ≡ last_time s t xs)

  pub ends : (e : Ended) → Stops s d e f → (room : ℕ) → count s i xs ≤ room → Ends room e
  ends (Ok tt) q room h =
      rw (count-is s i xs, time-is s t xs) at (ends-whole s i c d t (map (role_in s) xs) (way s c d xs w) room (rw (count-is s i xs) h) f q)
  ends (Err (r, n)) q room h =
      rw (count-is s i xs, time-is s t xs) at (ends-refused s i c d t (map (role_in s) xs) (way s c d xs w) room (rw (count-is s i xs) h) r n f q)

  -- the changes among xs are all there are
  pub all-count : (e : Ended) → Stops s d e f → length (ahead s i c t) ≡ count s i xs
  all-count e q =
      let l : List Entry = ahead s i c t in
      let room : ℕ = count s i xs + length l in
      let rows : (list_in s c t i room).rows ≡ rows_in l = rw (complete s c t i room (omega arith)) in
      sym (length-map l (λ (x : Entry). x.row)) ∙ ap length (sym rows) ∙ (ends e q room (omega arith)).0

pub listing-on-complete : ListingOnComplete
listing-on-complete s c t i xs d e f w q table h =
    let x = ends s c t i xs d f w e q (length table / 6) h in
    holds s c t i table xs d e f w h x.0 x.1 x.2 x.3

pub listing-complete : ListingComplete
listing-complete s c i = listing-on-complete s c None i

-- ---- too little
pub listing-on-full : ListingOnFull
unfolding Found
listing-on-full s c t i xs d w table h =
    let n : ℕ = length table / 6 in
    let r = find s i xs n h in
    let ys : List Step = r.0 in
    let x : Step = r.1 in
    let b = r.2 in
    let o = front s c d ys b.later x (rw b.splits at w) in
    let l : List Change = rows_in (ahead s i c t) in
    let many : n < length l = at_least s c t i xs d w n h in
    let z : list_in s c t i n ≡ record { rows = take n l; ended = Err (Refusal.ListFull, x.from.line); cursor = x.from; since = last_time s t ys } =
    rw (count-is s i ys, time-is s t ys, b.before) at (full-there s i c x.from t (map (role_in s) ys) (way s c x.from ys o.0) x.what x.to b.kind b.value o.1 b.is) in
    let long : length (list_in s c t i n).rows ≡ count s i ys = rw (z, b.before) (length-take-le n l (omega arith)) in
    (ys, x, b, holds s c t i table ys x.from _ _ o.0 (omega (arith, b.before)) long (rw z) (rw z) (rw z))

pub listing_full : ListingFull
listing_full s c i = listing-on-full s c None i
