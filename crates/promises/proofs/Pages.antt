-- Pages joined are the one listing: from the cursor and the time that stood before a change, a listing goes on as it would have without a
-- stop. Assumes nothing.
use Rattle.command.specs.Refusals.{Ended}
use Rattle.std.specs.Prelude.{Option, Ok, Err}
use Rattle.command.specs.declared.Time.{Time}
use Prim.Native.Nat.{ℕ, zero, suc, ◌+◌, ◌*◌, ◌≤◌, ◌<◌}
use mathlib.Core.Path.{◌≡◌, refl, sym, ap, ◌∙◌}
use mathlib.Core.Bool.{true, false, true≢false, false≢true}
use mathlib.Core.List.{List, [], ◌∷◌, ◌++◌}
use native.Mathlib.Omega.{arith}
use native.Mathlib.Nat.{mul-one, mul-suc}
use borrow.Author.Tests.{eqb-true, leb-true, leb-false}
use lib.Dec.{eqb, leb}
use lib.ListN.{length, take, drop, length-drop}
use lib.Seq.{drop-drop, take-add}
use Rattle.command.specs.Refusals.{number_of}
use Rattle.command.specs.declared.Command.{Command}
use Rattle.command.specs.declared.Refusal.{Refusal}
use Rattle.idcode.specs.declared.IdCode.{IdCode}
use Rattle.parser.specs.All.{Commands, command, stop, finish, followed, commands}
use Rattle.parser.specs.Next.{next_from}
use Rattle.parser.proofs.All.{commands-step}
use Rattle.parser.specs.declared.Next.{Next}
use Rattle.text.proofs.Lists.{by-test}
use Rattle.token.specs.declared.Cursor.{Cursor}
use Rattle.list_step.specs.Step.{Role, time, change, other, role_of}
use Rattle.listing.specs.Listing.{Entry, entries, since_after, changes, stop_of, last_of, time_of, Outcome, rows_in, cut, list_in}
use Rattle.listing.proofs.Complete.{complete}
use Rattle.listing.proofs.Listed.{ahead, rows_join}
use Rattle.promises.specs.Listed.{Stops, joined, is_full, paged}
use Rattle.promises.specs.Stated.{ListingPages}
use Rattle.promises.proofs.Listing.{reading-stops, ends, all-count}
use Rattle.promises.proofs.Reasons.{reading-refusals}

-- after a command are those read from its cursor
after : (s : List ℕ) (c d : Cursor) (k : Command) (more : Commands) → commands s c ≡ command k d more → commands s d ≡ more
after s c d k more w = go (next_from s c) (sym (commands-step s c) ∙ w)
  where
    go : (x : Next) → followed (commands s) x ≡ command k d more → commands s d ≡ more
    go (Next.Command j b) g =
        let same : b ≡ d = cc in
        let rest : commands s b ≡ more = cc in
        ap (commands s) (sym same) ∙ rest
    go (Next.Refused r n b) g = let z : ◌≡◌ {A = ℕ} 0 1 = cc in absurd (omega arith)
    go (Next.Done b) g = let z : ◌≡◌ {A = ℕ} 0 1 = cc in absurd (omega arith)

module _ (s : List ℕ) (i : IdCode) (e : Ended) (d : Cursor) (u : Option Time) where
  -- a listing from before the first of these changes has them all, and ends so
  abbrev Resumes : List Entry → Type 0
  Resumes [] = Unit {0}
  Resumes (x ∷ xs) =
      (ahead s i x.from x.since ≡ x ∷ xs)
      × (stop_of (commands s x.from) ≡ e)
      × (last_of (commands s x.from) ≡ d)
      × (time_of s x.from x.since (commands s x.from) ≡ u)

  -- so of whatever is left of them
  abbrev Rests : List Entry → Type 0
  Rests xs = (n : ℕ) → Resumes (drop n xs)

  rests-nil : Rests []
  rests-nil zero = tt
  rests-nil (suc n) = tt

  rests-cons : (x : Entry) (xs : List Entry) → Resumes (x ∷ xs) → Rests xs → Rests (x ∷ xs)
  rests-cons x xs r f zero = r
  rests-cons x xs r f (suc n) = f n

  -- by what the next command is
  step : (c b : Cursor) (t : Option Time) (x : Role) (xs : List Entry)
      → ahead s i c t ≡ entries i c t b.line x ++ xs
      → stop_of (commands s c) ≡ e → last_of (commands s c) ≡ d → time_of s c t (commands s c) ≡ u
      → Rests xs → Rests (entries i c t b.line x ++ xs)
  step c b t (time v) xs w p q r f = f
  step c b t (change j k v) xs w p q r f =
      by-test (eqb j.0 i.0)
      (λ g.
      let h = rw g at w in
      rw g (rests-cons _ xs (h, p, q, r) f))
      (λ g. rw g f)
  step c b t other xs w p q r f = f

  rests : (cs : Commands) (c : Cursor) (t : Option Time) → commands s c ≡ cs → stop_of cs ≡ e → last_of cs ≡ d → time_of s c t cs ≡ u
      → Rests (changes s i c t cs)
  unfolding changes stop_of last_of time_of
  rests (stop r n b) c t w p q v = rests-nil
  rests (finish b) c t w p q v = rests-nil
  rests (command k b more) c t w p q v =
      let x : Role = role_of s c k in
      step c b t x (changes s i b (since_after t x) more) (ap (changes s i c t) w) (ap stop_of w ∙ p) (ap last_of w ∙ q) (ap (time_of s c t) w ∙ v)
      (rests more b (since_after t x) (after s c b k more w) p q v)

  -- ---- the page after these
  cut-joined : (x y r : List Entry)
      → record { rows = rows_in x ++ (cut y r e d u).rows; ended = (cut y r e d u).ended; cursor = (cut y r e d u).cursor; since = (cut y r e d u).since }
      ≡ cut (x ++ y) r e d u
  cut-joined x y [] = rw (rows_join x y)
  cut-joined x y (z ∷ r) = rw (rows_join x y)

  resumed : (x : Entry) (xs : List Entry) (m : ℕ) → Resumes (x ∷ xs)
      → list_in s x.from x.since i m ≡ cut (take m (x ∷ xs)) (drop m (x ∷ xs)) e d u
  unfolding list_in
  resumed x xs m r = rw (r.0, r.1, r.2, r.3)

  -- what is ahead of it is what the first has no rows for
  page-on : (made rest : List Entry) (m : ℕ) → Resumes rest → 0 < length rest
      → let a : Outcome = cut made rest e d u in
      (ahead s i a.cursor a.since ≡ rest)
      × (joined a (list_in s a.cursor a.since i m) ≡ cut (made ++ take m rest) (drop m rest) e d u)
  page-on made [] m r l = absurd (omega arith)
  page-on made (x ∷ xs) m r l = (r.0, rw (resumed x xs m r) (cut-joined made (take m (x ∷ xs)) (drop m (x ∷ xs))))

-- ---- n rows, and m rows more
module _ (s : List ℕ) (i : IdCode) (c : Cursor) (t : Option Time) (n : ℕ) (more : n < length (ahead s i c t)) where
  abbrev all : List Entry
  all = ahead s i c t

  abbrev page : Outcome
  page = list_in s c t i n

  next-page : (m : ℕ)
      → (ahead s i page.cursor page.since ≡ drop n all)
      × (joined page (list_in s page.cursor page.since i m) ≡ list_in s c t i (n + m))
  unfolding list_in
  next-page m =
      let cs : Commands = commands s c in
      let r = rests s i (stop_of cs) (last_of cs) (time_of s c t cs) cs c t refl refl refl refl n in
      let p = page-on s i (stop_of cs) (last_of cs) (time_of s c t cs) (take n all) (drop n all) m r (omega (arith, length-drop n all)) in
      (p.0, p.1 ∙ rw (← take-add n m all, drop-drop m n all))

-- ---- 24 says that there are more changes than rows, and is given then
module _ (s : List ℕ) (i : IdCode) (c : Cursor) (t : Option Time) (n : ℕ) where
  not-reading : (e : Ended) (d f : Cursor) → Stops s d e f → is_full e ≡ false
  not-reading (Ok tt) d f q = refl
  not-reading (Err (r, l)) d f q =
      by-test (eqb (number_of r) 24)
      (λ h.
      let m : number_of r ≡ 24 = eqb-true _ _ h in
      let z : false ≡ true = rw m at (reading-refusals s d r l f q) in
      absurd (false≢true z))
      (λ h. h)

  few-ends : length (ahead s i c t) ≤ n → is_full (list_in s c t i n).ended ≡ false
  few-ends h =
      let r = reading-stops s c in
      let g = all-count s c t i r.0 r.1 r.3 r.4 r.2 r.5 in
      let e = ends s c t i r.0 r.1 r.3 r.4 r.2 r.5 n (omega arith) in
      rw e.1 (not-reading r.2 r.1 r.3 r.5)

  many-ends : n < length (ahead s i c t) → is_full (list_in s c t i n).ended ≡ true
  unfolding list_in
  many-ends h = go (drop n (ahead s i c t)) (omega (arith, length-drop n (ahead s i c t)))
    where
      go : (r : List Entry) → 0 < length r
          → is_full (cut (take n (ahead s i c t)) r (stop_of (commands s c)) (last_of (commands s c)) (time_of s c t (commands s c))).ended ≡ true
      go [] l = absurd (omega arith)
      go (x ∷ r) l = refl

  -- by whether there are more
  by-room : {A : Type 0} → (n < length (ahead s i c t) → A) → (length (ahead s i c t) ≤ n → A) → A
  by-room p q = by-test (leb (length (ahead s i c t)) n) (λ e. q (leb-true _ _ e)) (λ e. p (leb-false _ _ e))

  more : (line : ℕ) → (list_in s c t i n).ended ≡ Err (Refusal.ListFull, line) → n < length (ahead s i c t)
  more line e = by-room (λ h. h) (λ h. let z : true ≡ false = rw e at (few-ends h) in absurd (true≢false z))

-- any number of pages
same : (s : List ℕ) (c : Cursor) (t : Option Time) (i : IdCode) (m k : ℕ) → length (ahead s i c t) ≤ m → length (ahead s i c t) ≤ k
    → list_in s c t i m ≡ list_in s c t i k
same s c t i m k p q = complete s c t i m p ∙ sym (complete s c t i k q)

pages : (s : List ℕ) (i : IdCode) (n k : ℕ) (c : Cursor) (t : Option Time) → paged s i n k c t ≡ list_in s c t i (n * suc k)
unfolding paged
pages s i n zero c t = ap (list_in s c t i) (sym (mul-one n))
pages s i n (suc k) c t =
    let a : Outcome = list_in s c t i n in
    let z : n + n * suc k ≡ n * suc (suc k) = omega (arith, mul-suc n (suc k)) in
    by-room s i c t n
    (λ h. rw (many-ends s i c t n h, pages s i n k a.cursor a.since) ((next-page s i c t n h (n * suc k)).1 ∙ ap (list_in s c t i) z))
    (λ h. rw (few-ends s i c t n h) (same s c t i n (n * suc (suc k)) h (omega arith)))

pub listing-pages : ListingPages
listing-pages =
    record {
      two = λ s c t i n m line e. (next-page s i c t n (more s i c t n line e) m).1;
      many = λ s c t i n k. pages s i n k c t;
      all = λ s c t i xs d e f w q n k m h g.
          let l = all-count s c t i xs d f w e q in
          pages s i n k c t ∙ same s c t i (n * suc k) m (omega arith) (omega arith);
    }
