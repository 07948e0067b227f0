-- Rows: a text copied from its start into a row of zeros, or into a buffer.
use Rattle.std.specs.Prelude.{Some, None}
use Prim.Native.Nat.{ℕ, zero, suc, ◌+◌, ◌-◌, ◌≤◌, ◌<◌, min}
use mathlib.Core.Path.{◌≡◌, refl, sym, ◌∙◌, ap}
use mathlib.Core.List.{List, [], ◌∷◌, ◌++◌, append_assoc}
use native.Mathlib.Numerals.{add-one}
use native.Mathlib.Omega.{arith}
use borrow.Author.Tests.{le-leb, lt-leb}
use lib.ListN.{length, get_or, take, drop, set, replicate, length-append, length-drop, length-take}
use lib.Seq.{drop-cons, take-suc, set_at, length-take-le, append_snoc, take_all, take-append_seam, drop-append_seam}
use borrow.Rule.Slice.PartMut.{put_mid}
use Rattle.std.proofs.lemmas.List.{drop-replicate, take_min}
use Rattle.text.specs.Texts.{spelled, text_in, put_answer, put_bytes}
use Rattle.text.specs.declared.Spelled.{Spelled}

-- ---- a row of 32 bytes: the first n bytes of t, then zeros
pub record Row (t bytes : List ℕ) (n : ℕ) : Type 0 where
  pub room : n ≤ 32
  pub within : n ≤ length t
  pub made : bytes ≡ take n t ++ replicate (32 - n) 0

pub row-start : (t : List ℕ) → Row t (replicate 32 0) 0
row-start t = record { room = omega arith; within = omega arith; made = refl }

-- a text of at most 32 bytes that stands in a row
pub row-spelled : (t bytes : List ℕ) (n : ℕ) → length t ≡ n → bytes ≡ t ++ replicate (32 - n) 0 → record { bytes = bytes; len = n } ≡ spelled t
row-spelled t bytes n h e = rw (e, h)

module _ (t bytes : List ℕ) (n : ℕ) (r : Row t bytes n) where
  pub row_more : n < 32 → n < length t → Row t (set bytes n (get_or t n 0)) (n + 1)
  row_more g h =
      let more : 32 - n ≡ suc (32 - suc n) = omega arith in
      let len = length-take-le n t (omega arith) in
      record {
        room = omega arith;
        within = omega arith;
        made =
            rw (r.made, more, set_at (take n t) 0 (replicate (32 - suc n) 0) (get_or t n 0) n len, add-one n, take-suc t n 0 h)
            (sym (append_snoc (take n t) (get_or t n 0) (replicate (32 - suc n) 0)));
      }

  pub row-end : length t ≤ n → record { bytes = bytes; len = n } ≡ spelled (take 32 t)
  row-end h =
      let same : take n t ≡ t = take_all n t h in
      rw (take_all 32 t (omega (arith, r.room))) (row-spelled t bytes n (omega (arith, r.within)) (rw same at r.made))

-- a copy at the start of a row of zeros, where made is what stands there then
pub row_copied : (s made : List ℕ) (n : ℕ) → n ≡ min (length s) 32 → made ≡ take n s
    → record { bytes = made ++ drop n (replicate 32 0); len = n } ≡ spelled (take 32 s)
row_copied s made n h e =
    let m : n ≡ min 32 (length s) = omega arith in
    let same : take n s ≡ take 32 s = rw m (take_min 32 s) in
    let l : length (take 32 s) ≡ n = omega (arith, length-take 32 s) in
    row-spelled (take 32 s) _ n l (rw (e, same, drop-replicate {X = ℕ} n 32 0))

-- the front of two texts
take-both : (n : ℕ) (a b : List ℕ) → take n (a ++ b) ≡ take n a ++ take (n - length a) b
take-both zero a b = let z : 0 - length a ≡ 0 = omega arith in rw z
take-both (suc n) [] b = let z : suc n - 0 ≡ suc n = omega arith in rw z
take-both (suc n) (x ∷ a) b = let z : suc n - suc (length a) ≡ n - length a = omega arith in rw (z, take-both n a b)

-- a copy behind the text that stands in a row, where more is what stands there then
pub row_joined : (a b : List ℕ) (x : Spelled) (more : List ℕ) (m : ℕ) → x ≡ spelled (take 32 a) → m ≡ min (length b) (32 - x.len) → more ≡ take m b
    → record { bytes = put_mid x.len (x.len + m - x.len) x.bytes more; len = x.len + m } ≡ spelled (take 32 (a ++ b))
row_joined a b x more m h k e =
    let t = take 32 a in
    let row : x.bytes ≡ t ++ replicate (32 - length t) 0 = ap (λ (y : Spelled). y.bytes) h in
    let n : x.len ≡ length t = ap (λ (y : Spelled). y.len) h in
    let l : length t ≡ min 32 (length a) = length-take 32 a in
    let u : m ≡ min (32 - length a) (length b) = omega arith in
    let same : take 32 (a ++ b) ≡ t ++ take m b = rw (u, take_min (32 - length a) b) (take-both 32 a b) in
    let d : length t + m - length t ≡ m = omega arith in
    let lm : length (take m b) ≡ m = omega (arith, length-take m b) in
    let all : length (t ++ take m b) ≡ length t + m = omega (arith, length-append t (take m b)) in
    let r : 32 - length t - m ≡ 32 - (length t + m) = omega arith in
    rw (same, n)
    (row-spelled (t ++ take m b) _ (length t + m) all
    (rw (row, d, e, take-append_seam t (replicate (32 - length t) 0), drop-append_seam t (replicate (32 - length t) 0), drop-replicate {X = ℕ} m (32 - length t) 0, r)
    (sym (append_assoc t (take m b) (replicate (32 - (length t + m)) 0)))))

-- ---- a buffer that begins with the first i bytes of the text t
pub record Copied (t old out : List ℕ) (i : ℕ) : Type 0 where
  pub room : length t ≤ length old
  pub within : i ≤ length t
  pub made : out ≡ take i t ++ drop i old

pub copy_start : (t old : List ℕ) → length t ≤ length old → Copied t old old 0
copy_start t old h = record { room = h; within = omega arith; made = refl }

module _ (t old out : List ℕ) (i : ℕ) (c : Copied t old out i) where
  pub copy-length : length out ≡ length old
  copy-length =
      omega (arith, c.room, c.within, ap length c.made, length-append (take i t) (drop i old), length-take-le i t c.within, length-drop i old)

  pub copy_more : i < length t → Copied t old (set out i (get_or t i 0)) (i + 1)
  copy_more h =
      record {
        room = c.room;
        within = omega arith;
        made =
            rw (
              c.made,
              drop-cons old i 0 (omega (arith, c.room)),
              set_at (take i t) (get_or old i 0) (drop (suc i) old) (get_or t i 0) i (length-take-le i t (omega arith)),
              add-one i,
              take-suc t i 0 h,
            )
            (sym (append_snoc (take i t) (get_or t i 0) (drop (suc i) old)));
      }

  pub copy_done : length t ≤ i → (Some i ≡ put_answer t old) × (out ≡ put_bytes t old)
  unfolding put_answer put_bytes
  copy_done h =
      let e : i ≡ length t = omega (arith, c.within) in
      let all : take i t ≡ t = take_all i t h in
      rw (le-leb (length t) (length old) c.room) (ap Some e, c.made ∙ rw (all, e))

pub no_room : (t old : List ℕ) → length old < length t → (None ≡ put_answer t old) × (old ≡ put_bytes t old)
unfolding put_answer put_bytes
no_room t old h = rw (lt-leb (length t) (length old) h) (refl, refl)

-- ---- short texts joined
pub text_in_lem : (t : List ℕ) → text_in (spelled t) ≡ t
unfolding text_in
text_in_lem t = take-append_seam t (replicate (32 - length t) 0)

-- joining rows of texts that fit together
pub joins : (a b : List ℕ) → length (a ++ b) ≤ 32 → spelled (take 32 (text_in (spelled a) ++ text_in (spelled b))) ≡ spelled (a ++ b)
joins a b h = rw (text_in_lem a, text_in_lem b, take_all 32 (a ++ b) h)

-- what a short text answers as its bytes
pub spelled_text : {x : Spelled} {r : List ℕ} (t : List ℕ) → x ≡ spelled t → r ≡ text_in x → r ≡ t
spelled_text t e q = q ∙ rw e (text_in_lem t)
