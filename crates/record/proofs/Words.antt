-- A record's words in a table: nine of them, stored one by one.
use Prim.Native.Nat.{ℕ, suc, ◌+◌, ◌≤◌, ◌<◌}
use mathlib.Core.Path.{◌≡◌, refl, ◌∙◌}
use mathlib.Core.List.{List, [], ◌∷◌, append_assoc}
use native.Mathlib.Omega.{arith}
use lib.ListN.{length, set, take, drop}
use lib.Seq.{sets, lt-length-sets, sets-eq}
use Rattle.record.specs.Record.{listed, put_at}
use Rattle.record.specs.declared.RecordWords.{RecordWords}

pub nine : (w : RecordWords) → length (listed w) ≡ 9
unfolding listed
nine w = refl

-- words stored one by one, from i + j on
abbrev written : List ℕ → (i j : ℕ) → List ℕ → List ℕ
written m i j [] = m
written m i j (a ∷ w) = written (set m (i + j) a) i (suc j) w

written-are : (m : List ℕ) (i j : ℕ) (w : List ℕ) → written m i j w ≡ sets m (i + j) w
written-are m i j [] = refl
written-are m i j (a ∷ w) = let e : i + suc j ≡ suc (i + j) = omega arith in written-are (set m (i + j) a) i (suc j) w ∙ rw e

module _ (m : List ℕ) (at : ℕ) (h : at + 9 ≤ length m) (k : ℕ) (w : List ℕ) where
  begun : written (set m at k) at 1 w ≡ sets m at (k ∷ w)
  begun = let e : at + 1 ≡ suc at = omega arith in written-are (set m at k) at 1 w ∙ rw e

  -- there is room for the words after them
  pub room : (j : ℕ) → j < 9 → at + j < length (written (set m at k) at 1 w)
  room j l = rw begun (lt-length-sets m at (k ∷ w) (omega arith))

  pub stored : length w ≡ 8 → written (set m at k) at 1 w ≡ put_at m at (k ∷ w)
  unfolding put_at
  stored e =
      let l : at + length (k ∷ w) ≡ at + 9 = omega arith in
      begun ∙ sets-eq (k ∷ w) m at (omega arith) ∙ rw l (append_assoc (take at m) (k ∷ w) (drop (at + 9) m))
