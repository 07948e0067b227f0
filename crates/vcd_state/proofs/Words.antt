-- Words stored one by one, and over the whole of an array.
use Rattle.std.specs.Prelude.{Option, Some, None}
use Rattle.timescale.specs.declared.TimescaleUnit.{TimescaleUnit}
use Rattle.text.specs.declared.Text.{Text}
use Prim.Native.Nat.{ℕ, suc, ◌+◌, ◌-◌, ◌≤◌, ◌<◌}
use mathlib.Core.Path.{◌≡◌, refl, ◌∙◌}
use mathlib.Core.List.{List, [], ◌∷◌, ◌++◌, append_assoc, append-nil}
use native.Mathlib.Nat.{zero-add}
use native.Mathlib.Numerals.{add-one}
use native.Mathlib.Omega.{arith}
use lib.ListN.{length, take, drop, set, get_or, length-append, length-drop}
use lib.Seq.{sets, sets-eq, drop-length, get_or-drop, paste-suc}
use Rattle.header.specs.declared.Header.{Header}
use Rattle.emit.specs.Put.{stored}
use Rattle.emit.proofs.Storing.{stored-byte, puts, run-start}
use Rattle.vcd_state.specs.State.{text_words, scale_words, head_words}

pub sets-stored : (w o : List ℕ) (at : ℕ) → at + length w ≤ length o → sets o at w ≡ stored o at w
unfolding stored
sets-stored w o at h = sets-eq w o at h ∙ append_assoc (take at o) w (drop (at + length w) o)

stored-whole : (w o : List ℕ) → length o ≡ length w → stored o 0 w ≡ w
unfolding stored
stored-whole w o h = let e : 0 + length w ≡ length o = omega arith in rw (e, drop-length o) (append-nil w)

pub sets-whole : (w o : List ℕ) → length o ≡ length w → sets o 0 w ≡ w
sets-whole w o h = sets-stored w o 0 (omega arith) ∙ stored-whole w o h

pub three-stored : (o : List ℕ) (at a b c : ℕ) → at + 3 ≤ length o
    → set (set (set o at a) (at + 1) b) (at + 2) c ≡ stored o at (a ∷ b ∷ c ∷ [])
three-stored o at a b c h =
    let e : at + 1 ≡ suc at = omega arith in
    let f : at + 2 ≡ suc (suc at) = omega arith in
    rw (e, f) (sets-stored (a ∷ b ∷ c ∷ []) o at (omega arith))

-- ---- the first j words of t over those of o
abbrev pub over : List ℕ → List ℕ → ℕ → List ℕ
over o t j = take j t ++ drop j o

-- the next one, from its place in a table
pub over-more : (o t : List ℕ) (at j : ℕ) → j < length o → at + j < length t
    → set (over o (drop at t) j) j (get_or t (at + j) 0) ≡ over o (drop at t) (j + 1)
over-more o t at j h g =
    let l : length (drop at t) ≡ length t - at = length-drop at t in
    rw (add-one j, ← get_or-drop at t j 0) (rw (zero-add j, zero-add (suc j)) at (paste-suc o 0 (drop at t) j 0 (omega arith) (omega arith)))

pub over-all : (o t : List ℕ) → over o t (length o) ≡ take (length o) t
over-all o t = rw (drop-length o) (append-nil (take (length o) t))

-- ---- what a header keeps
text-three : (t : Option Text) → length (text_words t) ≡ 3
text-three None = refl
text-three (Some t) = refl

scale-three : (t : Option (ℕ × TimescaleUnit)) → length (scale_words t) ≡ 3
scale-three None = refl
scale-three (Some (n, u)) = refl

pub head-stored : (o : List ℕ) (h : Header) (n : ℕ) → length o ≡ 10
    → stored (stored (stored (set o 0 n) 1 (text_words h.date)) 4 (text_words h.version)) 7 (scale_words h.timescale) ≡ head_words h n
head-stored o h n l =
    let d : List ℕ = text_words h.date in
    let v : List ℕ = text_words h.version in
    let t : List ℕ = scale_words h.timescale in
    let ws : List (List ℕ) = (n ∷ []) ∷ d ∷ v ∷ t ∷ [] in
    let each : stored (stored (stored (set o 0 n) 1 d) 4 v) 7 t ≡ puts o 0 ws =
    rw (stored-byte o 0 n (omega arith), text-three h.date, text-three h.version) refl in
    let long : length o ≡ length (n ∷ (d ++ (v ++ t))) =
    omega (arith, length-append d (v ++ t), length-append v t, text-three h.date, text-three h.version, scale-three h.timescale) in
    (run-start o ws _ _ refl each).1 ∙ rw (append-nil t) (stored-whole (n ∷ (d ++ (v ++ t))) o long)
