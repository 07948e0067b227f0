-- What is known of words that are a state.
use Rattle.std.specs.Prelude.{Option, Some, None}
use Prim.Native.Nat.{ℕ, ◌<◌, ◌^◌}
use mathlib.Core.Path.{◌≡◌, sym, ◌∙◌}
use mathlib.Core.Bool.{Bool, true, ◌&&◌}
use mathlib.Core.List.{List}
use native.Mathlib.Omega.{arith}
use borrow.Author.Tests.{eqb-true, ltb-true}
use lib.Dec.{eqb, leb, ltb}
use lib.ListN.{length, get_or}
use Rattle.text.proofs.Lists.{by-test, both}
use Rattle.token.specs.declared.Cursor.{Cursor}
use Rattle.write.specs.declared.Writer.{Writer}
use Rattle.vcd_state.specs.State.{cursor_of, writer_of, is_scale}

abbrev Four : List ℕ → Option Cursor → Type 0
Four w (Some c) = length w ≡ 4
Four w None = Unit {0}

pub cursor-four : (w : List ℕ) {r : Option Cursor} {c : Cursor} → r ≡ cursor_of w → r ≡ Some c → length w ≡ 4
unfolding cursor_of
cursor-four w e h =
    let a : Bool = eqb (length w) 4 in
    let b : Bool = leb (get_or w 2 0) 1 in
    let d : Bool = leb (get_or w 3 0) 4 in
    let l : Four w (cursor_of w) = by-test (a && b && d) (λ t. rw t (eqb-true (length w) 4 (both a b (both (a && b) d t).0).0)) (λ t. rw t tt) in
    rw (sym e ∙ h) at l

abbrev Three : List ℕ → Option Writer → Type 0
Three w (Some v) = length w ≡ 3
Three w None = Unit {0}

pub writer-three : (w : List ℕ) {r : Option Writer} {v : Writer} → r ≡ writer_of w → r ≡ Some v → length w ≡ 3
unfolding writer_of
writer-three w e h =
    let a : Bool = eqb (length w) 3 in
    let b : Bool = leb (get_or w 2 0) 4 in
    let l : Three w (writer_of w) = by-test (a && b) (λ t. rw t (eqb-true (length w) 3 (both a b t).0)) (λ t. rw t tt) in
    rw (sym e ∙ h) at l

pub scale_small : (h n u : ℕ) → is_scale h n u ≡ true → n < 2 ^ 32
unfolding is_scale
scale_small h n u e =
    by-test (eqb h 0)
    (λ t. let z : n ≡ 0 = eqb-true n 0 (both (eqb n 0) (eqb u 0) (rw t at e)).0 in omega arith)
    (λ t. ltb-true n (2 ^ 32) (both (eqb h 1) (ltb n (2 ^ 32)) (both (eqb h 1 && ltb n (2 ^ 32)) (ltb u 6) (rw t at e)).0).1)
