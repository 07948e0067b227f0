-- Of each wrong writer one call shows that it does not meet the statement, computed: a timestamp into three bytes. Assumes nothing.
use Rattle.std.specs.Prelude.{Ok}
use Prim.Native.Nat.{ℕ}
use mathlib.Core.Path.{◌≡◌, refl}
use mathlib.Core.List.{List, [], ◌∷◌}
use native.Mathlib.Omega.{arith}
use Rattle.text.specs.Bytes.{bytes}
use Rattle.text.specs.Texts.{too_long, put_answer, put_bytes}
use Rattle.number.specs.Decimal.{digits_of}
use Rattle.command.specs.declared.Command.{Command}
use Rattle.command.specs.declared.Refusal.{Refusal}
use Rattle.write.specs.Call.{outcome, call}
use Rattle.write.specs.Layout.{layout, state_after, fresh}
use Rattle.falls_write.specs.Stated.{OfWrite, Writes, refused, WritersFall}

abbrev one : Command
one = Command.Timestamp (record { 0 = 1 })

abbrev room : List ℕ
room = 0 ∷ 0 ∷ 0 ∷ []

here : call fresh [] one room ≡ record { answer = Ok (3, fresh); left = bytes "#1\n" }
unfolding call outcome too_long layout state_after put_answer put_bytes digits_of
here = refl

refuses-all : (e : OfWrite Refusal) (l : OfWrite (List ℕ)) → Writes (refused e) l → ⊥
refuses-all e l h = let z : ◌≡◌ {A = ℕ} 0 1 = cc (here, (h fresh [] one room).answers) in omega arith

pub writers-fall : WritersFall
writers-fall =
    record {
      writes_nothing = λ a h. let z : ◌≡◌ {A = ℕ} 0 35 = cc (here, (h fresh [] one room).leaves) in omega arith;
      refuses-all-by-22 = λ e l n h. refuses-all e l h;
      refuses-all = refuses-all;
    }
