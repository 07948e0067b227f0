-- Wrong calls of the library: reading that always says DONE, writing that leaves the count as it was, rewriting that leaves the line as it
-- was. Each would have to meet what its call's contract says of the status, the count or the line then.
use Rattle.std.specs.Prelude.{ℕ, ◌≡◌, List}
use Rattle.read_calls.specs.Reading.{next_call}
use Rattle.write_calls.specs.Writing.{command_call, rewrite_call}

pub record CallsFall : Type 0 where
  pub always-done : ((s c t : List ℕ) → 255 ≡ (next_call s c t).status) → ⊥
  pub uncounted : ((w s r o : List ℕ) (n : ℕ) → n ≡ (command_call w s r o n).count) → ⊥
  pub line_kept : ((s c w o : List ℕ) (n l : ℕ) → l ≡ (rewrite_call s c w o n l).line) → ⊥
