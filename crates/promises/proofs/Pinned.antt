-- A statement that names the answer pins it. Assumes nothing.
use mathlib.Core.Path.{sym, ap₂, ◌∙◌}
use Prim.Native.Nat.{ℕ}
use Rattle.list_job.specs.declared.State.{State}
use Rattle.list_job.specs.declared.Turn.{Turn}
use Rattle.reformat_job.specs.declared.State.{State as ReformatState}
use Rattle.reformat_job.specs.declared.Turn.{Turn as ReformatTurn}
use Rattle.promises.specs.Stated.{Pinned, PinnedTwo, DoesPinned, AddsPinned, HeaderPinned, ListTurnPinned, TurnPinned}

pub pinned : Pinned
pinned A r q x a b = a ∙ sym b

pub pinned-two : PinnedTwo
pinned-two A B r q x o p y a b = (pinned A r q x a.0 b.0, pinned B o p y a.1 b.1)

pub does-pinned : DoesPinned
does-pinned r q o p x a b = pinned-two _ _ r q _ o p _ (a.answers, a.leaves) (b.answers, b.leaves)

pub adds-pinned : AddsPinned
adds-pinned i r q o p x a b = pinned-two _ _ r q _ o p _ (a.answers, a.leaves) (b.answers, b.leaves)

pub header-pinned : HeaderPinned
header-pinned r q o p x a b = pinned-two _ _ r q _ o p _ (a.answers, a.leaves) (b.answers, b.leaves)

list-turn : (n : ℕ) (x : State) → Turn
list-turn n x = record { count = n; next = x }

pub list-turn-pinned : ListTurnPinned
unfolding list-turn
list-turn-pinned r q rows rows' changes changes' out out' out₀ t a b = (
  ap₂ list-turn (a.count ∙ sym b.count) (a.next ∙ sym b.next),
  a.table ∙ sym b.table,
  a.list ∙ sym b.list,
  a.bytes ∙ sym b.bytes,
)

reformat-turn : (n : ℕ) (x : ReformatState) → ReformatTurn
reformat-turn n x = record { count = n; next = x }

pub turn-pinned : TurnPinned
unfolding reformat-turn
turn-pinned r q rows rows' out out' out₀ t a b = (
  ap₂ reformat-turn (a.count ∙ sym b.count) (a.next ∙ sym b.next),
  a.table ∙ sym b.table,
  a.output ∙ sym b.output,
)
